-- Texts that are kept each once.
use Rattle.std.specs.Prelude.{Bool}
use Rattle.std.specs.BTreeSet.{BTreeSet, contains_by}
use Rattle.std.specs.Cmp.Lexicographic.{slice_cmp}
use Rattle.std.specs.Ordering.{nat_cmp}
use denote.Ref.{Bor}
use Rattle.vx_value.specs.Texts.{ByteString}

-- whether a text is kept
abbrev pub is_kept : BTreeSet (Bor ByteString) → ByteString → Bool
is_kept kept text = contains_by (λ (k : Bor ByteString). slice_cmp nat_cmp text k.now) kept
