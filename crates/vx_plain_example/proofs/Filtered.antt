-- The run in which a filter discards one line of two is a plain run.
use Rattle.std.proofs.Common.{◌≡◌, ℕ, zero, suc, ◌<◌, [], ◌∷◌, refl, arith}
use Rattle.std.specs.Prelude.{◌≢◌, ◌==◌, false}
use Rattle.std.proofs.lemmas.Bool.Decides.{nat_tests}
use Rattle.vx_condition.specs.Picking.{filter_passes}
use Rattle.vx_codec.specs.declared.codec.Codec.TheVariants as codec
use Rattle.vx_record.specs.Copies.{count}
use Rattle.vx_record.specs.Reads.{taken}
use Rattle.vx_plain_case.specs.Plain.{Feeds, Chain, readers_of}
use Rattle.vx_plain_case.proofs.Streams.{endless_unbroken}
use Rattle.vx_examples.proofs.Conditions.{is_k, means_k}
use Rattle.vx_examples.proofs.FilteredLegal as filtered
use Rattle.vx_examples.specs.Parts.{block}
use Rattle.vx_examples.specs.Filtered.{plan, filter_k, run}
use Rattle.vx_plain_example.specs.Filtered.{IsPlainFiltered}

-- the filter alone reads the source, and reads nobody else
pub from_source : Feeds plan 0 1
from_source = record { only = refl; alone = alone }
  where
    alone : (j port : ℕ) → 0 < count 1 (readers_of plan j port) → j ≡ 0
    alone zero port some = refl
    alone (suc zero) zero some = absurd (omega (arith, some))
    alone (suc zero) (suc port) some = absurd (omega (arith, some))
    alone (suc (suc zero)) port some = absurd (omega (arith, some))
    alone (suc (suc (suc j))) port some = absurd (omega (arith, some))

-- and the sink the filter
pub from_filter : Feeds plan 1 2
from_filter = record { only = refl; alone = alone }
  where
    alone : (j port : ℕ) → 0 < count 2 (readers_of plan j port) → j ≡ 1
    alone zero zero some = absurd (omega (arith, some))
    alone zero (suc port) some = absurd (omega (arith, some))
    alone (suc zero) port some = refl
    alone (suc (suc zero)) port some = absurd (omega (arith, some))
    alone (suc (suc (suc j))) port some = absurd (omega (arith, some))

-- the chain
abbrev pub chain : Chain plan
chain = record {
  source = 0;
  pickers = record { number = 1; passes = filter_passes is_k } ∷ [];
  sink = 2;
  linked = (from_source, record { component = filter_k; there = refl; transform = refl; tests = is_k ∷ []; mean = (means_k, tt); ruled = refl }, from_filter);
  reader = _;
  reads_there = refl;
  reads = refl;
  writer = _;
  writes_there = refl;
  writes = refl;
  codec = codec.Text;
  encodes = refl;
  buffer = record { stage = block; one = refl; blocks = refl };
}

-- the source took of stream 0 alone
of_one : (other : ℕ) → other ≢ 0 → taken run 0 other ≡ []
of_one zero apart = absurd (apart refl)
of_one (suc other) apart = let no : (0 == suc other) ≡ false = grind (arith, nat_tests) in rw no

-- the run is a plain run of that chain
pub plain_filtered : IsPlainFiltered
plain_filtered = record {
  chain = chain;
  source = refl;
  through = refl;
  sink = refl;
  plain = record { legal = filtered.legal; installed = refl; closed = filtered.closed; whole = refl; unfailed = refl; unrefused = refl; ended = refl; one = of_one; unbroken = endless_unbroken run 0 0 refl };
}
