use Rattle.std.proofs.Common.{◌≡◌, map, drop}
use Rattle.std.specs.List.{list_any}
use Rattle.vx_value.specs.Texts.{same_text}
use Rattle.vx_reading.proofs.judging.is_among.Given as goal

-- the texts that are left say what all say
abbrev pub invariant-loop-other : goal.invariant-loop-other
invariant-loop-other l =
    list_any (λ t. same_text t l.text) (map (λ t. t.now) (drop l.other-index l.texts))
    ≡ list_any (λ t. same_text t l.text) (map (λ t. t.now) l.texts)
