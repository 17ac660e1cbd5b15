-- The code of frames, by which a proof tells two of them apart.
use Rattle.std.specs.Prelude.{ℕ, List, refl}
use Rattle.std.specs.Coded.{Coded, code_by, coded_ℕ, coded_list, coded×}
use Rattle.vx_condition.specs.Trees.{Term}
use Rattle.vx_condition.specs.TreeCode.{coded_term}
use Rattle.vx_condition.specs.declared.frame.Frame.{Frame}

abbrev Parts : Type 0
Parts = ℕ × (List (List Term) × (List Term × ℕ))

abbrev pub coded_frame : Coded Frame
coded_frame =
    code_by Parts (coded× coded_ℕ (coded× (coded_list (coded_list coded_term)) (coded× (coded_list coded_term) coded_ℕ)))
    (λ f. (f.base, (f.branches, (f.terms, f.negations))))
    (λ p. record { base = p.0; branches = p.1.0; terms = p.1.1.0; negations = p.1.1.1 }) (λ _. refl)
