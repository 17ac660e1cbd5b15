-- The run in which a filter discards one line of two, as a plain run.
use Rattle.std.specs.Prelude.{◌≡◌, [], ◌∷◌, map}
use Rattle.vx_record.specs.Encoding.{given}
use Rattle.vx_plain_case.specs.Plain.{Picker, Chain, IsPlainRun}
use Rattle.vx_examples.specs.Filtered.{plan, run}

-- the plan has a chain from its source, the first component, through the second to the third, and the run is a plain run of it
pub record IsPlainFiltered : Type 0 where
  pub chain : Chain plan
  pub source : chain.source ≡ 0
  pub through : map (λ (picker : Picker). picker.number) chain.pickers ≡ 1 ∷ []
  pub sink : chain.sink ≡ 2
  pub plain : IsPlainRun chain run 0

-- of the lines `a` and `k` the sink writes the second
abbrev pub WritesK : Type 0
WritesK = given run 2 ≡ 107 ∷ 10 ∷ []
