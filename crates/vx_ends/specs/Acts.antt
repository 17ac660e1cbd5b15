-- How a port in memory meets a call by its acts.
use Rattle.std.specs.Prelude.{◌≡◌, ◌⊎◌, ◌-◌, ◌^◌, ℕ, List, [], ◌∷◌, length, min, max, Result, Ok, Err}
use Rattle.vx_ends.specs.declared.act.Act.{Act}
use Rattle.vx_ends.specs.declared.act.Act.TheVariants as act
use Rattle.vx_ends.specs.declared.trouble.Trouble.{Trouble}
use Rattle.vx_ends.specs.declared.trouble.Trouble.TheVariants as trouble
pub use Rattle.vx_ends.specs.Observation.{is_failed, is_refused, is_idle, raised}

-- the act that is used next: past the last one it is to pass
abbrev pub first_act : List Act → Act
first_act [] = act.Pass
first_act (next ∷ later) = next

-- the acts after it
abbrev pub later_acts : List Act → List Act
later_acts [] = []
later_acts (next ∷ later) = later

-- the answer of a start or a confirm by its act
abbrev pub plain_answer : Act → Result Unit Trouble
plain_answer act.Pass = Ok tt
plain_answer (act.Part most) = Ok tt
plain_answer act.Fail = Err trouble.Failed
plain_answer act.Refuse = Ok tt

-- the answer of a finish by its act
abbrev pub finish_answer : Act → Result Unit Trouble
finish_answer act.Pass = Ok tt
finish_answer (act.Part most) = Ok tt
finish_answer act.Fail = Err trouble.Failed
finish_answer act.Refuse = Err trouble.Refused

-- the answer of a give by its act: a part is at least one byte
abbrev pub give_answer : Act → List ℕ → Result ℕ Trouble
give_answer act.Pass bytes = Ok (min (length bytes) (2 ^ 32 - 1))
give_answer (act.Part most) bytes = Ok (min (length bytes) (max most 1))
give_answer act.Fail bytes = Err trouble.Failed
give_answer act.Refuse bytes = Err trouble.Refused

-- an answer, or that no memory was found
abbrev pub AnswersOrWants : {T : Type 0} → Result T Trouble → Result T Trouble → Type 0
AnswersOrWants result answer = (result ≡ answer) ⊎ (result ≡ Err trouble.WantOfMemory)
