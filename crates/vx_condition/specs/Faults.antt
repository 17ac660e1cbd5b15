-- When each fault of a condition's text comes.
use Rattle.std.specs.Prelude.{◌≡◌, ◌⊎◌, ℕ, ◌+◌, ◌-◌, ◌≤◌, ◌<◌, ◌==◌, Bool, true, false, IsTrue, Ok, [], ◌∷◌, ◌++◌, length, take, slice_index_or, ⊤}
use Rattle.std.specs.List.{list_any}
use Rattle.vx_value.specs.Texts.{ByteString}
use Rattle.vx_condition.specs.Trees.{Disjunction}
use Rattle.vx_condition.specs.Grammar.{is_blank, IsDisjunctionText}
use Rattle.vx_condition.specs.Conditions.{IsCondition}
use Rattle.vx_condition.specs.Patterns.{IsRefused}
use Rattle.vx_condition.specs.Runs.{run, begun, kept_disjunction}
use Rattle.vx_condition.specs.Takes.{StopsIn}
use Rattle.vx_condition.specs.declared.condition_fault.ConditionFault.{ConditionFault}
use Rattle.vx_condition.specs.declared.condition_fault.ConditionFault.TheVariants as fault
use Rattle.vx_condition.specs.declared.reader.Reader.{Reader}
use Rattle.vx_condition.specs.declared.stop.Stop.{Stop}
use Rattle.vx_condition.specs.declared.stop.Stop.TheVariants.{Refused, Deep, BadPattern, WantOfMemory}

-- some text of the grammar begins so, however many levels it has
pub record Begins (front : ByteString) : Type 0 where
  pub rest : ByteString
  pub tree : Disjunction
  pub spelled : IsDisjunctionText tree (front ++ rest)

-- some condition of 32 levels at most begins so
pub record BeginsShallow (front : ByteString) : Type 0 where
  pub rest : ByteString
  pub tree : Disjunction
  pub condition : IsCondition tree (front ++ rest)

-- the text is a condition
pub record IsConditionText (text : ByteString) : Type 0 where
  pub tree : Disjunction
  pub condition : IsCondition tree text

-- the first bytes begin a condition, no more of them begin a text of the grammar, and the text isn't one
pub record IsSyntaxFault (text : ByteString) (at : ℕ) : Type 0 where
  pub within : at ≤ length text
  pub begins : BeginsShallow (take at text)
  pub longest : at < length text → Begins (take (at + 1) text) → ⊥
  pub none : (tree : Disjunction) → IsDisjunctionText tree text → ⊥

-- the first bytes begin a condition, and one more begins texts of the grammar that all have more than 32 levels; it is a `!` or a bracket
pub record IsDeepFault (text : ByteString) (at : ℕ) : Type 0 where
  pub within : at < length text
  pub opens : (slice_index_or text at 0 ≡ 33) ⊎ (slice_index_or text at 0 ≡ 40)
  pub begins : BeginsShallow (take at text)
  pub goes_on : Begins (take (at + 1) text)
  pub deep : BeginsShallow (take (at + 1) text) → ⊥

-- a pattern stands at a place in the text, where but for blanks nothing else may stand, and `regex` refuses it
pub record IsBadPattern (text : ByteString) (at : ℕ) : Type 0 where
  pub pattern : ByteString
  pub front : ByteString
  pub back : ByteString
  pub whole : text ≡ front ++ (114 ∷ 39 ∷ (pattern ++ 39 ∷ back))
  pub place : at ≡ length front
  pub bare : list_any (λ b. b == 39) pattern ≡ false
  pub only : (b : ℕ) → Begins (front ++ b ∷ []) → (b ≡ 114) ⊎ IsTrue (is_blank b)
  pub refused : IsRefused pattern

-- when each fault comes
abbrev pub IsConditionFault : ByteString → ConditionFault → Type 0
IsConditionFault text (fault.Syntax at) = IsSyntaxFault text at
IsConditionFault text (fault.Deep at) = IsDeepFault text at
IsConditionFault text (fault.BadPattern at) = IsBadPattern text at × IsConditionText text
IsConditionFault text fault.WantOfMemory = ⊤

-- the same of one reading: where patterns are kept, one may be refused before the text's end is known
abbrev pub IsReadFault : Bool → ByteString → ConditionFault → Type 0
IsReadFault keeps text (fault.Syntax at) = IsSyntaxFault text at
IsReadFault keeps text (fault.Deep at) = IsDeepFault text at
IsReadFault keeps text (fault.BadPattern at) = (keeps ≡ true) × IsBadPattern text at
IsReadFault keeps text fault.WantOfMemory = ⊤

-- the text is a condition, with that tree as a reader keeps it
pub record HasTree (keeps : Bool) (text : ByteString) (kept : Disjunction) : Type 0 where
  pub tree : Disjunction
  pub condition : IsCondition tree text
  pub same : kept ≡ kept_disjunction keeps tree

-- the fault of a stop at a place
abbrev pub fault_of : Stop → ℕ → ConditionFault
fault_of Refused at = fault.Syntax at
fault_of Deep at = fault.Deep at
fault_of (BadPattern n) at = fault.BadPattern (at - n - 2)
fault_of WantOfMemory at = fault.WantOfMemory

-- a pattern with its quotes fits before a place
abbrev pub HasRoom : Stop → ℕ → Type 0
HasRoom (BadPattern n) at = n + 2 ≤ at
HasRoom e at = ⊤

-- a reader of the text stops with that fault
pub record Halts (keeps : Bool) (text : ByteString) (fault : ConditionFault) : Type 0 where
  pub at : ℕ
  pub stop : Stop
  pub reader : Reader
  pub within : at < length text
  pub ran : run 32 (begun keeps) (take at text) ≡ Ok reader
  pub stops : StopsIn reader reader.mode (slice_index_or text at 0) stop
  pub same : fault ≡ fault_of stop at
