-- What a text stands for as a configuration.
use Rattle.std.specs.Prelude.{◌≡◌, ℕ, Bool, ◌⊎◌, Some, None, List, [], Result, Ok, Err}
use Rattle.std.specs.Str.{IsUtf8}
use Rattle.vx_value.specs.declared.variable.Variable.{Variable}
use Rattle.vx_value.specs.Texts.{ByteString}
use Rattle.toml.specs.Data.{Members, Data, table}
use Rattle.toml.specs.Parse.{parse_document}
use Rattle.vx_subst.specs.Pieces.{Placed}
use Rattle.vx_subst.specs.Replaced.{replaced, first_lacking, name_in}
use Rattle.vx_graph.specs.declared.graph_fault.GraphFault.{GraphFault}
use Rattle.vx_graph.specs.declared.graph_fault.GraphFault.TheVariants as graph
use Rattle.vx_graph.specs.Faults.{IsAccepted, IsFault}
use Rattle.vx_graph.specs.Order.{in_order}
use Rattle.vx_plan.specs.declared.plan.Plan.{Plan}
use Rattle.vx_reading.specs.declared.plan_fault.PlanFault.{PlanFault}
use Rattle.vx_reading.specs.declared.plan_fault.PlanFault.TheVariants.{MissingVariable, NotToml, Graph, WantOfMemory}
use Rattle.vx_reading.specs.Conditions.{all_conditions, RefusesRightly, all_diagnostics}
use Rattle.vx_reading.specs.Diagnostics.{HasFault}
use Rattle.vx_reading.specs.Plans.{plan_of, nodes_of}

-- a document has no fault, where these conditions are refused, its graph may stand, and this is its plan
pub record IsPlanOf (refuses : ByteString → Bool) (root : Data) (plan : Plan) : Type 0 where
  pub faultless : all_diagnostics refuses root ≡ []
  pub same : plan ≡ plan_of root
  pub accepted : IsAccepted (in_order (nodes_of (plan_of root)))

-- a document has no fault, but its graph has this one
pub record IsGraphFaultOf (refuses : ByteString → Bool) (root : Data) (fault : GraphFault) : Type 0 where
  pub faultless : all_diagnostics refuses root ≡ []
  pub memory : fault ≡ graph.WantOfMemory → ⊥
  pub refused : IsFault (in_order (nodes_of (plan_of root))) fault

-- what is answered of a document: its plan, or its first fault; want of memory is free
abbrev pub IsJudged : (ByteString → Bool) → Data → Result Plan PlanFault → Type 0
IsJudged refuses root (Ok plan) = IsPlanOf refuses root plan
IsJudged refuses root (Err (MissingVariable name at)) = ⊥
IsJudged refuses root (Err NotToml) = ⊥
IsJudged refuses root (Err (Graph fault)) = IsGraphFaultOf refuses root fault
IsJudged refuses root (Err WantOfMemory) = Unit {0}
IsJudged refuses root (Err fault) = HasFault (all_diagnostics refuses root) fault

-- what is answered, where each condition of the document is refused that is none, and none that is one, but for a pattern that
-- `regex` may refuse or take; where no memory was found not each was read
pub record IsRightlyJudged (refuses : ByteString → Bool) (root : Data) (answer : Result Plan PlanFault) : Type 0 where
  pub right : (answer ≡ Err WantOfMemory → ⊥) → RefusesRightly refuses (all_conditions (plan_of root).components)
  pub judged : IsJudged refuses root answer

-- a text, in which each variable has a value, is the document of a table
pub record IsDocument (environment : List Variable) (text : ByteString) (document : Data) : Type 0 where
  pub whole : first_lacking environment text ≡ None
  pub members : Members
  pub parsed : parse_document (replaced environment text) ≡ Some members
  pub same : document ≡ table members

-- a text, in which each variable has a value, is no document
pub record IsNoDocument (environment : List Variable) (text : ByteString) : Type 0 where
  pub whole : first_lacking environment text ≡ None
  pub parsed : parse_document (replaced environment text) ≡ None

-- a text lacks a variable, and this is the first
pub record LacksVariable (environment : List Variable) (text : ByteString) (missing : ByteString) (place : ℕ) : Type 0 where
  pub piece : Placed
  pub lacking : first_lacking environment text ≡ Some piece
  pub name : missing ≡ name_in piece.piece
  pub at : place ≡ piece.at

-- what is answered of the document that a text is
pub record IsDocumentJudged (refuses : ByteString → Bool) (environment : List Variable) (text : ByteString) (answer : Result Plan PlanFault) : Type 0 where
  pub root : Data
  pub document : IsDocument environment text root
  pub rightly : IsRightlyJudged refuses root answer

-- what is answered of a text
abbrev pub IsTextRead : (ByteString → Bool) → List Variable → ByteString → Result Plan PlanFault → Type 0
IsTextRead refuses environment text (Err (MissingVariable name at)) = LacksVariable environment text name at
IsTextRead refuses environment text (Err NotToml) = IsNoDocument environment text
IsTextRead refuses environment text (Err WantOfMemory) = Unit {0}
IsTextRead refuses environment text answer = IsDocumentJudged refuses environment text answer

-- what is answered of bytes that are no text
abbrev pub IsNoText : Result Plan PlanFault → Type 0
IsNoText answer = answer ≡ Err NotToml

-- what is answered of some bytes, where these conditions are refused: as a text, or as none
abbrev pub IsReadingBy : (ByteString → Bool) → List Variable → ByteString → Result Plan PlanFault → Type 0
IsReadingBy refuses environment bytes answer = (IsUtf8 bytes × IsTextRead refuses environment bytes answer) ⊎ ((IsUtf8 bytes → ⊥) × IsNoText answer)

-- what is answered, by whatever conditions are refused
abbrev pub IsReading : List Variable → ByteString → Result Plan PlanFault → Type 0
IsReading environment bytes answer = (refuses : ByteString → Bool) × IsReadingBy refuses environment bytes answer
