-- What is printed of a fault, but for how the program is called, is one line.
use Rattle.std.proofs.Common.{◌≡◌, ◌≢◌, ℕ, ◌==◌, ◌&&◌, not, nat_le, Bool, true, refl, List, [], ◌∷◌, ◌++◌, codes, arith}
use Rattle.std.specs.Fmt.{decimal}
use Rattle.std.specs.Int.{IsInRange}
use Rattle.std.specs.List.{All, list_all}
use Rattle.std.proofs.lemmas.Bool.Decides.{nat_tests}
use Rattle.std.proofs.lemmas.List.Elements.{All-append, All-from_recursion, All-nil, All-weaker}
use Rattle.std.proofs.lemmas.List.Sums.{AllPass-from_list_all}
use Rattle.vx_value.specs.Texts.{ByteString}
use Rattle.vx_graph.specs.declared.graph_fault.GraphFault.{GraphFault}
use Rattle.vx_graph.specs.declared.graph_fault.GraphFault.TheVariants as graph
use Rattle.vx_reading.specs.declared.plan_fault.PlanFault.{PlanFault}
use Rattle.vx_reading.specs.declared.plan_fault.PlanFault.TheVariants as plan
use Rattle.vx_cli.specs.Lines.{IsLine, IsPlainByte}
use Rattle.vx_cli.specs.Shown.{shown}
use Rattle.vx_cli.specs.Texts.{failed_after, graph_text, listed, of_component, plan_text, reason_of, text_of}
use Rattle.vx_cli.specs.declared.fault.Fault.{Fault}
use Rattle.vx_cli.specs.declared.fault.Fault.TheVariants.{Usage, ConfigRead, ConfigRefused, UnknownHost, Numbers, SourceFailed, ConfirmFailed, PrintFailed, WantOfMemory}
use Rattle.vx_cli.proofs.Printed.{plain_bytes, plain_digits, shown_unhidden}

-- a text without a byte of a control
record IsPlainText (text : ByteString) : Type 0 where
  bytes : All IsPlainByte text

abbrev is_plain : ℕ → Bool
is_plain b = nat_le 32 b && not (b == 127)

seen : (b : ℕ) → is_plain b ≡ true → IsPlainByte b
seen b h = grind (arith, nat_tests)

-- words that are written out
words : (text : ByteString) → list_all is_plain text ≡ true → IsPlainText text
words text h = record { bytes = All-weaker (λ b. is_plain b ≡ true) IsPlainByte seen text (AllPass-from_list_all is_plain text h) }

joined : {front rest : ByteString} → IsPlainText front → IsPlainText rest → IsPlainText (front ++ rest)
joined {front} {rest} f r = record { bytes = All-append IsPlainByte front rest f.bytes r.bytes }

-- such words, and a text behind them
led : (front : ByteString) {rest : ByteString} → list_all is_plain front ≡ true → IsPlainText rest → IsPlainText (front ++ rest)
led front h r = joined (words front h) r

nothing : IsPlainText []
nothing = record { bytes = All-nil IsPlainByte }

number : (n : ℕ) → IsPlainText (decimal n)
number n = record {
  bytes = All-weaker (IsInRange 32 126) IsPlainByte (λ b h. (h.0, omega arith)) (decimal n)
      (All-from_recursion (IsInRange 32 126) (decimal n) (plain_digits 10 n (omega arith) (omega arith)));
}

name_of : (name : ByteString) → IsPlainText (shown name)
name_of name = record { bytes = plain_bytes (shown name) (shown_unhidden name) }

-- ---- what faults say

names_of : (names : List ByteString) → IsPlainText (listed names)
names_of [] = nothing
names_of (name ∷ []) = name_of name
names_of (name ∷ other ∷ rest) = joined (name_of name) (led (codes ", ") refl (names_of (other ∷ rest)))

place : (name : ByteString) → IsPlainText (of_component name)
place name = led (codes " of component ") refl (name_of name)

graph_reason : (fault : GraphFault) → IsPlainText (graph_text fault)
graph_reason graph.NoSources = words (codes "no sources") refl
graph_reason graph.NoSinks = words (codes "no sinks") refl
graph_reason (graph.NoInputs name) = led (codes "no inputs") refl (place name)
graph_reason (graph.UnknownInput name input) = led (codes "unknown input ") refl (joined (name_of input) (place name))
graph_reason (graph.Cycle names) = led (codes "cycle ") refl (names_of names)
graph_reason graph.WantOfMemory = nothing

counts : (found limit : ℕ) → IsPlainText (codes ": " ++ (decimal found ++ (codes ", limit " ++ decimal limit)))
counts found limit = led (codes ": ") refl (joined (number found) (led (codes ", limit ") refl (number limit)))

plan_reason : (fault : PlanFault) → IsPlainText (plan_text fault)
plan_reason (plan.MissingVariable name at) =
    led (codes "missing variable ") refl (joined (name_of name) (led (codes " at ") refl (number at)))
plan_reason plan.NotToml = words (codes "not a TOML document") refl
plan_reason (plan.UnknownKind path) = led (codes "unknown kind at ") refl (name_of path)
plan_reason (plan.UnknownOption path) = led (codes "unknown option ") refl (name_of path)
plan_reason (plan.MissingOption path) = led (codes "missing option ") refl (name_of path)
plan_reason (plan.BadValue path) = led (codes "bad value at ") refl (name_of path)
plan_reason (plan.TooMany path found limit) = led (codes "too many at ") refl (joined (name_of path) (counts found limit))
plan_reason (plan.Graph fault) = graph_reason fault
plan_reason plan.WantOfMemory = nothing

failed : (at : ℕ) → IsPlainText (failed_after at)
failed at = led (codes " failed after ") refl (joined (number at) (words (codes " bytes") refl))

reason : (fault : Fault) → IsPlainText (reason_of fault)
reason Usage = nothing
reason (ConfigRead path) = led (codes "cannot read ") refl (name_of path)
reason (ConfigRefused fault) = led (codes "configuration refused: ") refl (plan_reason fault)
reason (UnknownHost name) = led (codes "no host transform ") refl (name_of name)
reason (Numbers next wanted) =
    led (codes "copy numbers are used up: next ") refl (joined (number next) (led (codes ", wanted ") refl (number wanted)))
reason (SourceFailed name at) = led (codes "source ") refl (joined (name_of name) (failed at))
reason (ConfirmFailed name) = led (codes "source ") refl (joined (name_of name) (words (codes " could not be confirmed") refl))
reason PrintFailed = nothing
reason WantOfMemory = nothing

-- a reason in its line
in_line : (fault : Fault) → IsLine (codes "vector: " ++ reason_of fault ++ codes "\n")
in_line fault = record {
  line = codes "vector: " ++ reason_of fault;
  plain = (led (codes "vector: ") refl (reason fault)).bytes;
  whole = refl;
}

pub fault_line : (fault : Fault) → fault ≢ Usage → text_of fault ≢ [] → IsLine (text_of fault)
fault_line Usage other some = absurd (other refl)
fault_line PrintFailed other some = absurd (some refl)
fault_line WantOfMemory other some = absurd (some refl)
fault_line (ConfigRefused plan.WantOfMemory) other some = absurd (some refl)
fault_line (ConfigRefused (plan.Graph graph.WantOfMemory)) other some = absurd (some refl)
fault_line fault other some = in_line fault
