-- What the definitions say of closed texts and events.
use Rattle.std.specs.Prelude.{◌≡◌, ◌-◌, ◌^◌, ℤ, pos, true, false, Some, None, List, [], ◌∷◌, codes, map, length}
use Rattle.vx_value.specs.Texts.{ByteString}
use Rattle.vx_value.specs.Datum.{Datum, Truth, Whole, Words, NamedDatum}
use Rattle.vx_value.specs.declared.event.Event.{Event}
use Rattle.vx_condition.specs.Trees.{Term, negated, stated, no_term, term, Disjunction, no_branch, branch}
use Rattle.vx_condition.specs.Meaning.{disjunction_holds}
use Rattle.vx_condition.specs.Conditions.{IsCondition}
use Rattle.vx_condition.specs.Steps.{Test, Step, comes, ticks, ends, passed}
use Rattle.vx_condition.specs.Picking.{filter_passes, route_ports, sample_passes, dedupe_passes}
use Rattle.vx_condition.specs.Merging.{merged}
use Rattle.vx_condition.specs.Reducing.{Settings, due, answers, answers_after, put_out}
use Rattle.vx_condition.specs.declared.comparison.Comparison.TheVariants.{Greater}
use Rattle.vx_condition.specs.declared.literal.Literal.TheVariants as literal
use Rattle.vx_condition.specs.declared.predicate.Predicate.TheVariants.{Equal, Compared, Exists, Contains, Matches}
use Rattle.vx_condition.specs.declared.how.How.TheVariants.{Sum}
use Rattle.vx_condition.specs.declared.dedupe_fields.DedupeFields.TheVariants.{Match, Ignore}

abbrev field : ByteString → Datum → NamedDatum
field name value = record { name = name; value = value }

abbrev event : List NamedDatum → Event
event fields = record { fields = fields }

-- an event with a message alone
abbrev message : ByteString → Event
message text = event (field (codes "message") (Words text) ∷ [])

-- a condition of one term
abbrev alone : Term → Disjunction
alone t = branch (term t no_term) no_branch

abbrev accepts : Disjunction → Test
accepts tree e = disjunction_holds tree e.fields

abbrev is_message : ByteString → Disjunction
is_message text = alone (stated (Equal (codes "message" ∷ []) (literal.Words text)))

abbrev none_accepted : Test
none_accepted e = false

-- texts of conditions, with their trees
abbrev pub MessageText : Type 0
MessageText = IsCondition (is_message (codes "k")) (codes ".message == \"k\"")

abbrev two_terms : Disjunction
two_terms = branch (term (stated (Compared (codes "n" ∷ []) Greater (pos 3))) (term (negated (stated (Exists (codes "x" ∷ [])))) no_term)) no_branch

abbrev pub TwoTermsText : Type 0
TwoTermsText = IsCondition two_terms (codes ".n > 3 && !exists(.x)")

abbrev a_match : Disjunction
a_match = alone (stated (Matches (codes "message" ∷ []) (codes "^d.*l$")))

abbrev pub MatchText : Type 0
MatchText = IsCondition a_match (codes "match(.message, r'^d.*l$')")

abbrev is_null : Disjunction
is_null = alone (stated (Equal (codes "a" ∷ []) literal.Null))

abbrev pub NullText : Type 0
NullText = IsCondition is_null (codes ".a == null")

-- what they say
abbrev pub WholeAbove : Type 0
WholeAbove = accepts two_terms (event (field (codes "n") (Whole (pos 4)) ∷ [])) ≡ true

abbrev pub WordsNotAbove : Type 0
WordsNotAbove = accepts two_terms (event (field (codes "n") (Words (codes "4")) ∷ [])) ≡ false

abbrev pub MissingIsNull : Type 0
MissingIsNull = accepts is_null (event []) ≡ true

-- filter by `.message == "k"` on a, b and c
abbrev pub FilterDropsAll : Type 0
FilterDropsAll =
    passed (filter_passes (accepts (is_message (codes "k"))))
    (comes (message (codes "a")) 0 ∷ comes (message (codes "b")) 0 ∷ comes (message (codes "c")) 0 ∷ []) ≡ []

abbrev holds_part : ByteString → Test
holds_part part = accepts (alone (stated (Contains (codes "message" ∷ []) part)))

abbrev pub RouteOnTwoPorts : Type 0
RouteOnTwoPorts = route_ports (holds_part (codes "x") ∷ holds_part (codes "y") ∷ []) true (message (codes "xy")) ≡ 0 ∷ 1 ∷ []

abbrev pub RouteUnmatched : Type 0
RouteUnmatched = route_ports (holds_part (codes "x") ∷ holds_part (codes "y") ∷ []) true (message (codes "z")) ≡ 2 ∷ []

abbrev pub RouteDiscards : Type 0
RouteDiscards = route_ports (holds_part (codes "x") ∷ []) false (message (codes "z")) ≡ []

-- sample with a rate of 2, and x excluded, on a, x, b and c
abbrev pub SampleWithExclude : Type 0
SampleWithExclude =
    passed (sample_passes 2 (accepts (is_message (codes "x"))))
    (comes (message (codes "a")) 0 ∷ comes (message (codes "x")) 0 ∷ comes (message (codes "b")) 0 ∷ comes (message (codes "c")) 0 ∷ [])
    ≡ message (codes "a") ∷ message (codes "x") ∷ message (codes "c") ∷ []

-- dedupe of two keys on a, b, a, c and b
abbrev pub DedupeOfTwoKeys : Type 0
DedupeOfTwoKeys =
    passed (dedupe_passes 2 (Match ((codes "message" ∷ []) ∷ [])))
    (comes (message (codes "a")) 0 ∷ comes (message (codes "b")) 0 ∷ comes (message (codes "a")) 0 ∷ comes (message (codes "c")) 0 ∷ comes (message (codes "b")) 0 ∷ [])
    ≡ message (codes "a") ∷ message (codes "b") ∷ message (codes "c") ∷ message (codes "b") ∷ []

abbrev numbered : ℤ → Event
numbered n = event (field (codes "a") (Whole (pos 1)) ∷ field (codes "n") (Whole n) ∷ [])

abbrev pub DedupeThatIgnores : Type 0
DedupeThatIgnores =
    passed (dedupe_passes 5000 (Ignore (codes "n" ∷ []))) (comes (numbered (pos 1)) 0 ∷ comes (numbered (pos 2)) 0 ∷ []) ≡ numbered (pos 1) ∷ []

-- reduce without options
abbrev plain : Settings
plain = record {
  group_by = [];
  starts_when = none_accepted;
  ends_when = none_accepted;
  expire_after_ms = 30000;
  flush_period_ms = 1000;
  strategies = [];
}

abbrev pub ReduceJoinsTwoBatches : Type 0
ReduceJoinsTwoBatches =
    answers_after plain [] (comes (message (codes "a")) 0 ∷ comes (message (codes "b")) 0 ∷ ends ∷ []) ≡ message (codes "a") ∷ []

abbrev from_stdin : NamedDatum
from_stdin = field (codes "source_type") (Words (codes "stdin"))

-- groups by `id`, each of which ends with an event that has `last`
abbrev by_id : Settings
by_id = record plain { group_by = (codes "id" ∷ []) ∷ []; ends_when = accepts (alone (stated (Exists (codes "last" ∷ [])))) }

abbrev pub ReduceWithEndsWhen : Type 0
ReduceWithEndsWhen =
    answers_after by_id []
    (comes (event (field (codes "id") (Whole (pos 1)) ∷ field (codes "n") (Whole (pos 2)) ∷ from_stdin ∷ field (codes "t") (Words (codes "p")) ∷ [])) 0
    ∷ comes (event (field (codes "id") (Whole (pos 1)) ∷ field (codes "last") (Truth true) ∷ field (codes "n") (Whole (pos 3)) ∷ from_stdin ∷ field (codes "t") (Words (codes "q")) ∷ [])) 0 ∷ [])
    ≡ event (field (codes "id") (Whole (pos 1)) ∷ field (codes "last") (Truth true) ∷ field (codes "n") (Whole (pos 5)) ∷ from_stdin ∷ field (codes "t") (Words (codes "p")) ∷ []) ∷ []

-- each s begins a group: s, a, s and b are put out as two events, of two each
abbrev from_s : Settings
from_s = record plain { starts_when = accepts (is_message (codes "s")) }

abbrev s_a_s_b : List Step
s_a_s_b = comes (message (codes "s")) 0 ∷ comes (message (codes "a")) 0 ∷ comes (message (codes "s")) 0 ∷ comes (message (codes "b")) 0 ∷ ends ∷ []

abbrev pub ReduceWithStartsWhen : Type 0
ReduceWithStartsWhen = answers_after from_s [] s_a_s_b ≡ message (codes "s") ∷ message (codes "s") ∷ []

abbrev pub FirstOfTwo : Type 0
FirstOfTwo =
    map length (put_out from_s (comes (message (codes "a")) 0 ∷ comes (message (codes "s")) 0 ∷ []) (comes (message (codes "s")) 0)) ≡ 2 ∷ []

-- what is 100 old is put out, at checks that are 50 apart
abbrev short : Settings
short = record plain { expire_after_ms = 100; flush_period_ms = 50 }

abbrev one_came : List Step
one_came = comes (message (codes "a")) 0 ∷ []

abbrev pub DueFirst : Type 0
DueFirst = due short one_came ≡ Some 50

abbrev pub DueNext : Type 0
DueNext = due short (ticks 50 ∷ one_came) ≡ Some 100

abbrev pub TooYoung : Type 0
TooYoung = answers short one_came (ticks 50) ≡ []

abbrev pub OldEnough : Type 0
OldEnough = answers short (ticks 50 ∷ one_came) (ticks 100) ≡ message (codes "a") ∷ []

abbrev pub DueNever : Type 0
DueNever = due short (ticks 100 ∷ ticks 50 ∷ one_came) ≡ None

abbrev number : ℤ → Event
number n = event (field (codes "n") (Whole n) ∷ [])

-- a sum stays at the greatest number
abbrev pub SumHeld : Type 0
SumHeld =
    merged [] (record { field = codes "n"; how = Sum } ∷ []) (number (pos (2 ^ 63 - 1)) ∷ number (pos 1) ∷ []) ≡ number (pos (2 ^ 63 - 1))
