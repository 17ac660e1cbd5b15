-- What conditions say of an event, by whatever tests they mean.
use Rattle.std.proofs.Common.{◌≡◌, ℕ, zero, suc, ◌<◌, Bool, List, [], ◌∷◌, length, drop, refl, sym, ap, ◌∙◌, subst, arith}
use Rattle.std.specs.Prelude.{true, false, slice_index_or, if◌then◌else◌}
use Rattle.vx_value.specs.Texts.{ByteString}
use Rattle.vx_value.specs.Datum.{NamedDatum}
use Rattle.vx_value.specs.declared.event.Event.{Event}
use Rattle.vx_condition.specs.Trees.{Disjunction}
use Rattle.vx_condition.specs.Meaning.{disjunction_holds}
use Rattle.vx_condition.specs.Conditions.{Says}
use Rattle.vx_condition.specs.Steps.{Test}
use Rattle.vx_condition.specs.Picking.{filter_passes}
use Rattle.vx_condition.proofs.Complete.{one_tree}
use Rattle.vx_record.specs.Transforms.{Means, AllMean, passing, port_bits}

-- a condition says one thing of an event
pub one_answer : (text : ByteString) (fields : List NamedDatum) (a b : Bool) → Says text fields a → Says text fields b → a ≡ b
one_answer text fields a b s t =
    let trees = one_tree s.tree t.tree text s.condition.spelled t.condition.spelled in
    s.meant ∙ (ap (λ (tree : Disjunction). disjunction_holds tree fields) trees ∙ sym t.meant)

-- a text is a condition: it has a test
abbrev pub IsMeant : ByteString → Type 0
IsMeant text = (test : Test) × Means text test

-- the texts in one place are one
pub one_there : (texts : List ByteString) (i : ℕ) (text word : ByteString) → i < length texts → text ≡ slice_index_or texts i text → word ≡ slice_index_or texts i word → text ≡ word
one_there [] i text word below is there = absurd (omega arith)
one_there (t ∷ texts) zero text word below is there = is ∙ sym there
one_there (t ∷ texts) (suc i) text word below is there = one_there texts i text word (omega arith) is there

-- so all of some are
pub all_meant : (texts : List ByteString) → ((k : ℕ) → k < length texts → (text : ByteString) → text ≡ slice_index_or texts k text → IsMeant text) → (tests : List Test) × AllMean texts tests
all_meant [] each = ([], tt)
all_meant (text ∷ texts) each =
    let here = each 0 (omega arith) text refl in
    let rest = all_meant texts (λ k below word is. each (suc k) (omega arith) word is) in
    (here.0 ∷ rest.0, (here.1, rest.1))

-- the test that a condition means, in its place
pub record Tested (text : ByteString) (tests : List Test) (i : ℕ) : Type 0 where
  pub test : Test
  pub stands : drop i tests ≡ test ∷ drop (suc i) tests
  pub means : Means text test

pub tested : (texts : List ByteString) (tests : List Test) (i : ℕ) (text : ByteString) → AllMean texts tests → i < length texts →
    text ≡ slice_index_or texts i text → Tested text tests i
tested [] tests i text mean below is = absurd (omega arith)
tested (t ∷ texts) [] i text mean below is = absurd mean
tested (t ∷ texts) (test ∷ tests) zero text mean below is =
    record { test = test; stands = refl; means = subst (λ (w : ByteString). Means w test) (sym is) mean.0 }
tested (t ∷ texts) (test ∷ tests) (suc i) text mean below is =
    let rest = tested texts tests i text mean.1 (omega arith) is in
    record { test = rest.test; stands = rest.stands; means = rest.means }

pub length-tests : (texts : List ByteString) (tests : List Test) → AllMean texts tests → length tests ≡ length texts
length-tests [] [] mean = refl
length-tests [] (test ∷ tests) mean = absurd mean
length-tests (text ∷ texts) [] mean = absurd mean
length-tests (text ∷ texts) (test ∷ tests) mean = omega (arith, length-tests texts tests mean.1)

-- what passes is put out on port 0 alone, as a bit
pub bit_of : (passes : Bool) → (if passes then 1 else 0) ≡ port_bits (if passes then 0 ∷ [] else [])
bit_of true = refl
bit_of false = refl

-- the port on which what passes is put out, as a bit
pub passing_bits : (text : ByteString) (event : Event) (test : Test) (earlier : List Event) (holds : Bool) (ports : ℕ) →
    Means text test → Says text event.fields holds → ports ≡ (if holds then 1 else 0) →
    ports ≡ port_bits (passing (filter_passes test) earlier event)
passing_bits text event test earlier holds ports mean says is =
    is ∙ ap (λ (b : Bool). if b then 1 else 0) (one_answer text event.fields holds (test event) says (mean event)) ∙ bit_of (test event)

-- what says something of an event means something
pub meant_by : (text : ByteString) (fields : List NamedDatum) (holds : Bool) → Says text fields holds → IsMeant text
meant_by text fields holds says = (λ e. disjunction_holds says.tree e.fields, λ e. record { tree = says.tree; condition = says.condition; meant = refl })
