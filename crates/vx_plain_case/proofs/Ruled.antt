-- A transform answers by one rule: what its conditions say of an event they say of it once.
use Rattle.std.proofs.Common.{◌≡◌, ℕ, Bool, List, [], ◌∷◌, sym, ap, ◌∙◌, refl}
use Rattle.vx_value.specs.Texts.{ByteString}
use Rattle.vx_value.specs.Datum.{NamedDatum}
use Rattle.vx_value.specs.declared.event.Event.{Event}
use Rattle.vx_condition.specs.Trees.{Disjunction}
use Rattle.vx_condition.specs.Meaning.{disjunction_holds}
use Rattle.vx_condition.specs.Conditions.{Says}
use Rattle.vx_condition.specs.Steps.{Test}
use Rattle.vx_condition.proofs.Complete.{one_tree}
use Rattle.vx_plan.specs.Options.{conditions_of}
use Rattle.vx_record.specs.Records.{Record}
use Rattle.vx_record.specs.Transforms.{Rule, Means, AllMean, RunsBy, rule_of}
use Rattle.vx_record.proofs.Rules.{some_is, rule_is, mean_is}

-- a condition says one thing of an event
one_answer : (text : ByteString) (fields : List NamedDatum) (a b : Bool) → Says text fields a → Says text fields b → a ≡ b
one_answer text fields a b s t =
    s.meant ∙ (ap (λ (tree : Disjunction). disjunction_holds tree fields) (one_tree s.tree t.tree text s.condition.spelled t.condition.spelled) ∙ sym t.meant)

-- so it means one test
one_test : (text : ByteString) (test other : Test) → Means text test → Means text other → test ≡ other
one_test text test other m n = λ i. λ (e : Event). one_answer text e.fields (test e) (other e) (m e) (n e) i

-- and some conditions mean one list of tests
one_meaning : (texts : List ByteString) (tests others : List Test) → AllMean texts tests → AllMean texts others → tests ≡ others
one_meaning [] [] [] m n = refl
one_meaning (text ∷ texts) (test ∷ tests) (other ∷ others) m n =
    ap (λ (t : Test). t ∷ tests) (one_test text test other m.0 n.0) ∙ ap (λ (ts : List Test). other ∷ ts) (one_meaning texts tests others m.1 n.1)
one_meaning [] (test ∷ tests) others m n = absurd m
one_meaning [] [] (other ∷ others) m n = absurd n
one_meaning (text ∷ texts) [] others m n = absurd m
one_meaning (text ∷ texts) (test ∷ tests) [] m n = absurd n

-- an instance runs by one rule
pub one_rule : (h : Record) (i : ℕ) (rule other : Rule) → RunsBy h i rule → RunsBy h i other → rule ≡ other
one_rule h i rule other this that =
    some_is rule other (sym (rule_is h i rule this.component this this.runs)
    ∙ ap (rule_of this.component.settings)
    (one_meaning (conditions_of this.component.settings) this.tests that.tests this.mean (mean_is h i other this.component that this.runs))
    ∙ rule_is h i other this.component that this.runs)
