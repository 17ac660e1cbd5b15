-- A text has one answer.
use Rattle.std.proofs.Common.{◌≡◌, ◌<◌, ℕ, ◌==◌, inl, inr, Bool, true, false, ◌&&◌, ◌||◌, nat_lt, List, [], length, Ok, Err, refl, sym, ◌∙◌, ap, subst, arith}
use Rattle.std.proofs.lemmas.Bool.Decides.{nat_tests}
use Rattle.std.proofs.lemmas.Option.{same_Some}
use Rattle.vx_value.specs.declared.variable.Variable.{Variable}
use Rattle.vx_value.specs.Texts.{ByteString, same_text, text_lt}
use Rattle.vx_value.proofs.Order.{same_text-true, same_text-refl, less_or}
use Rattle.toml.specs.Data.{Data, table}
use Rattle.vx_graph.specs.declared.node.Node.{Node}
use Rattle.vx_graph.specs.declared.graph_fault.GraphFault.{GraphFault}
use Rattle.vx_graph.specs.declared.graph_fault.GraphFault.TheVariants as graph
use Rattle.vx_graph.specs.Faults.{IsAccepted, IsFault}
use Rattle.vx_graph.specs.Order.{in_order}
use Rattle.vx_plan.specs.declared.plan.Plan.{Plan}
use Rattle.vx_reading.specs.declared.diagnostic.Diagnostic.{Diagnostic}
use Rattle.vx_reading.specs.declared.plan_fault.PlanFault.{PlanFault}
use Rattle.vx_reading.specs.declared.plan_fault.PlanFault.TheVariants.{MissingVariable, NotToml, Graph, WantOfMemory}
use Rattle.vx_reading.specs.Conditions.{all_diagnostics}
use Rattle.vx_reading.specs.Diagnostics.{rank, precedes, IsFirst, HasFault, AreAlike}
use Rattle.vx_reading.specs.Plans.{plan_of, nodes_of}
use Rattle.vx_reading.specs.Reading.{IsPlanOf, IsJudged, IsDocument, IsDocumentJudged, IsTextRead, IsReadingBy, IsReading}

-- a text is one document
pub one_document : (environment : List Variable) (text : ByteString) (a b : Data) → IsDocument environment text a → IsDocument environment text b → a ≡ b
one_document environment text a b da db = da.same ∙ ap table (same_Some _ _ (sym da.parsed ∙ db.parsed)) ∙ sym db.same

-- where there are no faults, none is the first
no_fault : (all : List Diagnostic) (fault : PlanFault) → all ≡ [] → HasFault all fault → ⊥
no_fault all fault none h =
    let lt : h.first.among.0 < 0 = subst (λ (xs : List Diagnostic). h.first.among.0 < length xs) none h.first.among.1 in
    omega arith

true-false : true ≡ false → ⊥
true-false e = cc

-- a graph that may stand has no fault
no_graph_fault : (nodes : List Node) (fault : GraphFault) → IsAccepted nodes → IsFault nodes fault → (fault ≡ graph.WantOfMemory → ⊥) → ⊥
no_graph_fault nodes graph.NoSources stands h memory = absurd (true-false (sym stands.sources ∙ h))
no_graph_fault nodes graph.NoSinks stands h memory = absurd (true-false (sym stands.sinks ∙ h.1))
no_graph_fault nodes (graph.NoInputs name) stands h memory = let e = sym stands.inputs ∙ h.1 in cc
no_graph_fault nodes (graph.UnknownInput name input) stands h memory = let e = sym stands.known ∙ h.2 in cc
no_graph_fault nodes (graph.Cycle texts) stands h memory = stands.acyclic texts h.3
no_graph_fault nodes graph.WantOfMemory stands h memory = memory refl

-- a document with a plan has no fault
judged_apart : (refuses : ByteString → Bool) (root : Data) (plan : Plan) (fault : PlanFault) → IsPlanOf refuses root plan → IsJudged refuses root (Err fault) → fault ≡ WantOfMemory
judged_apart refuses root plan (MissingVariable name at) p f = absurd f
judged_apart refuses root plan NotToml p f = absurd f
judged_apart refuses root plan (Graph fault) p f = absurd (no_graph_fault (in_order (nodes_of (plan_of root))) fault p.accepted f.refused f.memory)
judged_apart refuses root plan WantOfMemory p f = refl
judged_apart refuses root plan fault p f = absurd (no_fault (all_diagnostics refuses root) fault p.faultless f)

-- the same of the document of a text
document_apart : (refuses : ByteString → Bool) (environment : List Variable) (text : ByteString) (plan : Plan) (fault : PlanFault) → IsDocumentJudged refuses environment text (Ok plan)
    → IsDocumentJudged refuses environment text (Err fault) → fault ≡ WantOfMemory
document_apart refuses environment text plan fault p f =
    judged_apart refuses p.root plan fault p.rightly.judged
    (subst (λ (root : Data). IsJudged refuses root (Err fault)) (one_document environment text f.root p.root f.document p.document) f.rightly.judged)

-- the same of a text
text_apart : (refuses : ByteString → Bool) (environment : List Variable) (text : ByteString) (plan : Plan) (fault : PlanFault) → IsTextRead refuses environment text (Ok plan)
    → IsTextRead refuses environment text (Err fault) → fault ≡ WantOfMemory
text_apart refuses environment text plan (MissingVariable name at) p f = let e = sym p.document.whole ∙ f.lacking in cc
text_apart refuses environment text plan NotToml p f = let e = sym p.document.parsed ∙ f.parsed in cc
text_apart refuses environment text plan WantOfMemory p f = refl
text_apart refuses environment text plan fault p f = document_apart refuses environment text plan fault p f

-- what has a plan is refused for want of memory alone
pub never_both : (refuses : ByteString → Bool) (environment : List Variable) (bytes : ByteString) (plan : Plan) (fault : PlanFault) → IsReadingBy refuses environment bytes (Ok plan)
    → IsReadingBy refuses environment bytes (Err fault) → fault ≡ WantOfMemory
never_both refuses environment bytes plan fault (inl p) (inl f) = text_apart refuses environment bytes plan fault p.1 f.1
never_both refuses environment bytes plan fault (inl p) (inr f) = absurd (f.0 p.0)
never_both refuses environment bytes plan fault (inr p) f = let e = p.1 in cc

-- what has a plan has no other
pub one_plan : (environment : List Variable) (bytes : ByteString) (p q : Plan) → IsReading environment bytes (Ok p)
    → IsReading environment bytes (Ok q) → p ≡ q
one_plan environment bytes p q (_, inl a) (_, inl b) =
    a.1.rightly.judged.same ∙ ap plan_of (one_document environment bytes a.1.root b.1.root a.1.document b.1.document) ∙ sym b.1.rightly.judged.same
one_plan environment bytes p q (_, inl a) (_, inr b) = absurd (b.0 a.0)
one_plan environment bytes p q (_, inr a) b = let e = a.1 in cc

number-tie : (a b : ℕ) (p q : Bool) → (nat_lt a b || ((a == b) && p)) ≡ false → (nat_lt b a || ((b == a) && q)) ≡ false
    → (a ≡ b) × (p ≡ false) × (q ≡ false)
number-tie a b p q h k = grind (arith, nat_tests)

text-tie : (s t : ByteString) (p q : Bool) → (text_lt s t || (same_text s t && p)) ≡ false → (text_lt t s || (same_text t s && q)) ≡ false
    → (s ≡ t) × (p ≡ false) × (q ≡ false)
text-tie s t p q h k = grind (arith, less_or s t, less_or t s, same_text-true s t, same_text-true t s, same_text-refl s)

path-tie : (s t : ByteString) → text_lt s t ≡ false → text_lt t s ≡ false → s ≡ t
path-tie s t h k = grind (arith, less_or s t, same_text-true s t)

-- a first fault isn't preceded by one of the faults
not-before : (all : List Diagnostic) (f g : Diagnostic) → IsFirst all f → IsFirst all g → precedes f g ≡ false
not-before all f g a b = subst (λ (x : Diagnostic). precedes x g ≡ false) a.among.2 (b.first a.among.0 f a.among.1)

alike : (f g : Diagnostic) → precedes f g ≡ false → precedes g f ≡ false → AreAlike f g
alike f g h k =
    let kind = number-tie (rank f.trouble) (rank g.trouble) _ _ h k in
    let section = number-tie f.section g.section _ _ kind.1 kind.2 in
    let name = text-tie f.name g.name _ _ section.1 section.2 in
    record { kind = kind.0; section = section.0; name = name.0; path = path-tie f.path g.path name.1 name.2 }

pub one_first : (all : List Diagnostic) (f g : Diagnostic) → IsFirst all f → IsFirst all g → AreAlike f g
one_first all f g a b = alike f g (not-before all f g a b) (not-before all g f b a)
