-- What has a plan of which no condition could be refused is read surely.
use Rattle.std.proofs.Common.{◌≡◌, inl, inr, Bool, true, false, List, [], ◌∷◌, ◌++◌, Ok, Err, refl, sym, ◌∙◌, ap, subst}
use Rattle.std.specs.Prelude.{not}
use Rattle.std.specs.List.{AllByRecursion, flat_map}
use Rattle.vx_value.specs.declared.variable.Variable.{Variable}
use Rattle.vx_value.specs.Texts.{ByteString}
use Rattle.toml.specs.Data.{Data}
use Rattle.vx_plan.specs.declared.component.Component.{Component}
use Rattle.vx_plan.specs.declared.plan.Plan.{Plan}
use Rattle.vx_reading.specs.declared.diagnostic.Diagnostic.{Diagnostic}
use Rattle.vx_reading.specs.declared.plan_fault.PlanFault.{PlanFault}
use Rattle.vx_reading.specs.declared.plan_fault.PlanFault.TheVariants.{MissingVariable, NotToml, WantOfMemory}
use Rattle.vx_reading.specs.Conditions.{Placed, placed_in, conditions_by, all_conditions, owner_by, lead_of, IsRefusable, NoneRefusable, RefusesRightly, refusal, refusals_of, refusals}
use Rattle.vx_reading.specs.Diagnostics.{at_option, diagnostics}
use Rattle.vx_reading.specs.Judging.{bad_unless}
use Rattle.vx_reading.specs.Plans.{plan_of}
use Rattle.vx_reading.specs.Reading.{IsPlanOf, IsRightlyJudged, IsDocumentJudged, IsTextRead, IsReading}
use Rattle.vx_reading.proofs.Apart.{all_left, all_right}
use Rattle.vx_reading.proofs.Few.{none_left}
use Rattle.vx_reading.proofs.OneAnswer.{one_document, never_both}
use Rattle.vx_reading.proofs.Refusing.{texts_of, placed_texts}

-- NOTHING IS REFUSED
module _ (refuses : ByteString → Bool) where
  none_placed : (c : Component) (placed : List Placed) → AllByRecursion (λ (text : ByteString). refuses text ≡ false) (texts_of placed) → flat_map (refusal refuses c) placed ≡ []
  none_placed c [] all = refl
  none_placed c (p ∷ rest) all =
      ap (λ (b : Bool). at_option (owner_by c) (lead_of c) p.place (bad_unless (not b)) ++ flat_map (refusal refuses c) rest) all.0 ∙ none_placed c rest all.1

  none_by : (c : Component) → AllByRecursion (λ (text : ByteString). refuses text ≡ false) (conditions_by c) → refusals_of refuses c ≡ []
  none_by c all = none_placed c (placed_in c.settings) (subst (λ (texts : List ByteString). AllByRecursion (λ (text : ByteString). refuses text ≡ false) texts) (sym (placed_texts c.settings)) all)

  none_refused : (components : List Component) → AllByRecursion (λ (text : ByteString). refuses text ≡ false) (all_conditions components) → refusals refuses components ≡ []
  none_refused [] all = refl
  none_refused (c ∷ rest) all =
      ap (λ (fs : List Diagnostic). fs ++ refusals refuses rest) (none_by c (all_left (λ (text : ByteString). refuses text ≡ false) (conditions_by c) (all_conditions rest) all))
      ∙ none_refused rest (all_right (λ (text : ByteString). refuses text ≡ false) (conditions_by c) (all_conditions rest) all)

  unrefused : (text : ByteString) (b : Bool) → refuses text ≡ b → (refuses text ≡ true → IsRefusable text) → (IsRefusable text → ⊥) → refuses text ≡ false
  unrefused text true is rightly none = absurd (none (rightly is))
  unrefused text false is rightly none = is

  each_taken : (texts : List ByteString) → AllByRecursion (λ (text : ByteString). refuses text ≡ true → IsRefusable text) texts → AllByRecursion (λ (text : ByteString). IsRefusable text → ⊥) texts →
      AllByRecursion (λ (text : ByteString). refuses text ≡ false) texts
  each_taken [] rightly none = tt
  each_taken (text ∷ texts) rightly none = (unrefused text (refuses text) refl rightly.0 none.0, each_taken texts rightly.1 none.1)

  -- so the plan is read by whatever is refused
  planned : (other : ByteString → Bool) (root : Data) (plan : Plan) → NoneRefusable plan.components → IsRightlyJudged other root (Ok plan) →
      RefusesRightly refuses (all_conditions (plan_of root).components) → IsRightlyJudged refuses root (Ok plan)
  planned other root plan sure read right =
      let of : IsPlanOf other root plan = read.judged in
      let none = subst (λ (p : Plan). NoneRefusable p.components) of.same sure in
      let taken = each_taken (all_conditions (plan_of root).components) right.refused none in
      let faultless = none_left (diagnostics root) _ of.faultless in
      record {
        right = λ some. right;
        judged = record {
          faultless = ap (λ (more : List Diagnostic). diagnostics root ++ more) (none_refused (plan_of root).components taken) ∙ ap (λ (fs : List Diagnostic). fs ++ []) faultless;
          same = of.same;
          accepted = of.accepted;
        };
      }

-- what is judged of the text of a document that has a plan
document_sure : (refuses other : ByteString → Bool) (environment : List Variable) (text : ByteString) (plan : Plan) (fault : PlanFault) → NoneRefusable plan.components →
    IsDocumentJudged other environment text (Ok plan) → IsDocumentJudged refuses environment text (Err fault) → (fault ≡ WantOfMemory → ⊥) → IsDocumentJudged refuses environment text (Ok plan)
document_sure refuses other environment text plan fault sure p f some = record {
  root = p.root;
  document = p.document;
  rightly = planned refuses other p.root plan sure p.rightly
      (subst (λ (root : Data). RefusesRightly refuses (all_conditions (plan_of root).components)) (one_document environment text f.root p.root f.document p.document) (f.rightly.right (λ is. some (cc))));
}

text_sure : (refuses other : ByteString → Bool) (environment : List Variable) (text : ByteString) (plan : Plan) (fault : PlanFault) → NoneRefusable plan.components →
    IsTextRead other environment text (Ok plan) → IsTextRead refuses environment text (Err fault) → (fault ≡ WantOfMemory → ⊥) → IsTextRead refuses environment text (Ok plan)
text_sure refuses other environment text plan (MissingVariable name at) sure p f some = let e = sym p.document.whole ∙ f.lacking in cc
text_sure refuses other environment text plan NotToml sure p f some = let e = sym p.document.parsed ∙ f.parsed in cc
text_sure refuses other environment text plan WantOfMemory sure p f some = absurd (some refl)
text_sure refuses other environment text plan fault sure p f some = document_sure refuses other environment text plan fault sure p f some

-- it is refused for want of memory alone
pub surely_read : (environment : List Variable) (bytes : ByteString) (plan : Plan) (fault : PlanFault) → NoneRefusable plan.components → IsReading environment bytes (Ok plan) →
    IsReading environment bytes (Err fault) → fault ≡ WantOfMemory
surely_read environment bytes plan WantOfMemory sure read refused = refl
surely_read environment bytes plan fault sure (other, inl p) (refuses, inl f) =
    never_both refuses environment bytes plan fault (inl (p.0, text_sure refuses other environment bytes plan fault sure p.1 f.1 (λ is. cc))) (inl f)
surely_read environment bytes plan fault sure (other, inl p) (refuses, inr f) = absurd (f.0 p.0)
surely_read environment bytes plan fault sure (other, inr p) refused = let e = p.1 in cc
