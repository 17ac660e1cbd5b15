-- One step of merging two lists of fields.
use Rattle.std.proofs.Common.{◌≡◌, ℕ, Bool, true, false, Option, Some, None, Result, Ok, Err, List, [], ◌∷◌, IsTrue, IfOk, IfSome, length, map, arith, refl, sym, ◌∙◌, ap, ap₂, subst}
use Rattle.vx_value.specs.Datum.{Datum, NamedDatum}
use Rattle.vx_value.specs.Texts.{ByteString, same_text, text_lt}
use Rattle.vx_value.specs.Events.{names_rise}
use Rattle.vx_value.specs.Values.{datum_of, named_datum}
use Rattle.vx_value.specs.declared.field.Field.{Field}
use Rattle.vx_condition.specs.Merging.{merged_value, merged_with}
use Rattle.vx_condition.specs.declared.strategy.Strategy.{Strategy}
use Rattle.vx_reduce.proofs.Merged.{first_after, rise-head, rise-tail, merged-front, merged-new, merged-same}

-- two facts of what a call may have found, as one
pub both_found : {A E : Type 0} (P Q R : A → Type 0) (r : Result (Option A) E) → ((a : A) → P a → Q a → R a) → IfOk r (λ o. IfSome o P) → IfOk r (λ o. IfSome o Q) → IfOk r (λ o. IfSome o R)
both_found P Q R (Ok (Some a)) f p q = f a p q
both_found P Q R (Ok None) f p q = p
both_found P Q R (Err e) f p q = p

-- no field comes before any other
pub first_after-none : (name : ByteString) (fs : List Field) → length fs ≡ 0 → first_after name (map named_datum fs) ≡ true
first_after-none name [] h = refl
first_after-none name (f ∷ fs) h = absurd (omega arith)

pub first_after-first : (name : ByteString) (fs : List Field) (f : Field) (rest : List Field) → fs ≡ f ∷ rest → text_lt name f.name ≡ true → first_after name (map named_datum fs) ≡ true
first_after-first name fs f rest e h = rw e h

abbrev name_of : List NamedDatum → ByteString
name_of [] = []
name_of (f ∷ fs) = f.name

module _ (paths : List (List ByteString)) (strategies : List Strategy) where
  pub step-new : (group event later : List Field) (comes field : Field) → event ≡ comes ∷ later → first_after comes.name (map named_datum group) ≡ true → IsTrue (names_rise (map named_datum group)) → IsTrue (names_rise (map named_datum event)) → field.name ≡ comes.name → datum_of field.value ≡ merged_value paths strategies (named_datum comes) None → merged_with paths strategies (map named_datum group) (map named_datum event) ≡ named_datum field ∷ merged_with paths strategies (map named_datum group) (map named_datum later)
  step-new group event later comes field e h r s n v =
      ap (λ es. merged_with paths strategies (map named_datum group) (map named_datum es)) e
      ∙ merged-new paths strategies (map named_datum group) (map named_datum later) (named_datum comes) h r (rw e at s)
      ∙ ap₂ (λ (m : ByteString) (d : Datum). (let f : NamedDatum = record { name = m; value = d } in f) ∷ merged_with paths strategies (map named_datum group) (map named_datum later)) (sym n) (sym v)

  pub step-same : (group rest event later : List Field) (first comes field : Field) → event ≡ comes ∷ later → group ≡ first ∷ rest → text_lt first.name comes.name ≡ false → same_text first.name comes.name ≡ true → IsTrue (names_rise (map named_datum event)) → field.name ≡ comes.name → datum_of field.value ≡ merged_value paths strategies (named_datum comes) (Some (datum_of first.value)) → merged_with paths strategies (map named_datum group) (map named_datum event) ≡ named_datum field ∷ merged_with paths strategies (map named_datum rest) (map named_datum later)
  step-same group rest event later first comes field e g h k s n v =
      ap₂ (λ gs es. merged_with paths strategies (map named_datum gs) (map named_datum es)) g e
      ∙ merged-same paths strategies (map named_datum rest) (map named_datum later) (named_datum first) (named_datum comes) h k (rw e at s)
      ∙ ap₂ (λ (m : ByteString) (d : Datum). (let f : NamedDatum = record { name = m; value = d } in f) ∷ merged_with paths strategies (map named_datum rest) (map named_datum later)) (sym n) (sym v)

  -- the group's first field stays, where it comes before what comes
  pub step-keep : (group event : List Field) (field : Field) (rest : List Field) → map named_datum group ≡ named_datum field ∷ map named_datum rest → first_after field.name (map named_datum event) ≡ true → IsTrue (names_rise (map named_datum event)) → merged_with paths strategies (map named_datum group) (map named_datum event) ≡ named_datum field ∷ merged_with paths strategies (map named_datum rest) (map named_datum event)
  step-keep group event field rest g h s =
      ap (λ gs. merged_with paths strategies gs (map named_datum event)) g ∙ merged-front paths strategies (named_datum field) (map named_datum rest) (map named_datum event) h s

-- the first field's name, where it is known twice
pub same_first : (group rest left : List Field) (first field : Field) → group ≡ first ∷ rest → map named_datum group ≡ named_datum field ∷ map named_datum left → first.name ≡ field.name
same_first group rest left first field e h = ap name_of (sym (ap (λ gs. map named_datum gs) e) ∙ h)
