-- What comes of reading some conditions, one behind the other.
use Rattle.std.proofs.Common.{◌≡◌, Bool, true, false, ◌||◌, List, [], ◌∷◌, ◌++◌, Result, Ok, Err, OnOk, refl, sym, ◌∙◌, ap, subst}
use Rattle.std.specs.List.{AllByRecursion}
use Rattle.std.proofs.lemmas.List.{append-nil, append_assoc}
use Rattle.vx_value.specs.Texts.{ByteString, same_text}
use Rattle.vx_value.proofs.Order.{same_text-true, same_text-refl}
use Rattle.vx_condition.specs.Faults.{IsConditionText}
use Rattle.vx_reading.specs.Conditions.{IsRefusable, is_one}
use Rattle.vx_reading.specs.Trying.{IsRefusedOf, Tries}
use Rattle.vx_reading.proofs.Apart.{all_mapped, all_joined}
use Rattle.vx_reading.proofs.Few.{none_left, none_right}

-- TEXTS AMONG OTHERS
-- what each of some texts has, one of them has
pub one_of : (P : ByteString → Type 0) (texts : List ByteString) (text : ByteString) → AllByRecursion P texts → is_one texts text ≡ true → P text
one_of P [] text all is = cc
one_of P (t ∷ ts) text all is = go (same_text t text) refl is (one_of P ts text all.1)
  where
    go : (b : Bool) → same_text t text ≡ b → (b || is_one ts text) ≡ true → (is_one ts text ≡ true → P text) → P text
    go true same is later = subst P (same_text-true t text same) all.0
    go false same is later = later is

-- a text is among two lists where it is among one
one_joined : (xs ys : List ByteString) (text : ByteString) → is_one (xs ++ ys) text ≡ (is_one xs text || is_one ys text)
one_joined [] ys text = refl
one_joined (x ∷ xs) ys text = go (same_text x text) (one_joined xs ys text)
  where
    go : (b : Bool) → is_one (xs ++ ys) text ≡ (is_one xs text || is_one ys text) → (b || is_one (xs ++ ys) text) ≡ ((b || is_one xs text) || is_one ys text)
    go true later = refl
    go false later = later

or_left : (a b : Bool) → a ≡ true → (a || b) ≡ true
or_left true b is = refl
or_left false b is = cc

or_right : (a b : Bool) → b ≡ true → (a || b) ≡ true
or_right true b is = refl
or_right false b is = is

not_left : (a b : Bool) → (a || b) ≡ false → a ≡ false
not_left true b is = cc
not_left false b is = refl

pub one_left : (xs ys : List ByteString) (text : ByteString) → is_one xs text ≡ true → is_one (xs ++ ys) text ≡ true
one_left xs ys text is = one_joined xs ys text ∙ or_left (is_one xs text) (is_one ys text) is

one_right : (xs ys : List ByteString) (text : ByteString) → is_one ys text ≡ true → is_one (xs ++ ys) text ≡ true
one_right xs ys text is = one_joined xs ys text ∙ or_right (is_one xs text) (is_one ys text) is

none_before : (xs ys : List ByteString) (text : ByteString) → is_one (xs ++ ys) text ≡ false → is_one xs text ≡ false
none_before xs ys text is = not_left (is_one xs text) (is_one ys text) (sym (one_joined xs ys text) ∙ is)

pub one_here : (text : ByteString) → is_one (text ∷ []) text ≡ true
one_here text = ap (λ (b : Bool). b || false) (same_text-refl text)

-- ONE BEHIND THE OTHER
module _ {X : Type 0} where
  pub tries_none : (old : List ByteString) (before : List X) → Tries [] [] old old before before
  tries_none old before =
      record { more = []; grown = sym (append-nil old); refused = tt; taken = tt; whole = λ none. sym (append-nil before) }

  pub tries_taken : (text : ByteString) (x : X) (old : List ByteString) (before : List X) → IsConditionText text →
      Tries (text ∷ []) (x ∷ []) old old before (before ++ x ∷ [])
  tries_taken text x old before is =
      record { more = []; grown = sym (append-nil old); refused = tt; taken = ((λ no. is), tt); whole = λ none. refl }

  pub tries_refused : (text : ByteString) (x : X) (old : List ByteString) (before : List X) → IsRefusable text →
      Tries (text ∷ []) (x ∷ []) old (old ++ text ∷ []) before before
  tries_refused text x old before is = record {
    more = text ∷ [];
    grown = refl;
    refused = (record { among = one_here text; refused = is }, tt);
    taken = ((λ no. let there = one_right old (text ∷ []) text (one_here text) in cc), tt);
    whole = λ none. cc;
  }

  pub tries_both : {xs ys : List ByteString} {made more : List X} {a b c : List ByteString} {p q r : List X} → Tries xs made a b p q → Tries ys more b c q r →
      Tries (xs ++ ys) (made ++ more) a c p r
  tries_both {xs} {ys} {made} {more} {a} {b} {c} {p} {q} {r} first second = record {
    more = first.more ++ second.more;
    grown = second.grown ∙ ap (λ (zs : List ByteString). zs ++ second.more) first.grown ∙ append_assoc a first.more second.more;
    refused = all_joined (IsRefusedOf (xs ++ ys)) first.more second.more
        (all_mapped (IsRefusedOf xs) (IsRefusedOf (xs ++ ys)) first.more (λ t is. record { among = one_left xs ys t is.among; refused = is.refused }) first.refused)
        (all_mapped (IsRefusedOf ys) (IsRefusedOf (xs ++ ys)) second.more (λ t is. record { among = one_right xs ys t is.among; refused = is.refused }) second.refused);
    taken = all_joined (λ (t : ByteString). is_one c t ≡ false → IsConditionText t) xs ys
        (all_mapped (λ (t : ByteString). is_one b t ≡ false → IsConditionText t) (λ (t : ByteString). is_one c t ≡ false → IsConditionText t) xs (λ t is no. is (none_before b second.more t (subst (λ (zs : List ByteString). is_one zs t ≡ false) second.grown no))) first.taken)
        second.taken;
    whole = λ none.
        second.whole (none_right first.more second.more none)
        ∙ ap (λ (zs : List X). zs ++ more) (first.whole (none_left first.more second.more none))
        ∙ append_assoc p made more;
  }

-- what follows where a call ended well
pub on_ok : {T E : Type 0} {A B : Type 0} (answer : Result T E) → (A → B) → OnOk answer A → OnOk answer B
on_ok (Ok x) f is = f is
on_ok (Err e) f is = tt
