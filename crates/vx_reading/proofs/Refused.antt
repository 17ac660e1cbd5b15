-- What is kept of some texts behind one more.
use Rattle.std.proofs.Common.{◌≡◌, Bool, true, false, ◌||◌, List, [], ◌∷◌, ◌++◌, refl, sym, ap, ◌∙◌, arith}
use Rattle.std.proofs.lemmas.Bool.Decides.{nat_tests}
use Rattle.std.proofs.lemmas.List.Folds.{list_any-append}
use Rattle.std.specs.BTreeMap.{is_at}
use Rattle.std.specs.BTreeSet.{BTreeSet, insert_key}
use Rattle.std.specs.Cmp.Lexicographic.{slice_cmp}
use Rattle.std.specs.List.{list_any}
use Rattle.std.specs.Ordering.{match_ordering, nat_cmp, is_eq}
use Rattle.std.specs.declared.cmp.Ordering.{Ordering}
use Rattle.std.specs.declared.cmp.Ordering.TheVariants.{Less, Equal, Greater}
use denote.Ref.{Bor}
use Rattle.vx_value.specs.Texts.{ByteString, same_text}
use Rattle.vx_value.proofs.Order.{observed_same, same_text-true}
use Rattle.vx_reading.specs.Conditions.{is_one}
use Rattle.vx_reading.specs.Refused.{is_kept}

same_either_way : (s t : ByteString) → same_text s t ≡ same_text t s
same_either_way [] [] = refl
same_either_way [] (y ∷ t) = refl
same_either_way (x ∷ s) [] = refl
same_either_way (x ∷ s) (y ∷ t) = let rest = same_either_way s t in grind (arith, nat_tests)

or_twice : (b c : Bool) → (b || c) ≡ (b || (b || c))
or_twice true c = refl
or_twice false c = refl

or_swapped : (a b c : Bool) → (a || (b || c)) ≡ (b || (a || c))
or_swapped true true c = refl
or_swapped true false c = refl
or_swapped false b c = refl

or_turned : (a b : Bool) → (a || b) ≡ (b || (a || false))
or_turned true true = refl
or_turned true false = refl
or_turned false true = refl
or_turned false false = refl

abbrev order : Bor ByteString → Bor ByteString → Ordering
order x y = slice_cmp nat_cmp x.now y.now

abbrev among : ByteString → List (Bor ByteString) → Bool
among text keys = list_any (is_at (λ (k : Bor ByteString). slice_cmp nat_cmp text k.now)) keys

-- the first of some is the text, or a later one
among-cons : (text : ByteString) (key : Bor ByteString) (keys : List (Bor ByteString)) → among text (key ∷ keys) ≡ (same_text text key.now || among text keys)
among-cons text key keys = ap (λ b. b || among text keys) (observed_same text key.now (slice_cmp nat_cmp text key.now) refl)

among-insert : (text : ByteString) (keys : List (Bor ByteString)) (key : Bor ByteString) → among text (insert_key order keys key) ≡ (same_text text key.now || among text keys)
among-insert text [] key = among-cons text key []
among-insert text (x ∷ keys) key = by_order (order key x) refl (among-insert text keys key)
  where
    by_order : (o : Ordering) → o ≡ order key x
        → among text (insert_key order keys key) ≡ (same_text text key.now || among text keys)
        → among text (match_ordering o (key ∷ x ∷ keys) (x ∷ keys) (x ∷ insert_key order keys key)) ≡ (same_text text key.now || among text (x ∷ keys))
    by_order Less e behind = among-cons text key (x ∷ keys)
    by_order Equal e behind =
        let same : key.now ≡ x.now = same_text-true key.now x.now (sym (observed_same key.now x.now Equal e)) in
        among-cons text x keys
        ∙ or_twice (same_text text x.now) (among text keys)
        ∙ ap (λ (w : ByteString). same_text text w || (same_text text x.now || among text keys)) (sym same)
        ∙ ap (λ b. same_text text key.now || b) (sym (among-cons text x keys))
    by_order Greater e behind =
        among-cons text x (insert_key order keys key)
        ∙ ap (λ b. same_text text x.now || b) behind
        ∙ or_swapped (same_text text x.now) (same_text text key.now) (among text keys)
        ∙ ap (λ b. same_text text key.now || b) (sym (among-cons text x keys))

-- one text more
pub kept_more : (old new : BTreeSet (Bor ByteString)) (key : Bor ByteString) (texts : List ByteString) (more : ByteString) → key.now ≡ more
    → new.keys ≡ insert_key order old.keys key
    → ((text : ByteString) → is_kept old text ≡ is_one texts text) → (text : ByteString) → is_kept new text ≡ is_one (texts ++ more ∷ []) text
kept_more old new key texts more is e whole text =
    ap (among text) e
    ∙ among-insert text old.keys key
    ∙ ap (λ b. same_text text key.now || b) (whole text)
    ∙ ap (λ b. b || is_one texts text) (same_either_way text key.now ∙ ap (λ (w : ByteString). same_text w text) is)
    ∙ or_turned (same_text more text) (is_one texts text)
    ∙ sym (list_any-append (λ (t : ByteString). same_text t text) texts (more ∷ []))
