-- A value is as deep as its text opens levels, at most.
use Rattle.std.proofs.Common.{◌≡◌, ℕ, suc, max, ◌+◌, ◌≤◌, Bool, true, false, cond, ◌==◌, Option, Some, None, List, [], ◌∷◌, ◌++◌, length, refl, ap, arith}
use Rattle.std.specs.Str.Lossy.{utf8_lossy}
use Rattle.vx_value.specs.Texts.{ByteString, text_lt, same_text, is_empty}
use Rattle.vx_value.specs.Datum.{Datum, Items, Fields, NamedDatum, data_of, named_of, depth, data_depth, named_depth}
use Rattle.vx_value.specs.Events.{with_field}
use Rattle.vx_json.specs.Grammar.{is_blank}
use Rattle.vx_json.specs.Machine.{TextMove, Goes, Ends, Wrong, text_move, number_move, may_end, is_whole_text, number_datum, Frame, InItems, InFields, Mode, AtValue, AtFirstItem, AtFirstName, AtName, InName, AtColon, AtEnd, InWord, InNumber, InText, State, state, step, begin_move, end_move, after_move, name_move, words_move, digits_move, word_move, finish, height}
use Rattle.vx_json.specs.declared.text_place.TextPlace.TheVariants as place
use Rattle.vx_json.specs.declared.number_place.NumberPlace.{NumberPlace}
use Rattle.vx_json.proofs.Levels.{choose, begins}

-- ---- depths
data-push : (ds : List Datum) (v : Datum) → data_depth (data_of (ds ++ v ∷ [])) ≤ max (depth v) (data_depth (data_of ds))
data-push [] v = omega arith
data-push (d ∷ ds) v = let h = data-push ds v in omega arith

named-with : (fs : List NamedDatum) (name : ByteString) (v : Datum) → named_depth (named_of (with_field fs name v)) ≤ max (depth v) (named_depth (named_of fs))
named-with [] name v = omega arith
named-with (f ∷ fs) name v = by_order (text_lt f.name name) (same_text f.name name) (named-with fs name v)
  where
    by_order : (b s : Bool) → named_depth (named_of (with_field fs name v)) ≤ max (depth v) (named_depth (named_of fs)) → named_depth (named_of (cond b (f ∷ with_field fs name v) (cond s (record { name = name; value = v } ∷ fs) (record { name = name; value = v } ∷ f ∷ fs)))) ≤ max (depth v) (max (depth f.value) (named_depth (named_of fs)))
    by_order true s h = omega arith
    by_order false true h = omega arith
    by_order false false h = omega arith

number-depth : (w : ByteString) → depth (number_datum w) ≡ 0
unfolding number_datum
number-depth w = choose (λ d. depth d ≡ 0) (is_whole_text w) _ _ (λ _. refl) (λ _. refl)

-- ---- what is open fits
abbrev pub FrameFits : Frame → ℕ → Type 0
FrameFits (InItems ds) n = data_depth (data_of ds) + n ≤ 32
FrameFits (InFields fs name) n = named_depth (named_of fs) + n ≤ 32

abbrev pub StackFits : List Frame → Type 0
StackFits [] = Unit {0}
StackFits (f ∷ st) = FrameFits f (suc (length st)) × StackFits st

abbrev pub ModeFits : Mode → ℕ → Type 0
ModeFits (AtEnd v) n = depth v + n ≤ 32
ModeFits (InWord rest d) n = depth d + n ≤ 32
ModeFits (AtName fs) n = named_depth (named_of fs) + suc n ≤ 32
ModeFits (InName fs p w) n = named_depth (named_of fs) + suc n ≤ 32
ModeFits (AtColon fs name) n = named_depth (named_of fs) + suc n ≤ 32
ModeFits m n = Unit {0}

abbrev pub Fits : Option State → Type 0
Fits None = Unit {0}
Fits (Some s) = ModeFits s.mode (length s.stack) × StackFits s.stack

begin-fits : (st : List Frame) (b : ℕ) → length st ≤ 32 → StackFits st → Fits (begin_move st b)
begin-fits st b l h =
    begins Fits st b (record {
      text = λ _. (tt, h);
      minus = λ _. (tt, h);
      zero = λ _. (tt, h);
      digit = λ _. (tt, h);
      array = λ _. (tt, h);
      object = λ _. (tt, h);
      null = λ _. (omega arith, h);
      truth = λ _. (omega arith, h);
      falsehood = λ _. (omega arith, h);
      wrong = tt;
    })

end-fits : (v : Datum) (st : List Frame) (b : ℕ) → depth v + length st ≤ 32 → StackFits st → Fits (end_move v st b)
end-fits v [] b l h = tt
end-fits v (InItems ds ∷ st) b l h =
    let p = data-push ds v in
    choose Fits (b == 44) (state AtValue (InItems (ds ++ v ∷ []) ∷ st)) (cond (b == 93) (state (AtEnd (Items (data_of (ds ++ v ∷ [])))) st) None) (λ _. (tt, (omega arith, h.1))) (λ _.
    choose Fits (b == 93) (state (AtEnd (Items (data_of (ds ++ v ∷ [])))) st) None (λ _. (omega arith, h.1)) (λ _. tt))
end-fits v (InFields fs name ∷ st) b l h =
    let p = named-with fs name v in
    choose Fits (b == 44) (state (AtName (with_field fs name v)) st) (cond (b == 125) (state (AtEnd (Fields (named_of (with_field fs name v)))) st) None) (λ _. (omega arith, h.1)) (λ _.
    choose Fits (b == 125) (state (AtEnd (Fields (named_of (with_field fs name v)))) st) None (λ _. (omega arith, h.1)) (λ _. tt))

after-fits : (v : Datum) (st : List Frame) (b : ℕ) → depth v + length st ≤ 32 → StackFits st → Fits (after_move v st b)
after-fits v st b l h = choose Fits (is_blank b) (state (AtEnd v) st) (end_move v st b) (λ _. (l, h)) (λ _. end-fits v st b l h)

digits-fits : (o : Option NumberPlace) (p : NumberPlace) (w : ByteString) (st : List Frame) (b : ℕ) → length st ≤ 32 → StackFits st → Fits (digits_move o p w st b)
digits-fits (Some q) p w st b l h = (tt, h)
digits-fits None p w st b l h =
    choose Fits (may_end p) (after_move (number_datum (utf8_lossy w)) st b) None (λ _. after-fits (number_datum (utf8_lossy w)) st b (omega (arith, number-depth (utf8_lossy w))) h) (λ _. tt)

word-fits : (rest : ByteString) (d : Datum) (st : List Frame) (b : ℕ) → depth d + length st ≤ 32 → StackFits st → Fits (word_move rest d st b)
word-fits [] d st b l h = tt
word-fits (a ∷ rest) d st b l h =
    choose Fits (a == b) (cond (is_empty rest) (state (AtEnd d) st) (state (InWord rest d) st)) None (λ _. choose Fits (is_empty rest) (state (AtEnd d) st) (state (InWord rest d) st) (λ _. (l, h)) (λ _. (l, h))) (λ _. tt)

name-fits : (m : TextMove) (fs : List NamedDatum) (w : ByteString) (st : List Frame) → named_depth (named_of fs) + suc (length st) ≤ 32 → StackFits st → Fits (name_move m fs w st)
name-fits (Goes q bytes) fs w st l h = (l, h)
name-fits Ends fs w st l h = (l, h)
name-fits Wrong fs w st l h = tt

words-fits : (m : TextMove) (w : ByteString) (st : List Frame) → length st ≤ 32 → StackFits st → Fits (words_move m w st)
words-fits (Goes q bytes) w st l h = (tt, h)
words-fits Ends w st l h = (omega arith, h)
words-fits Wrong w st l h = tt

quote-fits : (fs : List NamedDatum) (st : List Frame) (b : ℕ) → named_depth (named_of fs) + suc (length st) ≤ 32 → StackFits st → Fits (cond (b == 34) (state (InName fs place.Plain []) st) None)
quote-fits fs st b l h = choose Fits (b == 34) (state (InName fs place.Plain []) st) None (λ _. (l, h)) (λ _. tt)

-- each byte keeps what is open fitting
pub step-fits : (m : Mode) (st : List Frame) (b : ℕ) → height m st ≤ 32 → ModeFits m (length st) → StackFits st → Fits (step m st b)
step-fits AtValue st b l k h = choose Fits (is_blank b) (state AtValue st) (begin_move st b) (λ _. (tt, h)) (λ _. begin-fits st b l h)
step-fits AtFirstItem st b l k h =
    choose Fits (is_blank b) (state AtFirstItem st) (cond (b == 93) (state (AtEnd (Items (data_of []))) st) (begin_move (InItems [] ∷ st) b)) (λ _. (tt, h)) (λ _.
    choose Fits (b == 93) (state (AtEnd (Items (data_of []))) st) (begin_move (InItems [] ∷ st) b) (λ _. (omega arith, h)) (λ _. begin-fits (InItems [] ∷ st) b (omega arith) (omega arith, h)))
step-fits AtFirstName st b l k h =
    choose Fits (is_blank b) (state AtFirstName st) (cond (b == 125) (state (AtEnd (Fields (named_of []))) st) (cond (b == 34) (state (InName [] place.Plain []) st) None)) (λ _. (tt, h)) (λ _.
    choose Fits (b == 125) (state (AtEnd (Fields (named_of []))) st) (cond (b == 34) (state (InName [] place.Plain []) st) None) (λ _. (omega arith, h)) (λ _. quote-fits [] st b (omega arith) h))
step-fits (AtName fs) st b l k h = choose Fits (is_blank b) (state (AtName fs) st) (cond (b == 34) (state (InName fs place.Plain []) st) None) (λ _. (k, h)) (λ _. quote-fits fs st b k h)
step-fits (InName fs p w) st b l k h = name-fits (text_move p b) fs w st k h
step-fits (AtColon fs name) st b l k h =
    choose Fits (is_blank b) (state (AtColon fs name) st) (cond (b == 58) (state AtValue (InFields fs name ∷ st)) None) (λ _. (k, h)) (λ _.
    choose Fits (b == 58) (state AtValue (InFields fs name ∷ st)) None (λ _. (tt, (k, h))) (λ _. tt))
step-fits (AtEnd v) st b l k h = after-fits v st b k h
step-fits (InWord rest d) st b l k h = word-fits rest d st b k h
step-fits (InNumber p w) st b l k h = digits-fits (number_move p b) p w st b l h
step-fits (InText p w) st b l k h = words-fits (text_move p b) w st l h

-- the value of a text fits
number-finishes : (t : Bool) (w : ByteString) (v : Datum) → cond t (Some (number_datum w)) None ≡ Some v → depth v ≤ 32
number-finishes true w v e = let same : number_datum w ≡ v = cc in omega (arith, ap depth same, number-depth w)
number-finishes false w v e = cc

pub finish-fits : (m : Mode) (st : List Frame) (v : Datum) → ModeFits m (length st) → finish m st ≡ Some v → depth v ≤ 32
finish-fits (AtEnd w) [] v k e = let same : w ≡ v = cc in omega (arith, ap depth same)
finish-fits (InNumber p w) [] v k e = number-finishes (may_end p) (utf8_lossy w) v e
finish-fits m st v k e = cc
