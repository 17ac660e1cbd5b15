-- One step along a path.
use Rattle.std.proofs.Common.{◌≡◌, ℕ, zero, suc, max, ◌-◌, ◌+◌, ◌<◌, ◌≤◌, Bool, true, false, cond, Option, Some, None, Result, Ok, Err, OnOk, List, [], ◌∷◌, length, take, drop, get_or, IsTrue, arith, refl, sym, ◌∙◌, ap}
use Rattle.std.proofs.lemmas.List.{take_all}
use Rattle.vx_value.specs.Datum.{Datum, NamedDatum, Fields, named_of, named_list, depth, named_depth}
use Rattle.vx_value.specs.declared.value.Value.{Value}
use Rattle.vx_value.specs.declared.value.Value.TheVariants as variant
use Rattle.vx_value.specs.Values.{datum_of}
use Rattle.vx_value.specs.Texts.{ByteString}
use Rattle.vx_value.specs.Events.{value_under, value_at, fields_in, is_other, put_at, put_in, with_field, blocked_names, one_more, names_rise, others_depth}
use Rattle.vx_value.proofs.With.{with_depth}

-- names by their first and the rest
pub first_and_rest : (names : List ByteString) (name : ByteString) → 1 ≤ length names → name ≡ get_or names 0 name → names ≡ name ∷ take (length names - 1) (drop 1 names)
first_and_rest [] name h e = absurd (omega arith)
first_and_rest (n ∷ ns) name h e = (λ i. sym e i ∷ ns) ∙ ap (λ r. name ∷ r) (sym (take_all (length (n ∷ ns) - 1) ns (omega arith)))

-- the list of the fields of a list
pub named_list-named_of : (fs : List NamedDatum) → named_list (named_of fs) ≡ fs
named_list-named_of [] = refl
named_list-named_of (f ∷ fs) = ap (λ r. f ∷ r) (named_list-named_of fs)

-- without fields there is nothing at a path
pub value_at-nil : (names : List ByteString) → value_at [] names ≡ None
value_at-nil [] = refl
value_at-nil (n ∷ []) = refl
value_at-nil (n ∷ m ∷ ns) = value_at-nil (m ∷ ns)

pub blocked_names-nil : (names : List ByteString) → blocked_names [] names ≡ 0
blocked_names-nil [] = refl
blocked_names-nil (n ∷ []) = refl
blocked_names-nil (n ∷ m ∷ ns) = ap one_more (blocked_names-nil (m ∷ ns))

-- a path of more than one name
pub value_at-cons : (fs : List NamedDatum) (name : ByteString) (rest : List ByteString) → 0 < length rest → value_at fs (name ∷ rest) ≡ value_at (fields_in (value_under fs name)) rest
value_at-cons fs name [] h = absurd (omega arith)
value_at-cons fs name (n ∷ ns) h = refl

pub blocked_names-cons : (fs : List NamedDatum) (name : ByteString) (rest : List ByteString) → 0 < length rest → blocked_names fs (name ∷ rest) ≡ cond (is_other (value_under fs name)) 1 (one_more (blocked_names (fields_in (value_under fs name)) rest))
blocked_names-cons fs name [] h = absurd (omega arith)
blocked_names-cons fs name (n ∷ ns) h = refl

pub put_at-cons : (fs : List NamedDatum) (name : ByteString) (rest : List ByteString) (value : Datum) → put_at fs (name ∷ rest) value ≡ with_field fs name (put_in (value_under fs name) rest value)
put_at-cons fs name [] value = refl
put_at-cons fs name (n ∷ ns) value = refl

pub put_in-cons : (held : Option Datum) (rest : List ByteString) (value : Datum) → 0 < length rest → put_in held rest value ≡ Fields (named_of (put_at (fields_in held) rest value))
put_in-cons held [] value h = absurd (omega arith)
put_in-cons held (n ∷ ns) value h = refl

-- the fields under a name that holds fields
pub fields_in-Fields : (held : Option Datum) (fs : List NamedDatum) → held ≡ Some (Fields (named_of fs)) → fields_in held ≡ fs
fields_in-Fields held fs e = ap fields_in e ∙ named_list-named_of fs

-- ---- a path as the code takes it apart
-- the names behind the first, as a slice has them
abbrev pub rest_of : List ByteString → List ByteString
rest_of names = take (length names - 1) (drop 1 names)

pub value_at-more : (fs : List NamedDatum) (names : List ByteString) (name w : ByteString) → 1 ≤ length names → name ≡ get_or names 0 name → w ≡ name → 0 < length (rest_of names) → value_at fs names ≡ value_at (fields_in (value_under fs w)) (rest_of names)
value_at-more fs names name w h e same more =
    ap (value_at fs) (first_and_rest names name h e) ∙ value_at-cons fs name (rest_of names) more ∙ ap (λ n. value_at (fields_in (value_under fs n)) (rest_of names)) (sym same)

pub blocked-more : (fs : List NamedDatum) (names : List ByteString) (name w : ByteString) → 1 ≤ length names → name ≡ get_or names 0 name → w ≡ name → 0 < length (rest_of names) → blocked_names fs names ≡ cond (is_other (value_under fs w)) 1 (one_more (blocked_names (fields_in (value_under fs w)) (rest_of names)))
blocked-more fs names name w h e same more =
    ap (blocked_names fs) (first_and_rest names name h e) ∙ blocked_names-cons fs name (rest_of names) more ∙ ap (λ n. cond (is_other (value_under fs n)) 1 (one_more (blocked_names (fields_in (value_under fs n)) (rest_of names)))) (sym same)

pub put_at-apart : (fs : List NamedDatum) (names : List ByteString) (name w : ByteString) (value : Datum) → 1 ≤ length names → name ≡ get_or names 0 name → w ≡ name → put_at fs names value ≡ with_field fs w (put_in (value_under fs w) (rest_of names) value)
put_at-apart fs names name w value h e same =
    ap (λ ns. put_at fs ns value) (first_and_rest names name h e) ∙ put_at-cons fs name (rest_of names) value ∙ ap (λ n. with_field fs n (put_in (value_under fs n) (rest_of names) value)) (sym same)

-- ---- what blocks a path
-- nothing is under the name
pub blocked-none : (fs : List NamedDatum) (names : List ByteString) (name w : ByteString) → 1 ≤ length names → name ≡ get_or names 0 name → w ≡ name → 0 < length (rest_of names) → None ≡ value_under fs w → 0 ≡ blocked_names fs names
blocked-none fs names name w h e same more none =
    sym (blocked-more fs names name w h e same more ∙ rw (← none, blocked_names-nil) refl)

-- fields are under the name
pub blocked-inside : (fs : List NamedDatum) (names : List ByteString) (name w : ByteString) (inner : List NamedDatum) → 1 ≤ length names → name ≡ get_or names 0 name → w ≡ name → 0 < length (rest_of names) → value_under fs w ≡ Some (Fields (named_of inner)) → blocked_names fs names ≡ one_more (blocked_names inner (rest_of names))
blocked-inside fs names name w inner h e same more held =
    blocked-more fs names name w h e same more ∙ rw (held, named_list-named_of) refl

one_more-zero : (n : ℕ) → one_more n ≡ 0 → n ≡ 0
one_more-zero zero e = refl
one_more-zero (suc n) e = absurd (omega arith)

pub one_more-above : (n : ℕ) → (n ≡ 0 → ⊥) → one_more n ≡ n + 1
one_more-above zero h = absurd (h refl)
one_more-above (suc n) h = omega arith

pub open-inside : (fs : List NamedDatum) (names : List ByteString) (name w : ByteString) (inner : List NamedDatum) → 1 ≤ length names → name ≡ get_or names 0 name → w ≡ name → 0 < length (rest_of names) → value_under fs w ≡ Some (Fields (named_of inner)) → blocked_names fs names ≡ 0 → blocked_names inner (rest_of names) ≡ 0
open-inside fs names name w inner h e same more held open_path =
    one_more-zero (blocked_names inner (rest_of names)) (sym (blocked-inside fs names name w inner h e same more held) ∙ open_path)

only_fields : (v : Value) → is_other (Some (datum_of v)) ≡ false → ((x : List NamedDatum) → v ≡ variant.Fields x → ⊥) → ⊥
only_fields variant.Null e none = grind arith
only_fields (variant.Truth b) e none = grind arith
only_fields (variant.Whole z) e none = grind arith
only_fields (variant.Spelled w) e none = grind arith
only_fields (variant.Words w) e none = grind arith
only_fields (variant.Items ds) e none = grind arith
only_fields (variant.Fields fs) e none = none fs refl

not_other : (b : Bool) (n : ℕ) → cond b 1 n ≡ 0 → b ≡ false
not_other true n e = grind arith
not_other false n e = refl

-- on an open path only fields stand on the way
pub only-fields-open : (fs : List NamedDatum) (names : List ByteString) (name w : ByteString) (v : Value) → 1 ≤ length names → name ≡ get_or names 0 name → w ≡ name → 0 < length (rest_of names) → Some (datum_of v) ≡ value_under fs w → blocked_names fs names ≡ 0 → ((x : List NamedDatum) → v ≡ variant.Fields x → ⊥) → ⊥
only-fields-open fs names name w v h e same more held open_path none =
    only_fields v (not_other _ _ (rw (← held) at (sym (blocked-more fs names name w h e same more) ∙ open_path))) none

-- ---- how deep a value put at a path makes what is there
pub put_in-deep : (held : Option Datum) (rest : List ByteString) (value : Datum) (inner : List NamedDatum) → 0 < length rest → fields_in held ≡ inner → depth (put_in held rest value) ≡ suc (named_depth (named_of (put_at inner rest value)))
put_in-deep held rest value inner more e = ap depth (put_in-cons held rest value more) ∙ ap (λ fs. suc (named_depth (named_of (put_at fs rest value)))) e

pub put_at-deep : (fs : List NamedDatum) (names : List ByteString) (name w : ByteString) (value : Datum) → 1 ≤ length names → name ≡ get_or names 0 name → w ≡ name → IsTrue (names_rise fs) → named_depth (named_of (put_at fs names value)) ≡ max (depth (put_in (value_under fs w) (rest_of names) value)) (others_depth fs w)
put_at-deep fs names name w value h e same rise =
    ap (λ gs. named_depth (named_of gs)) (put_at-apart fs names name w value h e same) ∙ with_depth fs w (put_in (value_under fs w) (rest_of names) value) rise

-- ---- a value put behind a name that holds fields
pub put-inside : (fs : List NamedDatum) (names : List ByteString) (name w : ByteString) (inner new : List NamedDatum) (value : Datum) → 1 ≤ length names → name ≡ get_or names 0 name → w ≡ name → 0 < length (rest_of names) → value_under fs w ≡ Some (Fields (named_of inner)) → new ≡ put_at inner (rest_of names) value → with_field fs w (Fields (named_of new)) ≡ put_at fs names value
put-inside fs names name w inner new value h e same more held put =
    sym (put_at-apart fs names name w value h e same
    ∙ ap (λ d. with_field fs w d) (put_in-cons (value_under fs w) (rest_of names) value more
    ∙ ap (λ gs. Fields (named_of (put_at gs (rest_of names) value))) (fields_in-Fields (value_under fs w) inner held)
    ∙ ap (λ gs. Fields (named_of gs)) (sym put)))

pub on_ok : {T E P Q : Type 0} (r : Result T E) → (P → Q) → OnOk r P → OnOk r Q
on_ok (Ok x) f p = f p
on_ok (Err e) f p = tt
