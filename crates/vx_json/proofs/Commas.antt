-- Values and fields in order, one more at a time.
use Rattle.std.proofs.Common.{◌≡◌, ℕ, zero, suc, ◌<◌, ◌+◌, List, [], ◌∷◌, ◌++◌, map, take, length, get_or, arith, sym, ap, ◌∙◌, append_assoc, add-one}
use Rattle.vx_value.specs.declared.value.Value.{Value}
use Rattle.vx_value.specs.declared.field.Field.{Field}
use Rattle.vx_value.specs.Datum.{data_of, named_of}
use Rattle.vx_value.specs.Values.{datum_of, named_datum}
use Rattle.vx_value.specs.Texts.{ByteString}
use Rattle.vx_json.specs.Written.{written, separator, items_written, fields_written}

-- what is written of values, of fields, and of one field
abbrev of_values : List Value → ByteString
of_values xs = items_written (data_of (map datum_of xs))

abbrev of_fields : List Field → ByteString
of_fields fs = fields_written (named_of (map named_datum fs))

regroup : (a b c d : ByteString) → a ++ 44 ∷ ((b ++ c) ++ d) ≡ ((a ++ 44 ∷ b) ++ c) ++ d
regroup a b c d = simp append_assoc

-- one value more
pub items-more : (xs : List Value) (i : ℕ) (x : Value) → i < length xs → x ≡ get_or xs i x → of_values (take (i + 1) xs) ≡ of_values (take i xs) ++ separator i ++ written (datum_of x)
items-more [] i x h e = absurd (omega arith)
items-more (y ∷ xs) zero x h e = ap (λ v. written (datum_of v)) (sym e)
items-more (y ∷ []) (suc i) x h e = absurd (omega arith)
items-more (y ∷ z ∷ xs) (suc zero) x h e =
    ap (λ w. written (datum_of y) ++ 44 ∷ w) (items-more (z ∷ xs) zero x (omega arith) e) ∙ sym (append_assoc (written (datum_of y)) (44 ∷ []) (written (datum_of x)))
items-more (y ∷ z ∷ xs) (suc (suc i)) x h e =
    let later : of_values (take (suc i + 1) (z ∷ xs)) ≡ of_values (take (suc i) (z ∷ xs)) ++ separator (suc i) ++ written (datum_of x) = items-more (z ∷ xs) (suc i) x (omega arith) e in
    rw add-one (ap (λ w. written (datum_of y) ++ 44 ∷ w) (rw add-one at later) ∙ regroup (written (datum_of y)) (of_values (take (suc i) (z ∷ xs))) (44 ∷ []) (written (datum_of x)))

-- one field more
pub fields-more : (fs : List Field) (i : ℕ) (f : Field) → i < length fs → f ≡ get_or fs i f → of_fields (take (i + 1) fs) ≡ of_fields (take i fs) ++ separator i ++ of_fields (f ∷ [])
fields-more [] i f h e = absurd (omega arith)
fields-more (g ∷ fs) zero f h e = ap (λ v. of_fields (v ∷ [])) (sym e)
fields-more (g ∷ []) (suc i) f h e = absurd (omega arith)
fields-more (g ∷ k ∷ fs) (suc zero) f h e =
    ap (λ w. of_fields (g ∷ []) ++ 44 ∷ w) (fields-more (k ∷ fs) zero f (omega arith) e) ∙ sym (append_assoc (of_fields (g ∷ [])) (44 ∷ []) (of_fields (f ∷ [])))
fields-more (g ∷ k ∷ fs) (suc (suc i)) f h e =
    let later : of_fields (take (suc i + 1) (k ∷ fs)) ≡ of_fields (take (suc i) (k ∷ fs)) ++ separator (suc i) ++ of_fields (f ∷ []) = fields-more (k ∷ fs) (suc i) f (omega arith) e in
    rw add-one (ap (λ w. of_fields (g ∷ []) ++ 44 ∷ w) (rw add-one at later) ∙ regroup (of_fields (g ∷ [])) (of_fields (take (suc i) (k ∷ fs))) (44 ∷ []) (of_fields (f ∷ [])))

-- what a loop has written, one step further
pub step : (old : ByteString) (opening : ℕ) (before more mark rest : ByteString) → more ≡ before ++ mark ++ rest → ((old ++ opening ∷ before) ++ mark) ++ rest ≡ old ++ opening ∷ more
step old opening before more mark rest e = rw e (simp append_assoc)
