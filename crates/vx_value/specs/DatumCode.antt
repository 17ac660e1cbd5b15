-- The code of values, by which a proof tells two of them apart.
use Rattle.std.specs.Prelude.{◌≡◌, ℕ, zero, suc, Bool, true, false, ℤ, pos, negsuc, List, [], ◌∷◌, refl}
use mathlib.Core.Path.{ap}
use Rattle.std.specs.Coded.{Coded, code_by}
use base.Stored.{Gv, gnil, gnum, gcons}
use Rattle.vx_value.specs.Datum.{Datum, Null, Truth, Whole, Spelled, Words, Items, Fields, Data, no_data, datum, NamedData, no_named, named, NamedDatum}

abbrev number_at : Gv → ℕ
number_at gnil = 0
number_at (gnum n) = n
number_at (gcons a b) = 0

abbrev code_word : List ℕ → Gv
code_word [] = gnil
code_word (x ∷ xs) = gcons (gnum x) (code_word xs)

abbrev word_at : Gv → List ℕ
word_at gnil = []
word_at (gnum n) = []
word_at (gcons a b) = number_at a ∷ word_at b

pub word_at-code_word : (w : List ℕ) → word_at (code_word w) ≡ w
word_at-code_word [] = refl
word_at-code_word (x ∷ xs) = ap (λ w. x ∷ w) (word_at-code_word xs)

abbrev code_truth : Bool → Gv
code_truth false = gnil
code_truth true = gnum 1

abbrev truth_at : Gv → Bool
truth_at gnil = false
truth_at (gnum n) = true
truth_at (gcons a b) = true

truth_at-code_truth : (b : Bool) → truth_at (code_truth b) ≡ b
truth_at-code_truth false = refl
truth_at-code_truth true = refl

abbrev code_whole : ℤ → Gv
code_whole (pos n) = gnum n
code_whole (negsuc n) = gcons gnil (gnum n)

abbrev whole_at : Gv → ℤ
whole_at gnil = pos 0
whole_at (gnum n) = pos n
whole_at (gcons a b) = negsuc (number_at b)

whole_at-code_whole : (z : ℤ) → whole_at (code_whole z) ≡ z
whole_at-code_whole (pos n) = refl
whole_at-code_whole (negsuc n) = refl

abbrev mutual
  code_datum : Datum → Gv
  code_datum Null = gcons (gnum 0) gnil
  code_datum (Truth b) = gcons (gnum 1) (code_truth b)
  code_datum (Whole z) = gcons (gnum 2) (code_whole z)
  code_datum (Spelled w) = gcons (gnum 3) (code_word w)
  code_datum (Words w) = gcons (gnum 4) (code_word w)
  code_datum (Items ds) = gcons (gnum 5) (code_data ds)
  code_datum (Fields ns) = gcons (gnum 6) (code_named ns)

  code_data : Data → Gv
  code_data no_data = gnil
  code_data (datum d ds) = gcons (code_datum d) (code_data ds)

  code_named : NamedData → Gv
  code_named no_named = gnil
  code_named (named n d ns) = gcons (gcons (code_word n) (code_datum d)) (code_named ns)

-- the datum of a kind, over what its body may hold
abbrev of_kind : ℕ → Gv → Data → NamedData → Datum
of_kind zero body ds ns = Null
of_kind (suc zero) body ds ns = Truth (truth_at body)
of_kind (suc (suc zero)) body ds ns = Whole (whole_at body)
of_kind (suc (suc (suc zero))) body ds ns = Spelled (word_at body)
of_kind (suc (suc (suc (suc zero)))) body ds ns = Words (word_at body)
of_kind (suc (suc (suc (suc (suc zero))))) body ds ns = Items ds
of_kind (suc (suc (suc (suc (suc (suc k)))))) body ds ns = Fields ns

abbrev mutual
  datum_at : Gv → Datum
  datum_at gnil = Null
  datum_at (gnum n) = Null
  datum_at (gcons kind body) = of_kind (number_at kind) body (data_at body) (named_at body)

  data_at : Gv → Data
  data_at gnil = no_data
  data_at (gnum n) = no_data
  data_at (gcons a b) = datum (datum_at a) (data_at b)

  named_at : Gv → NamedData
  named_at gnil = no_named
  named_at (gnum n) = no_named
  named_at (gcons gnil b) = no_named
  named_at (gcons (gnum n) b) = no_named
  named_at (gcons (gcons n d) b) = named (word_at n) (datum_at d) (named_at b)

mutual
  pub datum_at-code : (d : Datum) → datum_at (code_datum d) ≡ d
  datum_at-code Null = refl
  datum_at-code (Truth b) = ap Truth (truth_at-code_truth b)
  datum_at-code (Whole z) = ap Whole (whole_at-code_whole z)
  datum_at-code (Spelled w) = ap Spelled (word_at-code_word w)
  datum_at-code (Words w) = ap Words (word_at-code_word w)
  datum_at-code (Items ds) = ap Items (data_at-code ds)
  datum_at-code (Fields ns) = ap Fields (named_at-code ns)

  data_at-code : (ds : Data) → data_at (code_data ds) ≡ ds
  data_at-code no_data = refl
  data_at-code (datum d ds) = λ i. datum (datum_at-code d i) (data_at-code ds i)

  named_at-code : (ns : NamedData) → named_at (code_named ns) ≡ ns
  named_at-code no_named = refl
  named_at-code (named n d ns) = λ i. named (word_at-code_word n i) (datum_at-code d i) (named_at-code ns i)

abbrev pub coded_datum : Coded Datum
coded_datum = code_by Gv (record { code = λ g. g; inj = λ x y p. p }) code_datum datum_at datum_at-code

abbrev pub coded_named : Coded NamedDatum
coded_named =
    code_by Gv (record { code = λ g. g; inj = λ x y p. p }) (λ e. gcons (code_word e.name) (code_datum e.value))
    (λ g. name_and_value g) (λ e. λ i. record { name = word_at-code_word e.name i; value = datum_at-code e.value i })
  where
    name_and_value : Gv → NamedDatum
    name_and_value gnil = record { name = []; value = Null }
    name_and_value (gnum n) = record { name = []; value = Null }
    name_and_value (gcons a b) = record { name = word_at a; value = datum_at b }
