-- The code of predicates, by which a proof tells two of them apart.
use Rattle.std.specs.Prelude.{◌≡◌, ◌⊎◌, ℕ, zero, suc, Bool, ℤ, List, refl}
use mathlib.Core.Logic.{inl, inr}
use base.Stored.{coded_unit}
use Rattle.std.specs.Coded.{Coded, code_by, coded_ℕ, coded_ℤ, coded_bool, coded_list, coded×, coded⊎}
use Rattle.vx_condition.specs.declared.comparison.Comparison.{Comparison}
use Rattle.vx_condition.specs.declared.comparison.Comparison.TheVariants.{Less, AtMost, Greater, AtLeast}
use Rattle.vx_condition.specs.declared.literal.Literal.{Literal}
use Rattle.vx_condition.specs.declared.literal.Literal.TheVariants as literal
use Rattle.vx_condition.specs.declared.predicate.Predicate.{Predicate}
use Rattle.vx_condition.specs.declared.predicate.Predicate.TheVariants.{Equal, Different, Compared, Exists, Contains, Matches}

abbrev ByteString : Type 0
ByteString = List ℕ

abbrev coded_word : Coded ByteString
coded_word = coded_list coded_ℕ

abbrev coded_path : Coded (List ByteString)
coded_path = coded_list coded_word

abbrev number_of : Comparison → ℕ
number_of Less = 0
number_of AtMost = 1
number_of Greater = 2
number_of AtLeast = 3

abbrev comparison_at : ℕ → Comparison
comparison_at zero = Less
comparison_at (suc zero) = AtMost
comparison_at (suc (suc zero)) = Greater
comparison_at (suc (suc (suc n))) = AtLeast

pub comparison_at-number_of : (c : Comparison) → comparison_at (number_of c) ≡ c
comparison_at-number_of Less = refl
comparison_at-number_of AtMost = refl
comparison_at-number_of Greater = refl
comparison_at-number_of AtLeast = refl

abbrev coded_comparison : Coded Comparison
coded_comparison = code_by ℕ coded_ℕ number_of comparison_at comparison_at-number_of

abbrev LiteralParts : Type 0
LiteralParts = Unit {0} ⊎ (Bool ⊎ (ℤ ⊎ ByteString))

abbrev literal_parts : Literal → LiteralParts
literal_parts literal.Null = inl tt
literal_parts (literal.Truth b) = inr (inl b)
literal_parts (literal.Whole z) = inr (inr (inl z))
literal_parts (literal.Words w) = inr (inr (inr w))

abbrev literal_at : LiteralParts → Literal
literal_at (inl u) = literal.Null
literal_at (inr (inl b)) = literal.Truth b
literal_at (inr (inr (inl z))) = literal.Whole z
literal_at (inr (inr (inr w))) = literal.Words w

pub literal_at-parts : (l : Literal) → literal_at (literal_parts l) ≡ l
literal_at-parts literal.Null = refl
literal_at-parts (literal.Truth b) = refl
literal_at-parts (literal.Whole z) = refl
literal_at-parts (literal.Words w) = refl

abbrev coded_literal : Coded Literal
coded_literal = code_by LiteralParts (coded⊎ coded_unit (coded⊎ coded_bool (coded⊎ coded_ℤ coded_word))) literal_parts literal_at literal_at-parts

abbrev Parts : Type 0
Parts = (List ByteString × Literal) ⊎ ((List ByteString × Literal) ⊎ ((List ByteString × (Comparison × ℤ)) ⊎ (List ByteString ⊎ ((List ByteString × ByteString) ⊎ (List ByteString × ByteString)))))

abbrev coded_parts : Coded Parts
coded_parts =
    coded⊎ (coded× coded_path coded_literal)
    (coded⊎ (coded× coded_path coded_literal)
    (coded⊎ (coded× coded_path (coded× coded_comparison coded_ℤ))
    (coded⊎ coded_path (coded⊎ (coded× coded_path coded_word) (coded× coded_path coded_word)))))

abbrev parts_of : Predicate → Parts
parts_of (Equal p l) = inl (p, l)
parts_of (Different p l) = inr (inl (p, l))
parts_of (Compared p c z) = inr (inr (inl (p, (c, z))))
parts_of (Exists p) = inr (inr (inr (inl p)))
parts_of (Contains p w) = inr (inr (inr (inr (inl (p, w)))))
parts_of (Matches p q) = inr (inr (inr (inr (inr (p, q)))))

abbrev predicate_at : Parts → Predicate
predicate_at (inl x) = Equal x.0 x.1
predicate_at (inr (inl x)) = Different x.0 x.1
predicate_at (inr (inr (inl x))) = Compared x.0 x.1.0 x.1.1
predicate_at (inr (inr (inr (inl p)))) = Exists p
predicate_at (inr (inr (inr (inr (inl x))))) = Contains x.0 x.1
predicate_at (inr (inr (inr (inr (inr x))))) = Matches x.0 x.1

pub predicate_at-parts : (p : Predicate) → predicate_at (parts_of p) ≡ p
predicate_at-parts (Equal p l) = refl
predicate_at-parts (Different p l) = refl
predicate_at-parts (Compared p c z) = refl
predicate_at-parts (Exists p) = refl
predicate_at-parts (Contains p w) = refl
predicate_at-parts (Matches p q) = refl

abbrev pub coded_predicate : Coded Predicate
coded_predicate = code_by Parts coded_parts parts_of predicate_at predicate_at-parts
