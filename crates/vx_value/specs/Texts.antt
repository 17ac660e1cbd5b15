-- Texts and byte strings, as the lists of their bytes.
use Rattle.std.specs.Prelude.{ℕ, Bool, true, false, List, [], ◌∷◌, ◌==◌, ◌&&◌, ◌||◌, nat_lt}

-- a text or byte string
abbrev pub ByteString : Type 0
ByteString = List ℕ

-- whether two texts are the same
abbrev pub same_text : ByteString → ByteString → Bool
same_text [] [] = true
same_text (a ∷ s) (b ∷ t) = (a == b) && same_text s t
same_text s t = false

-- whether a text comes no later than another by its bytes
abbrev pub text_le : ByteString → ByteString → Bool
text_le [] t = true
text_le (a ∷ s) [] = false
text_le (a ∷ s) (b ∷ t) = nat_lt a b || ((a == b) && text_le s t)

-- whether a text comes before another by its bytes
abbrev pub text_lt : ByteString → ByteString → Bool
text_lt s [] = false
text_lt [] (b ∷ t) = true
text_lt (a ∷ s) (b ∷ t) = nat_lt a b || ((a == b) && text_lt s t)

-- whether a list has nothing in it
abbrev pub is_empty : {X : Type 0} → List X → Bool
is_empty [] = true
is_empty (x ∷ xs) = false
