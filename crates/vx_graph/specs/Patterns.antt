-- Which texts an input means.
use Rattle.std.specs.Prelude.{ℕ, suc, Bool, false, not, ◌&&◌, ◌==◌, List, [], ◌∷◌, if◌then◌else◌}
use Rattle.std.specs.List.{list_any}
use Rattle.vx_value.specs.Texts.{ByteString, is_empty}

-- the byte `*`
abbrev pub star : ℕ
star = 42

-- every end of a text, the whole text among them
abbrev pub ends : ByteString → List ByteString
ends [] = [] ∷ []
ends (c ∷ t) = (c ∷ t) ∷ ends t

-- what follows a first byte
abbrev pub behind : ℕ → ByteString → List ByteString
behind c [] = []
behind c (d ∷ t) = if c == d then t ∷ [] else []

-- whether a text is of a pattern's form, in which each `*` stands for any text
abbrev pub is_like : ByteString → ByteString → Bool
is_like [] t = is_empty t
is_like (c ∷ pattern) t = list_any (is_like pattern) (if c == star then ends t else behind c t)

-- whether a text has a `*`
abbrev pub has_star : ByteString → Bool
has_star t = list_any (λ c. c == star) t

-- how many bytes a pattern and a text share before a `*`
abbrev pub shared : ByteString → ByteString → ℕ
shared [] t = 0
shared (c ∷ p) [] = 0
shared (c ∷ p) (d ∷ t) = if (c == d) && not (c == star) then suc (shared p t) else 0

-- whether some end of a text is of the pattern's form
abbrev pub some_end : ByteString → ByteString → Bool
some_end p t = list_any (is_like p) (ends t)

-- whether a list begins with a byte
abbrev pub starts : ℕ → ByteString → Bool
starts b [] = false
starts b (c ∷ t) = c == b
