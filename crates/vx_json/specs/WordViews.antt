-- What the places inside the words of JSON stand for.
use Rattle.std.specs.Prelude.{ℕ, true, false, codes}
use Rattle.vx_value.specs.Texts.{ByteString}
use Rattle.vx_value.specs.Datum.{Datum, Null, Truth}
use Rattle.vx_json.specs.declared.word_place.WordPlace.{WordPlace}
use Rattle.vx_json.specs.declared.word_place.WordPlace.TheVariants as word

-- what is left of the word
abbrev pub word_rest : WordPlace → ByteString
word_rest word.N = codes "ull"
word_rest word.Nu = codes "ll"
word_rest word.Nul = codes "l"
word_rest word.T = codes "rue"
word_rest word.Tr = codes "ue"
word_rest word.Tru = codes "e"
word_rest word.F = codes "alse"
word_rest word.Fa = codes "lse"
word_rest word.Fal = codes "se"
word_rest word.Fals = codes "e"

-- the value of the word
abbrev pub word_datum : WordPlace → Datum
word_datum word.N = Null
word_datum word.Nu = Null
word_datum word.Nul = Null
word_datum word.T = Truth true
word_datum word.Tr = Truth true
word_datum word.Tru = Truth true
word_datum word.F = Truth false
word_datum word.Fa = Truth false
word_datum word.Fal = Truth false
word_datum word.Fals = Truth false

-- the byte that has to come
abbrev pub word_first : WordPlace → ℕ
word_first word.N = 117
word_first word.Nu = 108
word_first word.Nul = 108
word_first word.T = 114
word_first word.Tr = 117
word_first word.Tru = 101
word_first word.F = 97
word_first word.Fa = 108
word_first word.Fal = 115
word_first word.Fals = 101
