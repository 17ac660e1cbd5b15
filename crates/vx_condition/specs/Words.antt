-- The letters of the words of the grammar.
use Rattle.std.specs.Prelude.{ℕ, List, codes}
use Rattle.vx_condition.specs.declared.fixed_word.FixedWord.{FixedWord}
use Rattle.vx_condition.specs.declared.fixed_word.FixedWord.TheVariants.{Exists, Contains, Match, And, Or, Equals, Differs, True, False, Null}

abbrev pub letters_of : FixedWord → List ℕ
letters_of Exists = codes "exists"
letters_of Contains = codes "contains"
letters_of Match = codes "match"
letters_of And = codes "&&"
letters_of Or = codes "||"
letters_of Equals = codes "=="
letters_of Differs = codes "!="
letters_of True = codes "true"
letters_of False = codes "false"
letters_of Null = codes "null"
