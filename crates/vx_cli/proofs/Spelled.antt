-- How the words of a command are spelled, and lists of words that are none.
use Rattle.std.proofs.Common.{◌≡◌, ◌≢◌, ℕ, ◌==◌, ap, subst, refl, Bool, true, false, List, [], ◌∷◌, ◌++◌, codes, arith}
use Rattle.std.proofs.lemmas.Bool.Decides.{nat_tests}
use Rattle.clap.specs.Words.{App, Kinds, fault_of}
use Rattle.clap.proofs.OnLiterals.{clap_on_literals}
use Rattle.vx_value.specs.Texts.{ByteString}
use Rattle.vx_cli.specs.Commands.{HasValue, IsCommand, IsNoCommand, IsTaken, IsValidate, NamesValidate, has_once, has_stats}
use Rattle.vx_cli.specs.Grammars.{run_grammar, validate_grammar}
use Rattle.vx_cli.specs.Spellings.{IsPlain}
use Rattle.vx_cli.specs.declared.command.Command.TheVariants.{Run, Validate}

-- two numbers are apart by the test
apart : (a b : ℕ) → (a ≡ b → ⊥) → (a == b) ≡ false
apart a b h = grind (arith, nat_tests)

-- a plain word's first byte is no hyphen
no_hyphen : (b : ℕ) (word : ByteString) → IsPlain (b ∷ word) → (b == 45) ≡ false
no_hyphen b word plain = apart b 45 (λ e. plain word (ap (λ x. x ∷ word) e))

-- the first byte of the first word
abbrev pub first_byte : List ByteString → ℕ
first_byte [] = 0
first_byte ([] ∷ ws) = 0
first_byte ((b ∷ w) ∷ ws) = b

-- words that begin with another byte than `validate` don't name it
unnamed : (words : List ByteString) → (first_byte words == 118) ≡ false → (rest : List ByteString) → NamesValidate words rest → ⊥
unnamed words other rest e =
    let same : first_byte words ≡ 118 = ap first_byte e in
    let P : ℕ → Type 0 = λ n. (n == 118) ≡ false in
    let bad : true ≡ false = subst P same other in cc

-- what a run needs
pub run_of : (words : List ByteString) (file : ByteString) (once stats : Bool) → (first_byte words == 118) ≡ false → IsTaken run_grammar words
    → HasValue run_grammar words (codes "config") file → has_once words ≡ once → has_stats words ≡ stats → IsCommand words (Run file once stats)
run_of words file once stats other taken value ends asked = (record { unnamed = unnamed words other; taken = taken; config = value }, (ends, asked))

-- what a judging needs
pub validate_of : (rest : List ByteString) (file : ByteString) → IsTaken validate_grammar rest
    → HasValue validate_grammar rest (codes "path") file → IsValidate (codes "validate" ∷ rest) file
validate_of rest file taken value = record { rest = rest; named = refl; taken = taken; path = value }

-- ---- files

pub long : (file : ByteString) → IsPlain file → IsCommand (codes "--config" ∷ file ∷ []) (Run file false false)
unfolding clap_on_literals
long [] plain = run_of _ _ false false refl refl refl refl refl
long (b ∷ word) plain = let other = no_hyphen b word plain in run_of _ _ false false refl (simp other) (simp other) (simp other) (simp other)

pub long_sign : (file : ByteString) → IsCommand ((codes "--config=" ++ file) ∷ []) (Run file false false)
unfolding clap_on_literals
long_sign file = run_of _ file false false refl refl refl refl refl

pub short : (file : ByteString) → IsPlain file → IsCommand (codes "-c" ∷ file ∷ []) (Run file false false)
unfolding clap_on_literals
short [] plain = run_of _ _ false false refl refl refl refl refl
short (b ∷ word) plain = let other = no_hyphen b word plain in run_of _ _ false false refl (simp other) (simp other) (simp other) (simp other)

pub short_sign : (file : ByteString) → IsCommand ((codes "-c=" ++ file) ∷ []) (Run file false false)
unfolding clap_on_literals
short_sign file = run_of _ file false false refl refl refl refl refl

pub short_at_once : (b : ℕ) (rest : ByteString) → b ≢ 61 → IsCommand ((codes "-c" ++ b ∷ rest) ∷ []) (Run (b ∷ rest) false false)
unfolding clap_on_literals
short_at_once b rest other = run_of _ _ false false refl (simp (apart b 61 other)) (simp (apart b 61 other)) (simp (apart b 61 other)) (simp (apart b 61 other))

pub stats : (file : ByteString) → IsCommand ((codes "--config=" ++ file) ∷ codes "--stats" ∷ []) (Run file false true)
unfolding clap_on_literals
stats file = run_of _ file false true refl refl refl refl refl

pub stats_first : (file : ByteString) → IsCommand (codes "--stats" ∷ (codes "--config=" ++ file) ∷ []) (Run file false true)
unfolding clap_on_literals
stats_first file = run_of _ file false true refl refl refl refl refl

pub once : (file : ByteString) → IsCommand ((codes "--config=" ++ file) ∷ codes "--once" ∷ []) (Run file true false)
unfolding clap_on_literals
once file = run_of _ file true false refl refl refl refl refl

pub once_first : (file : ByteString) → IsCommand (codes "--once" ∷ (codes "--config=" ++ file) ∷ []) (Run file true false)
unfolding clap_on_literals
once_first file = run_of _ file true false refl refl refl refl refl

pub once_and_stats : (file : ByteString) → IsCommand (codes "--stats" ∷ (codes "--config=" ++ file) ∷ codes "--once" ∷ []) (Run file true true)
unfolding clap_on_literals
once_and_stats file = run_of _ file true true refl refl refl refl refl

pub validate : (file : ByteString) → IsPlain file → IsCommand (codes "validate" ∷ file ∷ []) (Validate file)
unfolding clap_on_literals
validate [] plain = validate_of _ _ refl refl
validate (b ∷ word) plain = validate_of _ _ (simp (no_hyphen b word plain)) (simp (no_hyphen b word plain))

pub behind_dashes : (file : ByteString) → IsCommand (codes "validate" ∷ codes "--" ∷ file ∷ []) (Validate file)
unfolding clap_on_literals
behind_dashes file = validate_of _ file refl refl

-- ---- refusals

-- whether there is a fault
abbrev pub is_faulty : Kinds → Bool
is_faulty [] = false
is_faulty (k ∷ ks) = true

not_taken : (grammar : App) (words : List ByteString) → is_faulty (fault_of grammar words) ≡ true → IsTaken grammar words → ⊥
not_taken grammar words faulty taken =
    let P : Kinds → Type 0 = λ ks. is_faulty ks ≡ true in
    let bad : false ≡ true = subst P taken faulty in cc

pub no_run : (words : List ByteString) → (first_byte words == 118) ≡ false → is_faulty (fault_of run_grammar words) ≡ true → IsNoCommand words
no_run words other faulty = record {
  run = λ _. not_taken run_grammar words faulty;
  validate = λ rest named _. unnamed words other rest named;
}

pub no_validate : (rest : List ByteString) → is_faulty (fault_of validate_grammar rest) ≡ true → IsNoCommand (codes "validate" ∷ rest)
no_validate rest faulty = record {
  run = λ unnamed _. unnamed rest refl;
  validate = λ others named taken.
      let same : others ≡ rest = cc (named) in
      not_taken validate_grammar rest faulty (subst (λ (words : List ByteString). IsTaken validate_grammar words) same taken);
}

pub none : IsNoCommand []
unfolding clap_on_literals
none = no_run [] refl refl

pub long_alone : IsNoCommand (codes "--config" ∷ [])
unfolding clap_on_literals
long_alone = no_run _ refl refl

pub short_alone : IsNoCommand (codes "-c" ∷ [])
unfolding clap_on_literals
short_alone = no_run _ refl refl

pub option_as_file : IsNoCommand (codes "--config" ∷ codes "--config" ∷ [])
unfolding clap_on_literals
option_as_file = no_run _ refl refl

pub twice : (file other : ByteString) → IsNoCommand ((codes "--config=" ++ file) ∷ (codes "--config=" ++ other) ∷ [])
unfolding clap_on_literals
twice file other = no_run _ refl refl

pub twice_short : (file other : ByteString) → IsNoCommand ((codes "--config=" ++ file) ∷ (codes "-c=" ++ other) ∷ [])
unfolding clap_on_literals
twice_short file other = no_run _ refl refl

pub stats_alone : IsNoCommand (codes "--stats" ∷ [])
unfolding clap_on_literals
stats_alone = no_run _ refl refl

pub stats_twice : (file : ByteString) → IsNoCommand (codes "--stats" ∷ codes "--stats" ∷ (codes "--config=" ++ file) ∷ [])
unfolding clap_on_literals
stats_twice file = no_run _ refl refl

pub stats_value : (file value : ByteString) → IsNoCommand ((codes "--stats=" ++ value) ∷ (codes "--config=" ++ file) ∷ [])
unfolding clap_on_literals
stats_value file value = no_run _ refl refl

pub once_alone : IsNoCommand (codes "--once" ∷ [])
unfolding clap_on_literals
once_alone = no_run _ refl refl

pub once_twice : (file : ByteString) → IsNoCommand (codes "--once" ∷ codes "--once" ∷ (codes "--config=" ++ file) ∷ [])
unfolding clap_on_literals
once_twice file = no_run _ refl refl

pub once_value : (file value : ByteString) → IsNoCommand ((codes "--once=" ++ value) ∷ (codes "--config=" ++ file) ∷ [])
unfolding clap_on_literals
once_value file value = no_run _ refl refl

pub more : (file word : ByteString) → IsPlain word → IsNoCommand ((codes "--config=" ++ file) ∷ word ∷ [])
unfolding clap_on_literals
more file [] plain = no_run _ refl refl
more file (b ∷ word) plain = no_run _ refl (simp (no_hyphen b word plain))

pub validate_alone : IsNoCommand (codes "validate" ∷ [])
unfolding clap_on_literals
validate_alone = no_validate [] refl

pub validate_two : (file word : ByteString) → IsPlain file → IsPlain word → IsNoCommand (codes "validate" ∷ file ∷ word ∷ [])
unfolding clap_on_literals
validate_two [] [] p q = no_validate _ refl
validate_two [] (b ∷ word) p q = no_validate _ (simp (no_hyphen b word q))
validate_two (a ∷ file) [] p q = no_validate _ (simp (no_hyphen a file p))
validate_two (a ∷ file) (b ∷ word) p q = no_validate _ (simp (no_hyphen a file p, no_hyphen b word q))

pub validate_option : (file : ByteString) → IsNoCommand (codes "validate" ∷ (codes "--config=" ++ file) ∷ [])
unfolding clap_on_literals
validate_option file = no_validate _ refl

pub help : IsNoCommand (codes "--help" ∷ []) × IsNoCommand (codes "-h" ∷ [])
unfolding clap_on_literals
help = (no_run _ refl refl, no_run _ refl refl)

pub version : IsNoCommand (codes "--version" ∷ []) × IsNoCommand (codes "-V" ∷ [])
unfolding clap_on_literals
version = (no_run _ refl refl, no_run _ refl refl)
