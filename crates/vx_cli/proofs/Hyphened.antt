-- Words that begin with a hyphen and have more behind it are no files in words of their own.
use Rattle.std.proofs.Common.{◌≡◌, ◌≢◌, ◌∙◌, ℕ, ◌==◌, ◌||◌, ap, sym, subst, refl, cond, Bool, true, false, List, [], ◌∷◌, ◌++◌, Option, Some, None, codes, arith}
use Rattle.std.specs.Prelude.{slice_get}
use Rattle.std.specs.Str.{IsUtf8, bytes_eq, chars, encode_utf8_all}
use Rattle.std.proofs.lemmas.Bool.Decides.{nat_tests}
use Rattle.std.proofs.lemmas.Str.{encode_ascii, encodes-chars}
use Rattle.clap.specs.Words.{Kinds, fault_of}
use Rattle.clap.specs.Kinds.{or_else}
use Rattle.clap.specs.Lexer.{name_and_value}
use Rattle.clap.specs.Walk.{Held, Rule, Text, Walk, arg_by_long, arg_by_short, attached_value, option, walk_from, nothing_held, walked}
use Rattle.clap.specs.Simple.{Shape, built, filled, with_index}
use Rattle.clap.specs.Faults.{bundle_fault, bundle_step_fault, flags_fault, long_fault, option_fault, short_fault, turn_fault, walk_fault, word_fault}
use Rattle.clap.proofs.OnLiterals.{clap_on_literals}
use Rattle.vx_value.specs.Texts.{ByteString}
use Rattle.vx_cli.specs.Commands.{IsCommand, IsNoCommand}
use Rattle.vx_cli.specs.Grammars.{config_option, once_flag, run_grammar, stats_flag, validate_grammar}
use Rattle.vx_cli.specs.Spellings.{IsHyphened}
use Rattle.vx_cli.specs.declared.command.Command.TheVariants.{Run, Validate}
use Rattle.vx_cli.proofs.Spelled.{first_byte, is_faulty, no_run, no_validate, run_of, validate_of}

-- ---- kinds of faults, one after the other

first : (a b : Kinds) → is_faulty a ≡ true → is_faulty (or_else a b) ≡ true
first [] b f = cc
first (k ∷ ks) b f = refl

second : (a b c d : Kinds) → is_faulty b ≡ true → is_faulty (or_else (or_else a (or_else b c)) d) ≡ true
second (k ∷ ks) b c d f = refl
second [] (k ∷ ks) c d f = refl
second [] [] c d f = cc

-- ---- the first character of a text

begins : (b : ℕ) (rest : ByteString) → IsUtf8 (45 ∷ b ∷ rest) → chars (b ∷ rest) ≡ [] → ⊥
unfolding chars
begins b rest u none =
    let alone : chars (45 ∷ b ∷ rest) ≡ 45 ∷ [] = ap (λ cs. 45 ∷ cs) none in
    let spelt : encode_utf8_all (45 ∷ []) ≡ 45 ∷ b ∷ rest =
    subst (λ cs. encode_utf8_all cs ≡ 45 ∷ b ∷ rest) alone (encodes-chars (45 ∷ b ∷ rest) u) in
    let one : encode_utf8_all (45 ∷ []) ≡ 45 ∷ [] = ap (λ bs. bs ++ []) (encode_ascii 45 (omega arith)) in
    let bad : 45 ∷ [] ≡ 45 ∷ b ∷ rest = sym one ∙ spelt in cc

-- ---- the option that waits for its value

abbrev top : Shape
top = (built run_grammar).top

abbrev config : List Rule
config = top.rules

abbrev config_rule : Rule
config_rule = with_index 1 (filled config_option)

abbrev once_rule : Rule
once_rule = with_index 1 (filled once_flag)

abbrev stats_rule : Rule
stats_rule = with_index 1 (filled stats_flag)

-- nothing was read but the option
abbrev waiting : Held
waiting = record { rows = []; pending = Some (codes "config", []); skip = 0 }

option_faulty : (a : Rule) (v : Option Text) → is_faulty (option_fault config false a v waiting) ≡ true
option_faulty a None = refl
option_faulty a (Some v) = refl

stats_known : (t : Bool) (v : Option Text) → is_faulty (long_fault config false (cond t (Some stats_rule) None) v waiting) ≡ true
stats_known false v = refl
stats_known true None = option_faulty stats_rule None
stats_known true (Some w) = refl

once_known : (o t : Bool) (v : Option Text) → is_faulty (long_fault config false (cond o (Some once_rule) (cond t (Some stats_rule) None)) v waiting) ≡ true
once_known false t v = stats_known t v
once_known true t None = option_faulty once_rule None
once_known true t (Some w) = refl

option_known : (s o t : Bool) (v : Option Text) → is_faulty (long_fault config false (cond s (Some config_rule) (cond o (Some once_rule) (cond t (Some stats_rule) None))) v waiting) ≡ true
option_known true o t v = option_faulty config_rule v
option_known false o t v = once_known o t v

long_faulty : (name : Text) (v : Option Text) → is_faulty (long_fault config false (arg_by_long config name) v waiting) ≡ true
long_faulty name v = option_known (bytes_eq (codes "config") name || false) (bytes_eq (codes "once") name || false) (bytes_eq (codes "stats") name || false) v

short_known : (t : Bool) (left : Text) (next : Held → Kinds) → is_faulty (short_fault config false (cond t (Some config_rule) None) left waiting next) ≡ true
short_known false left next = refl
short_known true left next = option_faulty config_rule (attached_value left)

short_faulty : (c : ℕ) (left : Text) (next : Held → Kinds) → is_faulty (short_fault config false (arg_by_short config c) left waiting next) ≡ true
short_faulty c left next = short_known ((99 == c) || false) left next

-- ---- a bundle of short options

bundle_begins : (cs : List ℕ) (flags : Text) (next : Text → ℕ → Held → Kinds) → (cs ≡ [] → ⊥)
    → is_faulty (bundle_step_fault config false (slice_get cs 0) flags 0 waiting next) ≡ true
bundle_begins [] flags next some = absurd (some refl)
bundle_begins (c ∷ cs) flags next some = short_faulty c _ _

bundle_faulty : (b : ℕ) (rest : ByteString) → IsUtf8 (45 ∷ b ∷ rest) → is_faulty (bundle_fault config false (b ∷ rest) waiting) ≡ true
unfolding flags_fault
bundle_faulty b rest u = bundle_begins (chars (b ∷ rest)) (b ∷ rest) _ (begins b rest u)

-- ---- words behind the option

abbrev before : Walk
before = record { held = waiting; waiting = option (codes "config"); position = 1; is_trailing = false; stopped = None }

turn : (word : ByteString) → is_faulty (word_fault top [] false before.waiting word waiting) ≡ true → is_faulty (turn_fault top [] before word) ≡ true
turn word f = first (word_fault top [] false before.waiting word waiting) _ f

long_word : (b : ℕ) (rest : ByteString) → is_faulty (word_fault top [] false before.waiting (45 ∷ 45 ∷ b ∷ rest) waiting) ≡ true
long_word b rest = long_faulty (name_and_value (b ∷ rest)).0 (name_and_value (b ∷ rest)).1

short_word : (b : ℕ) (rest : ByteString) → (b == 45) ≡ false → IsUtf8 (45 ∷ b ∷ rest)
    → is_faulty (word_fault top [] false before.waiting (45 ∷ b ∷ rest) waiting) ≡ true
short_word b rest other u = rw (other) (rw (other) (bundle_faulty b rest u))

long_turn : (b : ℕ) (rest : ByteString) → is_faulty (turn_fault top [] before (45 ∷ 45 ∷ b ∷ rest)) ≡ true
long_turn b rest = turn (45 ∷ 45 ∷ b ∷ rest) (long_word b rest)

short_turn : (b : ℕ) (rest : ByteString) → (b == 45) ≡ false → IsUtf8 (45 ∷ b ∷ rest) → is_faulty (turn_fault top [] before (45 ∷ b ∷ rest)) ≡ true
short_turn b rest other u = turn (45 ∷ b ∷ rest) (short_word b rest other u)

-- ---- the words of a run

behind : (start word : ByteString) (rest : List ByteString) → walked config [] (walk_from nothing_held) start ≡ before
    → is_faulty (turn_fault top [] before word) ≡ true → is_faulty (fault_of run_grammar (start ∷ word ∷ rest)) ≡ true
unfolding walk_fault
behind start word rest same f =
    second _ _ _ _ (subst (λ (w : Walk). is_faulty (turn_fault top [] w word) ≡ true) (sym same) f)

hyphen : (b : ℕ) → (b == 45) ≡ true → b ≡ 45
hyphen b e = grind (arith, nat_tests)

-- whether words behind an option give a fault
abbrev Refused : ByteString → ByteString → List ByteString → Type 0
Refused start word rest = is_faulty (fault_of run_grammar (start ∷ word ∷ rest)) ≡ true

by_test : (start : ByteString) → walked config [] (walk_from nothing_held) start ≡ before → ((rest : List ByteString) → Refused start (codes "--") rest)
    → (t : Bool) (b : ℕ) (w : ByteString) (rest : List ByteString) → (b == 45) ≡ t → IsUtf8 (45 ∷ b ∷ w) → Refused start (45 ∷ b ∷ w) rest
by_test start same dashes false b w rest e u = behind start (45 ∷ b ∷ w) rest same (short_turn b w e u)
by_test start same dashes true b [] rest e u =
    subst (λ x. Refused start (45 ∷ x ∷ []) rest) (sym (hyphen b e)) (dashes rest)
by_test start same dashes true b (c ∷ w) rest e u =
    subst (λ x. Refused start (45 ∷ x ∷ c ∷ w) rest) (sym (hyphen b e)) (behind start (45 ∷ 45 ∷ c ∷ w) rest same (long_turn c w))

long_dashes : (rest : List ByteString) → Refused (codes "--config") (codes "--") rest
unfolding clap_on_literals
long_dashes [] = refl
long_dashes (w ∷ rest) = refl

short_dashes : (rest : List ByteString) → Refused (codes "-c") (codes "--") rest
unfolding clap_on_literals
short_dashes [] = refl
short_dashes (w ∷ rest) = refl

long_before : walked config [] (walk_from nothing_held) (codes "--config") ≡ before
unfolding clap_on_literals
long_before = refl

short_before : walked config [] (walk_from nothing_held) (codes "-c") ≡ before
unfolding clap_on_literals
short_before = refl

hyphened : (start : ByteString) → walked config [] (walk_from nothing_held) start ≡ before → ((rest : List ByteString) → Refused start (codes "--") rest)
    → ((words : List ByteString) → (first_byte (start ∷ words) == 118) ≡ false)
    → (word : ByteString) (rest : List ByteString) → IsUtf8 word → IsHyphened word → IsNoCommand (start ∷ word ∷ rest)
hyphened start same dashes other [] rest u h = absurd h
hyphened start same dashes other (a ∷ []) rest u h = absurd h
hyphened start same dashes other (a ∷ b ∷ w) rest u h =
    let utf8 : IsUtf8 (45 ∷ b ∷ w) = subst (λ x. IsUtf8 (x ∷ b ∷ w)) h u in
    subst (λ x. IsNoCommand (start ∷ (x ∷ b ∷ w) ∷ rest)) (sym h)
    (no_run (start ∷ (45 ∷ b ∷ w) ∷ rest) (other ((45 ∷ b ∷ w) ∷ rest)) (by_test start same dashes (b == 45) b w rest refl utf8))

pub long_hyphened : (word : ByteString) (rest : List ByteString) → IsUtf8 word → IsHyphened word → IsNoCommand (codes "--config" ∷ word ∷ rest)
long_hyphened = hyphened (codes "--config") long_before long_dashes (λ words. refl)

pub short_hyphened : (word : ByteString) (rest : List ByteString) → IsUtf8 word → IsHyphened word → IsNoCommand (codes "-c" ∷ word ∷ rest)
short_hyphened = hyphened (codes "-c") short_before short_dashes (λ words. refl)

-- ---- the words of a judgement

abbrev judging : Shape
judging = (built validate_grammar).top

abbrev start : Walk
start = walk_from nothing_held

at_once : (word : ByteString) (rest : List ByteString) → is_faulty (word_fault judging [] false start.waiting word nothing_held) ≡ true
    → is_faulty (fault_of validate_grammar (word ∷ rest)) ≡ true
unfolding walk_fault
at_once word rest f = first _ _ (first _ _ (first (word_fault judging [] false start.waiting word nothing_held) _ f))

long_at_once : (b : ℕ) (rest : ByteString) → is_faulty (word_fault judging [] false start.waiting (45 ∷ 45 ∷ b ∷ rest) nothing_held) ≡ true
long_at_once b rest = refl

unknown : (cs : List ℕ) (flags : Text) (next : Text → ℕ → Held → Kinds) → (cs ≡ [] → ⊥)
    → is_faulty (bundle_step_fault judging.rules false (slice_get cs 0) flags 0 nothing_held next) ≡ true
unknown [] flags next some = absurd (some refl)
unknown (c ∷ cs) flags next some = refl

bundle_at_once : (b : ℕ) (rest : ByteString) → IsUtf8 (45 ∷ b ∷ rest) → is_faulty (bundle_fault judging.rules false (b ∷ rest) nothing_held) ≡ true
unfolding flags_fault
bundle_at_once b rest u = unknown (chars (b ∷ rest)) (b ∷ rest) _ (begins b rest u)

short_at_once : (b : ℕ) (rest : ByteString) → (b == 45) ≡ false → IsUtf8 (45 ∷ b ∷ rest)
    → is_faulty (word_fault judging [] false start.waiting (45 ∷ b ∷ rest) nothing_held) ≡ true
short_at_once b rest other u = rw (other) (rw (other) (bundle_at_once b rest u))

-- whether words give a fault
abbrev Misjudged : ByteString → List ByteString → Type 0
Misjudged word rest = is_faulty (fault_of validate_grammar (word ∷ rest)) ≡ true

misjudged : (t : Bool) (b : ℕ) (w : ByteString) (rest : List ByteString) → (b == 45) ≡ t → IsUtf8 (45 ∷ b ∷ w) → 45 ∷ b ∷ w ≢ codes "--"
    → Misjudged (45 ∷ b ∷ w) rest
misjudged false b w rest e u other = at_once (45 ∷ b ∷ w) rest (short_at_once b w e u)
misjudged true b [] rest e u other = absurd (other (ap (λ x. 45 ∷ x ∷ []) (hyphen b e)))
misjudged true b (c ∷ w) rest e u other =
    subst (λ x. Misjudged (45 ∷ x ∷ c ∷ w) rest) (sym (hyphen b e)) (at_once (45 ∷ 45 ∷ c ∷ w) rest (long_at_once c w))

pub validate_hyphened : (word : ByteString) (rest : List ByteString) → IsUtf8 word → IsHyphened word → word ≢ codes "--"
    → IsNoCommand (codes "validate" ∷ word ∷ rest)
validate_hyphened [] rest u h other = absurd h
validate_hyphened (a ∷ []) rest u h other = absurd h
validate_hyphened (a ∷ b ∷ w) rest u h other =
    let utf8 : IsUtf8 (45 ∷ b ∷ w) = subst (λ x. IsUtf8 (x ∷ b ∷ w)) h u in
    let apart : 45 ∷ b ∷ w ≢ codes "--" = λ e. other (ap (λ x. x ∷ b ∷ w) h ∙ e) in
    subst (λ x. IsNoCommand (codes "validate" ∷ (x ∷ b ∷ w) ∷ rest)) (sym h)
    (no_validate ((45 ∷ b ∷ w) ∷ rest) (misjudged (b == 45) b w rest refl utf8 apart))

pub validate_dashes : IsNoCommand (codes "validate" ∷ codes "--" ∷ [])
unfolding clap_on_literals
validate_dashes = no_validate _ refl

-- ---- a hyphen alone

pub run_hyphen : IsCommand (codes "--config" ∷ codes "-" ∷ []) (Run (codes "-") false false) × IsCommand (codes "-c" ∷ codes "-" ∷ []) (Run (codes "-") false false)
unfolding clap_on_literals
run_hyphen = (run_of _ _ false false refl refl refl refl refl, run_of _ _ false false refl refl refl refl refl)

pub validate_hyphen : IsCommand (codes "validate" ∷ codes "-" ∷ []) (Validate (codes "-"))
unfolding clap_on_literals
validate_hyphen = validate_of _ _ refl refl
