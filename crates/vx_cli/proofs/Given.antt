-- A required argument always has a value.
use Rattle.std.proofs.Common.{◌≡◌, ◌∙◌, ◌<◌, ◌&&◌, ℕ, zero, suc, sym, ap, subst, refl, Bool, not, true, false, List, [], ◌∷◌, length, slice_index_or, codes, inl, inr, is_some, arith}
use Rattle.std.specs.Str.{bytes_eq}
use Rattle.std.proofs.lemmas.Slice.Eq.{bytes_eq-Decides}
use Rattle.clap.specs.Words.{AddsArg, AddsInTurn, first_value, found_of}
use Rattle.clap.proofs.CallerLemmas.{required_in_chain}
use Rattle.clap.proofs.WalkLemmas.{both}
use Rattle.clap.specs.declared.builder.arg.Arg.{Arg}
use Rattle.clap.specs.declared.builder.command.Command.{Command}
use Rattle.vx_value.specs.Texts.{ByteString}
use Rattle.vx_cli.specs.Building.{GivesValue, IsBare, IsNamed, IsRequired}

not_true : (b : Bool) → not b ≡ true → b ≡ false
not_true true e = cc
not_true false e = refl

-- two texts are apart by the test
apart : (a b : ByteString) → bytes_eq b b ≡ true → not (bytes_eq a b) ≡ true → a ≡ b → ⊥
apart a b itself other e =
    let P : ByteString → Type 0 = λ w. not (bytes_eq w b) ≡ true in
    let bad : not (bytes_eq b b) ≡ true = subst P e other in
    let no : bytes_eq b b ≡ false = not_true _ bad in cc

same_word : (a b : ByteString) → bytes_eq a b ≡ true → a ≡ b
same_word a b e = (bytes_eq-Decides a b).0 e

itself : (a : ByteString) → bytes_eq a a ≡ true
itself a = (bytes_eq-Decides a a).1 refl

-- whether an argument of that name is none that clap adds
abbrev is_own : ByteString → Bool
is_own name = not (bytes_eq name []) && (not (bytes_eq name (codes "help")) && not (bytes_eq name (codes "version")))

abbrev is_other : ByteString → List ByteString → Bool
is_other name [] = true
is_other name (other ∷ rest) = not (bytes_eq name other) && is_other name rest

-- whether arguments of these names stand beside one another
abbrev pub are_apart : List ByteString → Bool
are_apart [] = true
are_apart (name ∷ rest) = is_own name && (is_other name rest && are_apart rest)

other_at : (name : ByteString) (names : List ByteString) (k : ℕ) (d : ByteString) → is_other name names ≡ true → k < length names → name ≡ slice_index_or names k d → ⊥
other_at name [] k d other lt same = omega arith
other_at name (n ∷ ns) zero d other lt same = apart name n (itself n) (both _ _ other).0 same
other_at name (n ∷ ns) (suc k) d other lt same = other_at name ns k d (both _ _ other).1 (omega arith) same

own_at : (names : List ByteString) (k : ℕ) (d : ByteString) → are_apart names ≡ true → k < length names → is_own (slice_index_or names k d) ≡ true
own_at [] k d ok lt = absurd (omega arith)
own_at (n ∷ ns) zero d ok lt = (both _ _ ok).0
own_at (n ∷ ns) (suc k) d ok lt = own_at ns k d (both _ _ (both _ _ ok).1).1 (omega arith)

same_place : (names : List ByteString) (j k : ℕ) (d e : ByteString) → are_apart names ≡ true → j < length names → k < length names
    → slice_index_or names j d ≡ slice_index_or names k e → j ≡ k
same_place [] j k d e ok lj lk same = absurd (omega arith)
same_place (n ∷ ns) zero zero d e ok lj lk same = refl
same_place (n ∷ ns) zero (suc k) d e ok lj lk same = absurd (other_at n ns k e (both _ _ (both _ _ ok).1).0 (omega arith) same)
same_place (n ∷ ns) (suc j) zero d e ok lj lk same = absurd (other_at n ns j d (both _ _ (both _ _ ok).1).0 (omega arith) (sym same))
same_place (n ∷ ns) (suc j) (suc k) d e ok lj lk same = ap suc (same_place ns j k d e (both _ _ (both _ _ ok).1).1 (omega arith) (omega arith) same)

-- arguments have these names, in turn
abbrev pub AreNamed : List ByteString → List Arg → Type 0
AreNamed [] [] = Unit {0}
AreNamed (name ∷ names) (arg ∷ args) = IsNamed name arg × AreNamed names args
AreNamed _ _ = ⊥

same_length : (names : List ByteString) (args : List Arg) → AreNamed names args → length names ≡ length args
same_length [] [] named = refl
same_length [] (arg ∷ args) named = absurd named
same_length (name ∷ names) [] named = absurd named
same_length (name ∷ names) (arg ∷ args) named = let e = same_length names args named.1 in omega arith

named_at : (names : List ByteString) (args : List Arg) (k : ℕ) (w : ByteString) (d : Arg) → AreNamed names args → k < length args
    → IsNamed (slice_index_or names k w) (slice_index_or args k d)
named_at [] [] k w d named lt = absurd (omega arith)
named_at [] (arg ∷ args) k w d named lt = absurd named
named_at (name ∷ names) [] k w d named lt = absurd named
named_at (name ∷ names) (arg ∷ args) zero w d named lt = named.0
named_at (name ∷ names) (arg ∷ args) (suc k) w d named lt = named_at names args k w d named.1 (omega arith)

-- of a command with these arguments, the one at that place
pub given : (start command : Command) (args : List Arg) (names : List ByteString) (k : ℕ) (d : Arg) → IsBare start
    → AddsInTurn AddsArg start args command → AreNamed names args → are_apart names ≡ true → k < length args
    → IsRequired (slice_index_or args k d) → GivesValue command (slice_index_or names k [])
given start command args names k d bare adds named ok lt is matches parsed =
    let long = same_length names args named in
    let value = required_in_chain start command args k d matches adds bare.args bare.groups bare.local bare.strict
    (λ i a li. let n = named_at names args i [] a named li in
    let own = own_at names i [] ok (omega arith) in (
      n.plain,
      n.local,
      (λ e. apart _ [] refl (both _ _ own).0 (sym n.id ∙ e)),
      (λ auto. elim auto [ inl h ↦ apart _ (codes "help") refl (both _ _ (both _ _ own).1).0 (sym n.id ∙ h) | inr h ↦ apart _ (codes "version") refl (both _ _ (both _ _ own).1).1 (sym n.id ∙ h) ]),
    ))
    (λ i j a b li lj same.
    let m = named_at names args i [] b named li in
    let n = named_at names args j [] a named lj in
    same_place names i j [] [] ok (omega arith) (omega arith) (sym m.id ∙ same_word _ _ same ∙ n.id))
    lt (is.required, is.action, is.undivided, is.least) parsed in
    let P : ByteString → Type 0 = λ id. is_some (first_value (found_of matches) id) ≡ true in
    subst P (named_at names args k [] d named lt).id value
