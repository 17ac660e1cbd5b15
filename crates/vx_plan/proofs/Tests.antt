-- Tests of the items of a list.
use Rattle.std.specs.Prelude.{◌≡◌, ◌⊎◌, Bool, true, false, ◌&&◌, ◌||◌, Some, None, option_map, List, [], ◌∷◌, map, filter, find, refl, if◌then◌else◌}
use Rattle.std.specs.List.{list_any}
use Rattle.std.proofs.Common.{◌∙◌, ap, sym, inl, inr}
use Rattle.vx_value.specs.Texts.{ByteString, same_text}
use Rattle.vx_value.proofs.Order.{same_text-true, same_text-refl}
use Rattle.vx_plan.specs.Targets.{is_among}

pub or_some : (a b : Bool) → (a || b) ≡ true → (a ≡ true) ⊎ (b ≡ true)
or_some true b e = inl refl
or_some false b e = inr e

pub or_none : (a b : Bool) → (a || b) ≡ false → (a ≡ false) × (b ≡ false)
or_none true b e = cc
or_none false b e = (refl, e)

pub or_here : (a b : Bool) → a ≡ true → (a || b) ≡ true
or_here true b e = refl
or_here false b e = cc

pub or_there : (a b : Bool) → b ≡ true → (a || b) ≡ true
or_there true b e = refl
or_there false b e = e

pub and_both : (a b : Bool) → (a && b) ≡ true → (a ≡ true) × (b ≡ true)
and_both true b e = (refl, e)
and_both false b e = cc

pub and_made : (a b : Bool) → a ≡ true → b ≡ true → (a && b) ≡ true
and_made true b e f = f
and_made false b e f = cc

-- two tests that follow from each other
pub same_when : (a b : Bool) → (a ≡ true → b ≡ true) → (b ≡ true → a ≡ true) → a ≡ b
same_when true b there back = sym (there refl)
same_when false true there back = back refl
same_when false false there back = refl

-- what passes one test passes another
pub any_more : {X : Type 0} (f g : X → Bool) (xs : List X) → ((x : X) → f x ≡ true → g x ≡ true) → list_any f xs ≡ true → list_any g xs ≡ true
any_more f g [] more e = e
any_more f g (x ∷ xs) more e = go (or_some (f x) (list_any f xs) e) (any_more f g xs more)
  where
    go : (f x ≡ true) ⊎ (list_any f xs ≡ true) → (list_any f xs ≡ true → list_any g xs ≡ true) → (g x || list_any g xs) ≡ true
    go (inl here) rest = or_here (g x) (list_any g xs) (more x here)
    go (inr there) rest = or_there (g x) (list_any g xs) (rest there)

-- an item that passes one test, where none passes another
pub parted : {X : Type 0} (f g : X → Bool) (xs : List X) → list_any f xs ≡ true → list_any g xs ≡ false → (x : X) × (f x ≡ true) × (g x ≡ false)
parted f g [] some none = cc
parted f g (x ∷ xs) some none = go (or_none (g x) (list_any g xs) none) (or_some (f x) (list_any f xs) some) (parted f g xs)
  where
    go : (g x ≡ false) × (list_any g xs ≡ false) → (f x ≡ true) ⊎ (list_any f xs ≡ true) →
        (list_any f xs ≡ true → list_any g xs ≡ false → (y : _) × (f y ≡ true) × (g y ≡ false)) → (y : _) × (f y ≡ true) × (g y ≡ false)
    go none' (inl here) rest = (x, here, none'.0)
    go none' (inr there) rest = rest there none'.1

-- a text among some that passes a test
pub any_among : (f : ByteString → Bool) (names : List ByteString) (name : ByteString) → is_among names name ≡ true → f name ≡ true → list_any f names ≡ true
any_among f [] name there passes = there
any_among f (n ∷ names) name there passes = go (same_text name n) refl there (any_among f names name)
  where
    go : (b : Bool) → same_text name n ≡ b → (b || is_among names name) ≡ true → (is_among names name ≡ true → f name ≡ true → list_any f names ≡ true) →
        (f n || list_any f names) ≡ true
    go true same there' rest = or_here (f n) (list_any f names) (ap f (sym (same_text-true name n same)) ∙ passes)
    go false other there' rest = or_there (f n) (list_any f names) (rest there' passes)

-- a text that passes a test, among some of which one does
pub one_passing : (f : ByteString → Bool) (names : List ByteString) → list_any f names ≡ true → (name : ByteString) × (f name ≡ true) × (is_among names name ≡ true)
one_passing f [] some = cc
one_passing f (n ∷ names) some = go (or_some (f n) (list_any f names) some) (one_passing f names)
  where
    go : (f n ≡ true) ⊎ (list_any f names ≡ true) → (list_any f names ≡ true → (name : ByteString) × (f name ≡ true) × (is_among names name ≡ true)) →
        (name : ByteString) × (f name ≡ true) × (is_among (n ∷ names) name ≡ true)
    go (inl here) rest = (n, here, or_here (same_text n n) (is_among names n) (same_text-refl n))
    go (inr there) rest = let (name, passes, among) = rest there in (name, passes, or_there (same_text name n) (is_among names name) among)

-- the same among lists of texts
pub one_within : (f : ByteString → Bool) (lists : List (List ByteString)) → list_any (list_any f) lists ≡ true →
    (name : ByteString) × (f name ≡ true) × (list_any (λ names. is_among names name) lists ≡ true)
one_within f [] some = cc
one_within f (names ∷ lists) some = go (or_some (list_any f names) (list_any (list_any f) lists) some) (one_within f lists)
  where
    go : (list_any f names ≡ true) ⊎ (list_any (list_any f) lists ≡ true) →
        (list_any (list_any f) lists ≡ true → (name : ByteString) × (f name ≡ true) × (list_any (λ ns. is_among ns name) lists ≡ true)) →
        (name : ByteString) × (f name ≡ true) × (list_any (λ ns. is_among ns name) (names ∷ lists) ≡ true)
    go (inl here) rest =
        let (name, passes, among) = one_passing f names here in
        (name, passes, or_here (is_among names name) (list_any (λ ns. is_among ns name) lists) among)
    go (inr there) rest =
        let (name, passes, among) = rest there in
        (name, passes, or_there (is_among names name) (list_any (λ ns. is_among ns name) lists) among)

pub any_within : (f : ByteString → Bool) (lists : List (List ByteString)) (name : ByteString) → list_any (λ names. is_among names name) lists ≡ true → f name ≡ true →
    list_any (list_any f) lists ≡ true
any_within f lists name among passes = any_more (λ names. is_among names name) (list_any f) lists (λ names there. any_among f names name there passes) among

-- no item that a search finds
pub none_found : {X : Type 0} (name : X → ByteString) (p : X → Bool) (xs : List X) → option_map name (find p xs) ≡ None → list_any p xs ≡ false
none_found name p [] e = refl
none_found name p (x ∷ xs) e = go (p x) e (none_found name p xs)
  where
    go : (b : Bool) → option_map name (if b then Some x else find p xs) ≡ None → (option_map name (find p xs) ≡ None → list_any p xs ≡ false) → (b || list_any p xs) ≡ false
    go true found rest = cc
    go false found rest = rest found

-- an item that a search finds: it passes, and so do some items each test that it passes
pub some_found : {X : Type 0} (name : X → ByteString) (p : X → Bool) (xs : List X) (n : ByteString) → option_map name (find p xs) ≡ Some n →
    (x : X) × (name x ≡ n) × (p x ≡ true) × ((q : X → Bool) → q x ≡ true → list_any q xs ≡ true)
some_found name p [] n e = cc
some_found name p (x ∷ xs) n e = go (p x) refl e (some_found name p xs n)
  where
    go : (b : Bool) → p x ≡ b → option_map name (if b then Some x else find p xs) ≡ Some n →
        (option_map name (find p xs) ≡ Some n → (y : _) × (name y ≡ n) × (p y ≡ true) × ((q : _ → Bool) → q y ≡ true → list_any q xs ≡ true)) →
        (y : _) × (name y ≡ n) × (p y ≡ true) × ((q : _ → Bool) → q y ≡ true → list_any q (x ∷ xs) ≡ true)
    go true passes found rest = (x, cc, passes, λ q here. or_here (q x) (list_any q xs) here)
    go false fails found rest =
        let (y, named, passes, each) = rest found in
        (y, named, passes, λ q there. or_there (q x) (list_any q xs) (each q there))

-- what a search finds passes
pub passing : {X : Type 0} (p : X → Bool) (xs : List X) (x : X) → find p xs ≡ Some x → p x ≡ true
passing p [] x e = cc
passing p (y ∷ xs) x e = go (p y) refl e (passing p xs x)
  where
    go : (b : Bool) → p y ≡ b → (if b then Some y else find p xs) ≡ Some x → (find p xs ≡ Some x → p x ≡ true) → p x ≡ true
    go true here found rest = let same : y ≡ x = cc in sym (ap p same) ∙ here
    go false there found rest = rest found

any_never : {X : Type 0} (xs : List X) → list_any (λ (x : X). false) xs ≡ false
any_never [] = refl
any_never (x ∷ xs) = any_never xs

any_either : {X : Type 0} (f g : X → Bool) (xs : List X) → list_any (λ x. f x || g x) xs ≡ (list_any f xs || list_any g xs)
any_either f g [] = refl
any_either f g (x ∷ xs) = ap (λ b. (f x || g x) || b) (any_either f g xs) ∙ go (f x) (g x) (list_any f xs) (list_any g xs)
  where
    go : (a b c d : Bool) → ((a || b) || (c || d)) ≡ ((a || c) || (b || d))
    go true b c d = refl
    go false true true d = refl
    go false true false d = refl
    go false false true d = refl
    go false false false d = refl

-- a test of pairs, by the first or by the second first
pub any_swap : {X Y : Type 0} (p : X → Y → Bool) (xs : List X) (ys : List Y) → list_any (λ x. list_any (p x) ys) xs ≡ list_any (λ y. list_any (λ x. p x y) xs) ys
any_swap p [] ys = sym (any_never ys)
any_swap p (x ∷ xs) ys = ap (λ b. list_any (p x) ys || b) (any_swap p xs ys) ∙ sym (any_either (p x) (λ y. list_any (λ z. p z y) xs) ys)

pub any_and : {X : Type 0} (p : X → Bool) (b : Bool) (xs : List X) → list_any (λ x. p x && b) xs ≡ (list_any p xs && b)
any_and p b [] = refl
any_and p b (x ∷ xs) = ap (λ c. (p x && b) || c) (any_and p b xs) ∙ go (p x) (list_any p xs) b
  where
    go : (a c d : Bool) → ((a && d) || (c && d)) ≡ ((a || c) && d)
    go true c true = refl
    go true true false = refl
    go true false false = refl
    go false c d = refl

-- a test of the names of what passes another
pub any_filtered : {X : Type 0} (f : ByteString → Bool) (name : X → ByteString) (p : X → Bool) (xs : List X) →
    list_any f (map name (filter p xs)) ≡ list_any (λ x. p x && f (name x)) xs
any_filtered f name p [] = refl
any_filtered f name p (x ∷ xs) = go (p x) (any_filtered f name p xs)
  where
    go : (b : Bool) → list_any f (map name (filter p xs)) ≡ list_any (λ y. p y && f (name y)) xs →
        list_any f (map name (if b then x ∷ filter p xs else filter p xs)) ≡ ((b && f (name x)) || list_any (λ y. p y && f (name y)) xs)
    go true rest = ap (λ c. f (name x) || c) rest
    go false rest = rest
