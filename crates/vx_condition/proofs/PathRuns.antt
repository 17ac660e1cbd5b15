-- How a reader goes over a path.
use Rattle.std.proofs.Common.{◌≡◌, ℕ, ◌<◌, ◌≤◌, Bool, true, false, cond, not, ◌==◌, ◌&&◌, Option, Some, None, Ok, Err, List, [], ◌∷◌, ◌++◌, length, refl, sym, ◌∙◌, ap, append_assoc, arith, nat_lt, lt-ltb, ne_eqb, length-append}
use Rattle.std.specs.Prelude.{option_map}
use Rattle.std.proofs.lemmas.Bool.{and_parts, and_from}
use Rattle.vx_value.specs.Texts.{ByteString, is_empty}
use Rattle.vx_value.specs.Paths.{goes_on, move_of, ends_path, carry, names_from}
use Rattle.vx_value.specs.declared.path_mode.PathMode.{PathMode}
use Rattle.vx_value.specs.declared.path_mode.PathMove.{PathMove}
use Rattle.vx_condition.specs.Moves.{at, behind_blanks, in_path, behind_path}
use Rattle.vx_condition.specs.Runs.{go_on, run}
use Rattle.vx_value.specs.declared.path_mode.PathMode.TheVariants.{Start, Name, Bare, Quoted, Escaped, Closed}
use Rattle.vx_value.specs.declared.path_mode.PathMove.TheVariants.{Refused, Adds, Passes, Ends}
use Rattle.vx_condition.specs.declared.expected.Expected.{Expected}
use Rattle.vx_condition.specs.declared.expected.Expected.TheVariants as wants
use Rattle.vx_condition.specs.declared.mode.PathUse.{PathUse}
use Rattle.vx_condition.specs.declared.mode.Mode.{Mode}
use Rattle.vx_condition.specs.declared.mode.Mode.TheVariants as mode
use Rattle.vx_condition.specs.declared.reader.Reader.{Reader}
use Rattle.vx_condition.specs.declared.stop.Stop.TheVariants as stop
use Rattle.vx_condition.proofs.Runs.{chosen}

pub no_bytes : (name : ByteString) → is_empty name ≡ (length name == 0)
no_bytes [] = refl
no_bytes (b ∷ name) = sym (ne_eqb (length (b ∷ name)) 0 (λ e. omega arith))

-- the place of a reader doesn't tell what it does where something is expected
pub placeless : (most : ℕ) (r : Reader) (m n : Mode) (e : Expected) (b : ℕ) → behind_blanks most (at r m) e b ≡ behind_blanks most (at r n) e b
placeless most r m n wants.Operand b = refl
placeless most r m n (wants.Operator p) b = refl
placeless most r m n (wants.Literal p o) b = refl
placeless most r m n (wants.Open c) b = refl
placeless most r m n (wants.Bracket c) b = refl
placeless most r m n (wants.Path c) b = refl
placeless most r m n (wants.Comma s p) b = refl
placeless most r m n (wants.Argument s p) b = refl
placeless most r m n (wants.Close p) b = refl
placeless most r m n wants.Joint b = refl

-- a byte that no path goes on with
abbrev pub ends_a_path : ℕ → Bool
ends_a_path b = not (goes_on b) && not (b == 46) && nat_lt b 128

record Stopper (b : ℕ) : Type 0 where
  bare : goes_on b ≡ false
  undotted : (b == 46) ≡ false
  low : nat_lt b 128 ≡ true

not_so : (t : Bool) → not t ≡ true → t ≡ false
not_so true h = absurd (cc)
not_so false h = refl

stopper : (b : ℕ) → ends_a_path b ≡ true → Stopper b
stopper b h =
    let outer = and_parts (not (goes_on b) && not (b == 46)) (nat_lt b 128) h in
    let inner = and_parts (not (goes_on b)) (not (b == 46)) outer.0 in
    record { bare = not_so (goes_on b) inner.0; undotted = not_so (b == 46) inner.1; low = outer.1 }

cond_false : {X : Type 0} (t : Bool) (x y : X) → t ≡ false → cond t x y ≡ y
cond_false true x y h = absurd (cc)
cond_false false x y h = refl

refused_at : (p : PathMode) (none : Bool) (b : ℕ) → Stopper b → ends_path p ≡ true → move_of p none b ≡ Refused
refused_at Start none b s h = absurd (cc)
refused_at Name none b s h = absurd (cc)
refused_at Bare none b s h = cond_false (goes_on b) (Adds Bare) (cond (b == 46) Ends Refused) s.bare ∙ cond_false (b == 46) Ends Refused s.undotted
refused_at Quoted none b s h = absurd (cc)
refused_at Escaped none b s h = absurd (cc)
refused_at Closed none b s h = cond_false (b == 46) Ends Refused s.undotted

record Ended (p : PathMode) (name : ByteString) (found : List ByteString) : Type 0 where
  may : ends_path p ≡ true
  names : name ∷ [] ≡ found

ended : (p : PathMode) (name : ByteString) (found : List ByteString) → names_from p name [] ≡ Some found → Ended p name found
ended Start name found h = absurd (cc)
ended Name name found h = absurd (cc)
ended Bare name found h = record { may = refl; names = cc }
ended Quoted name found h = absurd (cc)
ended Escaped name found h = absurd (cc)
ended Closed name found h = record { may = refl; names = cc }

record Mapped (name : ByteString) (o : Option (List ByteString)) (found : List ByteString) : Type 0 where
  rest : List ByteString
  is_rest : o ≡ Some rest
  whole : name ∷ rest ≡ found

mapped : (name : ByteString) (o : Option (List ByteString)) (found : List ByteString) → option_map (λ names. name ∷ names) o ≡ Some found → Mapped name o found
mapped name None found h = absurd (cc)
mapped name (Some rest) found h = record { rest = rest; is_rest = refl; whole = cc }

-- a path has some name
some_names : (m : PathMode) (name text : ByteString) (found : List ByteString) → names_from m name text ≡ Some found → 1 ≤ length found
some_names m name [] found h = last (ends_path m) h
  where
    last : (t : Bool) → cond t (Some (name ∷ [])) None ≡ Some found → 1 ≤ length found
    last true e = let same : name ∷ [] ≡ found = cc in omega (arith, ap length same)
    last false e = absurd (cc)
some_names m name (b ∷ text) found h = by_move (move_of m (is_empty name) b) (λ n w g. some_names n w text g) h
  where
    by_move : (v : PathMove) → ((n : PathMode) (w : ByteString) (g : List ByteString) → names_from n w text ≡ Some g → 1 ≤ length g)
        → carry v name b (λ n w. names_from n w text) ≡ Some found → 1 ≤ length found
    by_move Refused ih e = absurd (cc)
    by_move (Adds n) ih e = ih n (name ++ b ∷ []) found e
    by_move (Passes n) ih e = ih n name found e
    by_move Ends ih e =
        let parts = mapped name (names_from Name [] text) found e in
        omega (arith, ap length parts.whole)

abbrev Goes : ℕ → Reader → PathUse → ByteString → ℕ → ByteString → Type 0
Goes most r use_of text c more =
    (p : PathMode) (name : ByteString) (names found : List ByteString) → names_from p name text ≡ Some found → length (names ++ found) ≤ 31
    → run most (at r (mode.Path use_of p name names)) (text ++ (c ∷ more)) ≡ run most (at r (mode.Expects (behind_path use_of (names ++ found)))) (c ∷ more)

-- a path, before a byte that ends it
pub over_path : (most : ℕ) (r : Reader) (use_of : PathUse) (text : ByteString) (c : ℕ) (more : ByteString) → ends_a_path c ≡ true → Goes most r use_of text c more
over_path most r use_of [] c more stops p name names found h few =
    let s = stopper c stops in
    let e = ended p name found h in
    let here = at r (mode.Path use_of p name names) in
    let further = λ (next : Reader). run most next more in
    let room : length names < 31 = omega (arith, few, ap length e.names, length-append names found) in
    let test : (ends_path p && nat_lt (length names) 31 && nat_lt c 128) ≡ true = and_from (ends_path p && nat_lt (length names) 31) (nat_lt c 128) (and_from (ends_path p) (nat_lt (length names) 31) e.may (lt-ltb (length names) 31 room)) s.low in
    ap (λ st. go_on (in_path most here use_of p name names c st) further) (refused_at p (length name == 0) c s e.may)
    ∙ chosen (ends_path p && nat_lt (length names) 31 && nat_lt c 128) (behind_blanks most here (behind_path use_of (names ++ name ∷ [])) c) (Err stop.Refused) further test
    ∙ ap (λ v. go_on v further) (placeless most r (mode.Path use_of p name names) (mode.Expects (behind_path use_of (names ++ name ∷ []))) (behind_path use_of (names ++ name ∷ [])) c)
    ∙ ap (λ ns. run most (at r (mode.Expects (behind_path use_of (names ++ ns)))) (c ∷ more)) e.names
over_path most r use_of (b ∷ text) c more stops p name names found h few =
    by_step (move_of p (length name == 0) b) (over_path most r use_of text c more stops)
    (sym (ap (λ v. carry v name b (λ m n. names_from m n text)) (ap (λ t. move_of p t b) (no_bytes name))) ∙ h)
  where
    by_step : (st : PathMove) → Goes most r use_of text c more → carry st name b (λ m n. names_from m n text) ≡ Some found
        → go_on (in_path most (at r (mode.Path use_of p name names)) use_of p name names b st) (λ next. run most next (text ++ (c ∷ more))) ≡ run most (at r (mode.Expects (behind_path use_of (names ++ found)))) (c ∷ more)
    by_step Refused ih e = absurd (cc)
    by_step (Adds q) ih e = ih q (name ++ b ∷ []) names found e few
    by_step (Passes q) ih e = ih q name names found e few
    by_step Ends ih e =
        let parts = mapped name (names_from Name [] text) found e in
        let some = some_names Name [] text parts.rest parts.is_rest in
        let regrouped : (names ++ name ∷ []) ++ parts.rest ≡ names ++ found = append_assoc names (name ∷ []) parts.rest ∙ ap (λ ns. names ++ ns) parts.whole in
        let room : length names < 30 = omega (arith, few, some, ap length parts.whole, length-append names found) in
        chosen (nat_lt (length names) 30) (Ok (at r (mode.Path use_of Name [] (names ++ name ∷ [])))) (Err stop.Refused) (λ next. run most next (text ++ (c ∷ more))) (lt-ltb (length names) 30 room)
        ∙ ih Name [] (names ++ name ∷ []) parts.rest parts.is_rest (omega (arith, few, ap length regrouped))
        ∙ ap (λ ns. run most (at r (mode.Expects (behind_path use_of ns))) (c ∷ more)) regrouped
