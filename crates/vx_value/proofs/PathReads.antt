-- A reader of a path, byte by byte.
use Rattle.std.proofs.Common.{◌≡◌, ℕ, ◌+◌, ◌<◌, ◌≤◌, ◌||◌, Bool, true, false, cond, Option, Some, None, IsTrue, List, [], ◌∷◌, ◌++◌, length, take, drop, get_or, eqb, arith, refl, sym, ◌∙◌, ap, subst, append_assoc, append-nil, length-append, add-one, drop-cons, lit<}
use Rattle.std.specs.Prelude.{is_some, option_map}
use Rattle.std.specs.Str.{IsUtf8}
use Rattle.std.proofs.lemmas.Bool.Decides.{nat_tests}
use Rattle.std.proofs.lemmas.Str.{IsUtf8-take, IsUtf8-drop, IsUtf8-append, IsCharBoundary-before_ascii, IsCharBoundary-after_ascii}
use Rattle.std.proofs.lemmas.List.{take-append-drop, take_all}
use Rattle.std.proofs.Math.Seq.{take-suc}
use Rattle.vx_value.specs.Texts.{ByteString, is_empty}
use Rattle.vx_value.specs.Paths.{begins_name, goes_on, name_move, move_of, ends_path, carry, names_from, path_names, BeginsPath, IsLongestBeginning}
use Rattle.vx_value.specs.Reads.{Moved, HasRead}
use Rattle.vx_value.specs.declared.path_mode.PathMode.{PathMode}
use Rattle.vx_value.specs.declared.path_mode.PathMode.TheVariants.{Start, Name, Bare, Quoted, Escaped, Closed}
use Rattle.vx_value.specs.declared.path_mode.PathMove.{PathMove}
use Rattle.vx_value.specs.declared.path_mode.PathMove.TheVariants.{Refused, Adds, Passes, Ends}
use Rattle.vx_value.specs.declared.path_reader.PathReader.{PathReader}

-- ---- a byte of ASCII inside a text
at-seam : (xs ys : List ℕ) (a : ℕ) → get_or (xs ++ a ∷ ys) (length xs) 0 ≡ a
at-seam [] ys a = refl
at-seam (x ∷ xs) ys a = at-seam xs ys a

take-seam : (xs ys : List ℕ) → take (length xs) (xs ++ ys) ≡ xs
take-seam [] ys = refl
take-seam (x ∷ xs) ys = ap (λ r. x ∷ r) (take-seam xs ys)

drop-seam : (xs ys : List ℕ) (a : ℕ) → drop (length xs + 1) (xs ++ a ∷ ys) ≡ ys
drop-seam [] ys a = refl
drop-seam (x ∷ xs) ys a = rw add-one (rw add-one at (drop-seam xs ys a))

pub utf8-left : (xs ys : List ℕ) (a : ℕ) → a < 128 → IsUtf8 (xs ++ a ∷ ys) → IsUtf8 xs
utf8-left xs ys a low u =
    let h : length xs < length (xs ++ a ∷ ys) = omega (arith, length-append xs (a ∷ ys)) in
    let l : get_or (xs ++ a ∷ ys) (length xs) 0 < 128 = rw (at-seam xs ys a) low in
    subst IsUtf8 (take-seam xs (a ∷ ys)) (IsUtf8-take (xs ++ a ∷ ys) (length xs) u (IsCharBoundary-before_ascii (xs ++ a ∷ ys) (length xs) h l))

pub utf8-right : (xs ys : List ℕ) (a : ℕ) → a < 128 → IsUtf8 (xs ++ a ∷ ys) → IsUtf8 ys
utf8-right xs ys a low u =
    let h : length xs < length (xs ++ a ∷ ys) = omega (arith, length-append xs (a ∷ ys)) in
    let l : get_or (xs ++ a ∷ ys) (length xs) 0 < 128 = rw (at-seam xs ys a) low in
    subst IsUtf8 (drop-seam xs ys a) (IsUtf8-drop (xs ++ a ∷ ys) (length xs + 1) u (IsCharBoundary-after_ascii (xs ++ a ∷ ys) (length xs) u h l))

-- ---- only bytes of ASCII are passed, or end a name
low-at : (b k : ℕ) → eqb b k ≡ true → k < 128 → b < 128
low-at b k e l = grind (arith, nat_tests)

no-pass : (t : Bool) (x y : PathMove) (m : PathMode) → (x ≡ Passes m → ⊥) → (y ≡ Passes m → ⊥) → cond t x y ≡ Passes m → ⊥
no-pass true x y m f g e = f e
no-pass false x y m f g e = g e

no-end : (t : Bool) (x y : PathMove) → (x ≡ Ends → ⊥) → (y ≡ Ends → ⊥) → cond t x y ≡ Ends → ⊥
no-end true x y f g e = f e
no-end false x y f g e = g e

-- where a test of b chooses, what holds on either side of it
by-test : (b k : ℕ) (x y : PathMove) (P : PathMove → Type 0) → k < 128 → (P y → b < 128) → P (cond (eqb b k) x y) → b < 128
by-test b k x y P l f p = go (eqb b k) refl p
  where
    go : (t : Bool) → eqb b k ≡ t → P (cond t x y) → b < 128
    go true e q = low-at b k e l
    go false e q = f q

passed-name : (b : ℕ) (m : PathMode) → name_move b ≡ Passes m → b < 128
passed-name b m e =
    by-test b 34 (Passes Quoted) (cond (begins_name b) (Adds Bare) Refused) (λ v. v ≡ Passes m) (lit< tt)
    (λ f. absurd (no-pass (begins_name b) (Adds Bare) Refused m (λ x. cc x) (λ x. cc x) f)) e

ended-name : (b : ℕ) → name_move b ≡ Ends → ⊥
ended-name b e = no-end (eqb b 34) (Passes Quoted) (cond (begins_name b) (Adds Bare) Refused) (λ x. cc x) (λ y. no-end (begins_name b) (Adds Bare) Refused (λ x. cc x) (λ x. cc x) y) e

pub passed-low : (mode : PathMode) (none : Bool) (b : ℕ) (m : PathMode) → move_of mode none b ≡ Passes m → b < 128
passed-low Start none b m e = by-test b 46 (Passes Name) (name_move b) (λ v. v ≡ Passes m) (lit< tt) (passed-name b m) e
passed-low Name none b m e = passed-name b m e
passed-low Bare none b m e =
    absurd (no-pass (goes_on b) (Adds Bare) (cond (eqb b 46) Ends Refused) m (λ x. cc x) (λ y. no-pass (eqb b 46) Ends Refused m (λ x. cc x) (λ x. cc x) y) e)
passed-low Quoted none b m e =
    by-test b 92 (Passes Escaped) (cond (eqb b 34) (cond none Refused (Passes Closed)) (Adds Quoted)) (λ v. v ≡ Passes m) (lit< tt)
    (by-test b 34 (cond none Refused (Passes Closed)) (Adds Quoted) (λ v. v ≡ Passes m) (lit< tt) (λ x. absurd (cc x))) e
passed-low Escaped none b m e = absurd (no-pass (eqb b 34 || eqb b 92) (Adds Quoted) Refused m (λ x. cc x) (λ x. cc x) e)
passed-low Closed none b m e = absurd (no-pass (eqb b 46) Ends Refused m (λ x. cc x) (λ x. cc x) e)

pub ends-low : (mode : PathMode) (none : Bool) (b : ℕ) → move_of mode none b ≡ Ends → b < 128
ends-low Start none b e = absurd (no-end (eqb b 46) (Passes Name) (name_move b) (λ x. cc x) (ended-name b) e)
ends-low Name none b e = absurd (ended-name b e)
ends-low Bare none b e = bare (goes_on b) e
  where
    bare : (t : Bool) → cond t (Adds Bare) (cond (eqb b 46) Ends Refused) ≡ Ends → b < 128
    bare true x = absurd (cc x)
    bare false x = by-test b 46 Ends Refused (λ v. v ≡ Ends) (lit< tt) (λ y. absurd (cc y)) x
ends-low Quoted none b e =
    absurd (no-end (eqb b 92) (Passes Escaped) (cond (eqb b 34) (cond none Refused (Passes Closed)) (Adds Quoted)) (λ x. cc x)
    (λ y. no-end (eqb b 34) (cond none Refused (Passes Closed)) (Adds Quoted) (λ z. no-end none Refused (Passes Closed) (λ x. cc x) (λ x. cc x) z) (λ x. cc x) y) e)
ends-low Escaped none b e = absurd (no-end (eqb b 34 || eqb b 92) (Adds Quoted) Refused (λ x. cc x) (λ x. cc x) e)
ends-low Closed none b e = by-test b 46 Ends Refused (λ v. v ≡ Ends) (lit< tt) (λ y. absurd (cc y)) e

-- ---- one byte more
map-nil : (o : Option (List ByteString)) → option_map (λ more. [] ++ more) o ≡ o
map-nil None = refl
map-nil (Some ns) = refl

map-more : (names : List ByteString) (name : ByteString) (o : Option (List ByteString)) → option_map (λ more. names ++ more) (option_map (λ ns. name ∷ ns) o) ≡ option_map (λ more. (names ++ name ∷ []) ++ more) o
map-more names name None = refl
map-more names name (Some ns) = ap Some (sym (append_assoc names (name ∷ []) ns))

pub read-none : (text : List ℕ) → IsUtf8 text → HasRead text 0 Start [] []
read-none text u = record { reads = λ rest. sym (map-nil (names_from Start [] rest)); utf8 = u }

front-more : (text rest : List ℕ) (i b : ℕ) → i < length text → b ≡ get_or text i b → take (i + 1) text ++ rest ≡ take i text ++ b ∷ rest
front-more text rest i b h e = rw (add-one, take-suc text i b h, ← e, append_assoc) refl

back-more : (text : List ℕ) (i b : ℕ) → i < length text → b ≡ get_or text i b → drop i text ≡ b ∷ drop (i + 1) text
back-more text i b h e = drop-cons text i b h ∙ (rw (← e, add-one) refl)

reads-more : (text : List ℕ) (i b : ℕ) (mode : PathMode) (name : ByteString) (names : List ByteString) (mv : PathMove) → i < length text → b ≡ get_or text i b → move_of mode (is_empty name) b ≡ mv → HasRead text i mode name names → (rest : List ℕ) → path_names (take (i + 1) text ++ rest) ≡ option_map (λ more. names ++ more) (carry mv name b (λ m n. names_from m n rest))
reads-more text i b mode name names mv h e is r rest =
    ap path_names (front-more text rest i b h e) ∙ r.reads (b ∷ rest) ∙ ap (λ v. option_map (λ more. names ++ more) (carry v name b (λ m n. names_from m n rest))) is

pub read-more : (text : List ℕ) (i b : ℕ) (old new : PathReader) (mv : PathMove) → i < length text → b ≡ get_or text i b → move_of old.mode (is_empty old.name.items) b ≡ mv → Moved mv old new b true → HasRead text i old.mode old.name.items old.names → HasRead text (i + 1) new.mode new.name.items new.names
read-more text i b old new Refused h e is m r = absurd (grind arith)
read-more text i b old new (Adds mode) h e is m r = rw (m.1, m.2, m.3) (record {
  reads = reads-more text i b old.mode old.name.items old.names (Adds mode) h e is r;
  utf8 = rw (append_assoc) (rw (back-more text i b h e) at r.utf8);
})
read-more text i b old new (Passes mode) h e is m r = rw (m.1, m.2, m.3) (record {
  reads = reads-more text i b old.mode old.name.items old.names (Passes mode) h e is r;
  utf8 =
      let u : IsUtf8 (old.name.items ++ b ∷ drop (i + 1) text) = rw (back-more text i b h e) at r.utf8 in
      let low : b < 128 = passed-low old.mode (is_empty old.name.items) b mode is in
      IsUtf8-append old.name.items (drop (i + 1) text) (utf8-left old.name.items (drop (i + 1) text) b low u) (utf8-right old.name.items (drop (i + 1) text) b low u);
})
read-more text i b old new Ends h e is m r = rw (m.1, m.2, m.3) (record {
  reads = λ rest.
      reads-more text i b old.mode old.name.items old.names Ends h e is r rest ∙ map-more old.names old.name.items (names_from Name [] rest);
  utf8 =
      let u : IsUtf8 (old.name.items ++ b ∷ drop (i + 1) text) = rw (back-more text i b h e) at r.utf8 in
      utf8-right old.name.items (drop (i + 1) text) b (ends-low old.mode (is_empty old.name.items) b is) u;
})

-- a name that ends is a text
pub ended-utf8 : (text : List ℕ) (i b : ℕ) (mode : PathMode) (name : ByteString) (names : List ByteString) → i < length text → b ≡ get_or text i b → HasRead text i mode name names → move_of mode (is_empty name) b ≡ Ends → IsUtf8 name
ended-utf8 text i b mode name names h e r is =
    utf8-left name (drop (i + 1) text) b (ends-low mode (is_empty name) b is) (rw (back-more text i b h e) at r.utf8)

-- ---- some path goes on from each place
not-empty : (name : ByteString) (b : ℕ) → is_empty (name ++ b ∷ []) ≡ false
not-empty [] b = refl
not-empty (x ∷ name) b = refl

pub completes : (mode : PathMode) (name : ByteString) → (rest : List ℕ) × IsTrue (is_some (names_from mode name rest))
completes Start name = (97 ∷ [], refl)
completes Name name = (97 ∷ [], refl)
completes Bare name = ([], refl)
completes Quoted name = (97 ∷ 34 ∷ [], rw not-empty refl)
completes Escaped name = (34 ∷ 34 ∷ [], rw not-empty refl)
completes Closed name = ([], refl)

some-map : (f : List ByteString → List ByteString) (o : Option (List ByteString)) → IsTrue (is_some o) → IsTrue (is_some (option_map f o))
some-map f None h = h
some-map f (Some ns) h = h

pub read-begins : (text : List ℕ) (i : ℕ) (mode : PathMode) (name : ByteString) (names : List ByteString) → HasRead text i mode name names → BeginsPath (take i text)
read-begins text i mode name names r = let c = completes mode name in
    (c.0, rw (r.reads c.0) (some-map (λ more. names ++ more) (names_from mode name c.0) c.1))

-- ---- a byte that is refused, and the end
pub read-refused : (text : List ℕ) (i b : ℕ) (mode : PathMode) (name : ByteString) (names : List ByteString) → i < length text → b ≡ get_or text i b → move_of mode (is_empty name) b ≡ Refused → HasRead text i mode name names → (path_names text ≡ None) × IsLongestBeginning text i
read-refused text i b mode name names h e is r = (
  ap path_names (sym (take-append-drop (i + 1) text)) ∙ reads-more text i b mode name names Refused h e is r (drop (i + 1) text),
  record {
    begins = read-begins text i mode name names r;
    longest = λ _ p. none-begins (reads-more text i b mode name names Refused h e is r p.0) p.1;
  },
)
  where
    none-begins : {o : Option (List ByteString)} → o ≡ None → IsTrue (is_some o) → ⊥
    none-begins e h = grind (arith, e, h)

pub moved-refused : (mv : PathMove) (old new : PathReader) (b : ℕ) → Moved mv old new b false → mv ≡ Refused
moved-refused Refused old new b m = refl
moved-refused (Adds mode) old new b m = absurd (grind arith)
moved-refused (Passes mode) old new b m = absurd (grind arith)
moved-refused Ends old new b m = absurd (grind arith)

-- at the end of the text
pub read-all : (text : List ℕ) (i : ℕ) (mode : PathMode) (name : ByteString) (names : List ByteString) → length text ≤ i → HasRead text i mode name names → path_names text ≡ option_map (λ more. names ++ more) (names_from mode name [])
read-all text i mode name names h r = ap path_names (sym (append-nil text) ∙ ap (λ t. t ++ []) (sym (take_all i text h))) ∙ r.reads []

pub read-unended : (text : List ℕ) (i : ℕ) (mode : PathMode) (name : ByteString) (names : List ByteString) → i ≡ length text → ends_path mode ≡ false → HasRead text i mode name names → (path_names text ≡ None) × IsLongestBeginning text (length text)
read-unended text i mode name names h not_yet r = (
  read-all text i mode name names (omega (arith, h)) r ∙ (rw not_yet refl),
  record { begins = subst (λ n. BeginsPath (take n text)) h (read-begins text i mode name names r); longest = λ l p. absurd (omega (arith, l)) },
)

pub read-ended : (text : List ℕ) (i : ℕ) (mode : PathMode) (name : ByteString) (names : List ByteString) → i ≡ length text → ends_path mode ≡ true → HasRead text i mode name names → path_names text ≡ Some (names ++ name ∷ [])
read-ended text i mode name names h done r = read-all text i mode name names (omega (arith, h)) r ∙ (rw done refl)
