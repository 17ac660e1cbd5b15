-- However bytes are torn, their lines are the same.
use Rattle.std.proofs.Common.{◌≡◌, ℕ, zero, suc, ◌+◌, ◌≤◌, Bool, true, false, cond, List, [], ◌∷◌, ◌++◌, ◌&&◌, length, filter, take, leb, eqb, arith, refl, sym, ◌∙◌, ap, append_assoc, append-nil, length-append, add-one, zero-add}
use Rattle.std.proofs.lemmas.Bool.Decides.{nat_tests}
use Rattle.std.proofs.lemmas.List.{length-take, take_all}
use Rattle.std.proofs.Math.Seq.{take-nil}
use Rattle.vx_frame.specs.Frames.{Frame, Parts, cut, before, capped, some_byte, all_lines, fits, is_overlong, frames, discarded, last_part, open_line, open_from}
use Rattle.vx_frame.specs.Pieces.{kept, counted, lines_of, overlong_of, last_of}
use Rattle.vx_frame.proofs.Whole.{lines-are, overlong-are, frames-are, discarded-are}
use Rattle.vx_frame.specs.Framings.{untouched, lines_behind, overlong_behind, left_behind}
use Rattle.vx_frame.specs.declared.unfinished.Unfinished.{Unfinished}

capped-twice : (n : ℕ) → capped (capped n) ≡ capped n
capped-twice n = omega arith

-- ---- a byte in front of a part belongs to the line before it
lines-shift : (limit : ℕ) (e : Bool) (s : ℕ) (h : List ℕ) (x : ℕ) (p : List ℕ) (m : List (List ℕ)) → lines_of limit e s h (x ∷ p) m ≡ lines_of limit e (capped (s + 1)) (h ++ x ∷ []) p m
lines-shift limit e s h x p [] =
    let n : capped (s + length (x ∷ p)) ≡ capped (capped (s + 1) + length p) = omega arith in
    let l : h ++ x ∷ p ≡ (h ++ x ∷ []) ++ p = sym (append_assoc h (x ∷ []) p) in
    λ i. cond (e && some_byte (l i)) (kept limit (record { bytes = l i; end = n i }) []) []
lines-shift limit e s h x p (q ∷ m) =
    let n : capped (s + length (x ∷ p) + 1) ≡ capped (capped (s + 1) + length p + 1) = omega arith in
    let l : h ++ x ∷ p ≡ (h ++ x ∷ []) ++ p = sym (append_assoc h (x ∷ []) p) in
    λ i. kept limit (record { bytes = l i; end = n i }) (lines_of limit e (n i) [] q m)

overlong-shift : (limit : ℕ) (e : Bool) (h : List ℕ) (x : ℕ) (p : List ℕ) (m : List (List ℕ)) → overlong_of limit e h (x ∷ p) m ≡ overlong_of limit e (h ++ x ∷ []) p m
overlong-shift limit e h x p [] = let l : h ++ x ∷ p ≡ (h ++ x ∷ []) ++ p = sym (append_assoc h (x ∷ []) p) in
    λ i. cond (e && some_byte (l i)) (counted limit (l i) 0) 0
overlong-shift limit e h x p (q ∷ m) = let l : h ++ x ∷ p ≡ (h ++ x ∷ []) ++ p = sym (append_assoc h (x ∷ []) p) in
    λ i. counted limit (l i) (overlong_of limit e [] q m)

last-shift : (h : List ℕ) (x : ℕ) (p : List ℕ) (m : List (List ℕ)) → last_of h (x ∷ p) m ≡ last_of (h ++ x ∷ []) p m
last-shift h x p [] = sym (append_assoc h (x ∷ []) p)
last-shift h x p (q ∷ m) = refl

kept-append : (limit : ℕ) (f : Frame) (xs ys : List Frame) → kept limit f (xs ++ ys) ≡ kept limit f xs ++ ys
kept-append limit f xs ys = by_length (leb (length f.bytes) limit)
  where
    by_length : (b : Bool) → cond b (f ∷ xs ++ ys) (xs ++ ys) ≡ cond b (f ∷ xs) xs ++ ys
    by_length true = refl
    by_length false = refl

counted-add : (limit : ℕ) (l : List ℕ) (n m : ℕ) → counted limit l (n + m) ≡ counted limit l n + m
counted-add limit l n m = by_length (leb (length l) limit)
  where
    by_length : (b : Bool) → cond b (n + m) (n + m + 1) ≡ cond b n (n + 1) + m
    by_length true = refl
    by_length false = omega arith

-- ---- bytes in two pieces
pub lines-tear : (limit : ℕ) (e : Bool) (a b : List ℕ) (s : ℕ) (h : List ℕ) → s ≡ capped s → lines_of limit e s h (cut (a ++ b)).first (cut (a ++ b)).more ≡ lines_of limit false s h (cut a).first (cut a).more ++ lines_of limit e (capped (s + length a)) (last_of h (cut a).first (cut a).more) (cut b).first (cut b).more
lines-tear limit e [] b s h c =
    let n : s ≡ capped (s + 0) = omega (arith, c) in λ i. lines_of limit e (n i) (sym (append-nil h) i) (cut b).first (cut b).more
lines-tear limit e (x ∷ a) b s h c = by_feed (eqb x 10) refl (lines-tear limit e a b)
  where
    by_feed : (f : Bool) → eqb x 10 ≡ f → ((t : ℕ) (g : List ℕ) → t ≡ capped t → lines_of limit e t g (cut (a ++ b)).first (cut (a ++ b)).more ≡ lines_of limit false t g (cut a).first (cut a).more ++ lines_of limit e (capped (t + length a)) (last_of g (cut a).first (cut a).more) (cut b).first (cut b).more) → lines_of limit e s h (before x (cut (a ++ b))).first (before x (cut (a ++ b))).more ≡ lines_of limit false s h (before x (cut a)).first (before x (cut a)).more ++ lines_of limit e (capped (s + length (x ∷ a))) (last_of h (before x (cut a)).first (before x (cut a)).more) (cut b).first (cut b).more
    by_feed true k later =
        let n : capped (capped (s + 0 + 1) + length a) ≡ capped (s + length (x ∷ a)) = omega arith in
        rw k (ap (kept limit (record { bytes = h ++ []; end = capped (s + 0 + 1) })) (later (capped (s + 0 + 1)) [] (sym (capped-twice (s + 0 + 1)))) ∙ (rw (kept-append, n) refl))
    by_feed false k later =
        let n : capped (capped (s + 1) + length a) ≡ capped (s + length (x ∷ a)) = omega arith in
        rw (k, lines-shift limit e s h x (cut (a ++ b)).first (cut (a ++ b)).more, lines-shift limit false s h x (cut a).first (cut a).more, last-shift h x (cut a).first (cut a).more) (later (capped (s + 1)) (h ++ x ∷ []) (sym (capped-twice (s + 1))) ∙ (rw n refl))

pub overlong-tear : (limit : ℕ) (e : Bool) (a b : List ℕ) (h : List ℕ) → overlong_of limit e h (cut (a ++ b)).first (cut (a ++ b)).more ≡ overlong_of limit false h (cut a).first (cut a).more + overlong_of limit e (last_of h (cut a).first (cut a).more) (cut b).first (cut b).more
overlong-tear limit e [] b h = (λ i. overlong_of limit e (sym (append-nil h) i) (cut b).first (cut b).more) ∙ sym (zero-add _)
overlong-tear limit e (x ∷ a) b h = by_feed (eqb x 10) refl (overlong-tear limit e a b)
  where
    by_feed : (f : Bool) → eqb x 10 ≡ f → ((g : List ℕ) → overlong_of limit e g (cut (a ++ b)).first (cut (a ++ b)).more ≡ overlong_of limit false g (cut a).first (cut a).more + overlong_of limit e (last_of g (cut a).first (cut a).more) (cut b).first (cut b).more) → overlong_of limit e h (before x (cut (a ++ b))).first (before x (cut (a ++ b))).more ≡ overlong_of limit false h (before x (cut a)).first (before x (cut a)).more + overlong_of limit e (last_of h (before x (cut a)).first (before x (cut a)).more) (cut b).first (cut b).more
    by_feed true k later = rw k (ap (counted limit (h ++ [])) (later []) ∙ counted-add limit (h ++ []) _ _)
    by_feed false k later =
        rw (k, overlong-shift limit e h x (cut (a ++ b)).first (cut (a ++ b)).more, overlong-shift limit false h x (cut a).first (cut a).more, last-shift h x (cut a).first (cut a).more) (later (h ++ x ∷ []))

pub last-tear : (a b : List ℕ) (h : List ℕ) → last_of h (cut (a ++ b)).first (cut (a ++ b)).more ≡ last_of (last_of h (cut a).first (cut a).more) (cut b).first (cut b).more
last-tear [] b h = λ i. last_of (sym (append-nil h) i) (cut b).first (cut b).more
last-tear (x ∷ a) b h = by_feed (eqb x 10) refl (last-tear a b)
  where
    by_feed : (f : Bool) → eqb x 10 ≡ f → ((g : List ℕ) → last_of g (cut (a ++ b)).first (cut (a ++ b)).more ≡ last_of (last_of g (cut a).first (cut a).more) (cut b).first (cut b).more) → last_of h (before x (cut (a ++ b))).first (before x (cut (a ++ b))).more ≡ last_of (last_of h (before x (cut a)).first (before x (cut a)).more) (cut b).first (cut b).more
    by_feed true k later = rw k (later [])
    by_feed false k later = rw (k, last-shift h x (cut (a ++ b)).first (cut (a ++ b)).more, last-shift h x (cut a).first (cut a).more) (later (h ++ x ∷ []))

-- ---- of a line that is too long no more is held than tells so
some-take : (n : ℕ) (xs ys : List ℕ) → some_byte (take (n + 1) xs ++ ys) ≡ some_byte (xs ++ ys)
some-take n [] ys = rw take-nil refl
some-take n (x ∷ xs) ys = rw add-one refl

too_long : (limit : ℕ) (h p : List ℕ) → limit + 1 ≤ length h → leb (length (h ++ p)) limit ≡ false
too_long limit h p l = grind (arith, nat_tests, length-append h p)

-- a line that is too long stays so with more behind it, and where only what tells so is held
record Long (limit : ℕ) (h p : List ℕ) : Type 0 where
  taken : leb (length (take (limit + 1) h ++ p)) limit ≡ false
  whole : leb (length (h ++ p)) limit ≡ false

long-with : (limit : ℕ) (h p : List ℕ) → leb (length h) limit ≡ false → Long limit h p
long-with limit h p k = record {
  taken = too_long limit (take (limit + 1) h) p (grind (arith, nat_tests, k, length-take (limit + 1) h));
  whole = too_long limit h p (grind (arith, nat_tests, k));
}

lines-held : (limit : ℕ) (e : Bool) (s : ℕ) (h : List ℕ) (p : List ℕ) (m : List (List ℕ)) → lines_of limit e s (take (limit + 1) h) p m ≡ lines_of limit e s h p m
lines-held limit e s h p m = by_length (leb (length h) limit) refl
  where
    long : leb (length h) limit ≡ false → (ys : List (List ℕ)) → lines_of limit e s (take (limit + 1) h) p ys ≡ lines_of limit e s h p ys
    long k [] = let l = long-with limit h p k in rw (l.taken, l.whole, some-take limit h p) refl
    long k (q ∷ m) = let l = long-with limit h p k in rw (l.taken, l.whole) refl

    by_length : (b : Bool) → leb (length h) limit ≡ b → lines_of limit e s (take (limit + 1) h) p m ≡ lines_of limit e s h p m
    by_length true k = let l : length h ≤ limit + 1 = grind (arith, nat_tests, k) in λ i. lines_of limit e s (take_all (limit + 1) h l i) p m
    by_length false k = long k m

overlong-held : (limit : ℕ) (e : Bool) (h : List ℕ) (p : List ℕ) (m : List (List ℕ)) → overlong_of limit e (take (limit + 1) h) p m ≡ overlong_of limit e h p m
overlong-held limit e h p m = by_length (leb (length h) limit) refl
  where
    long : leb (length h) limit ≡ false → (ys : List (List ℕ)) → overlong_of limit e (take (limit + 1) h) p ys ≡ overlong_of limit e h p ys
    long k [] = let l = long-with limit h p k in rw (l.taken, l.whole, some-take limit h p) refl
    long k (q ∷ m) = let l = long-with limit h p k in rw (l.taken, l.whole) refl

    by_length : (b : Bool) → leb (length h) limit ≡ b → overlong_of limit e (take (limit + 1) h) p m ≡ overlong_of limit e h p m
    by_length true k = let l : length h ≤ limit + 1 = grind (arith, nat_tests, k) in λ i. overlong_of limit e (take_all (limit + 1) h l i) p m
    by_length false k = long k m

last-held : (n : ℕ) (h : List ℕ) (p : List ℕ) (m : List (List ℕ)) → take n (last_of (take n h) p m) ≡ take n (last_of h p m)
last-held n h p [] = take-front n h p
  where
    take-front : (n : ℕ) (h p : List ℕ) → take n (take n h ++ p) ≡ take n (h ++ p)
    take-front zero h p = refl
    take-front (suc n) [] p = refl
    take-front (suc n) (x ∷ h) p = ap (λ r. x ∷ r) (take-front n h p)
last-held n h p (q ∷ m) = refl

-- ---- what a stream has taken, and more
pub frames-more : (limit : ℕ) (e : Bool) (left : Unfinished) (taken bytes : List ℕ) → left ≡ left_behind limit untouched taken → frames (taken ++ bytes) limit e ≡ frames taken limit false ++ lines_behind limit e left bytes
frames-more limit e left taken bytes h =
    frames-are (taken ++ bytes) limit e
    ∙ lines-tear limit e taken bytes 0 [] refl
    ∙ ap (λ ls. ls ++ lines_of limit e (capped (0 + length taken)) (last_of [] (cut taken).first (cut taken).more) (cut bytes).first (cut bytes).more) (sym (frames-are taken limit false))
    ∙ ap (λ ls. frames taken limit false ++ ls) (sym (lines-held limit e (capped (0 + length taken)) (last_of [] (cut taken).first (cut taken).more) (cut bytes).first (cut bytes).more))
    ∙ ap (λ u. frames taken limit false ++ lines_behind limit e u bytes) (sym h)

pub discarded-more : (limit : ℕ) (e : Bool) (left : Unfinished) (taken bytes : List ℕ) → left ≡ left_behind limit untouched taken → discarded (taken ++ bytes) limit e ≡ discarded taken limit false + overlong_behind limit e left bytes
discarded-more limit e left taken bytes h =
    discarded-are (taken ++ bytes) limit e
    ∙ overlong-tear limit e taken bytes []
    ∙ ap (λ n. n + overlong_of limit e (last_of [] (cut taken).first (cut taken).more) (cut bytes).first (cut bytes).more) (sym (discarded-are taken limit false))
    ∙ ap (λ n. discarded taken limit false + n) (sym (overlong-held limit e (last_of [] (cut taken).first (cut taken).more) (cut bytes).first (cut bytes).more))
    ∙ ap (λ u. discarded taken limit false + overlong_behind limit e u bytes) (sym h)

pub left-more : (limit : ℕ) (left : Unfinished) (taken bytes : List ℕ) → left ≡ left_behind limit untouched taken → left_behind limit left bytes ≡ left_behind limit untouched (taken ++ bytes)
left-more limit left taken bytes h =
    ap (λ u. left_behind limit u bytes) h
    ∙ (let seen : capped (capped (0 + length taken) + length bytes) ≡ capped (0 + length (taken ++ bytes)) = omega (arith, length-append taken bytes) in
    let held : take (limit + 1) (last_of (take (limit + 1) (last_of [] (cut taken).first (cut taken).more)) (cut bytes).first (cut bytes).more) ≡ take (limit + 1) (last_of [] (cut (taken ++ bytes)).first (cut (taken ++ bytes)).more) =
    last-held (limit + 1) (last_of [] (cut taken).first (cut taken).more) (cut bytes).first (cut bytes).more ∙ ap (take (limit + 1)) (sym (last-tear taken bytes [])) in
    λ i. record { seen = seen i; held = held i })

-- the end of a stream
pub frames-end : (limit : ℕ) (left : Unfinished) (taken : List ℕ) → left ≡ left_behind limit untouched taken → frames taken limit true ≡ frames taken limit false ++ lines_behind limit true left []
frames-end limit left taken h = ap (λ t. frames t limit true) (sym (append-nil taken)) ∙ frames-more limit true left taken [] h

pub discarded-end : (limit : ℕ) (left : Unfinished) (taken : List ℕ) → left ≡ left_behind limit untouched taken → discarded taken limit true ≡ discarded taken limit false + overlong_behind limit true left []
discarded-end limit left taken h = ap (λ t. discarded t limit true) (sym (append-nil taken)) ∙ discarded-more limit true left taken [] h

-- ---- the line that is open, and the bytes behind it
-- it has no line feed
pub open-cut : (bytes : List ℕ) → cut (open_line bytes) ≡ record { first = open_line bytes; more = [] }
open-cut [] = refl
open-cut (x ∷ bytes) = by_feed (eqb x 10) refl (cut bytes).first (cut bytes).more (open-cut bytes)
  where
    by_feed : (f : Bool) → eqb x 10 ≡ f → (part : List ℕ) (more : List (List ℕ)) → cut (last_part part more) ≡ record { first = last_part part more; more = [] } → cut (last_part (before x (record { first = part; more = more })).first (before x (record { first = part; more = more })).more) ≡ record { first = last_part (before x (record { first = part; more = more })).first (before x (record { first = part; more = more })).more; more = [] }
    by_feed true k part more later = rw k later
    by_feed false k part [] later = rw k (ap (before x) later ∙ (rw k refl))
    by_feed false k part (next ∷ more) later = rw k later

open-short : (bytes : List ℕ) → length (open_line bytes) ≤ length bytes
open-short [] = omega arith
open-short (x ∷ bytes) = by_feed (eqb x 10) (cut bytes).first (cut bytes).more (open-short bytes)
  where
    by_feed : (f : Bool) (part : List ℕ) (more : List (List ℕ)) → length (last_part part more) ≤ length bytes → length (last_part (cond {A = Parts} f (record { first = []; more = part ∷ more }) (record { first = x ∷ part; more = more })).first (cond {A = Parts} f (record { first = []; more = part ∷ more }) (record { first = x ∷ part; more = more })).more) ≤ suc (length bytes)
    by_feed true part more later = omega (arith, later)
    by_feed false part [] later = omega (arith, later)
    by_feed false part (next ∷ more) later = omega (arith, later)

-- so more bytes, or the end, add the lines that they make of the open line
pub frames-tear : (limit : ℕ) (e : Bool) (taken bytes : List ℕ) → frames (taken ++ bytes) limit e ≡ frames taken limit false ++ filter (fits limit) (all_lines (open_from taken) (open_line taken ++ bytes) e)
frames-tear limit e taken bytes =
    frames-are (taken ++ bytes) limit e
    ∙ lines-tear limit e taken bytes 0 [] refl
    ∙ ap (λ ls. ls ++ lines_of limit e (capped (0 + length taken)) (open_line taken) (cut bytes).first (cut bytes).more) (sym (frames-are taken limit false))
    ∙ ap (λ ls. frames taken limit false ++ ls) (sym behind)
  where
    from : ℕ
    from = capped (open_from taken)

    behind : filter (fits limit) (all_lines (open_from taken) (open_line taken ++ bytes) e) ≡ lines_of limit e (capped (0 + length taken)) (open_line taken) (cut bytes).first (cut bytes).more
    behind =
        lines-are limit e (open_from taken) from [] (cut (open_line taken ++ bytes)).first (cut (open_line taken ++ bytes)).more (omega arith)
        ∙ lines-tear limit e (open_line taken) bytes from [] (sym (capped-twice (open_from taken)))
        ∙ (let seen : capped (from + length (open_line taken)) ≡ capped (0 + length taken) = omega (arith, open-short taken) in rw (open-cut taken, seen) refl)

pub discarded-tear : (limit : ℕ) (e : Bool) (taken bytes : List ℕ) → discarded (taken ++ bytes) limit e ≡ discarded taken limit false + length (filter (is_overlong limit) (all_lines (open_from taken) (open_line taken ++ bytes) e))
discarded-tear limit e taken bytes =
    discarded-are (taken ++ bytes) limit e
    ∙ overlong-tear limit e taken bytes []
    ∙ ap (λ n. n + overlong_of limit e (open_line taken) (cut bytes).first (cut bytes).more) (sym (discarded-are taken limit false))
    ∙ ap (λ n. discarded taken limit false + n) (sym behind)
  where
    behind : length (filter (is_overlong limit) (all_lines (open_from taken) (open_line taken ++ bytes) e)) ≡ overlong_of limit e (open_line taken) (cut bytes).first (cut bytes).more
    behind =
        overlong-are limit e (open_from taken) [] (cut (open_line taken ++ bytes)).first (cut (open_line taken ++ bytes)).more
        ∙ overlong-tear limit e (open_line taken) bytes []
        ∙ (rw (open-cut taken) (zero-add _))
