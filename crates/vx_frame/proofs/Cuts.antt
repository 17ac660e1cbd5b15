-- Bytes cut at their first line feed, and the loop that does so again and again.
use Rattle.std.proofs.Common.{◌≡◌, ℕ, zero, suc, ◌+◌, ◌<◌, ◌≤◌, Bool, true, false, cond, List, [], ◌∷◌, ◌++◌, length, take, drop, get_or, map, leb, eqb, arith, refl, sym, ◌∙◌, ap, append_assoc, add-one, add-zero, append-nil}
use Rattle.std.proofs.lemmas.Bool.Decides.{nat_tests}
use Rattle.std.proofs.lemmas.List.{length-take, length-drop, take_all, map-append}
use Rattle.vx_frame.specs.Frames.{Frame, cut, capped}
use Rattle.vx_frame.specs.Pieces.{kept, counted, overlong_of, last_of}
use Rattle.vx_frame.specs.Framings.{lines_behind, overlong_behind, left_behind, line_of}
use Rattle.vx_frame.specs.declared.unfinished.Unfinished.{Unfinished}
use Rattle.vx_frame.specs.declared.line.Line.{Line}

-- no byte of these is a line feed
abbrev pub NoFeed : List ℕ → Type 0
NoFeed xs = (k : ℕ) → k < length xs → get_or xs k 0 ≡ 10 → ⊥

no-feed-tail : (x : ℕ) (xs : List ℕ) → NoFeed (x ∷ xs) → NoFeed xs
no-feed-tail x xs h k l e = h (suc k) (omega arith) e

-- bytes with no line feed are one part
pub cut-none : (xs : List ℕ) → NoFeed xs → cut xs ≡ record { first = xs; more = [] }
cut-none [] h = refl
cut-none (x ∷ xs) h =
    let n : eqb x 10 ≡ false = grind (arith, nat_tests, h 0 (omega arith)) in rw (n, cut-none xs (no-feed-tail x xs h)) refl

-- bytes up to a line feed, and those behind it
pub cut-at : (xs : List ℕ) (i : ℕ) → i < length xs → get_or xs i 0 ≡ 10 → ((k : ℕ) → k < i → get_or xs k 0 ≡ 10 → ⊥) → cut xs ≡ record { first = take i xs; more = (cut (drop (i + 1) xs)).first ∷ (cut (drop (i + 1) xs)).more }
cut-at [] i l e h = absurd (omega arith)
cut-at (x ∷ xs) zero l e h = let n : eqb x 10 ≡ true = grind (arith, nat_tests, e) in rw n refl
cut-at (x ∷ xs) (suc i) l e h =
    let n : eqb x 10 ≡ false = grind (arith, nat_tests, h 0 (omega arith)) in
    let later = cut-at xs i (omega arith) e (λ k m f. h (suc k) (omega arith) f) in rw (n, later, add-one, add-one) refl

-- a line of which no more than tells so is kept, if it is too long
pub kept-take : (limit : ℕ) (line : List ℕ) (end : ℕ) (more : List Frame) → kept limit (record { bytes = line; end = end }) more ≡ kept limit (record { bytes = take (limit + 1) line; end = end }) [] ++ more
kept-take limit line end more = by_length (leb (length line) limit) refl
  where
    by_length : (b : Bool) → leb (length line) limit ≡ b → kept limit (record { bytes = line; end = end }) more ≡ kept limit (record { bytes = take (limit + 1) line; end = end }) [] ++ more
    by_length true e = let l : length line ≤ limit = grind (arith, nat_tests, e) in rw (take_all (limit + 1) line (omega arith), e) refl
    by_length false e = let t : leb (length (take (limit + 1) line)) limit ≡ false = grind (arith, nat_tests, e, length-take (limit + 1) line) in rw (e, t) refl

pub counted-take : (limit : ℕ) (line : List ℕ) (n : ℕ) → counted limit (take (limit + 1) line) n ≡ counted limit line n
counted-take limit line n = by_length (leb (length line) limit) refl
  where
    by_length : (b : Bool) → leb (length line) limit ≡ b → counted limit (take (limit + 1) line) n ≡ counted limit line n
    by_length true e = let l : length line ≤ limit = grind (arith, nat_tests, e) in rw (take_all (limit + 1) line (omega arith)) refl
    by_length false e = let t : leb (length (take (limit + 1) line)) limit ≡ false = grind (arith, nat_tests, e, length-take (limit + 1) line) in rw (e, t) refl

-- ---- what a line feed at i makes of what is left
lines_at : (limit : ℕ) (now : Unfinished) (rest : List ℕ) (i : ℕ) → i < length rest → get_or rest i 0 ≡ 10 → ((k : ℕ) → k < i → get_or rest k 0 ≡ 10 → ⊥) → lines_behind limit false now rest ≡ kept limit (record { bytes = take (limit + 1) (now.held ++ take i rest); end = capped (now.seen + length (take i rest) + 1) }) [] ++ lines_behind limit false (record { seen = capped (now.seen + length (take i rest) + 1); held = [] }) (drop (i + 1) rest)
lines_at limit now rest i l e h = rw (cut-at rest i l e h) (kept-take limit (now.held ++ take i rest) _ _)

overlong_at : (limit : ℕ) (now : Unfinished) (rest : List ℕ) (i : ℕ) → i < length rest → get_or rest i 0 ≡ 10 → ((k : ℕ) → k < i → get_or rest k 0 ≡ 10 → ⊥) → overlong_behind limit false now rest ≡ counted limit (now.held ++ take i rest) (overlong_of limit false [] (cut (drop (i + 1) rest)).first (cut (drop (i + 1) rest)).more)
overlong_at limit now rest i l e h = rw (cut-at rest i l e h) refl

left_at : (limit : ℕ) (now : Unfinished) (rest : List ℕ) (i : ℕ) → i < length rest → get_or rest i 0 ≡ 10 → ((k : ℕ) → k < i → get_or rest k 0 ≡ 10 → ⊥) → left_behind limit now rest ≡ left_behind limit (record { seen = capped (now.seen + length (take i rest) + 1); held = [] }) (drop (i + 1) rest)
left_at limit now rest i l e h =
    let seen : capped (now.seen + length rest) ≡ capped (capped (now.seen + length (take i rest) + 1) + length (drop (i + 1) rest)) = omega (arith, length-take i rest, length-drop (i + 1) rest) in
    let held : last_of now.held (cut rest).first (cut rest).more ≡ last_of [] (cut (drop (i + 1) rest)).first (cut (drop (i + 1) rest)).more = rw (cut-at rest i l e h) refl in
    λ j. record { seen = seen j; held = take (limit + 1) (held j) }

pub counted-capped : (limit : ℕ) (line : List ℕ) (count n : ℕ) → capped (count + counted limit line n) ≡ capped (capped (counted limit line count) + n)
counted-capped limit line count n = by_length (leb (length line) limit)
  where
    by_length : (b : Bool) → capped (count + cond b n (n + 1)) ≡ capped (capped (cond b count (count + 1)) + n)
    by_length true = omega arith
    by_length false = omega arith

-- ---- the loop: what is done and what is left make the whole
pub record IsOnTheWay (limit stream overlong : ℕ) (left : Unfinished) (bytes : List ℕ) (lines : List Line) (count : ℕ) (now : Unfinished) (rest : List ℕ) : Type 0 where
  pub lines_are : map (line_of stream) (lines_behind limit false left bytes) ≡ lines ++ map (line_of stream) (lines_behind limit false now rest)
  pub overlong_is : capped (overlong + overlong_behind limit false left bytes) ≡ capped (count + overlong_behind limit false now rest)
  pub left_is : left_behind limit left bytes ≡ left_behind limit now rest
  pub held_fits : length now.held ≤ limit + 1
  pub count_fits : count ≡ capped count

-- one line feed more
pub step_at : (limit stream overlong : ℕ) (left : Unfinished) (bytes : List ℕ) (lines : List Line) (count : ℕ) (now : Unfinished) (rest : List ℕ) (i : ℕ) (lines' : List Line) (count' : ℕ) (next : Unfinished) → i < length rest → get_or rest i 0 ≡ 10 → ((k : ℕ) → k < i → get_or rest k 0 ≡ 10 → ⊥) → lines' ≡ lines ++ map (line_of stream) (kept limit (record { bytes = take (limit + 1) (now.held ++ take i rest); end = capped (now.seen + length (take i rest) + 1) }) []) → count' ≡ capped (counted limit (take (limit + 1) (now.held ++ take i rest)) count) → next.seen ≡ capped (now.seen + length (take i rest) + 1) → next.held ≡ [] → IsOnTheWay limit stream overlong left bytes lines count now rest → IsOnTheWay limit stream overlong left bytes lines' count' next (drop (i + 1) rest)
step_at limit stream overlong left bytes lines count now rest i lines' count' next l e h el ec es eh w = record {
  lines_are =
      w.lines_are
      ∙ ap (λ ls. lines ++ map (line_of stream) ls) (lines_at limit now rest i l e h)
      ∙ (rw (map-append, ← append_assoc, ← el) (ap (λ u. lines' ++ map (line_of stream) (lines_behind limit false u (drop (i + 1) rest))) (λ j. record { seen = sym es j; held = sym eh j })));
  overlong_is =
      w.overlong_is
      ∙ ap (λ n. capped (count + n)) (overlong_at limit now rest i l e h)
      ∙ counted-capped limit (now.held ++ take i rest) count (overlong_of limit false [] (cut (drop (i + 1) rest)).first (cut (drop (i + 1) rest)).more)
      ∙ (rw (ec, counted-take, eh) refl);
  left_is = w.left_is ∙ left_at limit now rest i l e h ∙ (rw (es, eh) refl);
  held_fits = rw eh (omega arith);
  count_fits = omega (arith, ec);
}

-- the bytes that are left have no line feed
pub end_at : (limit stream overlong : ℕ) (left : Unfinished) (bytes : List ℕ) (lines : List Line) (count : ℕ) (now : Unfinished) (rest : List ℕ) → NoFeed rest → IsOnTheWay limit stream overlong left bytes lines count now rest → (lines ≡ map (line_of stream) (lines_behind limit false left bytes)) × (count ≡ capped (overlong + overlong_behind limit false left bytes)) × (left_behind limit left bytes ≡ record { seen = capped (now.seen + length rest); held = take (limit + 1) (now.held ++ rest) })
end_at limit stream overlong left bytes lines count now rest none w = (
  sym (w.lines_are ∙ (rw (cut-none rest none, append-nil) refl)),
  w.count_fits ∙ sym (w.overlong_is ∙ (rw (cut-none rest none, add-zero) refl)),
  w.left_is ∙ (rw (cut-none rest none) refl),
)

-- ---- a piece behind what was left unfinished
-- with no line feed it only goes on with the line
pub record GoesOn (limit : ℕ) (left : Unfinished) (bytes : List ℕ) : Type 0 where
  pub no_lines : lines_behind limit false left bytes ≡ []
  pub none_overlong : overlong_behind limit false left bytes ≡ 0
  pub left_is : left_behind limit left bytes ≡ record { seen = capped (left.seen + length bytes); held = take (limit + 1) (left.held ++ bytes) }

pub goes_on : (limit : ℕ) (left : Unfinished) (bytes : List ℕ) → NoFeed bytes → GoesOn limit left bytes
goes_on limit left bytes none = record {
  no_lines = rw (cut-none bytes none) refl;
  none_overlong = rw (cut-none bytes none) refl;
  left_is = rw (cut-none bytes none) refl;
}

-- with one it ends the line, `held` up to `end`, and the rest stands behind that
pub record EndsLine (limit : ℕ) (left : Unfinished) (bytes : List ℕ) (held : List ℕ) (end : ℕ) (rest : List ℕ) : Type 0 where
  pub lines_are : lines_behind limit false left bytes ≡ kept limit (record { bytes = held; end = end }) [] ++ lines_behind limit false (record { seen = end; held = [] }) rest
  pub overlong_is : overlong_behind limit false left bytes ≡ counted limit held (overlong_behind limit false (record { seen = end; held = [] }) rest)
  pub left_is : left_behind limit left bytes ≡ left_behind limit (record { seen = end; held = [] }) rest

pub ends_line : (limit : ℕ) (left : Unfinished) (bytes : List ℕ) (i : ℕ) (held : List ℕ) (end : ℕ) (rest : List ℕ) → i < length bytes → get_or bytes i 0 ≡ 10 → ((k : ℕ) → k < i → get_or bytes k 0 ≡ 10 → ⊥) → held ≡ take (limit + 1) (left.held ++ take i bytes) → end ≡ capped (left.seen + length (take i bytes) + 1) → rest ≡ drop (i + 1) bytes → EndsLine limit left bytes held end rest
ends_line limit left bytes i held end rest l e h eh ee er = record {
  lines_are = lines_at limit left bytes i l e h ∙ (rw (eh, ee, er) refl);
  overlong_is =
      overlong_at limit left bytes i l e h
      ∙ (rw (eh, er, counted-take) refl);
  left_is = left_at limit left bytes i l e h ∙ (rw (ee, er) refl);
}
