-- Rounds of places, and that there is none where reading ends everywhere.
use Rattle.std.proofs.Common.{◌≡◌, ◌≢◌, ◌⊎◌, ℕ, ◌+◌, ◌-◌, ◌<◌, ◌≤◌, Bool, true, false, List, [], ◌∷◌, ◌++◌, length, get_or, set, take, drop, refl, sym, ap, ◌∙◌, subst, inl, inr, arith, append_assoc, All, Contains}
use Rattle.std.proofs.lemmas.Bool.{cases_eq, cases_lt, cases_order, false≢true}
use Rattle.std.proofs.lemmas.Grind.{common_steps}
use Rattle.std.proofs.lemmas.List.{append-nil, take-append-drop, drop_more, length-drop, get_or-drop, get_or-take, get_or_append_left, get_or-append_right, get_or-set_same, get_or-set_other}
use Rattle.std.proofs.lemmas.List.Elements.{All-push, All-append, All-drop, All-take, All-weaker, Contains-push, Contains-append_left}
use Rattle.std.proofs.lemmas.List.Quantifiers.{all_pairs_push}
use Rattle.vx_graph.specs.Rounds.{edge, marked, Linked, IsRound, Settled, settle, AllSettled, AreApart, IsLeastFirst}

-- linked places may be split at one of them, and joined
pub linked_split : (rows : List (List Bool)) (a : List ℕ) (x : ℕ) (b : List ℕ) → Linked rows (a ++ x ∷ b)
    → Linked rows (a ++ x ∷ []) × Linked rows (x ∷ b)
linked_split rows [] x b h = (tt, h)
linked_split rows (i ∷ []) x b h = ((h.0, tt), h.1)
linked_split rows (i ∷ j ∷ a) x b h =
    let rest = linked_split rows (j ∷ a) x b h.1 in
    ((h.0, rest.0), rest.1)

pub linked_join : (rows : List (List Bool)) (a : List ℕ) (x : ℕ) (b : List ℕ) → Linked rows (a ++ x ∷ []) → Linked rows (x ∷ b)
    → Linked rows (a ++ x ∷ b)
linked_join rows [] x b h g = g
linked_join rows (i ∷ []) x b h g = (h.0, g)
linked_join rows (i ∷ j ∷ a) x b h g = (h.0, linked_join rows (j ∷ a) x b h.1 g)

-- from a settled place no round begins
pub no_round_from : (rows : List (List Bool)) (i : ℕ) → Settled rows i → (rest : List ℕ) → Linked rows ((i ∷ rest) ++ i ∷ []) → ⊥
no_round_from rows i (settle i' further) [] h = no_round_from rows i (further i h.0) [] h
no_round_from rows i (settle i' further) (j ∷ rest) h =
    no_round_from rows j (further j h.0) (rest ++ i ∷ [])
    (subst (λ xs. Linked rows (j ∷ xs)) (sym (append_assoc rest (i ∷ []) (j ∷ [])))
    (linked_join rows (j ∷ rest) i (j ∷ []) h.1 (h.0, tt)))

-- a place may be marked once its readers are
pub mark_settled : (rows : List (List Bool)) (marks : List Bool) (i : ℕ) → i < length marks → AllSettled rows marks
    → ((j : ℕ) → edge rows i j ≡ true → marked marks j ≡ true) → AllSettled rows (set marks i true)
mark_settled rows marks i lt all readers = λ k h. elim (cases_eq k i) [
  | inl e ↦ subst (Settled rows) (sym e) (settle i (λ j r. all j (readers j r)))
  | inr n ↦ all k (sym (get_or-set_other marks i k true false n) ∙ h)
]

-- the walk's marks and its path say the same
pub seen_more : (seen : List Bool) (path : List ℕ) (at : ℕ) → ((k : ℕ) → marked seen k ≡ true → Contains path k)
    → (k : ℕ) → marked (set seen at true) k ≡ true → Contains (path ++ at ∷ []) k
seen_more seen path at all k h = elim (cases_eq k at) [
  | inl e ↦ subst (Contains (path ++ at ∷ [])) (sym e) (Contains-push path at)
  | inr n ↦ Contains-append_left path (at ∷ []) k (all k (sym (get_or-set_other seen at k true false n) ∙ h))
]

mark_stays : (seen : List Bool) (at : ℕ) → at < length seen → (k : ℕ) → marked seen k ≡ true → marked (set seen at true) k ≡ true
mark_stays seen at lt k h = elim (cases_eq k at) [
  | inl e ↦ ap (marked (set seen at true)) e ∙ get_or-set_same seen at true false lt
  | inr n ↦ get_or-set_other seen at k true false n ∙ h
]

pub path_more : (seen : List Bool) (path : List ℕ) (at : ℕ) → at < length seen → All (λ k. marked seen k ≡ true) path
    → All (λ k. marked (set seen at true) k ≡ true) (path ++ at ∷ [])
path_more seen path at lt all =
    All-push (λ k. marked (set seen at true) k ≡ true) path at
    (All-weaker (λ k. marked seen k ≡ true) (λ k. marked (set seen at true) k ≡ true) (mark_stays seen at lt) path all)
    (get_or-set_same seen at true false lt)

pub apart_more : (seen : List Bool) (path : List ℕ) (at : ℕ) → marked seen at ≡ false → All (λ k. marked seen k ≡ true) path
    → AreApart path → AreApart (path ++ at ∷ [])
apart_more seen path at new all apart =
    all_pairs_push (λ i j. i ≢ j) path at apart
    (λ k d lt e. false≢true (sym new ∙ ap (marked seen) (sym e) ∙ all k d lt))

pub linked_more : (rows : List (List Bool)) (path : List ℕ) (at next : ℕ) → Linked rows (path ++ at ∷ []) → edge rows at next ≡ true
    → Linked rows ((path ++ at ∷ []) ++ next ∷ [])
linked_more rows path at next h e =
    subst (Linked rows) (sym (append_assoc path (at ∷ []) (next ∷ []))) (linked_join rows path at (next ∷ []) h (e, tt))

-- the path from the place where it comes back is a round
pub cut_round : (rows : List (List Bool)) (path : List ℕ) (at k : ℕ) → k < length path → get_or path k 0 ≡ at
    → Linked rows (path ++ at ∷ []) → IsRound rows (drop k path)
unfolding IsRound
cut_round rows path at k lt e h =
    let rest : List ℕ = drop (k + 1) path in
    let first : drop k path ≡ at ∷ rest = drop_more path k 0 lt ∙ ap (λ x. x ∷ rest) e in
    let whole : path ++ at ∷ [] ≡ take k path ++ at ∷ (rest ++ at ∷ []) =
    ap (λ p. p ++ at ∷ []) (sym (take-append-drop k path)) ∙ ap (λ d. (take k path ++ d) ++ at ∷ []) first
    ∙ append_assoc (take k path) (at ∷ rest) (at ∷ [])
    in
    subst (IsRound rows) (sym first) (linked_split rows (take k path) at (rest ++ at ∷ []) (subst (Linked rows) whole h)).1

pub apart_drop : (path : List ℕ) (k : ℕ) → AreApart path → AreApart (drop k path)
apart_drop path k apart = λ i j d lt within e.
    apart (k + i) (k + j) d (omega arith) (omega (arith, length-drop k path))
    (sym (get_or-drop k path i d) ∙ e ∙ get_or-drop k path j d)

-- a round may begin anywhere
turn_parts : (rows : List (List Bool)) (a b : List ℕ) → IsRound rows (a ++ b) → IsRound rows (b ++ a)
unfolding IsRound
turn_parts rows [] b h = subst (IsRound rows) (sym (append-nil b)) h
turn_parts rows (u ∷ a) [] h = subst (IsRound rows) (append-nil (u ∷ a)) h
turn_parts rows (u ∷ a) (v ∷ b) h =
    let parts = linked_split rows (u ∷ a) v (b ++ u ∷ [])
    (subst (Linked rows) (append_assoc (u ∷ a) (v ∷ b) (u ∷ [])) h)
    in
    subst (Linked rows) (sym (append_assoc (v ∷ b) (u ∷ a) (v ∷ [])))
    (linked_join rows (v ∷ b) u (a ++ v ∷ []) parts.1 parts.0)

pub turn_round : (rows : List (List Bool)) (places : List ℕ) (m : ℕ) → IsRound rows places → IsRound rows (drop m places ++ take m places)
turn_round rows places m h =
    turn_parts rows (take m places) (drop m places) (subst (IsRound rows) (sym (take-append-drop m places)) h)

-- where a place of a turned list stood
where_was : (xs : List ℕ) (m k d : ℕ) → m ≤ length xs → k < length xs
    → (p : ℕ) × (p < length xs) × (get_or (drop m xs ++ take m xs) k d ≡ get_or xs p d) × ((k + m ≡ p) ⊎ (k + m ≡ p + length xs))
where_was xs m k d le lt =
    let n : length (drop m xs) ≡ length xs - m = length-drop m xs in
    elim (cases_lt k (length (drop m xs))) [
      | inl front ↦ (
        m + k,
        omega arith,
        get_or_append_left (drop m xs) (take m xs) d k front ∙ get_or-drop m xs k d,
        inl (omega arith),
      )
      | inr back ↦ (
        k - length (drop m xs),
        omega arith,
        get_or-append_right (drop m xs) (take m xs) (length (drop m xs)) k d refl back
            ∙ get_or-take m xs (k - length (drop m xs)) d (omega arith),
        inr (omega arith),
      )
    ]

pub apart_turned : (xs : List ℕ) (m : ℕ) → m ≤ length xs → AreApart xs → AreApart (drop m xs ++ take m xs)
apart_turned xs m le apart = λ i j d lt within same.
    let n : length (drop m xs ++ take m xs) ≡ length xs = grind (arith, common_steps) in
    let p = where_was xs m i d le (omega arith) in
    let q = where_was xs m j d le (omega arith) in
    let e : get_or xs p.0 d ≡ get_or xs q.0 d = sym p.2 ∙ same ∙ q.2 in
    elim (cases_order p.0 q.0) [
      | inl eq ↦ absurd (other_places i j m (length xs) p.0 q.0 lt (omega arith) p.3 q.3 eq)
      | inr (inl less) ↦ apart p.0 q.0 d less q.1 e
      | inr (inr more) ↦ apart q.0 p.0 d more p.1 (sym e)
    ]
  where
    other_places : (i j m n p q : ℕ) → i < j → j < n → (i + m ≡ p) ⊎ (i + m ≡ p + n) → (j + m ≡ q) ⊎ (j + m ≡ q + n) → p ≡ q → ⊥
    other_places i j m n p q lt jn (inl a) (inl b) e = absurd (omega arith)
    other_places i j m n p q lt jn (inl a) (inr b) e = absurd (omega arith)
    other_places i j m n p q lt jn (inr a) (inl b) e = absurd (omega arith)
    other_places i j m n p q lt jn (inr a) (inr b) e = absurd (omega arith)

-- places turned to the least begin with it
pub least_turned : (places : List ℕ) (m : ℕ) → m < length places → All (λ j. get_or places m 0 ≤ j) places
    → IsLeastFirst (drop m places ++ take m places)
least_turned places m lt all =
    let least : ℕ = get_or places m 0 in
    let first : drop m places ≡ least ∷ drop (m + 1) places = drop_more places m 0 lt in
    let turned : All (λ j. least ≤ j) (drop m places ++ take m places) =
    All-append (λ j. least ≤ j) (drop m places) (take m places)
    (All-drop (λ j. least ≤ j) m places all) (All-take (λ j. least ≤ j) m places all)
    in
    subst (λ d. IsLeastFirst (d ++ take m places)) (sym first) (subst (λ d. All (λ j. least ≤ j) (d ++ take m places)) first turned)
