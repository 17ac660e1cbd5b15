-- The transforms that a program hands in, and which instance runs each.
use Rattle.std.proofs.Common.{◌≡◌, ◌∙◌, ℕ, zero, suc, ◌+◌, ◌<◌, ◌≤◌, Bool, true, false, cond, Option, Some, None, is_none, ◌⊎◌, inl, inr, List, [], ◌∷◌, ◌++◌, set, replicate, length, take, get_or, nat_lt, refl, sym, ap, arith}
use Rattle.std.proofs.lemmas.Grind.{common_steps}
use Rattle.std.specs.List.{position, position_or_len}
use Rattle.std.proofs.lemmas.Bool.{and_parts, lt-ltb}
use Rattle.std.proofs.lemmas.Bool.Decides.{nat_tests}
use Rattle.std.proofs.lemmas.List.{map-set, set_past, length-map, take_more_set, replicate_more}
use Rattle.std.proofs.lemmas.Option.{none-some, same_Some}
use Rattle.std.proofs.lemmas.List.Sums.{position_or_len_is}
use Rattle.std.proofs.Math.Seq.{map-set_same}
use Rattle.vx_value.specs.Texts.{ByteString, same_text}
use Rattle.vx_keeping.specs.Assigning.{Host, assigned, is_free, names_of, runs_of}

-- none of the first so many passes a test
abbrev pub NoneBefore : (Host → Bool) → List Host → ℕ → Type 0
NoneBefore test hosts i = (k : ℕ) (d : Host) → k < i → test (get_or hosts k d) ≡ false

module _ (test : Host → Bool) (hosts : List Host) where
  pub first_here : (i : ℕ) (d : Host) → i < length hosts → NoneBefore test hosts i → test (get_or hosts i d) ≡ true → Some i ≡ position test hosts
  first_here i d within none passes =
      let here : position_or_len test hosts ≡ i = position_or_len_is test hosts i d (omega (arith, within)) (λ k less. none k d less) (λ _. passes) in
      let less : nat_lt i (length hosts) ≡ true = lt-ltb i (length hosts) within in
      sym (ap (λ n. cond (nat_lt n (length hosts)) (Some n) None) here ∙ ap (λ b. cond b (Some i) None) less)

  pub none_there : (i : ℕ) → length hosts ≤ i → NoneBefore test hosts i → None ≡ position test hosts
  none_there i all none =
      let d : Host = record { name = []; instance = None } in
      let past : position_or_len test hosts ≡ length hosts = position_or_len_is test hosts (length hosts) d (omega arith) (λ k less. none k d (omega (arith, less, all))) (λ less. absurd (omega (arith, less))) in
      let end : nat_lt (length hosts) (length hosts) ≡ false = grind (arith, nat_tests) in
      sym (ap (λ n. cond (nat_lt n (length hosts)) (Some n) None) past ∙ ap (λ b. cond b (Some (length hosts)) None) end)

-- one of them is changed, but for its name
pub renamed : (hosts : List Host) (i : ℕ) (new d : Host) → new.name ≡ (get_or hosts i d).name → names_of (set hosts i new) ≡ names_of hosts
renamed hosts i new d is = map-set_same (λ (host : Host). host.name) hosts i new d is

-- which ones may be run for a component of a name
abbrev is_free_of : ByteString → Host → Bool
is_free_of name host = is_free name host.name host.instance

set_next : (x : Option ℕ) (xs : List (Option ℕ)) (n : ℕ) (y : Option ℕ) → set (x ∷ xs) (1 + n) y ≡ x ∷ set xs n y
set_next x xs n y =
    let next : 1 + n ≡ suc n = omega arith in
    ap (λ k. set (x ∷ xs) k y) next

-- what runs some is set where the first that is free stands
pub assigned_set : (name : ByteString) (i : ℕ) (hosts : List Host) → assigned name i (names_of hosts) (runs_of hosts) ≡ set (runs_of hosts) (position_or_len (is_free_of name) hosts) (Some i)
assigned_set name i [] = refl
assigned_set name i (h ∷ hosts) = go (is_free name h.name h.instance) refl (assigned_set name i hosts)
  where
    go : (free : Bool) → is_free name h.name h.instance ≡ free → assigned name i (names_of hosts) (runs_of hosts) ≡ set (runs_of hosts) (position_or_len (is_free_of name) hosts) (Some i) → assigned name i (names_of (h ∷ hosts)) (runs_of (h ∷ hosts)) ≡ set (runs_of (h ∷ hosts)) (position_or_len (is_free_of name) (h ∷ hosts)) (Some i)
    go true is rest = rw is refl
    go false is rest = rw is (ap (λ runs. h.instance ∷ runs) rest ∙ sym (set_next h.instance (runs_of hosts) (position_or_len (is_free_of name) hosts) (Some i)))

-- the first that is free is run from then on
pub assigned_at : (name : ByteString) (i : ℕ) (hosts : List Host) (place : ℕ) (new : Host) → Some place ≡ position (is_free_of name) hosts → new.instance ≡ Some i → runs_of (set hosts place new) ≡ assigned name i (names_of hosts) (runs_of hosts)
assigned_at name i hosts place new is runs =
    let at : position_or_len (is_free_of name) hosts ≡ place = grind (arith, common_steps, is) in
    map-set (λ (host : Host). host.instance) hosts place new ∙ ap (set (runs_of hosts) place) runs ∙ sym (assigned_set name i hosts ∙ ap (λ n. set (runs_of hosts) n (Some i)) at)

-- where none is free, none is run from then on
pub assigned_none : (name : ByteString) (i : ℕ) (hosts : List Host) → None ≡ position (is_free_of name) hosts → runs_of hosts ≡ assigned name i (names_of hosts) (runs_of hosts)
assigned_none name i hosts is =
    let past : length hosts ≤ position_or_len (is_free_of name) hosts = grind (arith, common_steps, is) in
    let all : length (runs_of hosts) ≡ length hosts = length-map hosts (λ (host : Host). host.instance) in
    sym (assigned_set name i hosts ∙ set_past (runs_of hosts) (position_or_len (is_free_of name) hosts) (Some i) (omega (arith, past, all)))

-- one more is run by none
pub released_more : (hosts : List Host) (place : ℕ) (new : Host) → place < length hosts → take place (runs_of hosts) ≡ replicate place None → new.instance ≡ None → take (place + 1) (runs_of (set hosts place new)) ≡ replicate (place + 1) None
released_more hosts place new within before runs =
    let all : length (runs_of hosts) ≡ length hosts = length-map hosts (λ (host : Host). host.instance) in
    ap (take (place + 1)) (map-set (λ (host : Host). host.instance) hosts place new ∙ ap (set (runs_of hosts) place) runs) ∙ take_more_set (runs_of hosts) place None (omega (arith, within, all)) ∙ ap (λ first. first ++ None ∷ []) before ∙ replicate_more place None

-- those of the same names are as many
pub same_count : (hosts others : List Host) → names_of hosts ≡ names_of others → length hosts ≡ length others
same_count hosts others same = sym (length-map hosts (λ (host : Host). host.name)) ∙ ap length same ∙ length-map others (λ (host : Host). host.name)

-- as many are run or not as before
pub assigned_count : (name : ByteString) (i : ℕ) (names : List ByteString) (runs : List (Option ℕ)) → length (assigned name i names runs) ≡ length runs
assigned_count name i [] runs = refl
assigned_count name i (own ∷ names) [] = refl
assigned_count name i (own ∷ names) (run ∷ runs) = go (is_free name own run) (assigned_count name i names runs)
  where
    go : (free : Bool) → length (assigned name i names runs) ≡ length runs → length (cond free (Some i ∷ runs) (run ∷ assigned name i names runs)) ≡ length (run ∷ runs)
    go true rest = refl
    go false rest = ap suc rest

-- what runs one goes on
pub assigned_kept : (name : ByteString) (i : ℕ) (names : List ByteString) (runs : List (Option ℕ)) (place j : ℕ) → get_or runs place None ≡ Some j → get_or (assigned name i names runs) place None ≡ Some j
assigned_kept name i [] runs place j is = is
assigned_kept name i (own ∷ names) [] place j is = is
assigned_kept name i (own ∷ names) (run ∷ runs) zero j is = go run is
  where
    go : (run : Option ℕ) → run ≡ Some j → get_or (cond (is_free name own run) (Some i ∷ runs) (run ∷ assigned name i names runs)) zero None ≡ Some j
    go None is = absurd (none-some j is)
    go (Some k) is = is
assigned_kept name i (own ∷ names) (run ∷ runs) (suc place) j is = go (is_free name own run) (assigned_kept name i names runs place j is)
  where
    go : (free : Bool) → get_or (assigned name i names runs) place None ≡ Some j → get_or (cond free (Some i ∷ runs) (run ∷ assigned name i names runs)) (suc place) None ≡ Some j
    go true rest = is
    go false rest = rest

-- which ones are run: those that were, and one of the name
pub assigned_new : (name : ByteString) (i : ℕ) (names : List ByteString) (runs : List (Option ℕ)) (place j : ℕ) → get_or (assigned name i names runs) place None ≡ Some j → (get_or runs place None ≡ Some j) ⊎ ((i ≡ j) × (same_text name (get_or names place []) ≡ true))
assigned_new name i [] runs place j is = inl is
assigned_new name i (own ∷ names) [] place j is = inl is
assigned_new name i (own ∷ names) (run ∷ runs) zero j is = go (is_free name own run) refl is
  where
    go : (free : Bool) → is_free name own run ≡ free → get_or (cond free (Some i ∷ runs) (run ∷ assigned name i names runs)) zero None ≡ Some j → (run ≡ Some j) ⊎ ((i ≡ j) × (same_text name own ≡ true))
    go true free is = inr (same_Some i j is, (and_parts (is_none run) (same_text name own) free).1)
    go false free is = inl is
assigned_new name i (own ∷ names) (run ∷ runs) (suc place) j is = go (is_free name own run) is (assigned_new name i names runs place j)
  where
    go : (free : Bool) → get_or (cond free (Some i ∷ runs) (run ∷ assigned name i names runs)) (suc place) None ≡ Some j →
        (get_or (assigned name i names runs) place None ≡ Some j → (get_or runs place None ≡ Some j) ⊎ ((i ≡ j) × (same_text name (get_or names place []) ≡ true))) →
        (get_or runs place None ≡ Some j) ⊎ ((i ≡ j) × (same_text name (get_or names place []) ≡ true))
    go true is rest = inl is
    go false is rest = rest is

-- where one of the name is run by none, one is run from then on
pub assigned_one : (name : ByteString) (i : ℕ) (names : List ByteString) (runs : List (Option ℕ)) (place : ℕ) → length runs ≡ length names → place < length names → get_or runs place None ≡ None → same_text name (get_or names place []) ≡ true →
    (at : ℕ) × (at < length names) × (get_or (assigned name i names runs) at None ≡ Some i)
assigned_one name i [] runs place count within none same = absurd (omega (arith, within))
assigned_one name i (own ∷ names) [] place count within none same = absurd (omega (arith, count))
assigned_one name i (own ∷ names) (run ∷ runs) zero count within none same = go run none
  where
    go : (run : Option ℕ) → run ≡ None → (at : ℕ) × (at < length (own ∷ names)) × (get_or (cond (is_free name own run) (Some i ∷ runs) (run ∷ assigned name i names runs)) at None ≡ Some i)
    go None none = (0, omega arith, rw same refl)
    go (Some k) none = absurd (none-some k (sym none))
assigned_one name i (own ∷ names) (run ∷ runs) (suc place) count within none same = go (is_free name own run) (assigned_one name i names runs place (omega (arith, count)) (omega (arith, within)) none same)
  where
    go : (free : Bool) → (at : ℕ) × (at < length names) × (get_or (assigned name i names runs) at None ≡ Some i) → (at : ℕ) × (at < length (own ∷ names)) × (get_or (cond free (Some i ∷ runs) (run ∷ assigned name i names runs)) at None ≡ Some i)
    go true rest = (0, omega arith, refl)
    go false rest = (suc rest.0, omega (arith, rest.1), rest.2)
