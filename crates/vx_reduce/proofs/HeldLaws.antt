-- What is so of the events that are held.
use Rattle.std.proofs.Common.{◌≡◌, ℕ, zero, suc, ◌<◌, ◌≤◌, Bool, true, false, cond, List, [], ◌∷◌, ◌++◌, length, map, ◌⊎◌, inl, inr, arith, refl, sym, ◌∙◌, ap, subst}
use Rattle.std.specs.Prelude.{◌&&◌, ◌||◌}
use Rattle.std.specs.List.{list_any}
use Rattle.vx_value.specs.declared.event.Event.{Event}
use Rattle.vx_condition.specs.Steps.{Step, comes, ticks, ends}
use Rattle.vx_condition.specs.Picking.{Key, same_key}
use Rattle.vx_condition.specs.Reducing.{Settings, Arrival, arrivals, group_key, held_of, is_due, is_old, holds_some, period_start}
use Rattle.vx_reduce.proofs.KeyLaws.{key_equal}

-- an event that comes behind some steps
abbrev pub arrival_at : Event → ℕ → List Step → Arrival
arrival_at e now before = record { event = e; moment = now; place = length before }

-- ---- places
-- each of some events came at a place below this one
abbrev pub AreBelow : ℕ → List Arrival → Type 0
AreBelow n [] = Unit {0}
AreBelow n (a ∷ us) = (a.place < n) × AreBelow n us

pub below_next : (n : ℕ) (us : List Arrival) → AreBelow n us → AreBelow (suc n) us
below_next n [] h = tt
below_next n (a ∷ us) h = let first : a.place < n = h.0 in (omega arith, below_next n us h.1)

pub below_append : (n : ℕ) (us bs : List Arrival) → AreBelow n us → AreBelow n bs → AreBelow n (us ++ bs)
below_append n [] bs h k = k
below_append n (a ∷ us) bs h k = (h.0, below_append n us bs h.1 k)

pub arrivals_below : (before : List Step) → AreBelow (length before) (arrivals before)
arrivals_below [] = tt
arrivals_below (comes e now ∷ before) =
    below_append (suc (length before)) (arrivals before) (arrival_at e now before ∷ []) (below_next (length before) (arrivals before) (arrivals_below before)) (omega arith, tt)
arrivals_below (ticks now ∷ before) = below_next (length before) (arrivals before) (arrivals_below before)
arrivals_below (ends ∷ before) = below_next (length before) (arrivals before) (arrivals_below before)

pub held_below : (s : Settings) (before : List Step) (k : Key) → AreBelow (length before) (held_of s before k)
held_below s [] k = tt
held_below s (comes e now ∷ before) k =
    by_key (same_key (group_key s e) k) (s.ends_when e) (s.starts_when e) (below_next (length before) (held_of s before k) (held_below s before k))
  where
    by_key : (b c d : Bool) → AreBelow (suc (length before)) (held_of s before k) →
        AreBelow (suc (length before)) (cond b (cond c [] (cond d [] (held_of s before k) ++ arrival_at e now before ∷ [])) (held_of s before k))
    by_key true true d h = tt
    by_key true false true h = (omega arith, tt)
    by_key true false false h = below_append (suc (length before)) (held_of s before k) (arrival_at e now before ∷ []) h (omega arith, tt)
    by_key false c d h = h
held_below s (ticks now ∷ before) k =
    by_check (is_due s (holds_some s before) (period_start s before) now && is_old s now (held_of s before k)) (below_next (length before) (held_of s before k) (held_below s before k))
  where
    by_check : (b : Bool) → AreBelow (suc (length before)) (held_of s before k) → AreBelow (suc (length before)) (cond b [] (held_of s before k))
    by_check true h = tt
    by_check false h = h
held_below s (ends ∷ before) k = tt

-- some events came at places above this one
abbrev pub AreAbove : ℕ → List Arrival → Type 0
AreAbove n [] = Unit {0}
AreAbove n (a ∷ us) = (n < a.place) × AreAbove n us

-- each of some events came behind those before it
abbrev pub AreRising : List Arrival → Type 0
AreRising [] = Unit {0}
AreRising (a ∷ us) = AreAbove a.place us × AreRising us

above_append : (n : ℕ) (us : List Arrival) (x : Arrival) → AreAbove n us → n < x.place → AreAbove n (us ++ x ∷ [])
above_append n [] x h l = (l, tt)
above_append n (a ∷ us) x h l = (h.0, above_append n us x h.1 l)

rising_append : (us : List Arrival) (x : Arrival) → AreRising us → AreBelow x.place us → AreRising (us ++ x ∷ [])
rising_append [] x r b = (tt, tt)
rising_append (a ∷ us) x r b = (above_append a.place us x r.0 b.0, rising_append us x r.1 b.1)

pub arrivals_rise : (before : List Step) → AreRising (arrivals before)
arrivals_rise [] = tt
arrivals_rise (comes e now ∷ before) = rising_append (arrivals before) (arrival_at e now before) (arrivals_rise before) (arrivals_below before)
arrivals_rise (ticks now ∷ before) = arrivals_rise before
arrivals_rise (ends ∷ before) = arrivals_rise before

-- ---- the first of those that are held
-- an event is among others
abbrev pub IsAmong : Arrival → List Arrival → Type 0
IsAmong a [] = ⊥
IsAmong a (b ∷ bs) = (a ≡ b) ⊎ IsAmong a bs

pub among_front : (a : Arrival) (us bs : List Arrival) → IsAmong a us → IsAmong a (us ++ bs)
among_front a [] bs h = absurd h
among_front a (b ∷ us) bs h = by_place h (λ l. among_front a us bs l)
  where
    by_place : (a ≡ b) ⊎ IsAmong a us → (IsAmong a us → IsAmong a (us ++ bs)) → (a ≡ b) ⊎ IsAmong a (us ++ bs)
    by_place (inl e) f = inl e
    by_place (inr l) f = inr (f l)

pub among_last : (a : Arrival) (us : List Arrival) → IsAmong a (us ++ a ∷ [])
among_last a [] = inl refl
among_last a (b ∷ us) = inr (among_last a us)

or_true : (b : Bool) → (b || true) ≡ true
or_true true = refl
or_true false = refl

pub any_among : (p : Arrival → Bool) (a : Arrival) (us : List Arrival) → IsAmong a us → p a ≡ true → list_any p us ≡ true
any_among p a [] i h = absurd i
any_among p a (b ∷ us) i h = by_place i (λ l. any_among p a us l h)
  where
    by_place : (a ≡ b) ⊎ IsAmong a us → (IsAmong a us → list_any p us ≡ true) → (p b || list_any p us) ≡ true
    by_place (inl e) f = ap (λ t. t || list_any p us) (ap p (sym e) ∙ h)
    by_place (inr l) f = ap (λ t. p b || t) (f l) ∙ or_true (p b)

-- it came, and it has that key
pub record IsLed (s : Settings) (before : List Step) (k : Key) (a : Arrival) : Type 0 where
  pub among : IsAmong a (arrivals before)
  pub key : group_key s a.event ≡ k

pub first_led : (s : Settings) (before : List Step) (k : Key) (a : Arrival) (rest : List Arrival) → held_of s before k ≡ a ∷ rest → IsLed s before k a
first_led s [] k a rest h = absurd (cc)
first_led s (comes e now ∷ before) k a rest h =
    by_key (same_key (group_key s e) k) refl (s.ends_when e) (s.starts_when e) (held_of s before k) (λ b more g. first_led s before k b more g) h
  where
    own : same_key (group_key s e) k ≡ true → arrival_at e now before ≡ a → IsLed s (comes e now ∷ before) k a
    own t same = record {
      among = subst (λ (y : Arrival). IsAmong y (arrivals before ++ arrival_at e now before ∷ [])) same (among_last (arrival_at e now before) (arrivals before));
      key = subst (λ (y : Arrival). group_key s y.event ≡ k) same (key_equal s.group_by e k t);
    }

    older : (b : Arrival) → b ≡ a → IsLed s before k b → IsLed s (comes e now ∷ before) k a
    older b same i = record {
      among = subst (λ (y : Arrival). IsAmong y (arrivals before ++ arrival_at e now before ∷ [])) same (among_front b (arrivals before) (arrival_at e now before ∷ []) i.among);
      key = subst (λ (y : Arrival). group_key s y.event ≡ k) same i.key;
    }

    by_key : (t : Bool) → same_key (group_key s e) k ≡ t → (c d : Bool) (l : List Arrival) → ((b : Arrival) (more : List Arrival) → l ≡ b ∷ more → IsLed s before k b) →
        cond t (cond c [] (cond d [] l ++ arrival_at e now before ∷ [])) l ≡ a ∷ rest → IsLed s (comes e now ∷ before) k a
    by_key true t true d l f g = absurd (cc)
    by_key true t false true l f g = let same : arrival_at e now before ≡ a = cc in own t same
    by_key true t false false [] f g = let same : arrival_at e now before ≡ a = cc in own t same
    by_key true t false false (b ∷ more) f g = let same : b ≡ a = cc in older b same (f b more refl)
    by_key false t c d l f g = older a refl (f a rest g)
first_led s (ticks now ∷ before) k a rest h =
    by_check (is_due s (holds_some s before) (period_start s before) now && is_old s now (held_of s before k)) (λ g. first_led s before k a rest g) h
  where
    by_check : (b : Bool) → (held_of s before k ≡ a ∷ rest → IsLed s before k a) → cond b [] (held_of s before k) ≡ a ∷ rest → IsLed s (ticks now ∷ before) k a
    by_check true f g = absurd (cc)
    by_check false f g = let i = f g in record { among = i.among; key = i.key }
first_led s (ends ∷ before) k a rest h = absurd (cc)

-- its event has the key under which it is held
pub first_own : (s : Settings) (before : List Step) (k : Key) (a : Arrival) (rest : List Arrival) → held_of s before k ≡ a ∷ rest → group_key s a.event ≡ k
first_own s before k a rest h = (first_led s before k a rest h).key
