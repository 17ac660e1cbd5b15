-- Numbers, routing, Leases and confirms of every legal record.
use Rattle.std.proofs.Common.{◌≡◌, ℕ, ◌+◌, Bool, true, false, cond, not, ◌&&◌, ◌||◌, List, [], ◌∷◌, ◌++◌, sym, refl, ap, ◌∙◌, arith, length, map}
use Rattle.std.specs.Prelude.{take_while, ◌==◌}
use Rattle.std.proofs.lemmas.List.{append-nil, append_assoc}
use Rattle.std.proofs.lemmas.List.Sums.{take_while-cons}
use Rattle.std.proofs.lemmas.Bool.{or_right}
use Rattle.vx_record.specs.declared.child.Child.{Child}
use Rattle.vx_record.specs.declared.entry.Entry.{Entry}
use Rattle.vx_record.specs.declared.entry.Entry.TheVariants.{Lease, Born, Split, Notice}
use Rattle.vx_record.specs.Records.{Record}
use Rattle.vx_record.specs.Copies.{children_of, next_copy}
use Rattle.vx_record.specs.Parcels.{port_list}
use Rattle.vx_record.specs.Routing.{routes}
use Rattle.vx_record.specs.Confirms.{Birth, births, births_in, was_delivered, is_delivered, confirm_prefix}
use Rattle.vx_record.specs.Abandoning.{abandoned}
use Rattle.vx_record.specs.Laws.{NumbersBounded, RoutingKept, NoLeaseAfterAbandon, PrefixGrows}
use Rattle.vx_record.proofs.OnePlace.{legal_before}

pub numbers_bounded : NumbersBounded
numbers_bounded [] legal = omega arith
numbers_bounded (Born i b place copies events waits stream end ∷ h) legal = legal.0.row.fits
numbers_bounded (Split i ports copies event children ∷ h) legal = legal.0.row.fits
numbers_bounded (e ∷ h) legal = let before = numbers_bounded h legal.1 in omega arith

targets-children_of : (next m : ℕ) (targets : List ℕ) → map (λ (child : Child). child.target) (children_of next m targets) ≡ targets
targets-children_of next m [] = refl
targets-children_of next m (target ∷ rest) = ap (λ ts. target ∷ ts) (targets-children_of (next + m) m rest)

pub routing_kept : RoutingKept
routing_kept later earlier i ports copies event children legal =
    let split = (legal_before later (Split i ports copies event children ∷ earlier) legal).0.row.split in
    ap (map (λ (child : Child). child.target)) split.made
    ∙ targets-children_of (next_copy earlier) (length copies) (routes earlier i (port_list ports))

pub no_lease_after_abandon : NoLeaseAfterAbandon
no_lease_after_abandon later earlier i worker now polls legal =
    go (abandoned earlier) (legal_before later (Lease i worker now polls ∷ earlier) legal).0.still
  where
    go : (b : Bool) → (b ≡ true → false ≡ true) → b ≡ false
    go false still = refl
    go true still = let e = still refl in cc

first_passes : (p : Birth → Bool) (x : Birth) (xs : List Birth) → p x ≡ true → take_while p (x ∷ xs) ≡ x ∷ take_while p xs
first_passes p x xs e = take_while-cons p x xs ∙ ap (λ b. cond b (x ∷ take_while p xs) []) e

first_fails : (p : Birth → Bool) (x : Birth) (xs : List Birth) → p x ≡ false → take_while p (x ∷ xs) ≡ []
first_fails p x xs e = take_while-cons p x xs ∙ ap (λ b. cond b (x ∷ take_while p xs) []) e

-- a longer list, of which more passes, has a longer run
run_grows : (p q : Birth → Bool) (xs ys : List Birth) → ((x : Birth) → p x ≡ true → q x ≡ true) →
    (more : List Birth) × (take_while q (xs ++ ys) ≡ take_while p xs ++ more)
run_grows p q [] ys weaker = (take_while q ys, refl)
run_grows p q (x ∷ xs) ys weaker = go (p x) refl (q x) refl (run_grows p q xs ys weaker)
  where
    go : (b : Bool) → p x ≡ b → (c : Bool) → q x ≡ c → (more : List Birth) × (take_while q (xs ++ ys) ≡ take_while p xs ++ more) →
        (more : List Birth) × (take_while q (x ∷ (xs ++ ys)) ≡ take_while p (x ∷ xs) ++ more)
    go true e true f ih =
        (ih.0, first_passes q x (xs ++ ys) f ∙ ap (λ r. x ∷ r) ih.1 ∙ sym (ap (λ r. r ++ ih.0) (first_passes p x xs e)))
    go true e false f ih = let g = weaker x e in absurd (cc)
    go false e c f ih = (take_while q (x ∷ (xs ++ ys)), sym (ap (λ r. r ++ take_while q (x ∷ (xs ++ ys))) (first_fails p x xs e)))

delivered_stays : (e : Entry) (h : Record) (b : ℕ) → was_delivered h b ≡ true → was_delivered (e ∷ h) b ≡ true
delivered_stays (Notice b' status) h b d = or_right ((b' == b) && is_delivered status) (was_delivered h b) d
delivered_stays e h b d = d

one_entry : (e : Entry) (h : Record) (i : ℕ) → (more : List Birth) × (confirm_prefix (e ∷ h) i ≡ confirm_prefix h i ++ more)
one_entry e h i =
    run_grows (λ (x : Birth). not x.waits || was_delivered h x.batch) (λ (x : Birth). not x.waits || was_delivered (e ∷ h) x.batch)
    (births h i) (births_in i e) (λ x passed. go (not x.waits) x.batch passed)
  where
    go : (b : Bool) (batch : ℕ) → (b || was_delivered h batch) ≡ true → (b || was_delivered (e ∷ h) batch) ≡ true
    go true batch d = refl
    go false batch d = delivered_stays e h batch d

pub prefix_grows : PrefixGrows
prefix_grows [] earlier i = ([], sym (append-nil (confirm_prefix earlier i)))
prefix_grows (e ∷ later) earlier i =
    let s = one_entry e (later ++ earlier) i in
    let ih = prefix_grows later earlier i in (
      ih.0 ++ s.0,
      s.1 ∙ ap (λ r. r ++ s.0) ih.1 ∙ append_assoc (confirm_prefix earlier i) ih.0 s.0,
    )
