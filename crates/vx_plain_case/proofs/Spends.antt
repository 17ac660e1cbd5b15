-- Nothing between two instances of a chain is spent: only what is held.
use Rattle.std.proofs.Common.{◌≡◌, ℕ, ◌+◌, ◌<◌, Bool, true, false, List, [], ◌∷◌, refl, sym, ap, subst, ◌∙◌, arith}
use Rattle.std.specs.Prelude.{◌==◌, ◌&&◌, if◌then◌else◌, Some}
use Rattle.std.proofs.lemmas.Bool.{eqb-true, eq-eqb}
use Rattle.std.proofs.lemmas.Bool.Decides.{nat_tests}
use Rattle.vx_status.specs.declared.outcome.Outcome.{Outcome}
use Rattle.vx_status.specs.declared.outcome.Outcome.TheVariants.{Delivered, Attempts, Refusal, Abandoned, NoConsumer, Filtered, NewestDropped}
use Rattle.vx_plan.specs.declared.plan.Plan.{Plan}
use Rattle.vx_record.specs.declared.entry.Entry.TheVariants.{Spent}
use Rattle.vx_record.specs.Records.{Record}
use Rattle.vx_record.specs.Copies.{count, joined}
use Rattle.vx_record.specs.Places.{Place, owner}
use Rattle.vx_record.specs.Places.Place.{Outputs, Waiting, Contents, Held}
use Rattle.vx_record.specs.Lists.{shrunk, outputs, waiting, held}
use Rattle.vx_record.specs.Parcels.{first_copy, parcel_ports, port_list}
use Rattle.vx_record.specs.Installs.{in_force}
use Rattle.vx_record.specs.Routing.{routes}
use Rattle.vx_record.specs.Sending.{IsOldest}
use Rattle.vx_record.specs.Spending.{oldest, MaySpend, WasNewest, HadNoTarget}
use Rattle.vx_record.specs.Abandoning.{abandoned}
use Rattle.vx_record.specs.Ceasing.{readers_on}
use Rattle.vx_record.specs.Shifts.{at}
use Rattle.vx_record.specs.Legal.{IsLegal}
use Rattle.vx_record.proofs.Counts.{count-append}
use Rattle.vx_record.proofs.Changes.{NoneEmpty, shrunk-none}
use Rattle.vx_record.proofs.Promises.{decided_held}
use Rattle.vx_record.proofs.FirstPort.{open_routes, first_readers}
use Rattle.vx_record.proofs.Shifting.{stands_at}
use Rattle.vx_plain_case.specs.Plain.{Feeds}
use Rattle.vx_plain_case.proofs.Plans.{Run, Sends, Buffers, readers_wired, never_drops}
use Rattle.vx_plain_case.proofs.Standing.{IsAt, full_at, not_at}
use Rattle.vx_plain_case.proofs.FirstPorts.{out_first}

-- where a spent copy stood: it was held, or is the newest that a full target drops, or nobody reads it
pub data Whence (h : Record) (j c : ℕ) : Type 0 where
  from_held : IsAt h (Held j) c → Whence h j c
  from_waiting : (t : ℕ) → WasNewest h j c t → Whence h j c
  from_outputs : HadNoTarget h j c → Whence h j c

-- what is held stands there
at_held : (h : Record) (j c : ℕ) → IsLegal h → 0 < count c (joined (held h j)) → IsAt h (Held j) c
at_held h j c legal l = subst (λ (ps : List (List ℕ)). 0 < count c (joined ps)) (stands_at h (Held j) legal) l

-- each spend of a run that wasn't given up has such a place
pub spent_whence : (h : Record) (j c : ℕ) (outcome : Outcome) → IsLegal h → abandoned h ≡ false → MaySpend h j c outcome → Whence h j c
spent_whence h j c Delivered legal whole may = from_held (at_held h j c legal (decided_held h j c Delivered legal tt may))
spent_whence h j c Refusal legal whole may = from_held (at_held h j c legal (decided_held h j c Refusal legal tt may))
spent_whence h j c Attempts legal whole may = from_held (at_held h j c legal (decided_held h j c Attempts legal tt may))
spent_whence h j c Filtered legal whole may = from_held (at_held h j c legal (decided_held h j c Filtered legal tt may))
spent_whence h j c NewestDropped legal whole may = from_waiting may.cause.0 may.cause.1
spent_whence h j c NoConsumer legal whole may = from_outputs may.cause
spent_whence h j c Abandoned legal whole may = let no : true ≡ false = sym may.cause.0 ∙ whole in cc

-- where nothing of a place is spent the place stays
pub spent_stays : (h : Record) (j c : ℕ) (outcome : Outcome) (p : Place) → IsLegal h → (j ≡ owner p → count c (joined (at h p)) ≡ 0) →
    at (Spent j c outcome ∷ h) p ≡ at h p
spent_stays h j c outcome p legal none = go (j == owner p) refl
  where
    apart : (d : ℕ) → count c (joined (at h p)) ≡ 0 → 0 < count d (joined (at h p)) → (b : Bool) → (c == d) ≡ b → (if b then 1 else 0) + 0 ≡ 0
    apart d gone l false is = refl
    apart d gone l true is =
        let same = subst (λ (x : ℕ). count x (joined (at h p)) ≡ 0) (eqb-true c d is) gone in absurd (omega (arith, same, l))

    go : (b : Bool) → (j == owner p) ≡ b → (if b then shrunk (c ∷ []) (at h p) else at h p) ≡ at h p
    go true is = shrunk-none (c ∷ []) (at h p) (full_at h p legal) (λ d l. apart d (none (eqb-true j (owner p) is)) l (c == d) refl)
    go false is = refl

-- what is in the oldest parcel is in one
among_oldest : (c : ℕ) (ps : List (List ℕ)) → 0 < count c (oldest ps) → 0 < count c (joined ps)
among_oldest c [] some = absurd (omega (arith, some))
among_oldest c (p ∷ ps) some = let all = count-append c p (joined ps) in omega (arith, some, all)

-- the newest child waits, and an unread output stands
pub newest_at : (h : Record) (j c t : ℕ) → IsLegal h → WasNewest h j c t → IsAt h (Waiting j t) c
newest_at h j c t legal was = subst (λ (ps : List (List ℕ)). 0 < count c (joined ps)) (stands_at h (Waiting j t) legal) (among_oldest c (waiting h j t) was.next)

-- an unread output stands
pub unread_at : (h : Record) (j c : ℕ) → IsLegal h → HadNoTarget h j c → IsAt h (Outputs j) c
unread_at h j c legal was = subst (λ (ps : List (List ℕ)). 0 < count c (joined ps)) (stands_at h (Outputs j) legal) (among_oldest c (outputs h j) was.next)

-- BETWEEN TWO INSTANCES
oldest_is : (c : ℕ) (ps : List (List ℕ)) → 0 < count c (oldest ps) → IsOldest (oldest ps) ps
oldest_is c [] some = absurd (omega (arith, some))
oldest_is c (p ∷ ps) some = refl

-- the first copy of the oldest of some parcels is among them
pub first_stands : (copies : List ℕ) (ps : List (List ℕ)) → IsOldest copies ps → NoneEmpty ps → 0 < count (first_copy copies) (joined ps)
first_stands copies [] old full = absurd old
first_stands copies ([] ∷ ps) old full = absurd full
first_stands copies ((x ∷ xs) ∷ ps) old full =
    let here : (x == x) ≡ true = eq-eqb x x refl in
    let some : 0 < count x (joined ((x ∷ xs) ∷ ps)) = grind (arith, nat_tests, here) in
    subst (λ (cs : List ℕ). 0 < count (first_copy cs) (joined ((x ∷ xs) ∷ ps))) (sym old) some

-- the oldest output of who sends is on the first port
pub oldest_first : (plan : Plan) (h : Record) (i : ℕ) (copies : List ℕ) → Sends plan i → IsLegal h → in_force h ≡ Some plan → IsOldest copies (outputs h i) →
    parcel_ports h copies ≡ 1
oldest_first plan h i copies sends legal force old =
    let same : outputs h i ≡ at h (Outputs i) = stands_at h (Outputs i) legal in
    let old_at : IsOldest copies (at h (Outputs i)) = subst (IsOldest copies) same old in
    out_first plan h i (first_copy copies) sends legal force (first_stands copies (at h (Outputs i)) old_at (full_at h (Outputs i) legal))

-- so it goes to the reader
pub oldest_routes : (plan : Plan) (h : Record) (i t : ℕ) (copies : List ℕ) → Sends plan i → Feeds plan i t → IsLegal h → in_force h ≡ Some plan →
    IsOldest copies (outputs h i) → routes h i (port_list (parcel_ports h copies)) ≡ t ∷ []
oldest_routes plan h i t copies sends feeds legal force old =
    open_routes h i copies (port_list (parcel_ports h copies)) old
    ∙ ap (λ n. readers_on h i (port_list n)) (oldest_first plan h i copies sends legal force old)
    ∙ first_readers h i ∙ readers_wired plan h i 0 legal force ∙ feeds.only

-- nothing that is put out for a reader is spent
pub spent_outputs : (plan : Plan) (h : Record) (i t j c : ℕ) (outcome : Outcome) → Sends plan i → Feeds plan i t → Run plan h → MaySpend h j c outcome →
    at (Spent j c outcome ∷ h) (Outputs i) ≡ at h (Outputs i)
spent_outputs plan h i t j c outcome sends feeds run may =
    spent_stays h j c outcome (Outputs i) run.legal (λ same. go same (spent_whence h j c outcome run.legal run.whole may))
  where
    go : j ≡ i → Whence h j c → count c (joined (at h (Outputs i))) ≡ 0
    go same (from_held l) = not_at h (Held j) (Outputs i) c run.legal refl l
    go same (from_waiting u was) = not_at h (Waiting j u) (Outputs i) c run.legal refl (newest_at h j c u run.legal was)
    go same (from_outputs was) =
        let here : HadNoTarget h i c = subst (λ (k : ℕ). HadNoTarget h k c) same was in
        let none : t ∷ [] ≡ [] =
        sym (oldest_routes plan h i t (oldest (outputs h i)) sends feeds run.legal run.installed (oldest_is c (outputs h i) here.next)) ∙ here.no_target in
        cc

-- nor what waits for one that blocks
pub spent_waiting : (plan : Plan) (h : Record) (i t j c : ℕ) (outcome : Outcome) → Buffers plan t → Run plan h → MaySpend h j c outcome →
    at (Spent j c outcome ∷ h) (Waiting i t) ≡ at h (Waiting i t)
spent_waiting plan h i t j c outcome buffers run may =
    spent_stays h j c outcome (Waiting i t) run.legal (λ same. go (spent_whence h j c outcome run.legal run.whole may))
  where
    newest : (u : ℕ) → WasNewest h j c u → (b : Bool) → (u == t) ≡ b → count c (joined (at h (Waiting i t))) ≡ 0
    newest u was true is =
        let here : WasNewest h j c t = subst (λ (k : ℕ). WasNewest h j c k) (eqb-true u t is) was in
        let no : true ≡ false = sym here.drops ∙ never_drops plan h t buffers run.legal run.installed in cc
    newest u was false is =
        not_at h (Waiting j u) (Waiting i t) c run.legal (apart (j == i)) (newest_at h j c u run.legal was)
      where
        apart : (b : Bool) → (b && (u == t)) ≡ false
        apart true = is
        apart false = refl

    go : Whence h j c → count c (joined (at h (Waiting i t))) ≡ 0
    go (from_held l) = not_at h (Held j) (Waiting i t) c run.legal refl l
    go (from_waiting u was) = newest u was (u == t) refl
    go (from_outputs was) = not_at h (Outputs j) (Waiting i t) c run.legal refl (unread_at h j c run.legal was)

-- nor what stands in a buffer
pub spent_contents : (plan : Plan) (h : Record) (t s j c : ℕ) (outcome : Outcome) → Run plan h → MaySpend h j c outcome →
    at (Spent j c outcome ∷ h) (Contents t s) ≡ at h (Contents t s)
spent_contents plan h t s j c outcome run may =
    spent_stays h j c outcome (Contents t s) run.legal (λ same. go (spent_whence h j c outcome run.legal run.whole may))
  where
    go : Whence h j c → count c (joined (at h (Contents t s))) ≡ 0
    go (from_held l) = not_at h (Held j) (Contents t s) c run.legal refl l
    go (from_waiting u was) = not_at h (Waiting j u) (Contents t s) c run.legal refl (newest_at h j c u run.legal was)
    go (from_outputs was) = not_at h (Outputs j) (Contents t s) c run.legal refl (unread_at h j c run.legal was)
