-- A chain splits an output into one child, for its reader, and no other child waits for that reader.
use Rattle.std.proofs.Common.{◌≡◌, ℕ, ◌+◌, ◌<◌, Bool, true, false, List, [], ◌∷◌, ◌++◌, length, inl, inr, refl, sym, ap, subst, ◌∙◌, arith, Some}
use Rattle.std.specs.Prelude.{◌==◌, ◌&&◌, if◌then◌else◌}
use Rattle.std.proofs.lemmas.Bool.{cases_lt, eqb-true, eq-eqb}
use Rattle.vx_value.specs.declared.event.Event.{Event}
use Rattle.vx_plan.specs.declared.plan.Plan.{Plan}
use Rattle.vx_record.specs.declared.child.Child.{Child}
use Rattle.vx_record.specs.declared.entry.Entry.TheVariants.{Install, Split, Push, Spent}
use Rattle.vx_record.specs.Records.{Record}
use Rattle.vx_record.specs.Copies.{count, counting, children_of, next_copy}
use Rattle.vx_record.specs.Places.Place.{Waiting}
use Rattle.vx_record.specs.Lists.{and_rest, shrunk}
use Rattle.vx_record.specs.Parcels.{port_list}
use Rattle.vx_record.specs.Moving.{children_for}
use Rattle.vx_record.specs.Installs.{in_force, wired}
use Rattle.vx_record.specs.Routing.{routes, wired_targets}
use Rattle.vx_record.specs.Sending.{MaySplit}
use Rattle.vx_record.specs.Ceasing.{readers_on}
use Rattle.vx_record.specs.Shifts.{younger, at}
use Rattle.vx_record.specs.Legal.{IsLegal}
use Rattle.vx_record.proofs.Counts.{count-append}
use Rattle.vx_record.proofs.FirstPort.{split_read}
use Rattle.vx_plain_case.specs.Plain.{Feeds, readers_of}
use Rattle.vx_plain_case.proofs.Plans.{Sends, readers_wired}
use Rattle.vx_plain_case.proofs.Spends.{oldest_routes}

-- a Split of who sends makes one child, for its reader
pub split_one : (plan : Plan) (h : Record) (i t ports : ℕ) (copies : List ℕ) (event : Event) (children : List Child) → Sends plan i → Feeds plan i t →
    IsLegal h → in_force h ≡ Some plan → MaySplit h i ports copies event children →
    children ≡ record { target = t; copies = counting (next_copy h) (length copies) } ∷ []
split_one plan h i t ports copies event children sends feeds legal force may =
    may.split.made
    ∙ ap (λ (targets : List ℕ). children_of (next_copy h) (length copies) targets)
    (ap (λ n. routes h i (port_list n)) may.split.on_ports ∙ oldest_routes plan h i t copies sends feeds legal force may.split.oldest)

-- WHO WAITS
-- children for others are none for this target
children_none : (next m t : ℕ) (targets : List ℕ) → count t targets ≡ 0 → children_for t (children_of next m targets) ≡ []
children_none next m t [] none = refl
children_none next m t (u ∷ targets) none = go (u == t) none (children_none (next + m) m t targets)
  where
    go : (b : Bool) → (if b then 1 else 0) + count t targets ≡ 0 → (count t targets ≡ 0 → children_for t (children_of (next + m) m targets) ≡ []) →
        (if b then and_rest (counting next m) (children_for t (children_of (next + m) m targets)) else children_for t (children_of (next + m) m targets)) ≡ []
    go true some ih = absurd (omega (arith, some))
    go false few ih = ih (omega (arith, few))

-- who is among the readers of some ports reads one of them
reads_one : (plan : Plan) (h : Record) (j t : ℕ) (ports : List ℕ) → IsLegal h → in_force h ≡ Some plan → 0 < count t (readers_on h j ports) →
    (port : ℕ) × (0 < count t (readers_of plan j port))
reads_one plan h j t [] legal force some = absurd (omega (arith, some))
reads_one plan h j t (port ∷ ports) legal force some = elim (cases_lt 0 (count t (wired [] (wired_targets port) h j))) [
  | inl here ↦ (port, subst (λ (ts : List ℕ). 0 < count t ts) (readers_wired plan h j port legal force) here)
  | inr none ↦
      let all = count-append t (wired [] (wired_targets port) h j) (readers_on h j ports) in
      reads_one plan h j t ports legal force (omega (arith, some, none, all))
]

-- so who doesn't send to it makes no child for it
split_none : (plan : Plan) (h : Record) (i t j ports : ℕ) (copies : List ℕ) (event : Event) (children : List Child) → Feeds plan i t → (j == i) ≡ false →
    IsLegal h → in_force h ≡ Some plan → MaySplit h j ports copies event children → children_for t children ≡ []
split_none plan h i t j ports copies event children feeds other legal force may =
    ap (children_for t) (split_read h j ports copies event children may)
    ∙ children_none (next_copy h) (length copies) t (readers_on h j (port_list ports)) none
  where
    none : count t (readers_on h j (port_list ports)) ≡ 0
    none = elim (cases_lt 0 (count t (readers_on h j (port_list ports)))) [
      | inl some ↦
          let one = reads_one plan h j t (port_list ports) legal force some in
          let no : true ≡ false = sym (eq-eqb j i (feeds.alone j one.0 one.1)) ∙ other in cc
      | inr few ↦ omega (arith, few)
    ]

-- nobody else has children that wait for it
pub waits_elsewhere : (plan : Plan) (h : Record) (i t j : ℕ) → Feeds plan i t → (j == i) ≡ false → IsLegal h → in_force h ≡ Some plan → at h (Waiting j t) ≡ []
waits_elsewhere plan [] i t j feeds other legal force = refl
waits_elsewhere plan (Install version made once instances now ∷ h) i t j feeds other legal force = ap (λ (k : Record). at k (Waiting j t)) legal.0.row.first
waits_elsewhere plan (Split k ports copies event children ∷ h) i t j feeds other legal force = go (k == j) refl (waits_elsewhere plan h i t j feeds other legal.1 force)
  where
    go : (b : Bool) → (k == j) ≡ b → at h (Waiting j t) ≡ [] → (if b then at h (Waiting j t) ++ children_for t children else at h (Waiting j t)) ≡ []
    go true is ih =
        ap (λ (ps : List (List ℕ)). ps ++ children_for t children) ih
        ∙ split_none plan h i t k ports copies event children feeds (subst (λ (n : ℕ). (n == i) ≡ false) (sym (eqb-true k j is)) other) legal.1 force legal.0.row
    go false is ih = ih
waits_elsewhere plan (Push k u s copies ∷ h) i t j feeds other legal force = go ((k == j) && (u == t)) (waits_elsewhere plan h i t j feeds other legal.1 force)
  where
    go : (b : Bool) → at h (Waiting j t) ≡ [] → (if b then younger (at h (Waiting j t)) else at h (Waiting j t)) ≡ []
    go true ih = ap younger ih
    go false ih = ih
waits_elsewhere plan (Spent k c outcome ∷ h) i t j feeds other legal force = go (k == j) (waits_elsewhere plan h i t j feeds other legal.1 force)
  where
    go : (b : Bool) → at h (Waiting j t) ≡ [] → (if b then shrunk (c ∷ []) (at h (Waiting j t)) else at h (Waiting j t)) ≡ []
    go true ih = ap (shrunk (c ∷ [])) ih
    go false ih = ih
waits_elsewhere plan (e ∷ h) i t j feeds other legal force = waits_elsewhere plan h i t j feeds other legal.1 force
