-- What the sink of a chain gives, as events in order, and that each of its attempts gives all that it holds.
use Rattle.std.proofs.Common.{◌≡◌, ℕ, ◌+◌, ◌<◌, Bool, true, false, List, [], ◌∷◌, ◌++◌, map, Option, Some, None, refl, sym, ap, subst, ◌∙◌, arith}
use Rattle.std.specs.Prelude.{◌==◌, ◌&&◌, if◌then◌else◌, slice_get}
use Rattle.std.proofs.lemmas.Bool.{eqb-true, eq-eqb}
use Rattle.std.proofs.lemmas.List.{append_assoc, append-nil}
use Rattle.vx_value.specs.Texts.{ByteString}
use Rattle.vx_value.specs.declared.event.Event.{Event}
use Rattle.vx_ends.specs.declared.trouble.Reply.{Reply}
use Rattle.vx_ends.specs.declared.trouble.Reply.TheVariants as reply
use Rattle.vx_codec.specs.declared.codec.Codec.{Codec}
use Rattle.vx_json.specs.Encoding.{encoded_event}
use Rattle.vx_plan.specs.declared.plan.Plan.{Plan}
use Rattle.vx_plan.specs.declared.component.Component.{Component}
use Rattle.vx_plan.specs.Components.{is_sink}
use Rattle.vx_plan.specs.Options.{encoding}
use Rattle.vx_record.specs.declared.entry.Entry.TheVariants.{Install, Attempt}
use Rattle.vx_record.specs.Records.{Record}
use Rattle.vx_record.specs.Copies.{count, joined}
use Rattle.vx_record.specs.Places.Place.{Held}
use Rattle.vx_record.specs.Lists.{held}
use Rattle.vx_record.specs.Parcels.{first_copy, parcel_event}
use Rattle.vx_record.specs.Installs.{in_force}
use Rattle.vx_record.specs.Encoding.{encode, bytes_for, given}
use Rattle.vx_record.specs.PortCounts.{is_refused, fault_count, refusal_count}
use Rattle.vx_record.specs.SinkBatches.{is_failed, failures_with, attempts_allowed}
use Rattle.vx_record.specs.Owing.{is_decided, decided}
use Rattle.vx_record.specs.Spending.{last_attempted}
use Rattle.vx_record.specs.Legal.{IsLegal}
use Rattle.vx_record.proofs.Counts.{count-append}
use Rattle.vx_record.proofs.Shifting.{stands_at}
use Rattle.vx_record.proofs.Wired.{component_there}
use Rattle.vx_plain_case.proofs.Standing.{events_at}

-- the component in a place is a sink that writes by a codec
pub record Writes (plan : Plan) (k : ℕ) (codec : Codec) : Type 0 where
  pub component : Component
  pub there : slice_get plan.components k ≡ Some component
  pub writes : is_sink component ≡ true
  pub encodes : encoding component.settings ≡ Some codec

-- no attempt of a sink failed or was refused
pub record Unfailed (h : Record) (k : ℕ) : Type 0 where
  pub faults : fault_count h k ≡ 0
  pub refusals : refusal_count h k ≡ 0

-- and none before an entry
pub unfailed_before : (h : Record) (e : _) (k : ℕ) → Unfailed (e ∷ h) k → Unfailed h k
unfailed_before h e k un = let f = un.faults in let r = un.refusals in record { faults = omega (arith, f); refusals = omega (arith, r) }

-- so each was answered Ok
pub answered_ok : (h : Record) (k : ℕ) (copies : List ℕ) (bytes : ByteString) (answer : Reply) → Unfailed (Attempt k copies bytes answer ∷ h) k → answer ≡ reply.Ok
answered_ok h k copies bytes answer un = go answer un.faults un.refusals
  where
    self : (k == k) ≡ true
    self = eq-eqb k k refl

    go : (answer : Reply) → fault_count h k + (if (k == k) && is_failed answer then 1 else 0) ≡ 0 →
        refusal_count h k + (if (k == k) && is_refused answer then 1 else 0) ≡ 0 → answer ≡ reply.Ok
    go reply.Ok f r = refl
    go reply.Failed f r =
        let one : fault_count h k + 1 ≡ 0 = subst (λ (b : Bool). fault_count h k + (if b && true then 1 else 0) ≡ 0) self f in absurd (omega (arith, one))
    go reply.Refused f r =
        let one : refusal_count h k + 1 ≡ 0 = subst (λ (b : Bool). refusal_count h k + (if b && true then 1 else 0) ≡ 0) self r in absurd (omega (arith, one))

-- and settled what became of its copies
pub attempted_decided : (h : Record) (k c : ℕ) → Unfailed h k → 0 < count c (last_attempted h k) → 0 < count c (joined (decided h k))
attempted_decided [] k c un some = some
attempted_decided (Attempt j copies bytes answer ∷ h) k c un some =
    go (j == k) refl some (attempted_decided h k c (unfailed_before h (Attempt j copies bytes answer) k un))
  where
    go : (b : Bool) → (j == k) ≡ b → 0 < count c (if b then copies else last_attempted h k) →
        (0 < count c (last_attempted h k) → 0 < count c (joined (decided h k))) →
        0 < count c (joined (if b && is_decided answer (failures_with h k (first_copy copies) + 1) (attempts_allowed h k) then copies ∷ decided h k else decided h k))
    go true is l before =
        let ok : answer ≡ reply.Ok =
        answered_ok h k copies bytes answer (subst (λ (n : ℕ). Unfailed (Attempt n copies bytes answer ∷ h) k) (eqb-true j k is) un) in
        subst (λ (a : Reply). 0 < count c (joined (if is_decided a (failures_with h k (first_copy copies) + 1) (attempts_allowed h k) then copies ∷ decided h k else decided h k)))
        (sym ok) (let all = count-append c copies (joined (decided h k)) in omega (arith, l, all))
    go false is l before = before l
attempted_decided (e ∷ h) k c un some = attempted_decided h k c (unfailed_before h e k un) some

-- WHAT IT GAVE
-- the events of the parcels that the attempts of a sink gave
abbrev pub given_events : Record → ℕ → List Event
given_events [] k = []
given_events (Attempt j copies bytes answer ∷ h) k = given_events h k ++ (if j == k then events_at h (Held k) else [])
given_events (e ∷ h) k = given_events h k

-- the encoding of events in a row
encode-append : (codec : Codec) (xs ys : List Event) → encode codec (xs ++ ys) ≡ encode codec xs ++ encode codec ys
encode-append codec [] ys = refl
encode-append codec (x ∷ xs) ys =
    ap (λ (w : ByteString). encoded_event codec x.fields ++ w) (encode-append codec xs ys)
    ∙ sym (append_assoc (encoded_event codec x.fields) (encode codec xs) (encode codec ys))

-- an attempt's bytes are those of all that the sink holds
whole_bytes : (plan : Plan) (h : Record) (k : ℕ) (codec : Codec) (copies : List ℕ) (bytes : ByteString) (answer : Reply) → Writes plan k codec → in_force h ≡ Some plan →
    IsLegal (Attempt k copies bytes answer ∷ h) → answer ≡ reply.Ok → bytes ≡ encode codec (events_at h (Held k))
whole_bytes plan h k codec copies bytes answer writes force legal ok =
    legal.0.row.whole ok
    ∙ ap (λ (o : Option Component). elim o [ None ↦ [] | Some c ↦ bytes_for c.settings (map (parcel_event h) (held h k)) ])
    (component_there h plan k writes.component legal.1 force writes.there)
    ∙ ap (λ (o : Option Codec). elim o [ None ↦ [] | Some c ↦ encode c (map (parcel_event h) (held h k)) ]) writes.encodes
    ∙ ap (λ (ps : List (List ℕ)). encode codec (map (parcel_event h) ps)) (stands_at h (Held k) legal.1)

-- so all its bytes are those of all that its attempts gave
pub given_bytes : (plan : Plan) (h : Record) (k : ℕ) (codec : Codec) → Writes plan k codec → IsLegal h → in_force h ≡ Some plan → Unfailed h k →
    given h k ≡ encode codec (given_events h k)
given_bytes plan [] k codec writes legal force un = refl
given_bytes plan (Install version made once instances now ∷ h) k codec writes legal force un =
    subst (λ (r : Record). given (Install version made once instances now ∷ r) k ≡ encode codec (given_events (Install version made once instances now ∷ r) k))
    (sym legal.0.row.first) refl
given_bytes plan (Attempt j copies bytes answer ∷ h) k codec writes legal force un =
    go (j == k) refl (given_bytes plan h k codec writes legal.1 force (unfailed_before h (Attempt j copies bytes answer) k un))
  where
    go : (b : Bool) → (j == k) ≡ b → given h k ≡ encode codec (given_events h k) →
        given h k ++ (if b then bytes else []) ≡ encode codec (given_events h k ++ (if b then events_at h (Held k) else []))
    go true is ih =
        let same = eqb-true j k is in
        let ok = answered_ok h k copies bytes answer (subst (λ (n : ℕ). Unfailed (Attempt n copies bytes answer ∷ h) k) same un) in
        ap (λ (w : ByteString). w ++ bytes) ih
        ∙ ap (λ (w : ByteString). encode codec (given_events h k) ++ w)
        (whole_bytes plan h k codec copies bytes answer writes force (subst (λ (n : ℕ). IsLegal (Attempt n copies bytes answer ∷ h)) same legal) ok)
        ∙ sym (encode-append codec (given_events h k) (events_at h (Held k)))
    go false is ih =
        append-nil (given h k) ∙ ih ∙ ap (λ (es : List Event). encode codec es) (sym (append-nil (given_events h k)))
given_bytes plan (e ∷ h) k codec writes legal force un =
    append-nil (given h k) ∙ given_bytes plan h k codec writes legal.1 force (unfailed_before h e k un)
