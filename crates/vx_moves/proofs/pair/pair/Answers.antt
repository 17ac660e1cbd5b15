use Rattle.std.proofs.Common.{◌≡◌, ◌∙◌, List, [], ◌∷◌, ◌++◌, ap, arith, length, refl}
use Rattle.std.proofs.lemmas.List.{append_assoc, length-append, reverse-append}
use Rattle.vx_value.specs.declared.event.Event.{Event}
use Rattle.vx_ledger.specs.Copies.{Copy}
use Rattle.vx_transform.specs.declared.output.Output.{Output}
use Rattle.vx_moves.specs.Creating.{paired}
use Rattle.vx_moves.proofs.pair.pair.Goals as goal

-- the last event goes with the last copies
paired_last : (events : List Event) (lists : List (List Copy)) (event : Event) (copies : List Copy) → length events ≡ length lists →
    paired (events ++ event ∷ []) (lists ++ copies ∷ []) ≡ paired events lists ++ record { ports = 1; parcel = record { event = event; finalizers = copies } } ∷ []
paired_last [] [] event copies same = refl
paired_last (e ∷ es) (l ∷ ls) event copies same = ap (λ (ps : List Output). record { ports = 1; parcel = record { event = e; finalizers = l } } ∷ ps)
    (paired_last es ls event copies (omega (arith, same)))
paired_last events lists event copies same = absurd (omega (arith, same))

pub loop-event-preserved : goal.loop-event-preserved
loop-event-preserved c =
    let inv = c.loop-event.invariant in
    let last = c.in-Some.ensures.some in
    let last_copies = c.in-Some-pop.ensures.some in
    let pushed = c.push_reserved.ensures.items in
    let events = ap length last ∙ length-append c.pop.new.self (c.in-Some.event ∷ []) in
    let copies = ap length last_copies ∙ length-append c.pop-in-Some.new.self (c.in-Some-pop.finalizers ∷ []) in
    let parcels = ap length pushed ∙ length-append c.loop-event.outputs.items (record { ports = 1; parcel = record { event = c.in-Some.event; finalizers = c.in-Some-pop.finalizers } } ∷ []) in
    let each : length c.pop.new.self ≡ length c.pop-in-Some.new.self = omega (arith, events, copies, inv.each) in
    record {
      pairs = rw (pushed, reverse-append)
          (rw (last, last_copies, paired_last c.pop.new.self c.pop-in-Some.new.self c.in-Some.event c.in-Some-pop.finalizers each, append_assoc) at inv.pairs);
      each = each;
      room = omega (arith, events, parcels, inv.room, c.push_reserved.ensures.capacity);
    }
