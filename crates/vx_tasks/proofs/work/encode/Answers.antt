use Rattle.std.proofs.Common.{◌≡◌, ◌++◌, sym, ap, subst, ◌∙◌, arith, ◌<◌, length}
use Rattle.std.specs.Option.{option_copied}
use Rattle.vx_record.specs.Encoding.{encode_event}
use Rattle.vx_value.specs.declared.event.Event.{Event}
use Rattle.vx_tasks.proofs.Writing.{no_parcel, written_step}
use Rattle.vx_tasks.proofs.work.encode.Goals as goal
use Rattle.vx_tasks.proofs.work.encode.Goals.{in-Some+in_ok-encode_event, in_default}

pub loop-i-preserved : goal.loop-i-preserved
loop-i-preserved c =
    let items = c.args.parcels.now.items in
    let within : c.loop-i.i < length items = omega (arith, c.loop-i-test.true, c.len-i-end.ensures) in
    elim c.match-get.branch [
      | in-Some+in_ok-encode_event w ↦ w.out-is ∙ written_step c.args.codec c.loop-i.out w.encode_event.new.out items c.loop-i.i w.in-Some.parcel.now
          (sym c.get.ensures ∙ ap option_copied w.in-Some.is) c.loop-i.invariant
          (subst (λ (event : Event). w.encode_event.new.out ≡ c.loop-i.out ++ encode_event c.args.codec event) w.get-in-Some.ensures w.in_ok-encode_event.ensures.ok)
      | in_default w ↦ absurd (no_parcel items c.loop-i.i within (sym c.get.ensures ∙ ap option_copied w.in_default.is))
    ]
