use Rattle.std.proofs.Common.{◌<◌, ◌+◌, ◌++◌, List, [], ◌∷◌, ◌∙◌, sym, ap, subst, length, take, append-nil, arith}
use Rattle.std.specs.Option.{option_copied}
use Rattle.vx_pick.specs.declared.picker.Picker.{Picker}
use Rattle.vx_pick.specs.Picks.{ArePicked, Picks, StandsFor}
use Rattle.vx_value.specs.declared.event.Event.{Event}
use Rattle.vx_tasks.specs.Doing.{events_in}
use Rattle.vx_tasks.proofs.Judging.{picked_step, stood_step}
use Rattle.vx_tasks.proofs.Writing.{no_parcel}
use Rattle.vx_tasks.proofs.work.judge_all.Goals as goal
use Rattle.vx_tasks.proofs.work.judge_all.Goals.{in-Some+in_ok-on+in-Ok, in_default}

pub loop-i-init : goal.loop-i-init
loop-i-init c = record {
  ports = λ settings earlier picks stands tests judge mean rule. search;
  meant = λ settings picks some. absurd (omega (arith, some));
  stands = λ earlier stands. subst (λ (es : List Event). StandsFor c.args.picker.now es) (sym (append-nil earlier)) stands;
  picks = λ settings picks. picks;
}

pub loop-i-preserved : goal.loop-i-preserved
loop-i-preserved c =
    let items = c.args.parcels.now.items in
    let so = c.loop-i.invariant in
    let within : c.loop-i.i < length items = omega (arith, c.loop-i-test.true, c.len-i-end.ensures) in
    elim c.match-get.branch [
      | in-Some+in_ok-on+in-Ok w ↦
          let there = sym c.get.ensures ∙ ap option_copied w.in-Some.is in
          record {
            ports = λ settings earlier picks stands.
                picked_step settings earlier items c.loop-i.i w.in-Some.parcel.now c.loop-i.ports c.match-get.ports w.in_ok-on.on there (so.ports settings earlier picks stands)
                (subst (λ (event : Event). ArePicked settings (earlier ++ events_in (take c.loop-i.i items)) event w.in_ok-on.on) w.get-in-Some.ensures
                (w.in_ok-on.ensures.ports settings (earlier ++ events_in (take c.loop-i.i items)) (so.picks settings picks) (so.stands earlier stands)))
                (w.ports-is ∙ w.in-Ok.ensures.ok);
            meant = λ settings picks some. w.in_ok-on.ensures.meant settings (so.picks settings picks);
            stands = λ earlier stands.
                subst (λ (p : Picker). StandsFor p (earlier ++ events_in (take (c.loop-i.i + 1) items))) (sym w.picker-is)
                (stood_step w.ports_for.new.self earlier items c.loop-i.i w.in-Some.parcel.now there
                (subst (λ (event : Event). StandsFor w.ports_for.new.self ((earlier ++ events_in (take c.loop-i.i items)) ++ event ∷ [])) w.get-in-Some.ensures
                (w.in_ok-on.ensures.stands (earlier ++ events_in (take c.loop-i.i items)) (so.stands earlier stands))));
            picks = λ settings picks.
                subst (λ (p : Picker). Picks settings p) (sym w.picker-is) (w.in_ok-on.ensures.picks settings (so.picks settings picks));
          }
      | in_default w ↦ absurd (no_parcel items c.loop-i.i within (sym c.get.ensures ∙ ap option_copied w.in_default.is))
    ]
