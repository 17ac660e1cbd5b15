use Rattle.std.proofs.Common.{◌∙◌, ◌∷◌, List, length, Option, refl, sym, ap, arith}
use Rattle.vx_pick.specs.declared.picker.Picker.{Picker}
use Rattle.vx_record.specs.declared.entry.Entry.TheVariants.{Install}
use Rattle.vx_record.specs.Records.{Record}
use Rattle.vx_record.specs.Starting.{first_instances}
use Rattle.vx_instances.specs.Beginning.{AreFresh}
use Rattle.vx_hub.proofs.Begun.{pickers_size, full_roles, all_fresh, hub_first}
use Rattle.vx_hub.proofs.making.begin.Goals as goal

pub role_all-requires : goal.role_all-requires
role_all-requires g c = record {
  pickers = ap (λ (pickers : List (Option Picker)). length pickers) c.into_vec.ensures
      ∙ pickers_size c.args.parts.plan.components c.args.parts.pickers c.requires.pickers ∙ sym c.requires.room.roles_size;
}

pub returns-clause-hub : goal.returns-clause-hub
returns-clause-hub g c =
    let plan = c.args.parts.plan in
    let room = c.requires.room in
    let fresh : AreFresh g.P.Port.observed plan c.args.parts.once c.give_tasks.result.items =
    all_fresh c.requires.accepted c.args.parts.once c.args.room.states.items c.role_all.result.items c.into_vec-2.result.items c.give_tasks.result.items
    room.states (full_roles plan.components c.args.room.roles.items c.into_vec.result.items c.role_all.result.items room.roles
    (rw c.into_vec.ensures c.requires.pickers) c.role_all.ensures.roles) (rw c.into_vec-2.ensures c.requires.untouched) (c.give_tasks.ensures.size ∙ room.states_size) c.give_tasks.ensures.tasked in
    let all : AreFresh g.P.Port.observed plan c.args.parts.once c.new-states.result = rw c.new-states.ensures.same fresh in
    let noted = c.note.ensures ∙ ap (λ (h : Record). Install 0 plan c.args.parts.once (first_instances 0 plan.components) c.args.now ∷ h) c.new-log.ensures in
    let size = all.size in
    hub_first c.requires.accepted c.requires.few c.requires.served room c.into_vec-3.result (rw c.into_vec-3.ensures c.requires.keepers) all
    (c.new-states.ensures.knows plan c.args.parts.once c.args.now c.requires.accepted fresh) _ noted refl (omega (arith, size, room.port_slots)) room.none (rw all.size room.sources) (rw all.size room.mergers)
