use Rattle.vx_hub.proofs.Remaining.{may_end, slots_end, unleased_all, ended_all, ports_say}
use Rattle.vx_hub.proofs.hub.Hub.end.Goals as goal

pub end_slots-requires : goal.end_slots-requires
end_slots-requires g c = let hub = c.requires.hub in slots_end hub.stands hub.served c.requires.over

pub end-requires : goal.end-requires
end-requires g c = let hub = c.requires.hub in may_end hub.stands hub.served c.requires.over

pub ports_of-requires-clause-unleased : goal.ports_of-requires-clause-unleased
ports_of-requires-clause-unleased g c = let hub = c.requires.hub in unleased_all hub.stands hub.served c.requires.over

pub returns-clause-ended : goal.returns-clause-ended
returns-clause-ended g c = let hub = c.requires.hub in ended_all hub.stands hub.served c.requires.over

pub returns-clause-closed : goal.returns-clause-closed
returns-clause-closed g c = let hub = c.requires.hub in let of = c.ports_of.ensures in
    (ports_say hub.stands hub.served c.requires.over hub.fed c.ports_of.result of.numbers of.ports).0

pub returns-clause-observed : goal.returns-clause-observed
returns-clause-observed g c = let hub = c.requires.hub in let of = c.ports_of.ensures in
    (ports_say hub.stands hub.served c.requires.over hub.fed c.ports_of.result of.numbers of.ports).1

pub returns-clause-observed_but : goal.returns-clause-observed_but
returns-clause-observed_but g c = let hub = c.requires.hub in let of = c.ports_of.ensures in
    (ports_say hub.stands hub.served c.requires.over hub.fed c.ports_of.result of.numbers of.ports).2
