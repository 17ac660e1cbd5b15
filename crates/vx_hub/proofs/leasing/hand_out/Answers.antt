use Rattle.vx_hub.proofs.Leases.{leased_gathers, leased_settled, out_two, handed}
use Rattle.vx_hub.proofs.leasing.hand_out.Goals as goal

pub gather-job-requires-clause-kept : goal.gather-job-requires-clause-kept
gather-job-requires-clause-kept g c = (leased_gathers c.lease-task.ensures.lent c.requires.stands c.requires.latest c.requires.ready).0

pub gather-job-requires-clause-may : goal.gather-job-requires-clause-may
gather-job-requires-clause-may g c = (leased_gathers c.lease-task.ensures.lent c.requires.stands c.requires.latest c.requires.ready).1

pub gather-job-requires-clause-settled : goal.gather-job-requires-clause-settled
gather-job-requires-clause-settled g c = (leased_settled c.lease-task.ensures.lent c.requires.stands c.requires.latest c.requires.ready).0

pub gather-job-requires-clause-untaken : goal.gather-job-requires-clause-untaken
gather-job-requires-clause-untaken g c = (leased_settled c.lease-task.ensures.lent c.requires.stands c.requires.latest c.requires.ready).1

pub lend-held-requires-clause-out : goal.lend-held-requires-clause-out
lend-held-requires-clause-out g c = out_two c.lease-task.ensures.lent c.gather-job.ensures.gathered.only

pub returns-clause-out : goal.returns-clause-out
returns-clause-out g c = let lend = c.lend-held.ensures in
    handed c.lease-task.ensures.lent c.lend-held.result c.requires.stands c.requires.ready.alone c.requires.well c.requires.lent
    c.gather-job.ensures.gathered lend.stands lend.lent lend.capacities lend.log lend.states lend.run lend.held lend.room
