use Rattle.std.proofs.Common.{◌∙◌, sym}
use Rattle.vx_run.proofs.Judged.{legal_unasked, judged_given_up}
use Rattle.vx_run.proofs.judging.judge_fed.Goals as goal

pub fault_of-requires : goal.fault_of-requires
fault_of-requires g c = legal_unasked c.args.hub.now.engine.log c.in-Some.cause c.requires.hub.stands.legal (sym c.abandoned.ensures ∙ c.in-Some.is)

pub returns-in-Some-clause-judged : goal.returns-in-Some-clause-judged
returns-in-Some-clause-judged g c =
    let log = c.args.hub.now.engine.log in
    let is = sym c.abandoned.ensures ∙ c.in-Some.is in
    judged_given_up log c.in-Some.cause c.fault_of.result is (legal_unasked log c.in-Some.cause c.requires.hub.stands.legal is) c.fault_of.ensures
