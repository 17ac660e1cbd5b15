use Rattle.vx_run.proofs.Completing.{answers_well, hosted_well}
use Rattle.vx_run.proofs.completeness.faultless_answers.Goals as goal

pub returns-clause-answers : goal.returns-clause-answers
returns-clause-answers g c words environment names configs before now was is h ports fault faultless legal answer blames observed numbers missing =
    answers_well g.P.Port.observed words environment names configs before now was is h ports c.one_command.ensures.one c.one_command.ensures.apart c.one_answer.ensures.plan c.one_answer.ensures.sure
    faultless legal observed numbers fault answer blames missing

pub returns-clause-hosted : goal.returns-clause-hosted
returns-clause-hosted g c = hosted_well
