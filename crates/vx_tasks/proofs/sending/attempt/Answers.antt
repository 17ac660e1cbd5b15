use Rattle.std.proofs.Common.{◌≡◌, ◌∙◌, ap, subst}
use Rattle.std.specs.Prelude.{Result, Ok, Err}
use Rattle.vx_ends.specs.Observation.{Observation}
use Rattle.vx_ends.specs.declared.trouble.Trouble.{Trouble}
use Rattle.vx_tasks.specs.Attempts.{CountsSent}
use Rattle.vx_tasks.proofs.Tallying.{ok_caused, ok_counted, refused_caused, refused_counted, failed_caused, failed_counted, short_counted}
use Rattle.vx_tasks.proofs.sending.attempt.Goals as goal

sent_so : (old new : Observation) {answer so : Result (Unit {0}) Trouble} → CountsSent answer old new → answer ≡ so → CountsSent so old new
sent_so old new counts is = subst (λ (r : Result (Unit {0}) Trouble). CountsSent r old new) is counts

pub returns-in-Ok-clause-cause : goal.returns-in-Ok-clause-cause
returns-in-Ok-clause-cause g c = ok_caused _ _ (sent_so _ _ c.start_and_give-sent.ensures.counts c.in-Ok.is)

pub returns-in-Ok-clause-counts : goal.returns-in-Ok-clause-counts
returns-in-Ok-clause-counts g c = ok_counted _ _ _ (sent_so _ _ c.start_and_give-sent.ensures.counts c.in-Ok.is)

pub returns-in-Refused-clause-cause : goal.returns-in-Refused-clause-cause
returns-in-Refused-clause-cause g c = refused_caused _ _ (sent_so _ _ c.start_and_give-sent.ensures.counts (c.in-Err.is ∙ ap Err c.in-Refused.is))

pub returns-in-Refused-clause-counts : goal.returns-in-Refused-clause-counts
returns-in-Refused-clause-counts g c = refused_counted _ _ _ (sent_so _ _ c.start_and_give-sent.ensures.counts (c.in-Err.is ∙ ap Err c.in-Refused.is))

pub returns-in-Failed-clause-cause : goal.returns-in-Failed-clause-cause
returns-in-Failed-clause-cause g c =
    failed_caused _ _ _ (sent_so _ _ c.start_and_give-sent.ensures.counts (c.in-Err.is ∙ ap Err c.in-Failed.is)) c.close.ensures.counts c.close.ensures.closed

pub returns-in-Failed-clause-counts : goal.returns-in-Failed-clause-counts
returns-in-Failed-clause-counts g c =
    failed_counted _ _ _ (sent_so _ _ c.start_and_give-sent.ensures.counts (c.in-Err.is ∙ ap Err c.in-Failed.is)) c.close.ensures.counts _

pub returns-in-WantOfMemory-clause-uncounted : goal.returns-in-WantOfMemory-clause-uncounted
returns-in-WantOfMemory-clause-uncounted g c =
    short_counted _ _ _ (sent_so _ _ c.start_and_give-sent.ensures.counts (c.in-Err.is ∙ ap Err c.in-WantOfMemory.is)) c.close-in-WantOfMemory.ensures.counts
