use Rattle.vx_json.proofs.Escaping.{plain-front}
use Rattle.vx_json.proofs.quote.push_plain.Goals as goal

pub returns-clause-ok : goal.returns-clause-ok
returns-clause-ok c =
    rw (c.in_ok-push_slice.ensures.ok, c.split_at.ensures.front, c.split_at.ensures.back)
    (plain-front c.args.out.now c.args.text.now c.plain_len.result c.plain_len.ensures.plain)
