use Rattle.std.proofs.Common.{not, refl, sym, ◌∙◌, ap}
use Rattle.vx_record.specs.Transforms.{port_bits}
use Rattle.vx_pick.proofs.Saying.{bit_of}
use Rattle.vx_pick.proofs.Seen.{key_seen, seen_more, seen_passes}
use Rattle.vx_pick.proofs.dedupe.Dedupe.ports_for.Goals as goal

pub returns-clause-ports : goal.returns-clause-ports
returns-clause-ports c earlier seen =
    let key = key_seen _ _ _ _ _ c.in_ok-key.ensures c.self.view_is refl in
    let repeats = c.in_ok-repeats.repeats in
    c.bits_for.ensures ∙ bit_of (not repeats)
    ∙ ap port_bits (sym (seen_passes c.args.self.now earlier c.args.event.now c.in_ok-key.key repeats key seen (sym c.in_ok-repeats.ensures.repeats)))

pub returns-clause-seen : goal.returns-clause-seen
returns-clause-seen c earlier seen =
    let key = key_seen _ _ _ _ _ c.in_ok-key.ensures c.self.view_is refl in
    seen_more c.args.self.now c.remember.new.self earlier c.args.event.now c.in_ok-key.key
    key c.in_ok-repeats.ensures.by c.in_ok-repeats.ensures.most c.in_ok-repeats.ensures.keys seen
