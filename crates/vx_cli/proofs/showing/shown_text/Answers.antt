use Rattle.std.proofs.Common.{◌∙◌, ◌-◌, ◌≤◌, ◌++◌, length, string_bytes, ap, arith}
use Rattle.std.proofs.lemmas.Iterator.{YieldsList-from_chars}
use Rattle.std.proofs.lemmas.Iterator.Consumers.{YieldsList-turn, YieldsList-end}
use Rattle.std.proofs.lemmas.List.{length_push}
use Rattle.std.specs.Str.{chars}
use Rattle.std.specs.String.{string_len}
use Rattle.vx_cli.specs.Shown.{shown}
use Rattle.vx_cli.proofs.Fitting.{fits_next, cut_next, ended}
use Rattle.vx_cli.proofs.showing.shown_text.Goals as goal

pub returns-then-len : goal.returns-then-len
unfolding shown
returns-then-len c =
    let turn = YieldsList-turn (YieldsList-from_chars c.args.text.now c.utf8.text cc) c.loop-c.yielded _ c.loop-c.yielded_by _ _ c.in-Some.c c.in-Some.is c.next.ensures.steps in
    c.in_ok-push_str.ensures.bytes ∙ cut_next (256 - string_len c.loop-c.line) _ _ _ _ _ _ turn c.in_ok-piece.ensures (omega arith) c.loop-c.invariant.1

pub loop-c-preserved : goal.loop-c-preserved
loop-c-preserved c =
    let turn = YieldsList-turn (YieldsList-from_chars c.args.text.now c.utf8.text cc) c.loop-c.yielded _ c.loop-c.yielded_by _ _ c.in-Some.c c.in-Some.is c.next.ensures.steps in
    let piece = ap length c.as_str.ensures.value in
    let grown = c.in_ok-push_str-2.ensures.len in (
      omega arith,
      fits_next (256 - string_len c.loop-c.line) _ _ _ _ _ _ _ _ _ turn c.in_ok-piece.ensures (omega arith) (omega arith) (length_push _ _)
          (c.in_ok-push_str-2.ensures.bytes ∙ ap (λ piece. string_bytes c.loop-c.line ++ piece) c.as_str.ensures.value) c.loop-c.invariant.1,
    )

pub returns : goal.returns
unfolding shown
returns c =
    let end = YieldsList-end (YieldsList-from_chars c.args.text.now c.utf8.text cc) c.loop-c.yielded _ c.loop-c.yielded_by _ _ c.in-None.is c.next.ensures.steps in
    let all : length (chars c.args.text.now) ≤ length c.loop-c.yielded = omega (arith, end.1) in
    ended _ _ _ _ _ all c.loop-c.invariant.1
