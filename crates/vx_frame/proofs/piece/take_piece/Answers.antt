use Rattle.std.proofs.Common.{◌≡◌, ◌+◌, ◌++◌, length, take, get_or, map, sym, ◌∙◌, ap, arith, append-nil}
use Rattle.std.proofs.lemmas.Bool.Decides.{nat_tests}
use Rattle.std.proofs.lemmas.List.{length-take}
use Rattle.vx_frame.specs.Frames.{capped}
use Rattle.vx_frame.specs.Framings.{line_of}
use Rattle.vx_frame.proofs.Cuts.{goes_on, ends_line}
use Rattle.vx_frame.proofs.piece.take_piece.Goals as goal

pub returns-in_default : goal.returns-in_default
returns-in_default c =
    let on = goes_on c.args.limit c.args.left.now c.args.bytes.now (λ k l e. c.in_default.ensures k (omega arith) l (grind (arith, nat_tests, e))) in record {
      lines = sym (ap (λ ls. c.args.out.now ++ map (line_of c.args.stream) ls) on.no_lines ∙ append-nil c.args.out.now);
      overlong = rw on.none_overlong (omega arith);
      left = (λ j. record { seen = c.saturating_add-left.ensures j; held = c.in_ok-extend.ensures.ok j }) ∙ sym on.left_is;
      err_left = tt;
      err_out = tt;
    }

pub returns-in-Ok : goal.returns-in-Ok
returns-in-Ok c =
    let here : get_or c.args.bytes.now c.in-Some.i 0 ≡ 10 = grind (arith, nat_tests, c.in-Some.ensures.1) in
    let end : c.saturating_add-left-2.result ≡ capped (c.args.left.now.seen + length (take c.in-Some.i c.args.bytes.now) + 1) = omega (arith, length-take c.in-Some.i c.args.bytes.now, c.in-Some.ensures.0.high) in
    let line =
    ends_line c.args.limit c.args.left.now c.args.bytes.now c.in-Some.i c.extend-2.new.held c.saturating_add-left-2.result c.behind.result.now c.in-Some.ensures.0.high here
    (λ k l e. c.in-Some.ensures.0.before k (omega arith) l (grind (arith, nat_tests, e))) c.in_ok-extend-2.ensures.ok end c.behind.ensures in record {
      lines = c.in-Ok.ensures.lines ∙ ap (λ ls. c.args.out.now ++ map (line_of c.args.stream) ls) (sym line.lines_are);
      overlong = c.in-Ok.ensures.overlong ∙ ap (λ n. capped (c.args.overlong + n)) (sym line.overlong_is);
      left = c.in-Ok.ensures.left ∙ sym line.left_is;
      err_left = tt;
      err_out = tt;
    }
