use Rattle.std.proofs.Common.{◌≡◌, ℕ, List, IfOk, sym, subst, ◌∙◌}
use Rattle.std.proofs.lemmas.Str.{utf8_lossy-IsUtf8}
use Rattle.vx_value.proofs.text.Text.decoded.Goals as goal

pub returns-in-Ok : goal.returns-in-Ok
returns-in-Ok c =
    let is = c.in-Ok.ensures.cases in
    subst (λ (whole : List ℕ). IfOk c.copy_of.result (λ text. text ≡ whole)) (is.0 ∙ sym (utf8_lossy-IsUtf8 _ is.1)) c.copy_of.ensures.copy
