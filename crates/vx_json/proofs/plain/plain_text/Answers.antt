use Rattle.std.proofs.Common.{◌≡◌, IfOk, ◌∙◌, subst}
use Rattle.vx_json.proofs.Plains.{plain-utf8, plain-lossy}
use Rattle.vx_json.proofs.plain.plain_text.Goals as goal

pub from_utf8_unchecked-requires : goal.from_utf8_unchecked-requires
from_utf8_unchecked-requires c = plain-utf8 c.args.bytes.now c.requires

pub returns : goal.returns
returns c =
    let lossy = c.from_utf8_unchecked.ensures ∙ plain-lossy c.args.bytes.now c.requires in
    subst (λ w. IfOk c.copy_of.result (λ text. text ≡ w)) lossy c.copy_of.ensures.copy
