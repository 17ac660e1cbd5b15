use Rattle.std.proofs.Common.{◌≡◌, ℕ, List, IfOk, sym, ap, subst, ◌∙◌, string_bytes}
use Rattle.std.specs.Prelude.{String, Vec}
use Rattle.std.specs.Global.{Global}
use Rattle.std.specs.String.{string_vec}
use Rattle.std.specs.Str.{IsUtf8}
use Rattle.std.specs.Str.Lossy.{utf8_lossy}
use Rattle.std.proofs.lemmas.Str.{utf8_lossy-IsUtf8, IsUtf8-string_bytes}
use Rattle.vx_value.proofs.text.Text.from_bytes.Goals as goal

-- a string has the bytes of its vector
same_bytes : (text : String Global) (bytes : Vec ℕ Global) → string_vec text ≡ bytes → string_bytes text ≡ bytes.items
same_bytes text bytes is = ap (λ (v : Vec ℕ Global). v.items) is

pub returns-in-Ok-clause-lossy : goal.returns-in-Ok-clause-lossy
returns-in-Ok-clause-lossy c =
    let same = same_bytes c.in-Ok.text c.into_vec.result c.in-Ok.ensures.ok ∙ c.into_vec.ensures in
    c.from_string.ensures ∙ same ∙ sym (utf8_lossy-IsUtf8 _ (subst IsUtf8 same (IsUtf8-string_bytes c.in-Ok.text)))

pub returns-in-Err-clause-lossy : goal.returns-in-Err-clause-lossy
returns-in-Err-clause-lossy c =
    let same : c.as_bytes.result.now ≡ c.args.bytes = c.as_bytes.ensures ∙ rw c.in-Err.ensures.err c.into_vec.ensures in
    subst (λ (whole : List ℕ). IfOk c.replaced.result (λ text. text ≡ utf8_lossy whole)) same c.replaced.ensures
