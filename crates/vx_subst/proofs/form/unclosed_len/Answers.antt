use Rattle.std.proofs.Common.{◌≡◌, ◌-◌, ◌∙◌, length, get_or, ap, lit<, arith}
use Rattle.std.proofs.lemmas.Str.Pattern.{rfind_char}
use Rattle.vx_subst.proofs.form.unclosed_len.Goals as goal

pub returns-in-Some-clause-unclosed : goal.returns-in-Some-clause-unclosed
returns-in-Some-clause-unclosed c =
    let text = c.args.text.now in
    let last = rw c.in-Some.is at (rfind_char 125 text c.rfind.result c.rfind.ensures.cases (lit< tt)) in
    λ i lt le. last.2 i (omega arith) lt

pub returns-in-Some-clause-closed : goal.returns-in-Some-clause-closed
returns-in-Some-clause-closed c =
    let text = c.args.text.now in
    let last = rw c.in-Some.is at (rfind_char 125 text c.rfind.result c.rfind.ensures.cases (lit< tt)) in
    let here : length text - (length text - c.in-Some.at - 1) - 1 ≡ c.in-Some.at = omega arith in
    λ lt. ap (λ i. get_or text i 0) here ∙ last.1

pub returns-in-None-clause-unclosed : goal.returns-in-None-clause-unclosed
returns-in-None-clause-unclosed c =
    let none = rw c.in-None.is at (rfind_char 125 c.args.text.now c.rfind.result c.rfind.ensures.cases (lit< tt)) in
    λ i lt le. none i lt
