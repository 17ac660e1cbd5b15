use Rattle.std.proofs.Common.{◌≡◌, ◌-◌, ◌<◌, length, take, drop, arith, sym, ◌∙◌, ap}
use Rattle.std.proofs.lemmas.List.{take_all, length-drop}
use Rattle.vx_value.specs.Values.{datum_of}
use Rattle.vx_json.proofs.Runs.{text-quoted}
use Rattle.vx_json.proofs.Walks.{word-led}
use Rattle.vx_json.proofs.leaf.leaf.Goals as goal

pub returns-in-Some-clause-leads : goal.returns-in-Some-clause-leads
returns-in-Some-clause-leads c st =
    let q = rw c.in-Some.is at c.in_ok-text.ensures in
    text-quoted (take c.in-Some.n c.args.bytes.now) c.in-Some.text st q.quoted

pub returns-in-Some-word-clause-leads : goal.returns-in-Some-word-clause-leads
returns-in-Some-word-clause-leads c st =
    let bytes = c.args.bytes.now in
    let n = c.in-Some-word.n in
    let some : 0 < length bytes = grind (arith, c.is_empty.ensures) in
    let rest : take (length bytes - 1) (drop 1 bytes) ≡ drop 1 bytes = take_all _ _ (omega (arith, length-drop 1 bytes)) in
    word-led bytes n c.in-Some-begun_word.place (datum_of c.in-Some-word.value) st some (c.in-Some-begun_word.ensures st) (ap (take n) (sym rest) ∙ c.in-Some-word.ensures.rest) c.in-Some-word.ensures.value
