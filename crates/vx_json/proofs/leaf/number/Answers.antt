use Rattle.std.proofs.Common.{◌≡◌, ◌+◌, ◌-◌, ◌<◌, length, take, drop, arith, ◌∙◌, ap}
use Rattle.std.proofs.lemmas.List.{take_all, length-drop}
use Rattle.std.specs.Str.Lossy.{utf8_lossy}
use Rattle.vx_value.specs.Values.{datum_of}
use Rattle.vx_json.specs.Machine.{number_datum}
use Rattle.vx_json.proofs.Spellings.{spelled, spelled-all-plain}
use Rattle.vx_json.proofs.leaf.number.Goals as goal

pub plain_text-requires : goal.plain_text-requires
plain_text-requires c =
    let some : 0 < length c.args.bytes.now = grind (arith, c.is_empty.ensures) in
    let rest : take (length c.args.bytes.now - 1) (drop 1 c.args.bytes.now) ≡ drop 1 c.args.bytes.now = take_all _ _ (omega (arith, length-drop 1 c.args.bytes.now)) in
    spelled-all-plain c.args.bytes.now _ c.in-Some-number_len.n c.in-Some.place some rest c.in-Some.ensures.plain c.in-Some-number_len.ensures.ends

pub returns-clause-number : goal.returns-clause-number
returns-clause-number c =
    let some : 0 < length c.args.bytes.now = grind (arith, c.is_empty.ensures) in
    let rest : take (length c.args.bytes.now - 1) (drop 1 c.args.bytes.now) ≡ drop 1 c.args.bytes.now = take_all _ _ (omega (arith, length-drop 1 c.args.bytes.now)) in
    let value : datum_of c.value_of_text.result ≡ number_datum (utf8_lossy (take (c.in-Some-number_len.n + 1) c.args.bytes.now)) = c.value_of_text.ensures ∙ ap number_datum c.in_ok-text.ensures in
    spelled c.args.bytes.now _ c.in-Some-number_len.n c.in-Some.place (datum_of c.value_of_text.result) some rest c.in-Some.ensures.begins c.in-Some-number_len.ensures.ends value
