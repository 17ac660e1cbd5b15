use Rattle.std.proofs.Common.{◌+◌, ◌∙◌, sym, take, length}
use Rattle.vx_value.specs.Values.{datum_of}
use Rattle.vx_json.proofs.Runs.{text-goes-on, name-goes-on, text-ends, digits-go-on, digits-again, word-ends}
use Rattle.vx_json.proofs.mode.Mode.run.Goals as goal

pub returns-in-Some-clause-leads : goal.returns-in-Some-clause-leads
returns-in-Some-clause-leads c st =
    let a = c.in-InText-Plain-default in
    let e = rw c.in-Some.is at c.in_ok-words-in-InText-Plain-default.ensures in
    rw (a.is, a.field-0-is) (text-ends a.text.items (take (c.plain_len-n.result + 1) c.args.bytes.now) c.in-Some.words st e.all e.closed)

pub returns-in_ok-extend_from_slice-in-None-clause-leads : goal.returns-in_ok-extend_from_slice-in-None-clause-leads
returns-in_ok-extend_from_slice-in-None-clause-leads c st =
    let a = c.in-InText-Plain-default in
    rw (a.is, a.field-0-is)
    (text-goes-on a.text.items c.extend_from_slice.new.self.items (take c.plain_len-n.result c.args.bytes.now) st c.plain_len-n.ensures.plain c.in_ok-extend_from_slice-in-None.ensures.items)

pub returns-in_ok-extend_from_slice-in-InName-default-Plain-default-clause-leads : goal.returns-in_ok-extend_from_slice-in-InName-default-Plain-default-clause-leads
returns-in_ok-extend_from_slice-in-InName-default-Plain-default-clause-leads c st =
    let a = c.in-InName-default-Plain-default in
    let n = c.plain_len-n-in-InName-default-Plain-default in
    rw (a.is, a.field-1-is)
    (name-goes-on a.field-0 a.text.items (c.extend_from_slice-in-InName-default-Plain-default.new.self).items (take n.result c.args.bytes.now) st n.ensures.plain c.in_ok-extend_from_slice-in-InName-default-Plain-default.ensures.items)

pub returns-in_ok-n-in-InNumber-clause-leads : goal.returns-in_ok-n-in-InNumber-clause-leads
returns-in_ok-n-in-InNumber-clause-leads c st =
    let a = c.in-InNumber in
    let h = c.in_ok-n-in-InNumber.ensures in
    rw a.is (digits-go-on a.place a.text.items c.add_digits.new.text.items (take c.in_ok-n-in-InNumber.n c.args.bytes.now) st (digits-again a.place (sym c.takes_digits.ensures ∙ c.if-not-takes_digits.false)) h.digits h.added)

pub returns-else-not-begins-clause-leads : goal.returns-else-not-begins-clause-leads
returns-else-not-begins-clause-leads c st =
    rw c.in-InWord.is (word-ends c.in-InWord.word (take (length c.rest-rest.result.now) c.args.bytes.now) (datum_of c.value.result) st (c.begins.ensures.front c.if-not-begins.false ∙ c.rest-rest.ensures) c.value.ensures)
