use Rattle.std.proofs.lemmas.Str.Pattern.{contains_text}
use Rattle.vx_condition.proofs.Texts.{is_part_is, found_so}
use Rattle.vx_condition.proofs.predicate.has_part.Goals as goal

pub returns-in-Some-Words : goal.returns-in-Some-Words
returns-in-Some-Words c =
    let part = c.as_str-in-Some-Words.result.now in
    let text = c.as_str.result.now in
    let found = is_part_is c.contains.result part text (contains_text c.contains.result part text c.contains.ensures.cases) in
    let held = rw c.in-Some-Words.field-0-is at c.in-Some-Words.ensures in
    rw (← held) (found_so c.contains.result part text c.args.part.now c.in-Some-Words.words found c.as_str-in-Some-Words.ensures c.as_str.ensures)
