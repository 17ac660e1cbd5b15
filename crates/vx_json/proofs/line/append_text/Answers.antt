use Rattle.std.proofs.Common.{◌≡◌, ◌++◌, ◌∷◌, [], None, true, arith, sym, subst}
use Rattle.std.proofs.lemmas.Grind.{common_steps}
use Rattle.vx_value.specs.Events.{with_field, value_under, last_below}
use Rattle.vx_value.specs.Datum.{Words}
use Rattle.vx_json.proofs.Putting.{field, with-last, none-last}
use Rattle.vx_json.proofs.line.append_text.Goals as goal

pub push-requires : goal.push-requires
push-requires c = subst (λ n. last_below c.args.fields.now n ≡ true) (sym c.in_ok-name.ensures.copy) c.requires.behind

pub returns : goal.returns
returns c =
    let whole : with_field c.args.fields.now c.args.name.now (Words c.args.text.now) ≡ c.args.fields.now ++ field c.args.name.now (Words c.args.text.now) ∷ [] =
    with-last c.args.fields.now c.args.name.now (Words c.args.text.now) c.requires.rising c.requires.behind in
    let none : value_under c.args.fields.now c.args.name.now ≡ None = none-last c.args.fields.now c.args.name.now c.requires.rising c.requires.behind in
    grind (arith, common_steps, whole, none)
