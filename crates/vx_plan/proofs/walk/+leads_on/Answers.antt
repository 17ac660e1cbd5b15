use Rattle.std.proofs.Common.{◌≡◌, ◌∷◌, ◌∙◌, List, Some, None, true, false, length, ap, sym, subst, arith}
use Rattle.std.specs.List.{list_any}
use Rattle.vx_value.specs.Texts.{ByteString}
use Rattle.vx_plan.specs.Components.{component_named, acknowledges}
use Rattle.vx_plan.specs.Targets.{acknowledged}
use Rattle.vx_plan.specs.declared.plan.Plan.{Plan}
use Rattle.vx_plan.specs.declared.walk.Names.{One}
use Rattle.vx_plan.specs.Walks.{names_in, next_reader, IsWalked}
use Rattle.vx_plan.proofs.Search.{unseen_count, passed_unknown, passed_all, walked_left, left_leads, first_leads, walked_put, put_leads, fewer_left, names_more}
use Rattle.vx_plan.proofs.walk.+leads_on.Goals as goal

pub leads_on-requires : goal.leads_on-requires
leads_on-requires t c =
    let plan = c.args.plan.now in
    let seen = names_in c.args.seen.now in
    let rest = names_in c.in-One.rest.now in
    let name = c.in-One.name.now in
    let more : names_in c.args.todo.now ≡ name ∷ rest = ap names_in c.in-One.is ∙ names_more c.in-One.rest c.in-One.name in
    let long : length (names_in c.args.todo.now) ≡ length (name ∷ rest) = ap (λ (names : List ByteString). length names) more in
    let at : component_named plan name ≡ None = cc c.in_default-component.ensures in
    let walked : IsWalked plan seen (name ∷ rest) = subst (IsWalked plan seen) more c.requires in
    (omega (arith, c.decreases, long), walked_left plan seen rest name walked (passed_unknown plan seen name at))

pub returns-in_default-component : goal.returns-in_default-component
returns-in_default-component t c =
    let plan = c.args.plan.now in
    let seen = names_in c.args.seen.now in
    let rest = names_in c.in-One.rest.now in
    let name = c.in-One.name.now in
    let more : names_in c.args.todo.now ≡ name ∷ rest = ap names_in c.in-One.is ∙ names_more c.in-One.rest c.in-One.name in
    let at : component_named plan name ≡ None = cc c.in_default-component.ensures in
    let walked : IsWalked plan seen (name ∷ rest) = subst (IsWalked plan seen) more c.requires in
    let passed = passed_unknown plan seen name at in
    c.leads_on.ensures ∙ left_leads plan seen rest name (walked_left plan seen rest name walked passed) passed ∙ ap (list_any (acknowledged plan)) (sym more)

pub returns-then-acknowledges : goal.returns-then-acknowledges
returns-then-acknowledges t c =
    let plan = c.args.plan.now in
    let rest = names_in c.in-One.rest.now in
    let name = c.in-One.name.now in
    let more : names_in c.args.todo.now ≡ name ∷ rest = ap names_in c.in-One.is ∙ names_more c.in-One.rest c.in-One.name in
    let at : component_named plan name ≡ Some c.in-Some.owner.now = cc c.in-Some.ensures in
    let loud : acknowledges c.in-Some.owner.now ≡ true = sym c.acknowledges.ensures ∙ c.if-acknowledges.true in
    first_leads plan rest name c.in-Some.owner.now at loud ∙ ap (list_any (acknowledged plan)) (sym more)

pub leads_on-requires-in-None : goal.leads_on-requires-in-None
leads_on-requires-in-None t c =
    let plan = c.args.plan.now in
    let seen = names_in c.args.seen.now in
    let rest = names_in c.in-One.rest.now in
    let name = c.in-One.name.now in
    let more : names_in c.args.todo.now ≡ name ∷ rest = ap names_in c.in-One.is ∙ names_more c.in-One.rest c.in-One.name in
    let long : length (names_in c.args.todo.now) ≡ length (name ∷ rest) = ap (λ (names : List ByteString). length names) more in
    let at : component_named plan name ≡ Some c.in-Some.owner.now = cc c.in-Some.ensures in
    let silent : acknowledges c.in-Some.owner.now ≡ false = sym c.acknowledges.ensures ∙ c.if-acknowledges.false in
    let none : next_reader plan.components c.in-Some.owner.now seen ≡ None = ap (λ cs. next_reader cs c.in-Some.owner.now seen) (sym (c.as_slice.ensures ∙ ap (λ (p : Plan). p.components) c.plan.view_is)) ∙ c.in-None.ensures in
    let walked : IsWalked plan seen (name ∷ rest) = subst (IsWalked plan seen) more c.requires in
    (omega (arith, c.decreases, long), walked_left plan seen rest name walked (passed_all plan seen name c.in-Some.owner.now at silent none))

pub returns-in-None : goal.returns-in-None
returns-in-None t c =
    let plan = c.args.plan.now in
    let seen = names_in c.args.seen.now in
    let rest = names_in c.in-One.rest.now in
    let name = c.in-One.name.now in
    let more : names_in c.args.todo.now ≡ name ∷ rest = ap names_in c.in-One.is ∙ names_more c.in-One.rest c.in-One.name in
    let at : component_named plan name ≡ Some c.in-Some.owner.now = cc c.in-Some.ensures in
    let silent : acknowledges c.in-Some.owner.now ≡ false = sym c.acknowledges.ensures ∙ c.if-acknowledges.false in
    let none : next_reader plan.components c.in-Some.owner.now seen ≡ None = ap (λ cs. next_reader cs c.in-Some.owner.now seen) (sym (c.as_slice.ensures ∙ ap (λ (p : Plan). p.components) c.plan.view_is)) ∙ c.in-None.ensures in
    let walked : IsWalked plan seen (name ∷ rest) = subst (IsWalked plan seen) more c.requires in
    let passed = passed_all plan seen name c.in-Some.owner.now at silent none in
    c.leads_on-in-None.ensures ∙ left_leads plan seen rest name (walked_left plan seen rest name walked passed) passed ∙ ap (list_any (acknowledged plan)) (sym more)

pub leads_on-requires-in-Some-next_reader : goal.leads_on-requires-in-Some-next_reader
leads_on-requires-in-Some-next_reader t c =
    let plan = c.args.plan.now in
    let seen = names_in c.args.seen.now in
    let todo = names_in c.args.todo.now in
    let reader = c.in-Some-next_reader.reader.now in
    let found : next_reader plan.components c.in-Some.owner.now seen ≡ Some reader = ap (λ cs. next_reader cs c.in-Some.owner.now seen) (sym (c.as_slice.ensures ∙ ap (λ (p : Plan). p.components) c.plan.view_is)) ∙ c.in-Some-next_reader.ensures in
    let put_todo : names_in (One c.args.todo c.in-Some-next_reader.reader) ≡ reader ∷ todo = names_more c.args.todo c.in-Some-next_reader.reader in
    let put_seen : names_in (One c.args.seen c.in-Some-next_reader.reader) ≡ reader ∷ seen = names_more c.args.seen c.in-Some-next_reader.reader in
    let long : length (names_in (One c.args.todo c.in-Some-next_reader.reader)) ≡ length (reader ∷ todo) = ap (λ (names : List ByteString). length names) put_todo in
    let fewer = fewer_left plan.components c.in-Some.owner.now seen reader found in
    let count : unseen_count plan.components (names_in (One c.args.seen c.in-Some-next_reader.reader)) ≡ unseen_count plan.components (reader ∷ seen) = ap (unseen_count plan.components) put_seen in
    let walked : IsWalked plan (reader ∷ seen) (reader ∷ todo) = walked_put plan seen todo reader c.requires in (
      omega (arith, c.decreases, long, fewer, count),
      subst (λ (names : List ByteString). IsWalked plan names (names_in (One c.args.todo c.in-Some-next_reader.reader))) (sym put_seen) (subst (IsWalked plan (reader ∷ seen)) (sym put_todo) walked),
    )

pub returns-in-Some-next_reader : goal.returns-in-Some-next_reader
returns-in-Some-next_reader t c =
    let plan = c.args.plan.now in
    let seen = names_in c.args.seen.now in
    let rest = names_in c.in-One.rest.now in
    let name = c.in-One.name.now in
    let reader = c.in-Some-next_reader.reader.now in
    let more : names_in c.args.todo.now ≡ name ∷ rest = ap names_in c.in-One.is ∙ names_more c.in-One.rest c.in-One.name in
    let at : component_named plan name ≡ Some c.in-Some.owner.now = cc c.in-Some.ensures in
    let found : next_reader plan.components c.in-Some.owner.now seen ≡ Some reader = ap (λ cs. next_reader cs c.in-Some.owner.now seen) (sym (c.as_slice.ensures ∙ ap (λ (p : Plan). p.components) c.plan.view_is)) ∙ c.in-Some-next_reader.ensures in
    let put_todo : names_in (One c.args.todo c.in-Some-next_reader.reader) ≡ reader ∷ names_in c.args.todo.now = names_more c.args.todo c.in-Some-next_reader.reader in
    c.leads_on-in-Some-next_reader.ensures
    ∙ ap (list_any (acknowledged plan)) (put_todo ∙ ap (λ names. reader ∷ names) more)
    ∙ put_leads plan seen rest name reader c.in-Some.owner.now at found
    ∙ ap (list_any (acknowledged plan)) (sym more)
