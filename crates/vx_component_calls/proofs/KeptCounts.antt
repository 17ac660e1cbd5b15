-- The copies of a keeper, as a ledger counts them.
use Rattle.std.proofs.Common.{◌≡◌, ℕ, ◌+◌, List, [], ◌∷◌, ◌++◌, refl, sym, ◌∙◌, arith, ◌==◌, ◌&&◌, if◌then◌else◌}
use Rattle.std.specs.List.{sum_by}
use Rattle.std.proofs.lemmas.List.Sums.{sum_by-cons}
use Rattle.vx_ledger.specs.Copies.{Copy, copies_of}
use Rattle.vx_ledger.proofs.CopyLaws.{copies_of-append}
use Rattle.vx_transform.specs.declared.output.Output.{Output}
use Rattle.vx_transform.specs.Shelves.{copies_put_out}
use Rattle.vx_ledger.specs.Ledger.{Ledger, AreLive, Exchanges}
use Rattle.vx_keeping.specs.Kept.{Kept, copies_kept}
use Rattle.vx_keeping.specs.Given.{SameCopies}

-- whether a copy is of a batch at a place, as a weight
abbrev is_of : ℕ → ℕ → Copy → ℕ
is_of batch place c = if (c.batch == batch) && (c.place == place) then 1 else 0

copies_weigh : (batch place : ℕ) (cs : List Copy) → copies_of batch place cs ≡ sum_by (is_of batch place) cs
copies_weigh batch place [] = refl
copies_weigh batch place (c ∷ cs) =
    let ih = copies_weigh batch place cs in let e = sum_by-cons (is_of batch place) c cs in omega (arith, ih, e)

pub same_count : (batch place : ℕ) (old new : List Copy) → SameCopies old new → copies_of batch place old ≡ copies_of batch place new
same_count batch place old new same = copies_weigh batch place old ∙ same (is_of batch place) ∙ sym (copies_weigh batch place new)

-- those of two lists of outputs
pub put_out-append : (batch place : ℕ) (xs ys : List Output) →
    copies_of batch place (copies_put_out (xs ++ ys)) ≡ copies_of batch place (copies_put_out xs) + copies_of batch place (copies_put_out ys)
put_out-append batch place [] ys = omega arith
put_out-append batch place (x ∷ xs) ys =
    let a = copies_of-append batch place x.parcel.finalizers (copies_put_out (xs ++ ys)) in
    let b = copies_of-append batch place x.parcel.finalizers (copies_put_out xs) in
    let ih = put_out-append batch place xs ys in
    omega (arith, a, b, ih)

-- a keeper took copies that a ledger gave
pub taken_live : (old new : Kept) (before after : Ledger) (given : List Copy) → SameCopies (copies_kept old ++ given) (copies_kept new) →
    Exchanges before [] after given → AreLive before (copies_kept old) → AreLive after (copies_kept new)
taken_live old new before after given same gives live batch place =
    let a = same_count batch place (copies_kept old ++ given) (copies_kept new) same in
    let b = copies_of-append batch place (copies_kept old) given in
    let c = gives batch place in
    let d = live batch place in
    omega (arith, a, b, c, d)

-- and one whose copies are the same as before has live ones still
pub live_still : (old new : Kept) (ledger : Ledger) → SameCopies (copies_kept old) (copies_kept new) → AreLive ledger (copies_kept old) → AreLive ledger (copies_kept new)
live_still old new ledger same live batch place =
    let a = same_count batch place (copies_kept old) (copies_kept new) same in let b = live batch place in omega (arith, a, b)

-- the copies that a keeper gives away are live
pub part_live : (old new : Kept) (ledger : Ledger) (part : List Copy) → SameCopies (copies_kept old) (part ++ copies_kept new) →
    AreLive ledger (copies_kept old) → AreLive ledger part
part_live old new ledger part same live batch place =
    let a = same_count batch place (copies_kept old) (part ++ copies_kept new) same in
    let b = copies_of-append batch place part (copies_kept new) in
    let c = live batch place in
    omega (arith, a, b, c)

-- and where these are spent, the others are live still
pub rest_live : (old new : Kept) (before after : Ledger) (part : List Copy) → SameCopies (copies_kept old) (part ++ copies_kept new) →
    Exchanges before part after [] → AreLive before (copies_kept old) → AreLive after (copies_kept new)
rest_live old new before after part same spent live batch place =
    let a = same_count batch place (copies_kept old) (part ++ copies_kept new) same in
    let b = copies_of-append batch place part (copies_kept new) in
    let c = spent batch place in
    let d = live batch place in
    omega (arith, a, b, c, d)
