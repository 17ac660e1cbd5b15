use Rattle.std.proofs.Common.{arith, List, [], ◌∷◌, ap}
use Rattle.vx_ledger.specs.Copies.{copies_of}
use Rattle.vx_ledger.proofs.CopyLaws.{copies_of-append}
use Rattle.vx_transform.specs.declared.output.Output.{Output}
use Rattle.vx_transform.specs.Shelves.{copies_put_out}
use Rattle.vx_component_calls.proofs.KeptCounts.{put_out-append}
use Rattle.vx_component_calls.proofs.keepers.spend_outputs.Goals as goal

pub spend_all-requires : goal.spend_all-requires
spend_all-requires g c = λ b p.
    let items = ap (λ (os : List Output). copies_of b p (copies_put_out os)) c.in-Some.ensures.some in
    let parts = put_out-append b p c.pop.new.self (c.in-Some.output ∷ []) in
    let last = copies_of-append b p c.in-Some.output.parcel.finalizers [] in
    let live = c.loop-output.invariant b p in
    omega (arith, live.0, items, parts, last)

pub loop-output-preserved : goal.loop-output-preserved
loop-output-preserved g c = λ b p.
    let items = ap (λ (os : List Output). copies_of b p (copies_put_out os)) c.in-Some.ensures.some in
    let parts = put_out-append b p c.pop.new.self (c.in-Some.output ∷ []) in
    let last = copies_of-append b p c.in-Some.output.parcel.finalizers [] in
    let live = c.loop-output.invariant b p in
    let spent = c.spend_all.ensures b p in
    (omega (arith, live.0, spent, items, parts, last), omega (arith, live.1, spent, items, parts, last))
