use Rattle.std.specs.Prelude.{IsSome, IfSome}
use Rattle.std.proofs.Common.{◌≡◌, Option, Some, refl, sym, ◌∙◌, ap, subst}
use Rattle.std.specs.Ordering.{nat_cmp}
use Rattle.std.specs.Map.{lookup, remove_entry}
use Rattle.std.specs.BTreeMap.{is_at}
use Rattle.vx_ledger.specs.declared.parcel.Parcel.{Parcel}
use Rattle.vx_reduce.specs.declared.group.Group.{Group}
use Rattle.vx_reduce.specs.Groups.{put_all, output_found}
use Rattle.vx_reduce.specs.Indexes.{IsFull}
use Rattle.vx_reduce.proofs.EntryLaws.{lookup-front, lookup-last, remove-front, remove-last}
use Rattle.vx_reduce.proofs.Indexed.{none_at_next, insert_last, at_same}
use Rattle.vx_reduce.proofs.groups.exchange.Goals as goal

same_parcel : (o : Option Group) (g : Group) (p r : Parcel) → o ≡ Some g → g.parcel ≡ Some p → IfSome o (λ h. h.parcel ≡ Some r) → r ≡ p
same_parcel o g p r e f h = let k : g.parcel ≡ Some r = rw e at h in cc

full : (o : Option Group) (g : Group) (p : Parcel) → o ≡ Some g → g.parcel ≡ Some p → IsFull o
full o g p e f = rw (e, f) refl

pub place_at-requires : goal.place_at-requires
place_at-requires c = none_at_next c.args.next c.args.entries.now.entries c.requires.last

pub put_out_at-requires : goal.put_out_at-requires
put_out_at-requires c =
    let g : Group = record { key = c.args.key; moment = c.args.moment; parcel = Some c.args.parcel } in
    let placed = c.in-Ok.ensures.ok ∙ insert_last c.args.next g c.args.entries.now.entries c.requires.last in
    subst IsSome (sym (ap (λ es. lookup (is_at (nat_cmp c.args.number)) es) placed ∙ lookup-front (is_at (nat_cmp c.args.number)) c.args.entries.now.entries (c.args.next, g) c.requires.there)) c.requires.there

pub take_back_at-requires : goal.take_back_at-requires
take_back_at-requires c =
    let g : Group = record { key = c.args.key; moment = c.args.moment; parcel = Some c.args.parcel } in
    let placed = c.in-Err-put_out_at.ensures.err ∙ c.in-Ok.ensures.ok ∙ insert_last c.args.next g c.args.entries.now.entries c.requires.last in
    full (lookup (is_at (nat_cmp c.args.next)) c.put_out_at.new.entries.entries) g c.args.parcel
    (ap (λ es. lookup (is_at (nat_cmp c.args.next)) es) placed ∙ lookup-last (is_at (nat_cmp c.args.next)) c.args.entries.now.entries (c.args.next, g) (none_at_next c.args.next c.args.entries.now.entries c.requires.last) (at_same c.args.next))
    refl

pub returns-in-Ok-put_out_at-clause-entries : goal.returns-in-Ok-put_out_at-clause-entries
returns-in-Ok-put_out_at-clause-entries c =
    let g : Group = record { key = c.args.key; moment = c.args.moment; parcel = Some c.args.parcel } in
    let placed = c.in-Ok.ensures.ok ∙ insert_last c.args.next g c.args.entries.now.entries c.requires.last in
    c.in-Ok-put_out_at.ensures.taken.entries ∙ ap (λ es. remove_entry (is_at (nat_cmp c.args.number)) es) placed ∙ remove-front (is_at (nat_cmp c.args.number)) c.args.entries.now.entries (c.args.next, g) c.requires.there

pub returns-in-Ok-put_out_at-clause-put_out : goal.returns-in-Ok-put_out_at-clause-put_out
returns-in-Ok-put_out_at-clause-put_out c =
    let g : Group = record { key = c.args.key; moment = c.args.moment; parcel = Some c.args.parcel } in
    let placed = c.in-Ok.ensures.ok ∙ insert_last c.args.next g c.args.entries.now.entries c.requires.last in
    subst (λ (o : Option Group). c.put_out_at.new.shelf ≡ put_all c.args.shelf.now (output_found o)) (ap (λ es. lookup (is_at (nat_cmp c.args.number)) es) placed ∙ lookup-front (is_at (nat_cmp c.args.number)) c.args.entries.now.entries (c.args.next, g) c.requires.there) c.in-Ok-put_out_at.ensures.put_out

pub returns-in-Ok-put_out_at-clause-key : goal.returns-in-Ok-put_out_at-clause-key
returns-in-Ok-put_out_at-clause-key c =
    let g : Group = record { key = c.args.key; moment = c.args.moment; parcel = Some c.args.parcel } in
    let placed = c.in-Ok.ensures.ok ∙ insert_last c.args.next g c.args.entries.now.entries c.requires.last in
    subst (λ (o : Option Group). IfSome o (λ h. c.in-Ok-put_out_at.key ≡ h.key)) (ap (λ es. lookup (is_at (nat_cmp c.args.number)) es) placed ∙ lookup-front (is_at (nat_cmp c.args.number)) c.args.entries.now.entries (c.args.next, g) c.requires.there) c.in-Ok-put_out_at.ensures.taken.named

pub returns-in-Err-put_out_at-clause-err : goal.returns-in-Err-put_out_at-clause-err
returns-in-Err-put_out_at-clause-err c =
    let g : Group = record { key = c.args.key; moment = c.args.moment; parcel = Some c.args.parcel } in
    let placed = c.in-Err-put_out_at.ensures.err ∙ c.in-Ok.ensures.ok ∙ insert_last c.args.next g c.args.entries.now.entries c.requires.last in
    c.take_back_at.ensures.entries ∙ ap (λ es. remove_entry (is_at (nat_cmp c.args.next)) es) placed ∙ remove-last (is_at (nat_cmp c.args.next)) c.args.entries.now.entries (c.args.next, g) (none_at_next c.args.next c.args.entries.now.entries c.requires.last) (at_same c.args.next)

pub returns-in-Err-put_out_at-clause-back : goal.returns-in-Err-put_out_at-clause-back
returns-in-Err-put_out_at-clause-back c =
    let g : Group = record { key = c.args.key; moment = c.args.moment; parcel = Some c.args.parcel } in
    let placed = c.in-Err-put_out_at.ensures.err ∙ c.in-Ok.ensures.ok ∙ insert_last c.args.next g c.args.entries.now.entries c.requires.last in
    same_parcel (lookup (is_at (nat_cmp c.args.next)) c.put_out_at.new.entries.entries) g c.args.parcel c.take_back_at.result
    (ap (λ es. lookup (is_at (nat_cmp c.args.next)) es) placed ∙ lookup-last (is_at (nat_cmp c.args.next)) c.args.entries.now.entries (c.args.next, g) (none_at_next c.args.next c.args.entries.now.entries c.requires.last) (at_same c.args.next))
    refl c.take_back_at.ensures.parcel
