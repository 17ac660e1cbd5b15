use Rattle.std.proofs.Common.{◌≡◌, ◌+◌, suc, true, false, List, ◌∷◌, length, take, sym, ◌∙◌, ap, arith}
use Rattle.std.specs.Prelude.{Result, OnErr}
use Rattle.std.specs.List.{list_any}
use Rattle.std.specs.Map.{keys_of}
use Rattle.std.specs.declared.result.Result.TheVariants.{Ok, Err}
use Rattle.lru.specs.LruCache.{LruCache}
use Rattle.vx_value.specs.Datum.{Datum}
use Rattle.vx_pick.specs.Dedupers.{Deduper, same_datum, remembering}
use Rattle.vx_pick.proofs.Cached.{found, promoted_absent, promoted_length, promoted_remembers, put_remembers}
use Rattle.vx_pick.proofs.dedupe.Dedupe.remember.Goals as goal

abbrev Entries : Type 0
Entries = List (Datum × Unit {0})

abbrev Keys : Type 0
Keys = LruCache Datum (Unit {0})

pub invariant_of-self : goal.invariant_of-self
invariant_of-self c =
    let es = c.self.inside.seen.entries in
    let there : list_any (same_datum c.args.key) (keys_of es) ≡ true = sym (found c.args.key es) ∙ sym c.promote.ensures.value ∙ c.if-promote.true in
    let long : length c.promote.new.self.entries ≡ length es = ap (λ (s : Keys). length s.entries) c.promote.ensures.entries ∙ promoted_length c.args.key es there in
    (ap (λ (s : Keys). s.cap) c.promote.ensures.entries ∙ c.self.invariant.0, omega (arith, long, c.self.invariant.1))

pub returns-then-promote-clause-repeats : goal.returns-then-promote-clause-repeats
returns-then-promote-clause-repeats c =
    sym c.if-promote.true ∙ c.promote.ensures.value ∙ found c.args.key c.self.inside.seen.entries
    ∙ ap (λ (d : Deduper). list_any (same_datum c.args.key) d.keys) c.self.view_is

pub returns-then-promote-clause-keys : goal.returns-then-promote-clause-keys
returns-then-promote-clause-keys c =
    let es = c.self.inside.seen.entries in
    let there : list_any (same_datum c.args.key) (keys_of es) ≡ true = sym (found c.args.key es) ∙ sym c.promote.ensures.value ∙ c.if-promote.true in
    ap (λ (s : Keys). keys_of s.entries) c.promote.ensures.entries ∙ promoted_remembers c.args.key c.self.inside.most es there
    ∙ ap (λ (d : Deduper). remembering d.most c.args.key d.keys) c.self.view_is

pub add-requires-clause-absent : goal.add-requires-clause-absent
add-requires-clause-absent c =
    let es = c.self.inside.seen.entries in
    let absent : list_any (same_datum c.args.key) (keys_of es) ≡ false = sym (found c.args.key es) ∙ sym c.promote.ensures.value ∙ c.if-promote.false in
    let same : c.promote.new.self.entries ≡ es = ap (λ (s : Keys). s.entries) c.promote.ensures.entries ∙ promoted_absent c.args.key es absent in
    ap (λ (fs : Entries). list_any (same_datum c.args.key) (keys_of fs)) same ∙ absent

pub add-requires-clause-room : goal.add-requires-clause-room
add-requires-clause-room c =
    let es = c.self.inside.seen.entries in
    let absent : list_any (same_datum c.args.key) (keys_of es) ≡ false = sym (found c.args.key es) ∙ sym c.promote.ensures.value ∙ c.if-promote.false in
    let same : length c.promote.new.self.entries ≡ length es = ap (λ (s : Keys). length s.entries) c.promote.ensures.entries ∙ ap (λ (fs : Entries). length fs) (promoted_absent c.args.key es absent) in
    let cap : c.promote.new.self.cap ≡ c.self.inside.most + 1 = ap (λ (s : Keys). s.cap) c.promote.ensures.entries ∙ c.self.invariant.0 in
    omega (arith, same, cap, c.self.invariant.1)

pub invariant_of-self-in_err-add : goal.invariant_of-self-in_err-add
invariant_of-self-in_err-add c =
    let es = c.self.inside.seen.entries in
    let absent : list_any (same_datum c.args.key) (keys_of es) ≡ false = sym (found c.args.key es) ∙ sym c.promote.ensures.value ∙ c.if-promote.false in
    let on = c.in_err-add.ensures.err ∙ c.promote.ensures.entries in
    let long : length c.add.new.seen.entries ≡ length es = ap (λ (s : Keys). length s.entries) on ∙ ap (λ (fs : Entries). length fs) (promoted_absent c.args.key es absent) in
    (ap (λ (s : Keys). s.cap) on ∙ c.self.invariant.0, omega (arith, long, c.self.invariant.1))

err_anyway : {T E P : Type 0} (r : Result T E) → P → OnErr r P
err_anyway (Ok x) p = tt
err_anyway (Err e) p = p

pub returns-in_err-add-clause-same : goal.returns-in_err-add-clause-same
returns-in_err-add-clause-same c =
    let es = c.self.inside.seen.entries in
    let absent : list_any (same_datum c.args.key) (keys_of es) ≡ false = sym (found c.args.key es) ∙ sym c.promote.ensures.value ∙ c.if-promote.false in
    let on = c.in_err-add.ensures.err ∙ c.promote.ensures.entries in
    let same : c.add.new.seen.entries ≡ es = ap (λ (s : Keys). s.entries) on ∙ promoted_absent c.args.key es absent in
    err_anyway c.from_residual.result
    (ap (λ (fs : Entries). record { by = c.self.inside.fields; most = c.self.inside.most; keys = keys_of fs }) same ∙ c.self.view_is)

pub trim-requires : goal.trim-requires
trim-requires c =
    let es = c.self.inside.seen.entries in
    let absent : list_any (same_datum c.args.key) (keys_of es) ≡ false = sym (found c.args.key es) ∙ sym c.promote.ensures.value ∙ c.if-promote.false in
    let same : length c.promote.new.self.entries ≡ length es = ap (λ (s : Keys). length s.entries) c.promote.ensures.entries ∙ ap (λ (fs : Entries). length fs) (promoted_absent c.args.key es absent) in
    let long : length c.add.new.seen.entries ≡ suc (length c.promote.new.self.entries) = ap (λ (s : Keys). length s.entries) c.in_ok-add.ensures.ok in
    omega (arith, same, long, c.self.invariant.1)

pub returns-clause-repeats : goal.returns-clause-repeats
returns-clause-repeats c =
    sym c.if-promote.false ∙ c.promote.ensures.value ∙ found c.args.key c.self.inside.seen.entries
    ∙ ap (λ (d : Deduper). list_any (same_datum c.args.key) d.keys) c.self.view_is

pub returns-clause-keys : goal.returns-clause-keys
returns-clause-keys c =
    let es = c.self.inside.seen.entries in
    let absent : list_any (same_datum c.args.key) (keys_of es) ≡ false = sym (found c.args.key es) ∙ sym c.promote.ensures.value ∙ c.if-promote.false in
    let same : c.promote.new.self.entries ≡ es = ap (λ (s : Keys). s.entries) c.promote.ensures.entries ∙ promoted_absent c.args.key es absent in
    let added : c.add.new.seen.entries ≡ (c.args.key, tt) ∷ es = ap (λ (s : Keys). s.entries) c.in_ok-add.ensures.ok ∙ ap (λ (fs : Entries). (c.args.key, tt) ∷ fs) same in
    ap (λ (s : Keys). keys_of s.entries) c.trim.ensures ∙ ap (λ (fs : Entries). keys_of (take c.self.inside.most fs)) added
    ∙ put_remembers c.args.key c.self.inside.most es tt absent
    ∙ ap (λ (d : Deduper). remembering d.most c.args.key d.keys) c.self.view_is
