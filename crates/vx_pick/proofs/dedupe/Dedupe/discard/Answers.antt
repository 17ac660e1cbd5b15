use Rattle.std.proofs.Common.{◌≡◌, true, [], length, ◌∙◌, ap, arith}
use Rattle.std.specs.List.{list_any}
use Rattle.std.specs.Map.{keys_of}
use Rattle.lru.specs.LruCache.{LruCache}
use Rattle.vx_value.specs.Datum.{Datum}
use Rattle.vx_pick.specs.Dedupers.{Deduper, same_datum, remembering}
use Rattle.vx_pick.proofs.Cached.{promoted_length, promoted_remembers}
use Rattle.vx_pick.proofs.dedupe.Dedupe.discard.Goals as goal

abbrev Keys : Type 0
Keys = LruCache Datum (Unit {0})

pub invariant_of-self : goal.invariant_of-self
invariant_of-self c =
    let es = c.self.inside.seen.entries in
    let there : list_any (same_datum c.args.key) (keys_of es) ≡ true =
    ap (λ (d : Deduper). list_any (same_datum c.args.key) d.keys) c.self.view_is ∙ c.requires in
    let long : length c.promote.new.self.entries ≡ length es =
    ap (λ (s : Keys). length s.entries) c.promote.ensures.entries ∙ promoted_length c.args.key es there in
    (ap (λ (s : Keys). s.cap) c.promote.ensures.entries ∙ c.self.invariant.0, omega (arith, long, c.self.invariant.1))

pub returns-in-Ok-clause-settled : goal.returns-in-Ok-clause-settled
returns-in-Ok-clause-settled c =
    let es = c.self.inside.seen.entries in
    let there : list_any (same_datum c.args.key) (keys_of es) ≡ true =
    ap (λ (d : Deduper). list_any (same_datum c.args.key) d.keys) c.self.view_is ∙ c.requires in
    record {
      answered = c.in-Ok.ensures.answered [] c.bits_for.ensures;
      keys =
          ap (λ (s : Keys). keys_of s.entries) c.promote.ensures.entries ∙ promoted_remembers c.args.key c.self.inside.most es there
          ∙ ap (λ (d : Deduper). remembering d.most c.args.key d.keys) c.self.view_is;
      by = ap (λ (d : Deduper). d.by) c.self.view_is;
      most = ap (λ (d : Deduper). d.most) c.self.view_is;
    }
