use Rattle.std.proofs.Common.{◌≡◌, false, [], ◌∷◌, take, ◌∙◌, ap}
use Rattle.std.specs.List.{list_any}
use Rattle.std.specs.Map.{keys_of}
use Rattle.lru.specs.LruCache.{LruCache}
use Rattle.vx_value.specs.Datum.{Datum}
use Rattle.vx_pick.specs.Dedupers.{Deduper, same_datum, remembering}
use Rattle.vx_pick.proofs.Cached.{put_remembers}
use Rattle.vx_pick.proofs.dedupe.Dedupe.pass.Goals as goal

abbrev Keys : Type 0
Keys = LruCache Datum (Unit {0})

pub returns-in-Ok-answer-clause-settled : goal.returns-in-Ok-answer-clause-settled
returns-in-Ok-answer-clause-settled c =
    let es = c.self.inside.seen.entries in
    let absent : list_any (same_datum c.args.key) (keys_of es) ≡ false =
    ap (λ (d : Deduper). list_any (same_datum c.args.key) d.keys) c.self.view_is ∙ c.requires in
    record {
      answered = c.in-Ok-answer.ensures.answered (0 ∷ []) c.bits_for.ensures;
      keys =
          ap (λ (s : Keys). keys_of s.entries) c.trim.ensures
          ∙ ap (λ (s : Keys). keys_of (take c.self.inside.most s.entries)) c.in-Ok.ensures.ok
          ∙ put_remembers c.args.key c.self.inside.most es tt absent
          ∙ ap (λ (d : Deduper). remembering d.most c.args.key d.keys) c.self.view_is;
      by = ap (λ (d : Deduper). d.by) c.self.view_is;
      most = ap (λ (d : Deduper). d.most) c.self.view_is;
    }
