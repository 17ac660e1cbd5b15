use Rattle.std.proofs.Common.{List, ◌∙◌, ap}
use Rattle.vx_value.specs.Datum.{Datum}
use Rattle.lru.specs.LruCache.{lru_cache}
use Rattle.vx_pick.proofs.Cached.{put_new}
use Rattle.vx_pick.proofs.seen_keys.add.Goals as goal
use Rattle.vx_pick.proofs.seen_keys.add.Goals.{in-Ok, in-Err}

pub returns-clause-ok : goal.returns-clause-ok
returns-clause-ok c = elim c.match-put.branch [
  | in-Ok w ↦ rw w.result-is
      (w.in-Ok.ensures.entries
      ∙ ap (λ (es : List (Datum × Unit {0})). lru_cache es c.args.seen.now.cap) (put_new c.args.key c.args.seen.now tt c.requires.absent c.requires.room))
  | in-Err w ↦ rw w.result-is tt
]
