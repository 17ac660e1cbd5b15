-- What an instance that owes nothing holds failed each time that it was attempted, and may be attempted again.
use Rattle.std.proofs.Common.{◌≡◌, ℕ, ◌<◌, false, List, [], ◌∷◌, length, refl}
use Rattle.vx_record.specs.Records.{Record}
use Rattle.vx_record.specs.Copies.{joined}
use Rattle.vx_record.specs.Legal.{IsLegal}
use Rattle.vx_record.specs.Lists.{held}
use Rattle.vx_record.specs.Owing.{owes}
use Rattle.vx_record.specs.Parcels.{first_copy}
use Rattle.vx_record.specs.SinkBatches.{attempts_with, failures_with, attempts_allowed, oldest_held}
use Rattle.vx_record.proofs.Changes.{NoneEmpty}
use Rattle.vx_record.proofs.Untried.{held_retried, spends_settled}
use Rattle.vx_instances.proofs.Holding.{held_none_empty, oldest_among}

pub first_joined : (q : List ℕ) (qs : List (List ℕ)) → NoneEmpty (q ∷ qs) → first_copy (joined (q ∷ qs)) ≡ first_copy q
first_joined [] qs full = absurd full
first_joined (c ∷ cs) qs full = refl

pub oldest_failed : (h : Record) (i : ℕ) → IsLegal h → owes h i ≡ false → 0 < length (held h i) →
    (attempts_with h i (oldest_held h i) ≡ failures_with h i (oldest_held h i)) × (failures_with h i (oldest_held h i) < attempts_allowed h i)
oldest_failed h i legal settled some = held_retried h i (oldest_held h i) (spends_settled h i settled) legal (oldest_among (held h i) (held_none_empty h i) some)
