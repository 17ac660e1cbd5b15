-- What transforms that judge events make of a parcel, by the shelf before and behind it, and what they were and are then.
use Rattle.std.specs.Prelude.{◌≡◌, ℕ, List, [], ◌∷◌, ◌++◌}
use Rattle.vx_value.specs.Texts.{ByteString}
use Rattle.vx_value.specs.Datum.{Datum}
use Rattle.vx_value.specs.declared.event.Event.{Event}
use Rattle.vx_condition.specs.Steps.{Test}
use Rattle.vx_condition.specs.Picking.{filter_passes, route_ports, sample_passes, dedupe_passes}
use Rattle.vx_ledger.specs.declared.parcel.Parcel.{Parcel}
use Rattle.vx_transform.specs.Shelves.{Shelved}
use Rattle.vx_plan.specs.Options.{if_any}
use Rattle.vx_record.specs.Transforms.{Means, AllMean, test_of, passing}
use Rattle.vx_pick.specs.Answers.{answered_on}
use Rattle.vx_pick.specs.Routes.{Ways}
use Rattle.vx_pick.specs.Samplers.{Sampler, HasCounted}
use Rattle.vx_pick.specs.Dedupers.{Deduper, remembering, HasSeen}

module _ (parcel : Parcel) (before behind : Shelved) where
  -- a filter, seen as its condition
  pub record Filtered (old new : ByteString) : Type 0 where
    pub answered : (test : Test) (earlier : List Event) → Means old test →
        behind ≡ answered_on (passing (filter_passes test) earlier parcel.event) before parcel
    pub same : new ≡ old

  pub record Routed (old new : Ways) : Type 0 where
    pub answered : (tests : List Test) → AllMean old.conditions tests →
        behind ≡ answered_on (route_ports tests old.reroute parcel.event) before parcel
    pub same : new ≡ old

  pub record Sampled (old new : Sampler) : Type 0 where
    pub answered : (tests : List Test) (earlier : List Event) → AllMean (if_any old.exclude) tests → HasCounted old earlier →
        behind ≡ answered_on (passing (sample_passes old.rate (test_of old.exclude tests)) earlier parcel.event) before parcel
    pub seen : (earlier : List Event) → HasCounted old earlier → HasCounted new (earlier ++ parcel.event ∷ [])
    pub rate : new.rate ≡ old.rate
    pub exclude : new.exclude ≡ old.exclude

  pub record Deduped (old new : Deduper) : Type 0 where
    pub answered : (earlier : List Event) → HasSeen old earlier →
        behind ≡ answered_on (passing (dedupe_passes old.most old.by) earlier parcel.event) before parcel
    pub seen : (earlier : List Event) → HasSeen old earlier → HasSeen new (earlier ++ parcel.event ∷ [])
    pub by : new.by ≡ old.by
    pub most : new.most ≡ old.most

  -- a deduper, by the key of the parcel's event and the ports to which the parcel goes for it
  pub record Settled (old new : Deduper) (key : Datum) (ports : List ℕ) : Type 0 where
    pub answered : behind ≡ answered_on ports before parcel
    pub keys : new.keys ≡ remembering old.most key old.keys
    pub by : new.by ≡ old.by
    pub most : new.most ≡ old.most
