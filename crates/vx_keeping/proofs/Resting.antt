-- What holds where nothing was taken, nothing is held, or no tick waits.
use Rattle.std.proofs.Common.{◌≡◌, ℕ, Bool, true, false, Option, Some, None, List, [], ◌∷◌, ◌++◌, map, reverse, refl, sym, ap, ◌∙◌, arith, inl, inr}
use Rattle.std.specs.Prelude.{◌==◌, filter, not, if◌then◌else◌}
use Rattle.std.proofs.lemmas.Bool.Decides.{nat_tests}
use Rattle.std.proofs.lemmas.List.{reverse-reverse}
use Rattle.vx_ledger.specs.Copies.{Copy}
use Rattle.vx_transform.specs.Shelves.{Shelved, copies_dropped, copies_on}
use Rattle.vx_condition.specs.Steps.{comes, ticks}
use Rattle.vx_record.specs.declared.entry.Entry.TheVariants.{Take, Tick, Answer}
use Rattle.vx_record.specs.Records.{Record}
use Rattle.vx_record.specs.Turns.{lease_now}
use Rattle.vx_record.specs.Parcels.{parcel_event}
use Rattle.vx_record.specs.Inputs.{Input as NotedInput, unanswered, is_tick, has_tick}
use Rattle.vx_reduce.specs.declared.reduce.Reduce.{Reduce}
use Rattle.vx_reduce.specs.Groups.{put_all}
use Rattle.vx_reduce.specs.Inputs.{Input, outputs_over}
use Rattle.vx_reduce.specs.Standing.{settings_of}
use Rattle.vx_keeping.specs.Kept.{nothing, loose_copies, copies_made}
use Rattle.vx_keeping.specs.Keeping.{noted_input, noted_input_at, IsBareOrMeant, HasMakerGiven}
use Rattle.vx_keeping.specs.Laws.{TicksStay, NothingGiven, NothingMade, HoldsNothing, NothingTaken}
use Rattle.vx_keeping.proofs.Ruling.{rule_there}
use Rattle.vx_keeping.proofs.Staying.{map_none}
use Rattle.vx_keeping.proofs.Carrying.{taken_filled}
use Rattle.vx_keeping.proofs.Popping.{parts_none}
use Rattle.vx_keeping.proofs.Answering.{unticked}
use Rattle.vx_keeping.proofs.Calls.{all_gone, none_there, no_parcels}

-- TICKS
pub ticks_stay : TicksStay
ticks_stay h i (Take j s copies) other none = go (j == i)
  where
    go : (b : Bool) → has_tick ((if b then record { step = comes (parcel_event h copies) (lease_now h i); copies = copies } ∷ [] else []) ++ unanswered h i) ≡ false
    go true = none
    go false = none
ticks_stay h i (Tick j now) other none = go (j == i) refl
  where
    go : (b : Bool) → (j == i) ≡ b → has_tick ((if b then record { step = ticks now; copies = [] } ∷ [] else []) ++ unanswered h i) ≡ false
    go true is = absurd (other (grind (arith, nat_tests)))
    go false is = none
ticks_stay h i (Answer j outputs discarded kept) other none = go (j == i)
  where
    go : (b : Bool) → has_tick (if b then [] else unanswered h i) ≡ false
    go true = refl
    go false = none
ticks_stay h i e other none = none

-- NOTHING WAS TAKEN
pub nothing_given : NothingGiven
nothing_given h i none taken = sym (unticked (unanswered h i) none) ∙ sym (reverse-reverse (filter (λ (x : NotedInput). not (is_tick x.step)) (unanswered h i))) ∙ ap reverse taken

bare_by : (m : Option Reduce) (on : Shelved) (gone : List Copy) (h : Record) (i : ℕ) → HasMakerGiven m on gone h i [] → on ≡ nothing
bare_by (Some r) on gone h i g = bare g.meant
  where
    bare : IsBareOrMeant r on → on ≡ nothing
    bare (inl b) = b.1
    bare (inr m) =
        let rule = rule_there h i m.0 (settings_of r) g.set m.1 in
        g.shelf rule.0 rule.1 ∙ ap (λ (more : List Input). put_all nothing (outputs_over rule.0 g.earlier more)) (map_none noted_input g.more g.given)
bare_by None on gone h i g = g.bare refl

-- of what was discarded nothing is left unspent before an answer; a keeper drops parcels only with copies
pub nothing_made : NothingMade
nothing_made k h i made none = record {
  accounts = made.accounts;
  abreast = λ fit. record {
    given = made.given;
    bare = bare_by k.maker k.shelf k.discarded h i made.given.by;
    taken = ap (map (noted_input_at (lease_now h i))) made.taken ∙ sym none;
    owed = λ c some unspent. let l = made.settled c some unspent in absurd (omega (arith, l));
    dropped = (made.clear refl).1;
  };
}

-- NOTHING IS HELD
pub holds_nothing : HoldsNothing
holds_nothing k h i legal accounts = (λ none. none_there k h i legal accounts none, λ none. all_gone k h i accounts none)

pub nothing_taken : NothingTaken
nothing_taken k h i legal keeps fit none =
    let a = keeps.abreast fit in
    let all = all_gone k h i keeps.accounts none in
    let stored = (parts_none (loose_copies k.loose) (copies_made k.maker ++ (copies_dropped k.taken.items ++ (copies_on k.shelf ++ k.discarded))) all).1 in
    let behind = (parts_none (copies_made k.maker) (copies_dropped k.taken.items ++ (copies_on k.shelf ++ k.discarded)) stored).1 in
    let parcels = no_parcels k.taken.items (taken_filled h i (lease_now h i) k.taken.items legal a.taken) (parts_none (copies_dropped k.taken.items) (copies_on k.shelf ++ k.discarded) behind).0 in
    sym a.taken ∙ ap (map (noted_input_at (lease_now h i))) parcels
