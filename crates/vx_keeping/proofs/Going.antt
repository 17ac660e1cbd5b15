-- How a keeper goes on with a record.
use Rattle.std.proofs.Common.{◌≡◌, ℕ, ◌+◌, true, false, Option, Some, None, List, [], ◌∷◌, ◌++◌, map, reverse, refl, sym, ap, ◌∙◌, subst, arith, inl, inr}
use Rattle.std.specs.Prelude.{◌≢◌, ◌⊎◌, not, filter, All, count_by}
use Rattle.std.specs.List.{sum_by}
use Rattle.std.proofs.lemmas.Bool.{cases_lt}
use Rattle.std.proofs.lemmas.List.{map-append, reverse-append}
use Rattle.std.proofs.lemmas.List.Sums.{sum_by-append}
use Rattle.vx_value.specs.declared.event.Event.{Event}
use Rattle.vx_ledger.specs.Copies.{Copy, numbers_of}
use Rattle.vx_ledger.specs.declared.parcel.Parcel.{Parcel}
use Rattle.vx_transform.specs.declared.output.Output.{Output}
use Rattle.vx_transform.specs.Shelves.{Shelved, copies_put_out, copies_dropped, copies_on}
use Rattle.vx_condition.specs.Steps.{comes}
use Rattle.vx_record.specs.declared.entry.Entry.{Entry}
use Rattle.vx_record.specs.declared.entry.Entry.TheVariants.{Take}
use Rattle.vx_record.specs.Records.{Record}
use Rattle.vx_record.specs.Copies.{count, joined}
use Rattle.vx_record.specs.Turns.{lease_now}
use Rattle.vx_record.specs.Places.Place.{Held}
use Rattle.vx_record.specs.Parcels.{event_of, first_copy, parcel_event}
use Rattle.vx_record.specs.Inputs.{Input as NotedInput, unanswered, answered, is_tick}
use Rattle.vx_record.specs.Transforms.{reduces}
use Rattle.vx_record.specs.Installs.{transform_at}
use Rattle.vx_record.specs.Tallies.{is_first}
use Rattle.vx_record.specs.Shifts.{at}
use Rattle.vx_record.specs.Legal.{IsLegal}
use Rattle.vx_record.proofs.Counts.{count-append}
use Rattle.vx_places.specs.Numbers.{IsCopyIn}
use Rattle.vx_places.specs.Holding.{AreKnown}
use Rattle.vx_reduce.specs.declared.reduce.Reduce.{Reduce}
use Rattle.vx_reduce.specs.declared.reduce_settings.ReduceSettings.{ReduceSettings}
use Rattle.vx_reduce.specs.Groups.{put_all}
use Rattle.vx_reduce.specs.Inputs.{Input, outputs_over}
use Rattle.vx_reduce.specs.Standing.{settings_of, IsAt, IsMeant}
use Rattle.vx_keeping.specs.Kept.{Kept, nothing, copies_kept}
use Rattle.vx_keeping.specs.Given.{arrived_all, SameCopies, StaysBare, IsGiven, IsSound, IsHosted, Makes, Drops, firsts_of, is_among}
use Rattle.vx_keeping.specs.Keeping.{IsMade, Accounts, noted_input, noted_input_at, taken_in, RunsWith, IsBareOrMeant, HasReduced, HasMakerGiven, OwesOnly, IsAbreast, Keeps, HasMade}
use Rattle.vx_keeping.specs.Laws.{KeepsStays, MadeStays, NoneTaken}
use Rattle.vx_keeping.proofs.Weights.{of_copy, in_weighs, weighs_in, count_numbers, of_number, no_copies}
use Rattle.vx_keeping.proofs.Inputs.{reverse_both, over_append, put_twice, meant_still}
use Rattle.vx_keeping.proofs.Ruling.{with_transforms, host_transforms}
use Rattle.vx_keeping.proofs.Staying.{made_stays, answered_stays, taken_stays, with_stays, host_stays, rule_before, owes_stays, unspent_before, firsts_stay, moments_stay, map_none}
use Rattle.vx_keeping.proofs.Firsts.{firsts_counted}
use Rattle.vx_keeping.proofs.Accounting.{accounts_moved, accounts_stay, take_filled, if_self}

-- WHAT IT WAS GIVEN
-- some inputs more, to a reduce
module _ (old new : Reduce) (before after : Shelved) (was gone : List Copy) (h : Record) (i : ℕ) (behind : List NotedInput) (xs : List Input) (g : HasReduced old before was h i behind) (step : IsGiven xs old new before after) (same : gone ≡ was) where
  meant_on : IsBareOrMeant new after
  meant_on = go g.meant step.meant
    where
      go : IsBareOrMeant old before → IsMeant new ⊎ StaysBare old new before after → IsBareOrMeant new after
      go (inl bare) (inl m) = inr m
      go (inl bare) (inr f) = let b = f bare.0 in inl (b.0, b.1 ∙ bare.1)
      go (inr m) other = inr (meant_still old new step.set m)

  reduced_on : HasReduced new after gone h i (behind ++ map noted_input xs)
  reduced_on = record {
    set = subst (λ (s : ReduceSettings). RunsWith h i s) (sym step.set) g.set;
    earlier = g.earlier;
    more = g.more ++ xs;
    answered = g.answered;
    given = map-append noted_input g.more xs ∙ ap (λ l. l ++ map noted_input xs) g.given;
    stands = λ s r. subst (λ l. IsAt s l new) (sym (reverse_both g.more xs g.earlier)) (step.stands s (reverse g.more ++ g.earlier) (g.stands s r));
    shelf = λ s r.
        step.shelf s (reverse g.more ++ g.earlier) (g.stands s r)
        ∙ ap (λ (sh : Shelved). put_all sh (outputs_over s (reverse g.more ++ g.earlier) xs)) (g.shelf s r)
        ∙ put_twice nothing (outputs_over s g.earlier g.more) (outputs_over s (reverse g.more ++ g.earlier) xs)
        ∙ ap (put_all nothing) (sym (over_append s g.earlier g.more xs));
    meant = meant_on;
    discarded = same ∙ g.discarded;
  }

-- to either
pub given_on : (old new : Option Reduce) (before after : Shelved) (was gone : List Copy) (h : Record) (i : ℕ) (behind : List NotedInput) (xs : List Input) (parcels : List Parcel) →
    HasMakerGiven old before was h i behind → Makes xs parcels old new before after was gone → (behind ++ map noted_input xs ≡ [] → IsHosted parcels before after was gone → All IsSound after.outputs → after ≡ nothing) →
    HasMakerGiven new after gone h i (behind ++ map noted_input xs)
given_on (Some old) (Some new) before after was gone h i behind xs parcels g makes bare = reduced_on old new before after was gone h i behind xs g makes.0 makes.1
given_on None None before after was gone h i behind xs parcels g makes bare = record {
  set = g.set;
  sound = makes.sound g.sound;
  dropped = makes.dropped;
  bare = λ none. bare none makes (makes.sound g.sound);
}
given_on (Some old) None before after was gone h i behind xs parcels g makes bare = absurd makes
given_on None (Some new) before after was gone h i behind xs parcels g makes bare = absurd makes

-- an entry that answers nothing of it
pub given_stays : (m : Option Reduce) (on : Shelved) (gone : List Copy) (h : Record) (i : ℕ) (e : Entry) (behind : List NotedInput) → IsLegal (e ∷ h) → answered (e ∷ h) i ≡ answered h i → HasMakerGiven m on gone h i behind → HasMakerGiven m on gone (e ∷ h) i behind
given_stays (Some r) on gone h i e behind legal same g = record {
  set = with_stays h i e (settings_of r) legal g.set;
  earlier = g.earlier;
  more = g.more;
  answered = g.answered ∙ sym same;
  given = g.given;
  stands = λ s rule. g.stands s (rule_before h i e (settings_of r) (reduces s) legal g.set rule);
  shelf = λ s rule. g.shelf s (rule_before h i e (settings_of r) (reduces s) legal g.set rule);
  meant = g.meant;
  discarded = g.discarded;
}
given_stays None on gone h i e behind legal same g = record { set = host_stays h i e legal g.set; sound = g.sound; dropped = g.dropped; bare = g.bare }

-- either is a transform's
pub transforms : (m : Option Reduce) (on : Shelved) (gone : List Copy) (h : Record) (i : ℕ) (behind : List NotedInput) → HasMakerGiven m on gone h i behind → transform_at h i ≡ true
transforms (Some r) on gone h i behind g = with_transforms h i (settings_of r) g.set
transforms None on gone h i behind g = host_transforms h i g.set

-- WHAT STAYS
pub keeps_stays : KeepsStays
keeps_stays k h i e legal leaves keeps = record {
  accounts = accounts_stay k h i e leaves keeps.accounts;
  abreast = λ fit. let a = keeps.abreast fit in record {
    given = record { by = given_stays k.maker k.shelf k.discarded h i e [] legal (answered_stays h i e leaves) a.given.by; loose = a.given.loose };
    bare = a.bare;
    taken = moments_stay h i e k.taken.items legal (transforms k.maker k.shelf k.discarded h i [] a.given.by) a.taken ∙ sym (taken_stays h i e leaves);
    owed = owes_stays h i e (numbers_of k.discarded) leaves a.owed;
    dropped = a.dropped;
  };
}

pub made_keeps : MadeStays
made_keeps k h i e given legal leaves made = record {
  accounts = accounts_stay k h i e leaves made.accounts;
  fit = made.fit;
  taken = made.taken;
  given = record { by = given_stays k.maker k.shelf k.discarded h i e given legal (answered_stays h i e leaves) made.given.by; loose = made.given.loose };
  settled = owes_stays h i e [] leaves made.settled;
  clear = made.clear;
  counted = λ l. made.counted legal.1 ∙ ap (λ (firsts : List ℕ). count_by (is_among firsts) (numbers_of k.discarded)) (sym (firsts_stay h i e leaves));
}

pub none_taken : NoneTaken
none_taken k h i keeps fit cleared none = let a = keeps.abreast fit in record {
  accounts = keeps.accounts;
  fit = fit;
  taken = map_none (noted_input_at (lease_now h i)) k.taken.items (a.taken ∙ none);
  given = a.given;
  settled = subst (λ (cs : List Copy). OwesOnly h i (numbers_of cs)) cleared a.owed;
  clear = λ nothing_given. (cleared, a.dropped);
  counted = λ legal. a.dropped ∙ ap (λ (cs : List Copy). count_by (is_first h i) (numbers_of cs)) (sym cleared);
}

-- CALLS
-- of a keeper that isn't fit only the copies are accounted for
pub unfit_keeps : (k : Kept) (h : Record) (i : ℕ) → k.fit ≡ false → Accounts k h i → Keeps k h i
unfit_keeps k h i unfit accounts = record { accounts = accounts; abreast = λ fit. absurd cc }

pub short_keeps : (old new : Kept) → new.fit ≡ false → SameCopies (copies_kept old) (copies_kept new) → (h : Record) (i : ℕ) → Accounts old h i → Keeps new h i
short_keeps old new unfit same h i accounts = unfit_keeps new h i unfit (accounts_moved old new h i same accounts)

-- something comes behind
not_empty : {X : Type 0} (xs : List X) (x : X) → (xs ++ x ∷ []) ≢ []
not_empty [] x is = cc
not_empty (y ∷ ys) x is = cc

-- more is made
pub made_on : (old new : Kept) (x : Input) → Makes (x ∷ []) [] old.maker new.maker old.shelf new.shelf old.discarded new.discarded → SameCopies (copies_kept old) (copies_kept new) → new.taken.items ≡ [] →
    new.discarded ≡ old.discarded → new.dropped ≡ old.dropped → new.fit ≡ true → new.loose ≡ None →
    (h : Record) (i : ℕ) (behind : List NotedInput) → HasMade old h i behind → HasMade new h i (behind ++ noted_input x ∷ [])
made_on old new x step same taken gone dropped fit loose h i behind made = record {
  accounts = accounts_moved old new h i same made.accounts;
  fit = fit;
  taken = taken;
  given = record {
    by = given_on old.maker new.maker old.shelf new.shelf old.discarded new.discarded h i behind (x ∷ []) [] made.given.by step (λ none is sound. absurd (not_empty behind (noted_input x) none));
    loose = loose;
  };
  settled = made.settled;
  clear = λ none. absurd (not_empty behind (noted_input x) none);
  counted = λ legal. dropped ∙ made.counted legal ∙ ap (λ (cs : List Copy). count_by (is_first h i) (numbers_of cs)) (sym gone);
}

-- all that was taken is given
arrived_observed : (now : ℕ) (ps : List Parcel) → map noted_input (arrived_all now ps) ≡ map (noted_input_at now) ps
arrived_observed now [] = refl
arrived_observed now (p ∷ ps) = ap (λ l. noted_input_at now p ∷ l) (arrived_observed now ps)

-- of nothing a host makes nothing
sound_weighs : (os : List Output) → All IsSound os → ((w : Copy → ℕ) → sum_by w (copies_put_out os) ≡ 0) → os ≡ []
sound_weighs [] sound none = refl
sound_weighs (o ∷ os) sound none = absurd ((sound 0 o (omega arith)).filled (no_copies o.parcel.finalizers (λ w.
    let a = sum_by-append w o.parcel.finalizers (copies_put_out os) in
    let b = none w in
    omega (arith, a, b))))

module _ (parcels : List Parcel) (before after : Shelved) (was gone : List Copy) (hosted : IsHosted parcels before after was gone) (sound : All IsSound after.outputs) (none : parcels ≡ []) (bare : before ≡ nothing) (clear : was ≡ []) where
  nothing_weighs : (w : Copy → ℕ) → sum_by w (copies_put_out after.outputs) + sum_by w gone ≡ 0
  nothing_weighs w =
      let a = hosted.same w in
      let b = ap (λ ps. sum_by w (copies_dropped ps ++ (copies_on before ++ was))) none in
      let c = ap (λ (sh : Shelved). sum_by w (copies_on sh ++ was)) bare in
      let d = ap (λ (cs : List Copy). sum_by w cs) clear in
      let e = sum_by-append w (copies_on after) gone in
      let f = sum_by-append w (copies_put_out after.outputs) (copies_dropped after.dropped) in
      omega (arith, a, b, c, d, e, f)

  hosted_bare : after ≡ nothing
  hosted_bare =
      let outputs : after.outputs ≡ [] = sound_weighs after.outputs sound (λ w. let a = nothing_weighs w in omega (arith, a)) in
      let f : List Output → Shelved = λ os. record { outputs = os; dropped = after.dropped } in
      let g : List Parcel → Shelved = λ ps. record { outputs = []; dropped = ps } in
      ap f outputs ∙ ap g hosted.dropped

  hosted_clear : gone ≡ []
  hosted_clear = no_copies gone (λ w. let a = nothing_weighs w in omega (arith, a))

clear_then : (old new : Option Reduce) (xs : List Input) (parcels : List Parcel) (before after : Shelved) (was gone : List Copy) (m n : ℕ) (h : Record) (i : ℕ) → HasMakerGiven old before was h i [] →
    Makes xs parcels old new before after was gone → Drops old parcels gone m n → parcels ≡ [] → before ≡ nothing → was ≡ [] → m ≡ 0 → (gone ≡ []) × (n ≡ 0)
clear_then (Some old) (Some new) xs parcels before after was gone m n h i g makes drops none bare clear zero = (makes.1 ∙ clear, drops ∙ zero)
clear_then None None xs parcels before after was gone m n h i g makes drops none bare clear zero =
    let empty = hosted_clear parcels before after was gone makes (makes.sound g.sound) none bare clear in
    (empty, drops ∙ ap (λ (cs : List Copy). count_by (is_among (firsts_of parcels)) (numbers_of cs)) empty)
clear_then (Some old) None xs parcels before after was gone m n h i g makes drops none bare clear zero = absurd makes
clear_then None (Some new) xs parcels before after was gone m n h i g makes drops none bare clear zero = absurd makes

counted_then : (old new : Option Reduce) (xs : List Input) (parcels : List Parcel) (before after : Shelved) (was gone : List Copy) (m n : ℕ) (h : Record) (i : ℕ) → IsLegal h → Makes xs parcels old new before after was gone →
    Drops old parcels gone m n → before ≡ nothing → was ≡ [] → m ≡ 0 → map (noted_input_at (lease_now h i)) parcels ≡ taken_in h i → n ≡ count_by (is_first h i) (numbers_of gone)
counted_then (Some old) (Some new) xs parcels before after was gone m n h i legal makes drops bare clear zero taken =
    drops ∙ zero ∙ ap (λ (cs : List Copy). count_by (is_first h i) (numbers_of cs)) (sym (makes.1 ∙ clear))
counted_then None None xs parcels before after was gone m n h i legal makes drops bare clear zero taken =
    drops ∙ firsts_counted h i parcels legal taken gone (λ copy is.
    let a = makes.same (of_copy copy) in
    let b = sum_by-append (of_copy copy) (copies_on after) gone in
    let c = sum_by-append (of_copy copy) (copies_dropped parcels) (copies_on before ++ was) in
    let d = ap (λ (sh : Shelved). sum_by (of_copy copy) (copies_on sh ++ was)) bare in
    let e = ap (λ (cs : List Copy). sum_by (of_copy copy) cs) clear in
    let l = in_weighs gone copy is in
    weighs_in (copies_dropped parcels) copy (omega (arith, a, b, c, d, e, l)))
counted_then (Some old) None xs parcels before after was gone m n h i legal makes drops bare clear zero taken = absurd makes
counted_then None (Some new) xs parcels before after was gone m n h i legal makes drops bare clear zero taken = absurd makes

pub answer_makes : (now : ℕ) (old new : Kept) → old.fit ≡ true → Makes (arrived_all now old.taken.items) old.taken.items old.maker new.maker old.shelf new.shelf old.discarded new.discarded →
    Drops old.maker old.taken.items new.discarded old.dropped new.dropped → SameCopies (copies_kept old) (copies_kept new) → new.taken.items ≡ [] → new.fit ≡ true →
    new.loose ≡ None → (h : Record) (i : ℕ) → now ≡ lease_now h i → Keeps old h i → old.discarded ≡ [] → HasMade new h i (taken_in h i)
answer_makes now old new was step drops same taken fit loose h i moment keeps clear =
    let a = keeps.abreast was in
    let is : map noted_input (arrived_all now old.taken.items) ≡ taken_in h i =
    arrived_observed now old.taken.items ∙ ap (λ n. map (noted_input_at n) old.taken.items) moment ∙ a.taken in
    let none : taken_in h i ≡ [] → old.taken.items ≡ [] = λ empty. map_none (noted_input_at (lease_now h i)) old.taken.items (a.taken ∙ empty) in
    record {
      accounts = accounts_moved old new h i same keeps.accounts;
      fit = fit;
      taken = taken;
      given = record {
        by = subst (HasMakerGiven new.maker new.shelf new.discarded h i) is
            (given_on old.maker new.maker old.shelf new.shelf old.discarded new.discarded h i [] (arrived_all now old.taken.items) old.taken.items a.given.by step
            (λ empty hosted sound. hosted_bare old.taken.items old.shelf new.shelf old.discarded new.discarded hosted sound (none (sym is ∙ empty)) a.bare clear));
        loose = loose;
      };
      settled = subst (λ (cs : List Copy). OwesOnly h i (numbers_of cs)) clear a.owed;
      clear = λ empty. clear_then old.maker new.maker (arrived_all now old.taken.items) old.taken.items old.shelf new.shelf old.discarded new.discarded old.dropped new.dropped h i a.given.by step drops (none empty) a.bare clear a.dropped;
      counted = λ legal. counted_then old.maker new.maker (arrived_all now old.taken.items) old.taken.items old.shelf new.shelf old.discarded new.discarded old.dropped new.dropped h i legal step drops a.bare clear a.dropped a.taken;
    }

-- A TAKE
module _ (old new : Kept) (parcel : Parcel) (h : Record) (i s : ℕ) (legal : IsLegal (Take i s (numbers_of parcel.finalizers) ∷ h)) (known : AreKnown h (parcel ∷ [])) where
  abbrev entry : Entry
  entry = Take i s (numbers_of parcel.finalizers)

  joined-last : (c : ℕ) (ps : List (List ℕ)) (p : List ℕ) → count c (joined (ps ++ p ∷ [])) ≡ count c (joined ps) + count c p
  joined-last c [] p = let e = count-append c p [] in omega (arith, e)
  joined-last c (q ∷ ps) p =
      let a = count-append c q (joined (ps ++ p ∷ [])) in let b = count-append c q (joined ps) in let ih = joined-last c ps p in omega (arith, a, b, ih)

  pub take_accounts : ((w : Copy → ℕ) → sum_by w (copies_kept new) ≡ sum_by w (copies_kept old) + sum_by w parcel.finalizers) → Accounts old h i → Accounts new (Take i s (numbers_of parcel.finalizers) ∷ h) i
  take_accounts more accounts = record {
    counted = λ c.
        let a = ap (λ ps. count c (joined ps)) (if_self i (at h (Held i) ++ numbers_of parcel.finalizers ∷ []) (at h (Held i))) in
        let b = joined-last c (at h (Held i)) (numbers_of parcel.finalizers) in
        let d = accounts.counted c in
        let e = count_numbers c (copies_kept old) in
        let f = count_numbers c (copies_kept new) in
        let g = count_numbers c parcel.finalizers in
        let m = more (of_number c) in
        omega (arith, a, b, d, e, f, g, m);
    known = λ copy is. made_stays h entry copy (there copy is);
  }
    where
      there : (copy : Copy) → IsCopyIn (copies_kept new) copy → IsMade h copy
      there copy is =
          let l = in_weighs (copies_kept new) copy is in
          let m = more (of_copy copy) in
          elim (cases_lt 0 (sum_by (of_copy copy) (copies_kept old))) [
            | inl before ↦ accounts.known copy (weighs_in (copies_kept old) copy before)
            | inr none ↦
                let k = known parcel.event copy (inl (refl, weighs_in parcel.finalizers copy (omega (arith, l, m, none)))) in
                record { made = k.made; batch = k.batch; place = k.place }
          ]

  -- the parcel is told with its event
  event_is : (cs : List Copy) → numbers_of cs ≢ [] → ((copy : Copy) → IsCopyIn cs copy → event_of h copy.number ≡ parcel.event) → event_of h (first_copy (numbers_of cs)) ≡ parcel.event
  event_is [] some said = absurd (some refl)
  event_is (c ∷ cs) some said = said c (inl refl)

  pub take_abreast : new ≡ record old { taken = record { items = old.taken.items ++ parcel ∷ []; room = old.taken.room } } → IsAbreast old h i → IsAbreast new (Take i s (numbers_of parcel.finalizers) ∷ h) i
  take_abreast is a = subst (λ (k : Kept). IsAbreast k (entry ∷ h) i) (sym is) (record {
    given = record { by = given_stays old.maker old.shelf old.discarded h i entry [] legal refl a.given.by; loose = a.given.loose };
    bare = a.bare;
    taken =
        map-append (noted_input_at (lease_now h i)) old.taken.items (parcel ∷ [])
        ∙ ap (λ l. l ++ noted_input_at (lease_now h i) parcel ∷ []) a.taken
        ∙ ap (λ x. taken_in h i ++ x ∷ []) (sym same)
        ∙ sym (reverse-append (x ∷ []) (filter (λ (x : NotedInput). not (is_tick x.step)) (unanswered h i)))
        ∙ ap (λ (xs : List NotedInput). reverse (filter (λ (x : NotedInput). not (is_tick x.step)) (xs ++ unanswered h i))) (sym (if_self i (x ∷ []) []));
    owed = λ c some none. a.owed c some (unspent_before h entry c none);
    dropped = a.dropped;
  })
    where
      x : NotedInput
      x = record { step = comes (parcel_event h (numbers_of parcel.finalizers)) (lease_now h i); copies = numbers_of parcel.finalizers }

      same : x ≡ noted_input_at (lease_now h i) parcel
      same =
          let f : Event → NotedInput = λ e. record { step = comes e (lease_now h i); copies = numbers_of parcel.finalizers } in
          ap f (event_is parcel.finalizers (take_filled h i s (numbers_of parcel.finalizers) legal) (λ copy in_it. (known parcel.event copy (inl (refl, in_it))).said))
