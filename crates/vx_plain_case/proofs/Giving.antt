-- In the end the sink of a chain gave all that it took, in order.
use Rattle.std.proofs.Common.{◌≡◌, ℕ, ◌<◌, Bool, true, false, List, [], ◌∷◌, ◌++◌, map, inl, inr, refl, sym, ap, subst, ◌∙◌, arith, Option, Some, None}
use Rattle.std.specs.Prelude.{◌⊎◌, ◌==◌, if◌then◌else◌}
use Rattle.std.specs.List.{list_any, list_all}
use Rattle.std.proofs.lemmas.Bool.{eqb-true, and_parts}
use Rattle.std.proofs.lemmas.Bool.Decides.{nat_tests}
use Rattle.std.proofs.lemmas.List.{append_assoc, append-nil, map-append}
use Rattle.vx_codec.specs.declared.codec.Codec.{Codec}
use Rattle.vx_status.specs.declared.outcome.Outcome.{Outcome}
use Rattle.vx_status.specs.declared.outcome.Outcome.TheVariants.{Delivered, Attempts, Refusal, Abandoned, NoConsumer, Filtered, NewestDropped}
use Rattle.vx_plan.specs.declared.plan.Plan.{Plan}
use Rattle.vx_plan.specs.declared.component.Component.{Component}
use Rattle.vx_plan.specs.Components.{is_sink}
use Rattle.vx_record.specs.declared.output.Output.{Output}
use Rattle.vx_record.specs.declared.entry.Entry.{Entry}
use Rattle.vx_record.specs.declared.entry.Entry.TheVariants.{Install, Born, Split, Take, Answer, Attempt, Spent, Abandon}
use Rattle.vx_record.specs.Records.{Record}
use Rattle.vx_record.specs.Copies.{count, joined, times_spent}
use Rattle.vx_record.specs.Places.{put_out}
use Rattle.vx_record.specs.Places.Place.{Outputs, Waiting, Held}
use Rattle.vx_record.specs.Lists.{shrunk, held}
use Rattle.vx_record.specs.Parcels.{parcel_event}
use Rattle.vx_record.specs.Installs.{in_force, sink_at}
use Rattle.vx_record.specs.Turns.{is_out, since_lease, is_take_of, is_attempt_of}
use Rattle.vx_record.specs.Spending.{last_attempted, MaySpend}
use Rattle.vx_record.specs.Abandoning.{abandoned}
use Rattle.vx_record.specs.Shifts.{at}
use Rattle.vx_record.specs.Legal.{IsLegal}
use Rattle.vx_record.proofs.OnePlace.{conserved}
use Rattle.vx_record.proofs.Answerers.{sink_untransforming, unanswering}
use Rattle.vx_record.proofs.Promises.{transforms_filter}
use Rattle.vx_record.proofs.Untried.{spent_on, untried_spent, spent_failed}
use Rattle.vx_record.proofs.Spenders.{stands_live}
use Rattle.vx_record.proofs.Shifting.{stands_at}
use Rattle.vx_record.proofs.Wired.{component_there}
use Rattle.vx_plain_case.proofs.Plans.{Run}
use Rattle.vx_plain_case.proofs.Standing.{IsAt, events_at, events_stay, full_at, not_at, stands_there}
use Rattle.vx_plain_case.proofs.Flows.{took_events}
use Rattle.vx_plain_case.proofs.FirstPorts.{count-less}
use Rattle.vx_plain_case.proofs.Spends.{spent_stays, newest_at, unread_at}
use Rattle.vx_plain_case.proofs.Ended.{NoneLive, nothing_at, no_copies}
use Rattle.vx_plain_case.proofs.Sinks.{Writes, Unfailed, unfailed_before, attempted_decided, given_events}

-- all that it attempted is spent, and what it took it gave or holds
pub record Fresh (h : Record) (k : ℕ) : Type 0 where
  pub spent : (c : ℕ) → 0 < count c (last_attempted h k) → 0 < times_spent h c
  pub flows : took_events h k ≡ given_events h k ++ events_at h (Held k)

-- it gave all that it took, and what it holds it attempted
pub record Tried (h : Record) (k : ℕ) : Type 0 where
  pub attempted : (c : ℕ) → IsAt h (Held k) c → 0 < count c (last_attempted h k)
  pub flows : took_events h k ≡ given_events h k

-- one of the two
abbrev pub IsGiving : Record → ℕ → Type 0
IsGiving h k = Fresh h k ⊎ Tried h k

-- what stands isn't spent
unspent_at : (h : Record) (k c : ℕ) → IsLegal h → IsAt h (Held k) c → 0 < times_spent h c → ⊥
unspent_at h k c legal l spent =
    let none = (stands_live h (Held k) c (conserved h legal) (stands_there h (Held k) c legal l)).2 in omega (arith, spent, none)

-- a sink that is out and has made no attempt is fresh
freshen : (h : Record) (k : ℕ) → IsLegal h → Unfailed h k → is_out h k ≡ true → list_any (is_attempt_of k) (since_lease h k) ≡ false → IsGiving h k → Fresh h k
freshen h k legal un out untried (inl fresh) = fresh
freshen h k legal un out untried (inr tried) = record {
  spent = spent;
  flows =
      tried.flows ∙ sym (append-nil (given_events h k))
      ∙ ap (λ (ps : List (List ℕ)). given_events h k ++ map (parcel_event h) ps) (sym none);
}
  where
    spent : (c : ℕ) → 0 < count c (last_attempted h k) → 0 < times_spent h c
    spent c l = untried_spent h k c legal out untried (attempted_decided h k c un l)

    none : at h (Held k) ≡ []
    none = no_copies (at h (Held k)) (full_at h (Held k) legal) (λ c l. unspent_at h k c legal l (spent c (tried.attempted c l)))

-- an entry that is nothing to the sink
giving_on : (h : Record) (e : Entry) (k : ℕ) → took_events (e ∷ h) k ≡ took_events h k → given_events (e ∷ h) k ≡ given_events h k →
    last_attempted (e ∷ h) k ≡ last_attempted h k → at (e ∷ h) (Held k) ≡ at h (Held k) → events_at (e ∷ h) (Held k) ≡ events_at h (Held k) →
    IsGiving h k → IsGiving (e ∷ h) k
giving_on h e k took gave same stays events (inl fresh) = inl (record {
  spent = λ c l. spent_on h e c (fresh.spent c (subst (λ (cs : List ℕ). 0 < count c cs) same l));
  flows = let f = fresh.flows in cc;
})
giving_on h e k took gave same stays events (inr tried) = inr (record {
  attempted = λ c l.
      subst (λ (cs : List ℕ). 0 < count c cs) (sym same)
      (tried.attempted c (subst (λ (ps : List (List ℕ)). 0 < count c (joined ps)) stays l));
  flows = let f = tried.flows in cc;
})

-- TAKES
-- behind a Lease with nothing but Takes no attempt was made
only_takes : (k : ℕ) (entries : List Entry) → list_all (is_take_of k) entries ≡ true → list_any (is_attempt_of k) entries ≡ false
only_takes k [] all = refl
only_takes k (Take j s copies ∷ entries) all = only_takes k entries (and_parts (j == k) (list_all (is_take_of k) entries) all).1
only_takes k (e ∷ entries) all = cc

-- a Take, of the sink or of another
on_take : (h : Record) (k j s : ℕ) (copies : List ℕ) → IsLegal (Take j s copies ∷ h) → Unfailed h k → IsGiving h k → IsGiving (Take j s copies ∷ h) k
on_take h k j s copies legal un was = go (j == k) refl
  where
    e : Entry
    e = Take j s copies

    go : (b : Bool) → (j == k) ≡ b → IsGiving (e ∷ h) k
    go true is =
        let same = eqb-true j k is in
        let out : is_out h k ≡ true = subst (λ (n : ℕ). is_out h n ≡ true) same legal.0.row.out in
        let takes : list_all (is_take_of k) (since_lease h k) ≡ true = subst (λ (n : ℕ). list_all (is_take_of n) (since_lease h n) ≡ true) same legal.0.row.only_takes in
        let fresh = freshen h k legal.1 un out (only_takes k (since_lease h k) takes) was in
        inl (record {
          spent = λ c l. spent_on h e c (fresh.spent c l);
          flows =
              ap (λ (b : Bool). took_events h k ++ (if b then parcel_event h copies ∷ [] else [])) is
              ∙ ap (λ es. es ++ parcel_event h copies ∷ []) fresh.flows
              ∙ append_assoc (given_events h k) (events_at h (Held k)) (parcel_event h copies ∷ [])
              ∙ ap (λ es. given_events h k ++ es) (sym (map-append (parcel_event h) (at h (Held k)) (copies ∷ [])))
              ∙ ap (λ (b : Bool). given_events h k ++ map (parcel_event h) (if b then at h (Held k) ++ copies ∷ [] else at h (Held k))) (sym is);
        })
    go false is =
        let stays : at (e ∷ h) (Held k) ≡ at h (Held k) = ap (λ (b : Bool). if b then at h (Held k) ++ copies ∷ [] else at h (Held k)) is in
        giving_on h e k
        (ap (λ (b : Bool). took_events h k ++ (if b then parcel_event h copies ∷ [] else [])) is ∙ append-nil (took_events h k))
        refl refl stays (ap (λ (ps : List (List ℕ)). map (parcel_event h) ps) stays) was

-- ATTEMPTS
on_attempt : (h : Record) (k j : ℕ) (copies bytes : List ℕ) (answer : _) → IsLegal (Attempt j copies bytes answer ∷ h) → Unfailed h k → IsGiving h k →
    IsGiving (Attempt j copies bytes answer ∷ h) k
on_attempt h k j copies bytes answer legal un was = go (j == k) refl
  where
    e : Entry
    e = Attempt j copies bytes answer

    go : (b : Bool) → (j == k) ≡ b → IsGiving (e ∷ h) k
    go true is =
        let same = eqb-true j k is in
        let out : is_out h k ≡ true = subst (λ (n : ℕ). is_out h n ≡ true) same legal.0.row.out in
        let once : list_any (is_attempt_of k) (since_lease h k) ≡ false = subst (λ (n : ℕ). list_any (is_attempt_of n) (since_lease h n) ≡ false) same legal.0.row.once in
        let all : copies ≡ joined (at h (Held k)) =
        subst (λ (n : ℕ). copies ≡ joined (held h n)) same legal.0.row.all ∙ ap (λ (ps : List (List ℕ)). joined ps) (stands_at h (Held k) legal.1) in
        let fresh = freshen h k legal.1 un out once was in
        inr (record {
          attempted = λ c l. subst (λ (b : Bool). 0 < count c (if b then copies else last_attempted h k)) (sym is) (subst (λ (cs : List ℕ). 0 < count c cs) (sym all) l);
          flows = fresh.flows ∙ ap (λ (b : Bool). given_events h k ++ (if b then events_at h (Held k) else [])) (sym is);
        })
    go false is =
        giving_on h e k refl
        (ap (λ (b : Bool). given_events h k ++ (if b then events_at h (Held k) else [])) is ∙ append-nil (given_events h k))
        (ap (λ (b : Bool). if b then copies else last_attempted h k) is) refl refl was

-- SPENDS
-- what a fresh sink holds isn't spent
none_spent : (h : Record) (k c : ℕ) (outcome : Outcome) → IsLegal h → abandoned h ≡ false → sink_at h k ≡ true → Fresh h k → MaySpend h k c outcome →
    count c (joined (at h (Held k))) ≡ 0
none_spent h k c outcome legal whole sink fresh may = go outcome may
  where
    unattempted : times_spent h c ≡ 0 → 0 < count c (last_attempted h k) → count c (joined (at h (Held k))) ≡ 0
    unattempted none had = let spent = fresh.spent c had in absurd (omega (arith, none, spent))

    go : (outcome : Outcome) → MaySpend h k c outcome → count c (joined (at h (Held k))) ≡ 0
    go Delivered row = unattempted row.live.2 row.cause.had
    go Refusal row = unattempted row.live.2 row.cause.had
    go Attempts row = unattempted row.live.2 (spent_failed h k c legal row).had
    go Filtered row = let no : true ≡ false = sym (transforms_filter h k c legal row) ∙ sink_untransforming h k sink in cc
    go NewestDropped row = not_at h (Waiting k row.cause.0) (Held k) c legal refl (newest_at h k c row.cause.0 legal row.cause.1)
    go NoConsumer row = not_at h (Outputs k) (Held k) c legal refl (unread_at h k c legal row.cause)
    go Abandoned row = let no : true ≡ false = sym row.cause.0 ∙ whole in cc

-- a Spent, at the sink or elsewhere
on_spent : (h : Record) (k j c : ℕ) (outcome : Outcome) → abandoned h ≡ false → sink_at h k ≡ true → IsLegal (Spent j c outcome ∷ h) → IsGiving h k →
    IsGiving (Spent j c outcome ∷ h) k
on_spent h k j c outcome whole sink legal (inl fresh) =
    giving_on h (Spent j c outcome) k refl refl refl stays (ap (λ (ps : List (List ℕ)). map (parcel_event h) ps) stays) (inl fresh)
  where
    stays : at (Spent j c outcome ∷ h) (Held k) ≡ at h (Held k)
    stays =
        spent_stays h j c outcome (Held k) legal.1
        (λ same. none_spent h k c outcome legal.1 whole sink fresh (subst (λ (n : ℕ). MaySpend h n c outcome) same legal.0.row))
on_spent h k j c outcome whole sink legal (inr tried) = inr (record {
  attempted = λ d l. tried.attempted d (go (j == k) d l);
  flows = tried.flows;
})
  where
    go : (b : Bool) (d : ℕ) → 0 < count d (joined (if b then shrunk (c ∷ []) (at h (Held k)) else at h (Held k))) → IsAt h (Held k) d
    go true d l = count-less d (c ∷ []) (at h (Held k)) l
    go false d l = l

-- ALL ENTRIES
on_answer : (h : Record) (k j : ℕ) (made : List Output) (discarded kept : List ℕ) → sink_at h k ≡ true → IsLegal (Answer j made discarded kept ∷ h) → IsGiving h k →
    IsGiving (Answer j made discarded kept ∷ h) k
on_answer h k j made discarded kept sink legal was =
    giving_on h e k refl refl refl stays
    (ap (λ (ps : List (List ℕ)). map (parcel_event (e ∷ h)) ps) stays ∙ events_stay h e (Held k) legal (turned k j other)) was
  where
    e : Entry
    e = Answer j made discarded kept

    other : (j == k) ≡ false
    other = unanswering h k j made discarded kept legal (sink_untransforming h k sink)

    turned : (k j : ℕ) → (j == k) ≡ false → (k == j) ≡ false
    turned k j is = grind (arith, nat_tests)

    stays : at (e ∷ h) (Held k) ≡ at h (Held k)
    stays = ap (λ (b : Bool). if b then shrunk (put_out made) (at h (Held k)) else at h (Held k)) other

-- a sink of the plan is one in the record
sink_of : (plan : Plan) (h : Record) (k : ℕ) (codec : Codec) → Writes plan k codec → IsLegal h → in_force h ≡ Some plan → sink_at h k ≡ true
sink_of plan h k codec writes legal force =
    ap (λ (o : Option Component). elim o [ None ↦ false | Some c ↦ is_sink c ]) (component_there h plan k writes.component legal force writes.there) ∙ writes.writes

-- so it is in each run of the plan
giving : (plan : Plan) (h : Record) (k : ℕ) (codec : Codec) → Writes plan k codec → Run plan h → Unfailed h k → IsGiving h k
giving plan [] k codec writes run un = inl (record { spent = λ c l. l; flows = refl })
giving plan (Install version made once instances now ∷ h) k codec writes run un =
    subst (λ (r : Record). IsGiving (Install version made once instances now ∷ r) k) (sym run.legal.0.row.first) (inl (record { spent = λ c l. l; flows = refl }))
giving plan (Born j b place copies events waits stream end ∷ h) k codec writes run un =
    let e : Entry = Born j b place copies events waits stream end in
    giving_on h e k refl refl refl refl (events_stay h e (Held k) run.legal tt)
    (giving plan h k codec writes (record { legal = run.legal.1; installed = run.installed; whole = run.whole }) (unfailed_before h e k un))
giving plan (Split j ports copies event children ∷ h) k codec writes run un =
    let e : Entry = Split j ports copies event children in
    giving_on h e k refl refl refl refl (events_stay h e (Held k) run.legal tt)
    (giving plan h k codec writes (record { legal = run.legal.1; installed = run.installed; whole = run.whole }) (unfailed_before h e k un))
giving plan (Take j s copies ∷ h) k codec writes run un =
    on_take h k j s copies run.legal (unfailed_before h (Take j s copies) k un)
    (giving plan h k codec writes (record { legal = run.legal.1; installed = run.installed; whole = run.whole }) (unfailed_before h (Take j s copies) k un))
giving plan (Answer j made discarded kept ∷ h) k codec writes run un =
    on_answer h k j made discarded kept (sink_of plan h k codec writes run.legal.1 run.installed) run.legal
    (giving plan h k codec writes (record { legal = run.legal.1; installed = run.installed; whole = run.whole }) (unfailed_before h (Answer j made discarded kept) k un))
giving plan (Attempt j copies bytes answer ∷ h) k codec writes run un =
    on_attempt h k j copies bytes answer run.legal (unfailed_before h (Attempt j copies bytes answer) k un)
    (giving plan h k codec writes (record { legal = run.legal.1; installed = run.installed; whole = run.whole }) (unfailed_before h (Attempt j copies bytes answer) k un))
giving plan (Spent j c outcome ∷ h) k codec writes run un =
    on_spent h k j c outcome run.whole (sink_of plan h k codec writes run.legal.1 run.installed) run.legal
    (giving plan h k codec writes (record { legal = run.legal.1; installed = run.installed; whole = run.whole }) (unfailed_before h (Spent j c outcome) k un))
giving plan (Abandon cause ∷ h) k codec writes run un = let no : true ≡ false = run.whole in cc
giving plan (e ∷ h) k codec writes run un =
    giving_on h e k refl refl refl refl refl
    (giving plan h k codec writes (record { legal = run.legal.1; installed = run.installed; whole = run.whole }) (unfailed_before h e k un))

-- in the end the sink gave what it took
pub gave_all : (plan : Plan) (h : Record) (k : ℕ) (codec : Codec) → Writes plan k codec → Run plan h → Unfailed h k → NoneLive h → given_events h k ≡ took_events h k
gave_all plan h k codec writes run un none = go (giving plan h k codec writes run un)
  where
    go : IsGiving h k → given_events h k ≡ took_events h k
    go (inl fresh) =
        sym (fresh.flows ∙ ap (λ (ps : List (List ℕ)). given_events h k ++ map (parcel_event h) ps) (nothing_at h (Held k) run.legal none)
        ∙ append-nil (given_events h k))
    go (inr tried) = sym tried.flows
