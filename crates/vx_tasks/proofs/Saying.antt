-- What a port tells behind a turn is what the record has with the entry of that turn.
use Rattle.std.proofs.Common.{◌≡◌, inl, inr, ◌≤◌, ℕ, ◌+◌, Bool, true, false, List, [], ◌∷◌, ◌++◌, Option, Some, None, IfSome, refl, sym, ap, subst, ◌∙◌, arith}
use Rattle.std.specs.Prelude.{◌==◌, ◌⊎◌, ◌&&◌, ◌||◌, not, nat_lt, if◌then◌else◌}
use Rattle.std.proofs.lemmas.List.{append-nil}
use Rattle.std.proofs.lemmas.Bool.Decides.{nat_tests}
use Rattle.vx_ends.specs.Observation.{Observation, Rose, Grows, SameBytes, Happened, Counts, CountsBy, nothing, raised, Made, Fits}
use Rattle.vx_ends.specs.declared.position.Position.{Position}
use Rattle.vx_ends.specs.declared.trouble.Reply.{Reply}
use Rattle.vx_ends.specs.declared.trouble.Reply.TheVariants as reply
use Rattle.vx_record.specs.declared.entry.Entry.{Entry}
use Rattle.vx_record.specs.declared.entry.Entry.TheVariants as entry
use Rattle.vx_record.specs.declared.output.Output.{Output}
use Rattle.vx_record.specs.declared.taken.Taken.{Taken}
use Rattle.vx_record.specs.declared.taken.Taken.TheVariants as taken
use Rattle.vx_record.specs.Records.{Record, capped}
use Rattle.vx_record.specs.Installs.{Wiring, wiring, component_of, device_at}
use Rattle.vx_record.specs.Sourcing.{failed_starts}
use Rattle.vx_record.specs.Reads.{bytes_of, bytes_taken, taken as taken_of, all_ended, ended_by, ended_streams, is_end}
use Rattle.vx_record.specs.Encoding.{given, given_in}
use Rattle.vx_record.specs.Confirms.{confirmed, confirmed_in}
use Rattle.vx_record.specs.Growth.{taken_in}
use Rattle.vx_record.specs.PortCounts.{fault_count, refusal_count, idle_count, finish_count, confirm_count, faults_in, refusals_in, idles_in, finishes_in, confirms_in}
use Rattle.vx_record.proofs.Grows.{taken_grows}
use Rattle.vx_sourcecore.specs.declared.source.Turned.{Turned}
use Rattle.vx_sourcecore.specs.declared.source.Turned.TheVariants as turned
use Rattle.vx_sourcecore.specs.Turns.{reading_of, read_bytes, NothingLeft, DidTake, IsUnmoved, StartsAtMost, turn_counts}
use Rattle.vx_sourcecore.specs.Generators.{IsMade}
use Rattle.vx_tasks.specs.Observing.{IsObserved, IsObservedButGiven, HasCounted, of_port, spec_by, spec_of}
use Rattle.vx_tasks.specs.Attempts.{OnlyGives, reply_counts}
use Rattle.vx_tasks.specs.Out.{turn_entry}
use Rattle.vx_tasks.proofs.Staying.{wired_runs, device_is}

pub same_test : (i : ℕ) → (i == i) ≡ true
same_test i = grind (arith, nat_tests)

-- a count that rose as an entry says
rose_least : (x y n m : ℕ) → m ≡ 1 → capped n ≤ x → x ≤ y → Rose x y → capped (n + m) ≤ y
rose_least x y n m is least later (inl more) = omega (arith, is, more, least)
rose_least x y n m is least later (inr last) = omega (arith, is, last, later)

pub counted_on : (e f : Bool) (x y n m : ℕ) (b : Bool) → f ≡ e → m ≡ (if b then 1 else 0) → Counts e x y b → HasCounted e n x → HasCounted f (n + m) y
counted_on e f x y n m true same is count was = record {
  least = rose_least x y n m is was.least count.later (count.rose refl);
  exactly = λ on.
      let known : x ≡ capped n = was.exactly (sym same ∙ on) in
      let now : y ≡ raised x true = count.exactly (sym same ∙ on) in
      omega (arith, is, known, now);
}
counted_on e f x y n m false same is count was = record {
  least = let least = was.least in let later = count.later in omega (arith, is, least, later);
  exactly = λ on.
      let known : x ≡ capped n = was.exactly (sym same ∙ on) in
      let now : y ≡ raised x false = count.exactly (sym same ∙ on) in
      omega (arith, is, known, now);
}

-- what an entry tells of its instance's port is what happened there
pub record ReportsOf (i : ℕ) (e : Entry) (what : Happened) : Type 0 where
  pub faults : faults_in i e ≡ (if what.failed then 1 else 0)
  pub refusals : refusals_in i e ≡ (if what.refused then 1 else 0)
  pub idles : idles_in i e ≡ (if what.idle then 1 else 0)
  pub finishes : finishes_in i e ≡ (if what.finished then 1 else 0)
  pub confirms : confirms_in i e ≡ (if what.confirmed then 1 else 0)

-- an entry of which a port needn't tell: it has no bytes taken and no attempt that was finished
pub record IsUnheard (i : ℕ) (e : Entry) : Type 0 where
  pub taken : (stream : ℕ) → taken_in i stream e ≡ []
  pub finishes : finishes_in i e ≡ 0

-- an instance has a port that tells of an entry, or none is needed
abbrev pub IsHeard : Bool → ℕ → Entry → Type 0
IsHeard device i e = (device ≡ true) ⊎ IsUnheard i e

-- so what the record has of that port goes on by the entry
heard_bytes : (device : Bool) (i stream : ℕ) (e : Entry) (had : List ℕ) → IsHeard device i e →
    (if device then had ++ taken_in i stream e else []) ≡ (if device then had else []) ++ taken_in i stream e
heard_bytes true i stream e had heard = refl
heard_bytes false i stream e had (inl is) = cc
heard_bytes false i stream e had (inr none) = sym (none.taken stream)

heard_taken : (e : Entry) (h : Record) (i stream : ℕ) → component_of (e ∷ h) i ≡ component_of h i → IsHeard (device_at h i) i e →
    of_port [] (λ k j. taken_of k j stream) (e ∷ h) i ≡ of_port [] (λ k j. taken_of k j stream) h i ++ taken_in i stream e
heard_taken e h i stream runs heard =
    ap (λ (b : Bool). if b then taken_of (e ∷ h) i stream else []) (device_is (e ∷ h) h i runs)
    ∙ ap (λ (w : List ℕ). if device_at h i then w else []) (taken_grows e h i stream)
    ∙ heard_bytes (device_at h i) i stream e (taken_of h i stream) heard

heard_finishes : (device : Bool) (i n : ℕ) (e : Entry) → IsHeard device i e → (if device then n + finishes_in i e else 0) ≡ (if device then n else 0) + finishes_in i e
heard_finishes true i n e heard = refl
heard_finishes false i n e (inl is) = cc
heard_finishes false i n e (inr none) = let no = none.finishes in omega (arith, no)

heard_finished : (e : Entry) (h : Record) (i : ℕ) → component_of (e ∷ h) i ≡ component_of h i → IsHeard (device_at h i) i e →
    of_port 0 finish_count (e ∷ h) i ≡ of_port 0 finish_count h i + finishes_in i e
heard_finished e h i runs heard =
    ap (λ (b : Bool). if b then finish_count (e ∷ h) i else 0) (device_is (e ∷ h) h i runs) ∙ heard_finishes (device_at h i) i (finish_count h i) e heard

-- a port goes on as an entry of its instance says
pub record Says (e : Entry) (h : Record) (i : ℕ) (old new : Observation) : Type 0 where
  pub taken : (stream : ℕ) → Grows (old.taken stream) (new.taken stream) (taken_in i stream e)
  pub given : Grows old.given new.given (given_in i e)
  pub confirmed : Grows old.confirmed new.confirmed (confirmed_in i e)
  pub spec : new.spec ≡ old.spec
  pub wired : wiring (e ∷ h) i ≡ wiring h i
  pub heard : IsHeard (device_at h i) i e
  pub ended : new.ended ≡ old.ended ++ ended_by i e
  pub over : (all_ended h i ≡ true → NothingLeft old) → all_ended (e ∷ h) i ≡ true → NothingLeft new
  pub what : Happened
  pub reports : ReportsOf i e what
  pub counts : CountsBy what old new

pub grown : {X : Type 0} (o n : Option (List X)) (more had : List X) → Grows o n more → IfSome o (λ xs. xs ≡ had) → IfSome n (λ xs. xs ≡ had ++ more)
grown None n more had g is = subst (λ (x : Option (List _)). IfSome x (λ xs. xs ≡ had ++ more)) (sym g) tt
grown (Some xs) n more had g is = subst (λ (x : Option (List _)). IfSome x (λ ys. ys ≡ had ++ more)) (sym g) (ap (λ ys. ys ++ more) is)

-- then it tells what the record has with that entry
pub observed_said : (e : Entry) (h : Record) (i : ℕ) (old new : Observation) → Says e h i old new → IsObserved old h i → IsObserved new (e ∷ h) i
observed_said e h i old new says observed = record {
  taken = λ stream. subst (λ (w : List ℕ). IfSome (new.taken stream) (λ bytes. bytes ≡ w)) (sym (heard_taken e h i stream runs says.heard))
      (grown (old.taken stream) (new.taken stream) (taken_in i stream e) (of_port [] (λ k j. taken_of k j stream) h i) (says.taken stream) (observed.taken stream));
  given = grown old.given new.given (given_in i e) (given h i) says.given observed.given;
  spec = subst (λ (for : Made). Fits (spec_of (e ∷ h) i) for) (sym says.spec)
      (subst (λ (o : Option Wiring). Fits (spec_by o) old.spec) (sym says.wired) observed.spec);
  confirmed = grown old.confirmed new.confirmed (confirmed_in i e) (confirmed h i) says.confirmed observed.confirmed;
  ended = says.ended ∙ ap (λ (xs : List ℕ). xs ++ ended_by i e) observed.ended;
  over = λ device. says.over (observed.over (sym (device_is (e ∷ h) h i runs) ∙ device));
  faults = counted_on old.exact new.exact old.faults new.faults (fault_count h i) (faults_in i e) says.what.failed says.counts.exact says.reports.faults says.counts.faults observed.faults;
  refusals = counted_on old.exact new.exact old.refusals new.refusals (refusal_count h i) (refusals_in i e) says.what.refused says.counts.exact says.reports.refusals says.counts.refusals observed.refusals;
  idles = counted_on old.exact new.exact old.idles new.idles (idle_count h i) (idles_in i e) says.what.idle says.counts.exact says.reports.idles says.counts.idles observed.idles;
  finishes = subst (λ (n : ℕ). HasCounted new.exact n new.finishes) (sym (heard_finished e h i runs says.heard))
      (counted_on old.exact new.exact old.finishes new.finishes (of_port 0 finish_count h i) (finishes_in i e) says.what.finished says.counts.exact says.reports.finishes says.counts.finishes observed.finishes);
  confirms = counted_on old.exact new.exact old.confirms new.confirms (confirm_count h i) (confirms_in i e) says.what.confirmed says.counts.exact says.reports.confirms says.counts.confirms observed.confirms;
}
  where
    runs : component_of (e ∷ h) i ≡ component_of h i
    runs = wired_runs (e ∷ h) h i says.wired

-- COUNTS
abbrev ones : Bool → ℕ
ones b = if b then 1 else 0

pub by_test : (i : ℕ) (b : Bool) → (if (i == i) && b then 1 else 0) ≡ ones b
by_test i b = ap (λ (t : Bool). ones (t && b)) (same_test i)

reports_none : (i stream : ℕ) (took : Taken) (started : Bool) → ReportsOf i (entry.Read i stream took) (record nothing { started = started })
reports_none i stream took started = record { faults = refl; refusals = refl; idles = refl; finishes = refl; confirms = refl }

reports_idle : (i : ℕ) (started : Bool) → ReportsOf i (entry.Idle i false) (record nothing { idle = true; started = started })
reports_idle i started = record { faults = by_test i false; refusals = refl; idles = by_test i true; finishes = refl; confirms = refl }

reports_failed : (i : ℕ) (started : Bool) → ReportsOf i (entry.Idle i true) (record nothing { failed = true; started = started })
reports_failed i started = record { faults = by_test i true; refusals = refl; idles = by_test i false; finishes = refl; confirms = refl }

reports_lost : (i after : ℕ) (at_start started : Bool) → ReportsOf i (entry.SourceLost i after at_start) (record nothing { failed = true; started = started })
reports_lost i after at_start started = record { faults = ap ones (same_test i); refusals = refl; idles = refl; finishes = refl; confirms = refl }

-- what a turn leaves
pub same_grows : {X : Type 0} (o n : Option (List X)) → n ≡ o → Grows o n []
same_grows None n e = e
same_grows (Some xs) n e = e ∙ ap Some (sym (append-nil xs))

-- what a read took
on_test : (i : ℕ) (b : Bool) (xs : List ℕ) → (if (i == i) && b then xs else []) ≡ (if b then xs else [])
on_test i b xs = ap (λ (t : Bool). if t && b then xs else []) (same_test i)

end_by : (i stream : ℕ) → ended_by i (entry.Read i stream taken.StreamEnded) ≡ stream ∷ []
end_by i stream = ap (λ (t : Bool). if t then stream ∷ [] else []) (same_test i)

over_before : (a b r : Bool) → b ≡ false → ((a && b) || r) ≡ true → r ≡ true
over_before true true r off is = cc
over_before true false r off is = is
over_before false b r off is = is

reads : (h : Record) (i stream : ℕ) (took : Taken) (turned : Turned) (old new : Observation) (started : Bool) → device_at h i ≡ true → DidTake old turned new → CountsBy (record nothing { started = started }) old new →
    ((s : ℕ) → read_bytes (reading_of turned) s ≡ (if stream == s then bytes_of took else [])) →
    new.ended ≡ old.ended ++ ended_by i (entry.Read i stream took) → ((is_end took ≡ false) ⊎ NothingLeft new) →
    IsObserved old h i → IsObserved new (entry.Read i stream took ∷ h) i
reads h i stream took turned old new started device did counts are ended over = observed_said (entry.Read i stream took) h i old new (record {
  taken = λ s. subst (λ (w : List ℕ). Grows (old.taken s) (new.taken s) w) (are s ∙ sym (on_test i (stream == s) (bytes_of took))) (did.taken s);
  given = same_grows old.given new.given did.rest.given;
  confirmed = same_grows old.confirmed new.confirmed did.rest.confirmed;
  spec = did.rest.spec;
  wired = refl;
  heard = inl device;
  ended = ended;
  over = λ before now. elim over [
    | inl goes ↦ did.rest.left (before (over_before (i == i) (is_end took) (all_ended h i) goes now))
    | inr none ↦ none
  ];
  what = record nothing { started = started };
  reports = reports_none i stream took started;
  counts = counts;
})

-- an entry that tells of no bytes
record TookNothing (h : Record) (i : ℕ) (e : Entry) : Type 0 where
  taken : (stream : ℕ) → taken_in i stream e ≡ []
  given : given_in i e ≡ []
  confirmed : confirmed_in i e ≡ []
  wired : wiring (e ∷ h) i ≡ wiring h i
  finishes : finishes_in i e ≡ 0
  ended : ended_by i e ≡ []
  over : all_ended (e ∷ h) i ≡ all_ended h i

idle_nothing : (h : Record) (i : ℕ) (failed : Bool) → TookNothing h i (entry.Idle i failed)
idle_nothing h i failed = record { taken = λ s. refl; given = refl; confirmed = refl; wired = refl; finishes = refl; ended = refl; over = refl }

lost_nothing : (h : Record) (i after : ℕ) (at_start : Bool) → TookNothing h i (entry.SourceLost i after at_start)
lost_nothing h i after at_start = record { taken = λ s. refl; given = refl; confirmed = refl; wired = refl; finishes = refl; ended = refl; over = refl }

-- what took nothing
rests : (h : Record) (i : ℕ) (e : Entry) (what : Happened) (turned : Turned) (old new : Observation) → TookNothing h i e → ReportsOf i e what → CountsBy what old new → DidTake old turned new →
    ((s : ℕ) → read_bytes (reading_of turned) s ≡ []) → new.ended ≡ old.ended ++ [] → IsObserved old h i → IsObserved new (e ∷ h) i
rests h i e what turned old new took reports counts did none ended = observed_said e h i old new (record {
  taken = λ s. subst (λ (w : List ℕ). Grows (old.taken s) (new.taken s) w) (none s ∙ sym (took.taken s)) (did.taken s);
  given = subst (λ (w : List ℕ). Grows old.given new.given w) (sym took.given) (same_grows old.given new.given did.rest.given);
  confirmed = subst (λ (ps : List Position). Grows old.confirmed new.confirmed ps) (sym took.confirmed) (same_grows old.confirmed new.confirmed did.rest.confirmed);
  spec = did.rest.spec;
  wired = took.wired;
  heard = inr (record { taken = took.taken; finishes = took.finishes });
  ended = ended ∙ ap (λ (xs : List ℕ). old.ended ++ xs) (sym took.ended);
  over = λ before now. did.rest.left (before (sym took.over ∙ now));
  what = what;
  reports = reports;
  counts = counts;
})

-- whatever the turn was
pub turn_observed : (old new : Observation) (h : Record) (i : ℕ) (turned : Turned) → device_at h i ≡ true → DidTake old turned new → CountsBy (turn_counts old.started turned) old new → IsObserved old h i → IsObserved new (turn_entry h i turned ∷ h) i
turn_observed old new h i (turned.Lines stream n room cut) device did counts observed =
    reads h i stream _ (turned.Lines stream n room cut) old new (not old.started) device did counts (λ s. refl) did.ended (inl refl) observed
turn_observed old new h i (turned.StreamEnded stream cut) device did counts observed =
    reads h i stream taken.StreamEnded (turned.StreamEnded stream cut) old new (not old.started) device did counts (λ s. refl) (did.ended ∙ ap (λ (xs : List ℕ). old.ended ++ xs) (sym (end_by i stream))) (inl refl) observed
turn_observed old new h i (turned.AllEnded stream cut) device did counts observed =
    reads h i stream taken.AllEnded (turned.AllEnded stream cut) old new (not old.started) device did counts (λ s. refl) did.ended (inr did.over) observed
turn_observed old new h i turned.Idle device did counts observed =
    rests h i (entry.Idle i false) (turn_counts old.started turned.Idle) turned.Idle old new (idle_nothing h i false) (reports_idle i (not old.started)) counts did (λ s. refl) did.ended observed
turn_observed old new h i (turned.Failed at_start) device did counts observed = go (at_start && nat_lt (failed_starts h i) 4)
  where
    started : Bool
    started = not at_start && not old.started

    go : (b : Bool) → IsObserved new ((if b then entry.Idle i true else entry.SourceLost i (capped (bytes_taken h i)) at_start) ∷ h) i
    go true = rests h i (entry.Idle i true) (turn_counts old.started (turned.Failed at_start)) (turned.Failed at_start) old new (idle_nothing h i true) (reports_failed i started) counts did (λ s. refl) did.ended observed
    go false =
        rests h i (entry.SourceLost i (capped (bytes_taken h i)) at_start) (turn_counts old.started (turned.Failed at_start)) (turned.Failed at_start) old new
        (lost_nothing h i (capped (bytes_taken h i)) at_start) (reports_lost i (capped (bytes_taken h i)) at_start started) counts did (λ s. refl) did.ended observed

-- what a port tells of bytes is what it told
pub record SameNews (old new : Observation) : Type 0 where
  pub taken : new.taken ≡ old.taken
  pub given : new.given ≡ old.given
  pub spec : new.spec ≡ old.spec
  pub confirmed : new.confirmed ≡ old.confirmed
  pub ended : new.ended ≡ old.ended
  pub left : NothingLeft old → NothingLeft new

-- what happened is nothing that an entry tells
pub record IsQuiet (what : Happened) : Type 0 where
  pub failed : what.failed ≡ false
  pub refused : what.refused ≡ false
  pub idle : what.idle ≡ false
  pub finished : what.finished ≡ false
  pub confirmed : what.confirmed ≡ false

-- nothing happened at a port: it tells what it told
pub observed_unmoved : (old new : Observation) (h : Record) (i : ℕ) (what : Happened) → SameNews old new → IsQuiet what → CountsBy what old new → IsObserved old h i → IsObserved new h i
observed_unmoved old new h i what same quiet counts observed = record {
  taken = λ stream. subst (λ (f : ℕ → Option (List ℕ)). IfSome (f stream) (λ bytes. bytes ≡ of_port [] (λ k j. taken_of k j stream) h i)) (sym same.taken) (observed.taken stream);
  given = subst (λ (o : Option (List ℕ)). IfSome o (λ bytes. bytes ≡ given h i)) (sym same.given) observed.given;
  spec = subst (λ (for : Made). Fits (spec_of h i) for) (sym same.spec) observed.spec;
  confirmed = subst (λ (o : Option (List Position)). IfSome o (λ positions. positions ≡ confirmed h i)) (sym same.confirmed) observed.confirmed;
  ended = same.ended ∙ observed.ended;
  over = λ device over. same.left (observed.over device over);
  faults = stays_counted (fault_count h i) old.faults new.faults what.failed quiet.failed counts.faults observed.faults;
  refusals = stays_counted (refusal_count h i) old.refusals new.refusals what.refused quiet.refused counts.refusals observed.refusals;
  idles = stays_counted (idle_count h i) old.idles new.idles what.idle quiet.idle counts.idles observed.idles;
  finishes = stays_counted (of_port 0 finish_count h i) old.finishes new.finishes what.finished quiet.finished counts.finishes observed.finishes;
  confirms = stays_counted (confirm_count h i) old.confirms new.confirms what.confirmed quiet.confirmed counts.confirms observed.confirms;
}
  where
    stays_counted : (n x y : ℕ) (b : Bool) → b ≡ false → Counts old.exact x y b → HasCounted old.exact n x → HasCounted new.exact n y
    stays_counted n x y b none count was =
        let none_added : 0 ≡ ones b = ap ones (sym none) in
        let same_count : n + 0 ≡ n = omega arith in
        subst (λ (m : ℕ). HasCounted new.exact m y) same_count (counted_on old.exact new.exact x y n 0 b counts.exact none_added count was)

-- CONFIRMS AND ATTEMPTS
left_on : (old new : Observation) → new.left ≡ old.left → NothingLeft old → NothingLeft new
left_on old new same none = λ s. subst (λ (f : ℕ → Option (List ℕ)). IfSome (f s) (λ rest. rest ≡ [])) (sym same) (none s)

pub confirm_observed : (old new : Observation) (h : Record) (i : ℕ) (positions : List Position) (made : Bool) → SameBytes (record old { confirmed = new.confirmed }) new → Grows old.confirmed new.confirmed (if made then positions else []) →
    CountsBy (record nothing { failed = not made; confirmed = made }) old new → IsObserved old h i → IsObserved new (entry.Confirm i positions made ∷ h) i
confirm_observed old new h i positions made same grew counts = observed_said (entry.Confirm i positions made) h i old new (record {
  taken = λ s. same_grows (old.taken s) (new.taken s) (ap (λ (f : ℕ → Option (List ℕ)). f s) same.taken);
  given = same_grows old.given new.given same.given;
  confirmed = subst (λ (ps : List Position). Grows old.confirmed new.confirmed ps) (sym (ap (λ (t : Bool). if t && made then positions else []) (same_test i))) grew;
  spec = same.spec;
  wired = refl;
  heard = inr (record { taken = λ s. refl; finishes = refl });
  ended = same.ended ∙ sym (append-nil old.ended);
  over = λ before now. left_on old new same.left (before now);
  what = record nothing { failed = not made; confirmed = made };
  reports = record { faults = by_test i (not made); refusals = refl; idles = refl; finishes = refl; confirms = by_test i made };
  counts = counts;
})

pub attempt_observed : (old new : Observation) (h : Record) (i : ℕ) (copies : List ℕ) (bytes : List ℕ) (started : Bool) (answer : Reply) → device_at h i ≡ true → OnlyGives old new → Grows old.given new.given bytes →
    CountsBy (reply_counts started answer) old new → IsObserved old h i → IsObserved new (entry.Attempt i copies bytes answer ∷ h) i
attempt_observed old new h i copies bytes started answer device only grew counts = observed_said (entry.Attempt i copies bytes answer) h i old new (record {
  taken = λ s. same_grows (old.taken s) (new.taken s) (ap (λ (f : ℕ → Option (List ℕ)). f s) only.taken);
  given = subst (λ (w : List ℕ). Grows old.given new.given w) (sym (ap (λ (t : Bool). if t then bytes else []) (same_test i))) grew;
  confirmed = same_grows old.confirmed new.confirmed only.confirmed;
  spec = only.spec;
  wired = refl;
  heard = inl device;
  ended = only.ended ∙ sym (append-nil old.ended);
  over = λ before now. left_on old new only.left (before now);
  what = reply_counts started answer;
  reports = replied answer;
  counts = counts;
})
  where
    replied : (answer : Reply) → ReportsOf i (entry.Attempt i copies bytes answer) (reply_counts started answer)
    replied reply.Ok = record { faults = by_test i false; refusals = by_test i false; idles = refl; finishes = by_test i true; confirms = refl }
    replied reply.Failed = record { faults = by_test i true; refusals = by_test i false; idles = refl; finishes = by_test i false; confirms = refl }
    replied reply.Refused = record { faults = by_test i false; refusals = by_test i true; idles = refl; finishes = by_test i false; confirms = refl }

-- a port of which an answer tells nothing
none_counted : (exact : Bool) (n : ℕ) → Counts exact n n false
none_counted exact n = record { later = omega arith; rose = λ is. cc; exactly = λ on. refl }

pub answer_observed : (observed : Observation) (h : Record) (i : ℕ) (outputs : List Output) (discarded kept : List ℕ) → IsObserved observed h i → IsObserved observed (entry.Answer i outputs discarded kept ∷ h) i
answer_observed observed h i outputs discarded kept is = observed_said (entry.Answer i outputs discarded kept) h i observed observed (record {
  taken = λ s. same_grows (observed.taken s) (observed.taken s) refl;
  given = same_grows observed.given observed.given refl;
  confirmed = same_grows observed.confirmed observed.confirmed refl;
  spec = refl;
  wired = refl;
  heard = inr (record { taken = λ s. refl; finishes = refl });
  ended = sym (append-nil observed.ended);
  over = λ before now. before now;
  what = nothing;
  reports = record { faults = refl; refusals = refl; idles = refl; finishes = refl; confirms = refl };
  counts = record {
    faults = none_counted observed.exact observed.faults;
    refusals = none_counted observed.exact observed.refusals;
    idles = none_counted observed.exact observed.idles;
    starts = none_counted observed.exact observed.starts;
    finishes = none_counted observed.exact observed.finishes;
    confirms = none_counted observed.exact observed.confirms;
    exact = refl;
  };
}) is

-- a port that no entry tells of
pub quiet : (started : Bool) → IsQuiet (record nothing { started = started })
quiet started = record { failed = refl; refused = refl; idle = refl; finished = refl; confirmed = refl }

pub observed_closed : (old new : Observation) (h : Record) (i : ℕ) → SameBytes old new → CountsBy nothing old new → IsObserved old h i → IsObserved new h i
observed_closed old new h i same counts observed = observed_unmoved old new h i nothing (record {
  taken = same.taken;
  given = same.given;
  spec = same.spec;
  confirmed = same.confirmed;
  ended = same.ended;
  left = left_on old new same.left;
}) (quiet false) counts observed

pub observed_untaken : (old new : Observation) (h : Record) (i : ℕ) → IsUnmoved old new → StartsAtMost old new → IsObserved old h i → IsObserved new h i
observed_untaken old new h i same starts observed = observed_unmoved old new h i (record nothing { started = starts.started }) (record {
  taken = same.taken;
  given = same.rest.given;
  spec = same.rest.spec;
  confirmed = same.rest.confirmed;
  ended = same.ended;
  left = same.rest.left;
}) (quiet starts.started) starts.counts observed

-- what was given may be more than the record has
pub observed_but_given : (old new : Observation) (h : Record) (i : ℕ) → OnlyGives old new → StartsAtMost old new → IsObserved old h i → IsObservedButGiven new h i
observed_but_given old new h i only starts observed = observed_unmoved (record old { given = None }) (record new { given = None }) h i (record nothing { started = starts.started }) (record {
  taken = only.taken;
  given = refl;
  spec = only.spec;
  confirmed = only.confirmed;
  ended = only.ended;
  left = left_on old new only.left;
}) (quiet starts.started) (record {
  faults = starts.counts.faults;
  refusals = starts.counts.refusals;
  idles = starts.counts.idles;
  starts = starts.counts.starts;
  finishes = starts.counts.finishes;
  confirms = starts.counts.confirms;
  exact = starts.counts.exact;
}) (record {
  taken = observed.taken;
  given = tt;
  spec = observed.spec;
  confirmed = observed.confirmed;
  ended = observed.ended;
  over = observed.over;
  faults = observed.faults;
  refusals = observed.refusals;
  idles = observed.idles;
  finishes = observed.finishes;
  confirms = observed.confirms;
})

-- or nothing of it was given
pub observed_ungiven : (old new : Observation) (h : Record) (i : ℕ) → OnlyGives old new → StartsAtMost old new → Grows old.given new.given [] → IsObserved old h i → IsObserved new h i
observed_ungiven old new h i only starts none observed = observed_unmoved old new h i (record nothing { started = starts.started }) (record {
  taken = only.taken;
  given = ungrown old.given new.given none;
  spec = only.spec;
  confirmed = only.confirmed;
  ended = only.ended;
  left = left_on old new only.left;
}) (quiet starts.started) starts.counts observed
  where
    ungrown : (o n : Option (List ℕ)) → Grows o n [] → n ≡ o
    ungrown None n e = e
    ungrown (Some xs) n e = e ∙ ap Some (append-nil xs)

-- AN INSTANCE WITHOUT A PORT
-- what the record has of its port is nothing, whatever the instance does
unported : {X : Type 0} (none x : X) (device : Bool) → device ≡ false → (if device then x else none) ≡ none
unported none x true is = cc
unported none x false is = refl

-- so an entry of it that gives no byte, ends no stream and tells of no fault, refusal, idle take or confirm leaves what is told
record IsApart (i : ℕ) (e : Entry) : Type 0 where
  given : given_in i e ≡ []
  confirmed : confirmed_in i e ≡ []
  ended : ended_by i e ≡ []
  faults : faults_in i e ≡ 0
  refusals : refusals_in i e ≡ 0
  idles : idles_in i e ≡ 0
  confirms : confirms_in i e ≡ 0

same_count : (exact : Bool) (n m observed : ℕ) → m ≡ 0 → HasCounted exact n observed → HasCounted exact (n + m) observed
same_count exact n m observed none was = let same : n + m ≡ n = omega (arith, none) in subst (λ (k : ℕ). HasCounted exact k observed) (sym same) was

observed_apart : (observed : Observation) (e : Entry) (h : Record) (i : ℕ) → wiring (e ∷ h) i ≡ wiring h i → device_at h i ≡ false → IsApart i e → IsObserved observed h i → IsObserved observed (e ∷ h) i
observed_apart observed e h i wired alone apart is = record {
  taken = λ stream. subst (λ (w : List ℕ). IfSome (observed.taken stream) (λ bytes. bytes ≡ w))
      (unported [] (taken_of h i stream) (device_at h i) alone ∙ sym (unported [] (taken_of (e ∷ h) i stream) (device_at (e ∷ h) i) still)) (is.taken stream);
  given = grown observed.given observed.given (given_in i e) (given h i) (same_grows_by observed.given (given_in i e) apart.given) is.given;
  spec = subst (λ (o : Option Wiring). Fits (spec_by o) observed.spec) (sym wired) is.spec;
  confirmed = grown observed.confirmed observed.confirmed (confirmed_in i e) (confirmed h i) (same_grows_by observed.confirmed (confirmed_in i e) apart.confirmed) is.confirmed;
  ended = is.ended ∙ sym (append-nil (ended_streams h i)) ∙ ap (λ (xs : List ℕ). ended_streams h i ++ xs) (sym apart.ended);
  over = λ device over. cc;
  faults = same_count observed.exact (fault_count h i) (faults_in i e) observed.faults apart.faults is.faults;
  refusals = same_count observed.exact (refusal_count h i) (refusals_in i e) observed.refusals apart.refusals is.refusals;
  idles = same_count observed.exact (idle_count h i) (idles_in i e) observed.idles apart.idles is.idles;
  finishes = subst (λ (n : ℕ). HasCounted observed.exact n observed.finishes)
      (unported 0 (finish_count h i) (device_at h i) alone ∙ sym (unported 0 (finish_count (e ∷ h) i) (device_at (e ∷ h) i) still)) is.finishes;
  confirms = same_count observed.exact (confirm_count h i) (confirms_in i e) observed.confirms apart.confirms is.confirms;
}
  where
    still : device_at (e ∷ h) i ≡ false
    still = device_is (e ∷ h) h i (wired_runs (e ∷ h) h i wired) ∙ alone

    same_grows_by : {X : Type 0} (o : Option (List X)) (more : List X) → more ≡ [] → Grows o o more
    same_grows_by o more none = subst (λ (m : List _). Grows o o m) (sym none) (same_grows o o refl)

read_apart : (i stream : ℕ) (took : Taken) → ended_by i (entry.Read i stream took) ≡ [] → IsApart i (entry.Read i stream took)
read_apart i stream took none = record { given = refl; confirmed = refl; ended = none; faults = refl; refusals = refl; idles = refl; confirms = refl }

-- lines that were made, and the end behind them, are no news of a port
pub made_observed : (observed : Observation) (h : Record) (i : ℕ) (turned : Turned) → device_at h i ≡ false → IsMade turned → IsObserved observed h i → IsObserved observed (turn_entry h i turned ∷ h) i
made_observed observed h i (turned.Lines stream n room cut) alone made is = observed_apart observed (entry.Read i stream _) h i refl alone (read_apart i stream _ refl) is
made_observed observed h i (turned.AllEnded stream cut) alone made is = observed_apart observed (entry.Read i stream taken.AllEnded) h i refl alone (read_apart i stream taken.AllEnded refl) is
made_observed observed h i (turned.StreamEnded stream cut) alone made is = absurd made
made_observed observed h i turned.Idle alone made is = absurd made
made_observed observed h i (turned.Failed at_start) alone made is = absurd made

-- nor is an attempt of which nothing is written
pub blackhole_ok_observed : (observed : Observation) (h : Record) (i : ℕ) (copies : List ℕ) → device_at h i ≡ false → IsObserved observed h i → IsObserved observed (entry.Attempt i copies [] reply.Ok ∷ h) i
blackhole_ok_observed observed h i copies alone is = observed_apart observed (entry.Attempt i copies [] reply.Ok) h i refl alone (record {
  given = ap (λ (t : Bool). if t then [] else []) (same_test i);
  confirmed = refl;
  ended = refl;
  faults = by_test i false;
  refusals = by_test i false;
  idles = refl;
  confirms = refl;
}) is
