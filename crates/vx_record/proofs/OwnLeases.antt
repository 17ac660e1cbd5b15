-- What an instance did since its last Lease is its task's own, and others leave the record that stood there at the Lease.
use Rattle.std.proofs.Common.{◌≡◌, ◌∙◌, ℕ, Bool, true, false, [], ◌∷◌, refl, ap}
use Rattle.std.specs.Prelude.{◌==◌, ◌||◌, if◌then◌else◌}
use Rattle.std.specs.List.{list_any}
use Rattle.vx_record.specs.declared.entry.Entry.{Entry}
use Rattle.vx_record.specs.declared.entry.Entry.TheVariants.{Lease, Read, Idle, SourceLost, Attempt, Confirm}
use Rattle.vx_record.specs.Records.{Record}
use Rattle.vx_record.specs.Turns.{at_lease, since_lease, is_turn_of, is_attempt_of, is_confirm_of}
use Rattle.vx_record.specs.Tasks.{is_of, mine, IsOwn}
use Rattle.vx_record.specs.Makers.{Spares}
use Rattle.vx_record.specs.TaskLaws.{LeaseStays}
use Rattle.vx_record.proofs.Mine.{EachActs, IsIdle, owned}
use Rattle.vx_record.proofs.Adding.{carry}

-- whether an entry of a kind that others don't make came since the Lease
pub since_own : (test : ℕ → Entry → Bool) → IsIdle false test → IsOwn (λ h i. list_any (test i) (since_lease h i))
since_own test none = owned each
  where
    go : (b : Bool) (e : Entry) (h : Record) (i : ℕ) → list_any (test i) (since_lease h i) ≡ list_any (test i) (since_lease (mine h i) i) →
        list_any (test i) (if b then [] else e ∷ since_lease h i) ≡ list_any (test i) (if b then [] else e ∷ since_lease (mine h i) i)
    go true e h i same = refl
    go false e h i same = ap (λ (b : Bool). test i e || b) same

    each : EachActs (λ h i. list_any (test i) (since_lease h i))
    each (Lease j worker now polls) i = record {
      apart = λ off h. rw (off, none (Lease j worker now polls) i off) refl;
      alike = λ h. go (j == i) (Lease j worker now polls) h i;
    }
    each e i = record { apart = λ off h. rw (none e i off) refl; alike = λ h same. go false e h i same }

no_turn : IsIdle false is_turn_of
no_turn (Read j stream took) i is = is
no_turn (Idle j failed) i is = is
no_turn (SourceLost j after failed) i is = is
no_turn e i is = refl

pub turned_own : IsOwn (λ h i. list_any (is_turn_of i) (since_lease h i))
turned_own = since_own is_turn_of no_turn

no_attempt : IsIdle false is_attempt_of
no_attempt (Attempt j copies bytes reply) i is = is
no_attempt e i is = refl

pub tried_own : IsOwn (λ h i. list_any (is_attempt_of i) (since_lease h i))
tried_own = since_own is_attempt_of no_attempt

no_confirm : IsIdle false is_confirm_of
no_confirm (Confirm j positions made) i is = is
no_confirm e i is = refl

pub confirmed_own : IsOwn (λ h i. list_any (is_confirm_of i) (since_lease h i))
confirmed_own = since_own is_confirm_of no_confirm

pub lease_apart : (h : Record) (e : Entry) (i : ℕ) → is_of i e ≡ false → at_lease (e ∷ h) i ≡ at_lease h i
lease_apart h (Lease j worker now polls) i is = rw is refl
lease_apart h e i is = refl

pub lease_stays : LeaseStays
lease_stays old new i adds = carry (Spares i) (λ h. at_lease h i ≡ at_lease old i) (λ h e follows spares same. lease_apart h e i spares ∙ same) old new adds refl
