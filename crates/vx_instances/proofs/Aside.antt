-- The laws of the states.
use Rattle.std.proofs.Common.{◌≡◌, ◌∙◌, ◌↔◌, inl, inr, ℕ, ◌+◌, Bool, true, false, List, [], ◌∷◌, refl, sym, ap, arith}
use Rattle.std.specs.Prelude.{◌&&◌, if◌then◌else◌, is_some}
use Rattle.std.specs.List.{list_all}
use Rattle.std.proofs.lemmas.Bool.{cases_Bool, cases_eq}
use Rattle.std.proofs.lemmas.Option.{IfSome_then}
use Rattle.vx_ends.specs.Observation.{Observation}
use Rattle.vx_status.specs.declared.outcome.Outcome.TheVariants.{Abandoned}
use Rattle.vx_record.specs.declared.entry.Entry.{Entry}
use Rattle.vx_record.specs.declared.entry.Entry.TheVariants.{Split, Push, Tick, Spent, Abandon}
use Rattle.vx_record.specs.Records.{Record}
use Rattle.vx_record.specs.Legal.{IsLegal}
use Rattle.vx_record.specs.Turns.{is_out}
use Rattle.vx_record.specs.Installs.{device_at}
use Rattle.vx_record.specs.Confirms.{Birth, births, is_noticed}
use Rattle.vx_counts.specs.Meets.{LeavesBe}
use Rattle.vx_instances.specs.declared.state.InstanceState.{InstanceState}
use Rattle.vx_instances.specs.Knowing.{HasFacts, HasUnleasedTask, IsKnown, count_unnoticed}
use Rattle.vx_instances.specs.Laws.{AsideKnown, GivenUpKnown, NoticedAll, ConfirmDue}
use Rattle.vx_instances.proofs.Observing.{InstallsNothing, IsMute}
use Rattle.vx_instances.proofs.Owing.{OwesNoMore}
use Rattle.vx_instances.proofs.Progressing.{Stands, due_is, undue_unported}
use Rattle.vx_instances.proofs.Holding.{HasSince, HasTried, IsCalm, IsQuiet, since_calm, tried_quiet, unheld_unfirst}
use Rattle.vx_instances.proofs.Knowing.{counts_on, device_fits, knows_aside, still_known}
use Rattle.vx_instances.proofs.Steps.{leaves_own, spent_known}

-- births without a notice
none_unnoticed : (h : Record) (bs : List Birth) → (count_unnoticed h bs ≡ 0) ↔ (list_all (λ (birth : Birth). is_noticed h birth.batch) bs ≡ true)
none_unnoticed h [] = (λ zero. refl, λ all. refl)
none_unnoticed h (birth ∷ rest) = go (is_noticed h birth.batch) (none_unnoticed h rest)
  where
    go : (t : Bool) → (count_unnoticed h rest ≡ 0) ↔ (list_all (λ (x : Birth). is_noticed h x.batch) rest ≡ true) →
        ((if t then 0 else 1) + count_unnoticed h rest ≡ 0) ↔ ((t && list_all (λ (x : Birth). is_noticed h x.batch) rest) ≡ true)
    go true later = (λ none. later.0 (omega arith), λ all. let none = later.1 all in omega arith)
    go false later = (λ none. absurd (omega arith), λ all. cc)

module _ {P : Type 0} (observe : P → Observation) where
  -- an entry of which a state has nothing leaves what is known of it
  calm_known : (state : InstanceState P) (h : Record) (e : Entry) (i : ℕ) → InstallsNothing e → IsMute e → OwesNoMore e → Stands h i e → LeavesBe h i e →
      is_out (e ∷ h) i ≡ is_out h i → IsQuiet e → IsCalm e →
      (HasSince (e ∷ h) i state.facts.since → HasTried (e ∷ h) i state.facts.failures state.facts.failed_at → HasFacts state.facts (e ∷ h) i) → IsLegal (e ∷ h) → IsKnown observe state h i → IsKnown observe state (e ∷ h) i
  calm_known state h e i none mute less stands leaves out quiet calm facts legal k =
      still_known h e i none mute less stands out
      (facts (since_calm state.facts.since h e i calm k.facts.since) (tried_quiet state.facts.failures state.facts.failed_at h e i quiet k.facts.tried)) (counts_on h e i legal leaves k.counts)
      (IfSome_then state.task k.unleased (λ task unleased. unleased.shut)) k

  pub aside_known : AsideKnown observe
  aside_known (Split i ports copies event children) h states aside legal =
      knows_aside (Split i ports copies event children) tt (λ j state k. calm_known state h (Split i ports copies event children) j tt tt tt tt tt refl tt tt (λ since tried. assumption k.facts) legal k)
  aside_known (Push i t s copies) h states aside legal =
      knows_aside (Push i t s copies) tt (λ j state k. calm_known state h (Push i t s copies) j tt tt tt tt tt refl tt tt (λ since tried. assumption k.facts) legal k)
  aside_known (Tick i now) h states aside legal = knows_aside (Tick i now) tt (λ j state k. calm_known state h (Tick i now) j tt tt tt tt tt refl tt tt (λ since tried. assumption k.facts) legal k)
  aside_known (Abandon cause) h states aside legal = knows_aside (Abandon cause) tt (λ j state k. calm_known state h (Abandon cause) j tt tt tt tt tt refl tt tt (λ since tried. assumption k.facts) legal k)
  aside_known e h states aside legal = absurd aside

  pub given_up_known : GivenUpKnown observe
  given_up_known h i c states unheld legal = knows_aside (Spent i c Abandoned) tt (λ j state k.
      let leaves : LeavesBe h j (Spent i c Abandoned) = elim (cases_eq i j) [
        | inl same ↦ unheld_unfirst h j c legal.1 legal.0.row.live.2 (rw same at unheld)
        | inr other ↦ leaves_own h i c Abandoned refl legal j (λ same. other (sym same))
      ] in
      spent_known state h i j c Abandoned legal (counts_on h (Spent i c Abandoned) j legal leaves k.counts) k)

  pub noticed_all : NoticedAll observe
  noticed_all h i states state at knows =
      let k : IsKnown observe state h i = rw at at (knows.each i) in
      let both = none_unnoticed h (births h i) in
      (λ zero. both.0 (sym k.progress.unnoticed ∙ zero), λ all. k.progress.unnoticed ∙ both.1 all)

  pub confirm_due : ConfirmDue observe
  confirm_due h i states state task at unleased owing going legal knows =
      let k : IsKnown observe state h i = rw at at (knows.each i) in
      let here : HasUnleasedTask observe state.facts h i task = rw unleased at k.unleased in
      let same : state.device ≡ device_at h i = sym (device_fits state h i k.fitted) in
      elim (cases_Bool (device_at h i)) [
        | inl on ↦ ap (λ b. b && is_some state.progress.prefix.due) (same ∙ on) ∙ due_is h i legal (here.answered on owing going) state.progress on k.progress
        | inr off ↦ ap (λ b. b && is_some state.progress.prefix.due) (same ∙ off) ∙ sym (undue_unported h i off)
      ]
