-- What the test of what is done says, part by part.
use Rattle.std.proofs.Common.{◌≡◌, ◌∙◌, ℕ, Bool, true, false, sym, ap, arith}
use Rattle.std.specs.Prelude.{◌&&◌, not, if◌then◌else◌}
use Rattle.vx_value.specs.Texts.{is_empty}
use Rattle.vx_record.specs.Records.{Record}
use Rattle.vx_record.specs.Installs.{source_at}
use Rattle.vx_record.specs.Lists.{buffered, held}
use Rattle.vx_record.specs.Routing.{is_dry, is_sent, is_ending}
use Rattle.vx_record.specs.Confirms.{is_confirm_due}
use Rattle.vx_record.specs.Owing.{owes, all_noticed, is_source_done, is_worker_done, is_done}

-- of a source
pub record SourceTests (h : Record) (i : ℕ) : Type 0 where
  pub dry : is_dry h i ≡ true
  pub settled : owes h i ≡ false
  pub sent : is_sent h i ≡ true
  pub noticed : all_noticed h i ≡ true
  pub undue : is_confirm_due h i ≡ false

five_parts : (d o s n u : Bool) → (d && not o && s && n && not u) ≡ true → (d ≡ true) × (o ≡ false) × (s ≡ true) × (n ≡ true) × (u ≡ false)
five_parts d o s n u all = grind arith

pub source_tests : (h : Record) (i : ℕ) → source_at h i ≡ true → is_done h i ≡ true → SourceTests h i
source_tests h i source done =
    let parts = five_parts (is_dry h i) (owes h i) (is_sent h i) (all_noticed h i) (is_confirm_due h i) all in
    record { dry = parts.0; settled = parts.1; sent = parts.2; noticed = parts.3; undue = parts.4 }
  where
    all : is_source_done h i ≡ true
    all = ap (λ (b : Bool). if b then is_source_done h i else is_worker_done h i) (sym source) ∙ done

-- and of a transform or a sink
pub record WorkerTests (h : Record) (i : ℕ) : Type 0 where
  pub ending : is_ending h i ≡ true
  pub drained : is_empty (buffered h i) ≡ true
  pub sent : is_sent h i ≡ true
  pub emptied : is_empty (held h i) ≡ true

four_parts : (a b c d : Bool) → (a && b && c && d) ≡ true → (a ≡ true) × (b ≡ true) × (c ≡ true) × (d ≡ true)
four_parts a b c d all = grind arith

pub worker_tests : (h : Record) (i : ℕ) → source_at h i ≡ false → is_done h i ≡ true → WorkerTests h i
worker_tests h i worker done =
    let parts = four_parts (is_ending h i) (is_empty (buffered h i)) (is_sent h i) (is_empty (held h i)) all in
    record { ending = parts.0; drained = parts.1; sent = parts.2; emptied = parts.3 }
  where
    all : is_worker_done h i ≡ true
    all = ap (λ (b : Bool). if b then is_source_done h i else is_worker_done h i) (sym worker) ∙ done
