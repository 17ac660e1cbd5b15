-- The moment from which on a source may be read is set by entries of its task alone.
use Rattle.std.proofs.Common.{◌≡◌, ◌∙◌, ℕ, false, ◌∷◌, refl}
use Rattle.vx_record.specs.declared.entry.Entry.{Entry}
use Rattle.vx_record.specs.declared.entry.Entry.TheVariants.{Read, Idle}
use Rattle.vx_record.specs.Records.{Record}
use Rattle.vx_record.specs.Ready.{reading_moment}
use Rattle.vx_record.specs.Tasks.{is_of}
use Rattle.vx_record.specs.Makers.{Spares}
use Rattle.vx_record.specs.TaskLaws.{ReadingStays}
use Rattle.vx_record.proofs.Adding.{carry}

pub reading_apart : (h : Record) (e : Entry) (i : ℕ) → is_of i e ≡ false → reading_moment (e ∷ h) i ≡ reading_moment h i
reading_apart h (Read j stream took) i is = rw is refl
reading_apart h (Idle j failed) i is = rw is refl
reading_apart h e i is = refl

-- so what spares the task leaves it
pub reading_spared : ReadingStays
reading_spared old new i adds =
    carry (Spares i) (λ h. reading_moment h i ≡ reading_moment old i) (λ h e follows spares was. reading_apart h e i spares ∙ was) old new adds refl
