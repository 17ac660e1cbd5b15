-- What a transform discarded and is spent stays so.
use Rattle.std.proofs.Common.{◌≡◌, ℕ, ◌+◌, false, List, [], ◌∷◌, refl, sym, ap, ◌∙◌, arith}
use Rattle.std.specs.Prelude.{◌==◌}
use Rattle.std.proofs.lemmas.Bool.Decides.{nat_tests}
use Rattle.std.proofs.lemmas.Bool.{or_from, or_parts}
use Rattle.vx_record.specs.declared.entry.Entry.{Entry}
use Rattle.vx_record.specs.Records.{Record}
use Rattle.vx_record.specs.Copies.{count, all_of, spends, times_spent}
use Rattle.vx_record.specs.Tasks.{is_of}
use Rattle.vx_record.specs.Owing.{unspent_of, last_discarded, owes_discards}
use Rattle.vx_record.proofs.Counts.{count-append}
use Rattle.vx_record.proofs.Mine.{others}
use Rattle.vx_record.proofs.OwnAnswers.{discarded_own}

pub unspent_less : (h : Record) (e : Entry) (copies : List ℕ) → unspent_of h copies ≡ false → unspent_of (e ∷ h) copies ≡ false
unspent_less h e [] none = refl
unspent_less h e (c ∷ cs) none =
    let two = or_parts (times_spent h c == 0) (unspent_of h cs) none in
    let few : times_spent (e ∷ h) c ≡ times_spent h c + count c (spends e) = count-append c (all_of spends h) (spends e) in
    let some = two.0 in
    or_from (times_spent (e ∷ h) c == 0) (unspent_of (e ∷ h) cs) (grind (arith, nat_tests, some, few)) (unspent_less h e cs two.1)

-- behind an entry of another task too
pub discards_later : (h : Record) (e : Entry) (i : ℕ) → is_of i e ≡ false → owes_discards h i ≡ false → owes_discards (e ∷ h) i ≡ false
discards_later h e i spares none =
    ap (unspent_of (e ∷ h)) (discarded_own (e ∷ h) i ∙ ap (λ (m : Record). last_discarded m i) (others h e i spares) ∙ sym (discarded_own h i))
    ∙ unspent_less h e (last_discarded h i) none
