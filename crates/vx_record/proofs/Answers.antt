-- What a transform was given is answered or not, and behind an Answer it holds what that discarded and kept.
use Rattle.std.proofs.Common.{◌≡◌, ℕ, ◌+◌, Bool, true, false, ◌&&◌, List, [], ◌∷◌, ◌++◌, sym, refl, ap, ◌∙◌, arith, inl, inr}
use Rattle.std.specs.Prelude.{if◌then◌else◌, ◌==◌}
use Rattle.std.proofs.lemmas.Bool.{cases_lt}
use Rattle.std.proofs.lemmas.List.{append_assoc}
use Rattle.vx_value.specs.Texts.{is_empty}
use Rattle.vx_record.specs.declared.entry.Entry.TheVariants.{Answer}
use Rattle.vx_record.specs.Copies.{count, joined}
use Rattle.vx_record.specs.Places.{put_out}
use Rattle.vx_record.specs.Places.Place.{Held}
use Rattle.vx_record.specs.Lists.{without, and_rest, shrunk, held}
use Rattle.vx_record.specs.Inputs.{given_by, flush, inputs, unanswered, at_answer, answered}
use Rattle.vx_record.specs.Laws.{InputsParted, AnswerHolds, FlushEmpties}
use Rattle.vx_record.proofs.Counts.{count-append, count-without, unless, unless-none, unless-some, unless-add, unless-zero}
use Rattle.vx_record.proofs.OnePlace.{conserved}
use Rattle.vx_record.proofs.Changes.{stands_once}
use Rattle.vx_record.proofs.Entries.{answer_shrinks}
use Rattle.vx_record.proofs.Attempted.{joined_and_rest}

pub inputs_parted : InputsParted
inputs_parted [] i = refl
inputs_parted (Answer j outputs discarded kept ∷ h) i = go (j == i) refl (inputs_parted h i)
  where
    go : (b : Bool) → (j == i) ≡ b → inputs h i ≡ unanswered h i ++ answered h i →
        ((if b && is_empty (unanswered h i) then flush ∷ [] else []) ++ []) ++ inputs h i
        ≡ (if b then [] else unanswered h i) ++ inputs (if b then Answer j outputs discarded kept ∷ h else at_answer h i) i
    go true e ih = ap (λ b. ((if b && is_empty (unanswered h i) then flush ∷ [] else []) ++ []) ++ inputs h i) (sym e)
    go false e ih = ih
inputs_parted (e ∷ h) i =
    ap (λ xs. given_by h i e ++ xs) (inputs_parted h i) ∙ sym (append_assoc (given_by h i e) (unanswered h i) (answered h i))

-- what stays of parcels without some copies
pub count-shrunk : (c : ℕ) (gone : List ℕ) (ps : List (List ℕ)) → count c (joined (shrunk gone ps)) ≡ unless (count c gone) (count c (joined ps))
count-shrunk c gone [] = sym (unless-zero (count c gone))
count-shrunk c gone (p ∷ ps) =
    let a = joined_and_rest c (without gone p) (shrunk gone ps) in
    let b = count-without c gone p in
    let d = count-shrunk c gone ps in
    let e = unless-add (count c gone) (count c p) (count c (joined ps)) in
    let f = ap (unless (count c gone)) (count-append c p (joined ps)) in
    omega arith

pub answer_holds : AnswerHolds
answer_holds h i outputs discarded kept legal c =
    let s = ap (λ ps. count c (joined ps)) (answer_shrinks h i outputs discarded kept (conserved (Answer i outputs discarded kept ∷ h) legal)) in
    let g = count-shrunk c (put_out outputs) (held h i) in
    let same = legal.0.row.same c in
    let once = stands_once h c (Held i) (conserved h legal.1) in
    elim (cases_lt 0 (count c (put_out outputs))) [
      | inl some ↦ let u = unless-some (count c (put_out outputs)) (count c (joined (held h i))) some in omega arith
      | inr none ↦ let u = unless-none (count c (put_out outputs)) (count c (joined (held h i))) (omega arith) in omega arith
    ]

pub flush_empties : FlushEmpties
flush_empties h i outputs discarded kept legal none c =
    let e = answer_holds h i outputs discarded kept legal c in
    let k = ap (count c) (legal.0.row.flush none).emptied in
    omega arith
