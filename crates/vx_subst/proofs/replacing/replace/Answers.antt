use Rattle.std.proofs.Common.{◌≡◌, ◌∙◌, ℕ, List, [], ◌++◌, sym, ap, arith, false, rules, ◌∷◌, refl, length, lit<, string_bytes}
use Rattle.std.proofs.lemmas.List.{length-append, length-drop}
use Rattle.std.proofs.lemmas.Result.{err_from_is_err_and}
use Rattle.std.proofs.lemmas.Str.Pattern.{split_parts}
use Rattle.vx_subst.specs.Pieces.{behind, form_of}
use Rattle.vx_subst.specs.Replaced.{lacks}
use Rattle.vx_subst.proofs.Steps.{text_step, lack_step, text_end, lack_end, place, reports_first}
use Rattle.vx_subst.specs.Unclosed.{IsUnclosed}
use Rattle.vx_subst.proofs.Unclosed.{unclosed_behind, unclosed_dropped}
use Rattle.vx_subst.proofs.replacing.replace.Goals as goal

pub returns-in_err-push_form-clause-missing : goal.returns-in_err-push_form-clause-missing
returns-in_err-push_form-clause-missing c =
    let text = c.args.text.now in
    let rest = c.loop-before.rest.now in
    let environment = c.args.environment.now in
    let parts = rw c.in-Some.is at (split_parts 36 rest c.split_once.result c.split_once.ensures.cases (lit< tt)) in
    let step = lack_step environment text rest c.in-Some.before.now c.in-Some.after.now _ parts.0 parts.1 c.loop-before.invariant.within refl in
    let observed = rw (c.as_slice.ensures, c.form_of.ensures.form) at c.in_err-push_form.ensures.missing in
    let p = err_from_is_err_and c.from_residual-in_err-push_form.result c.from_residual-in_err-push_form.ensures.1 in
    rw (p.1, p.2) (reports_first environment text _ _ _ _ (sym c.loop-before.invariant.lack ∙ step) observed)

-- what stands behind the next `$`
unclosed_after : (n : ℕ) (rest before after : List ℕ) → rest ≡ before ++ (36 ∷ after) → IsUnclosed n rest → IsUnclosed n after
unclosed_after n rest before after e none =
    unclosed_behind n (36 ∷ []) after (36 ∷ after) refl (unclosed_behind n before (36 ∷ after) rest e none)

pub form_of-requires : goal.form_of-requires
form_of-requires c =
    let rest = c.loop-before.rest.now in
    let parts = rw c.in-Some.is at (split_parts 36 rest c.split_once.result c.split_once.ensures.cases (lit< tt)) in
    unclosed_after c.unclosed_len-unclosed.result rest c.in-Some.before.now c.in-Some.after.now parts.0 c.loop-before.invariant.unclosed

pub loop-before-preserved : goal.loop-before-preserved
loop-before-preserved c =
    let text = c.args.text.now in
    let rest = c.loop-before.rest.now in
    let before = c.in-Some.before.now in
    let after = c.in-Some.after.now in
    let environment = c.args.environment.now in
    let parts = rw c.in-Some.is at (split_parts 36 rest c.split_once.result c.split_once.ensures.cases (lit< tt)) in
    let steps = text_step environment text rest before after (string_bytes c.loop-before.out) parts.0 parts.1 c.loop-before.invariant.within in
    let lack = lack_step environment text rest before after _ parts.0 parts.1 c.loop-before.invariant.within refl in
    let n = c.unclosed_len-unclosed.result in
    let form = c.form_of.ensures.form in
    let next = c.form_of.ensures.rest in
    let no : lacks environment (form_of after) ≡ false = cc (c.in_ok-push_form.ensures.whole, form, c.as_slice.ensures) in
    let on = rw no at lack in
    record {
      within = omega (arith, ap length next, length-drop (behind (form_of after)) after, ap length parts.0, length-append before (36 ∷ after));
      text = cc (steps, c.loop-before.invariant.text, c.in_ok-push_form.ensures.ok, c.in_ok-push.ensures.ok, form, next, c.as_slice.ensures);
      lack = rw next (sym on ∙ c.loop-before.invariant.lack);
      unclosed = rw next (unclosed_dropped n (behind (form_of after)) after (unclosed_after n rest before after parts.0 c.loop-before.invariant.unclosed));
      utf8 = search rules;
    }

pub returns-clause-replaced : goal.returns-clause-replaced
returns-clause-replaced c =
    let rest = c.loop-before.rest.now in
    let environment = c.args.environment.now in
    let none = rw c.in_default.is at (split_parts 36 rest c.split_once.result c.split_once.ensures.cases (lit< tt)) in
    let end = text_end environment (place c.args.text.now rest) rest none in
    cc (end, c.loop-before.invariant.text, c.in_ok-copy_of.ensures.copy, c.as_str.ensures.value, c.in_ok-push-2.ensures.ok)

pub returns-clause-whole : goal.returns-clause-whole
returns-clause-whole c =
    let rest = c.loop-before.rest.now in
    let environment = c.args.environment.now in
    let none = rw c.in_default.is at (split_parts 36 rest c.split_once.result c.split_once.ensures.cases (lit< tt)) in
    sym c.loop-before.invariant.lack ∙ lack_end environment (place c.args.text.now rest) rest none
