use Rattle.std.proofs.Common.{◌≡◌, false, rules, Some, ◌∙◌, ap, sym}
use Rattle.toml.proofs.Views.{view-Table}
use Rattle.toml.specs.Parse.{parse_document}
use Rattle.toml.specs.View.{view, table_view}
use Rattle.toml.specs.declared.value.Value.TheVariants as value
use Rattle.vx_subst.specs.Replaced.{replaced}
use Rattle.vx_reading.specs.Answers.{plan_in}
use Rattle.vx_reading.proofs.Answering.{read_on}
use Rattle.vx_reading.proofs.reading.read_text.Goals as goal

pub returns-in-Ok-table_from_str-clause-read : goal.returns-in-Ok-table_from_str-clause-read
returns-in-Ok-table_from_str-clause-read c =
    let t = c.in-Ok-table_from_str.table in
    let parsed : parse_document (replaced c.args.environment.now c.args.text.now) ≡ Some (table_view t) =
    ap parse_document (sym (c.as_str.ensures ∙ c.in-Ok.ensures.replaced)) ∙ c.in-Ok-table_from_str.ensures.ok in
    let judged = c.read_root.ensures.judged in (
      judged.0,
      read_on judged.0 c.args.environment.now c.args.text.now (view (value.Table t)) (plan_in c.read_root.result)
          (record { whole = c.in-Ok.ensures.whole; members = table_view t; parsed = parsed; same = view-Table t }) judged.1,
    )

pub returns-in-Err-MissingVariable-clause-read : goal.returns-in-Err-MissingVariable-clause-read
returns-in-Err-MissingVariable-clause-read c = (λ text. false, search rules)

pub returns-in-Err-WantOfMemory-clause-read : goal.returns-in-Err-WantOfMemory-clause-read
returns-in-Err-WantOfMemory-clause-read c = (λ text. false, tt)

pub returns-clause-read : goal.returns-clause-read
returns-clause-read c = (λ text. false, search rules)
