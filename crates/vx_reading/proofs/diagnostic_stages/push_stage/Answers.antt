use Rattle.std.proofs.Common.{◌≡◌, ◌++◌, List, Option, codes, ap, ◌∙◌}
use Rattle.std.proofs.lemmas.List.{append_assoc}
use Rattle.toml.specs.View.{view}
use Rattle.vx_reading.specs.declared.diagnostic.Diagnostic.{Diagnostic}
use Rattle.vx_reading.specs.declared.trouble.Trouble.{Trouble}
use Rattle.vx_reading.specs.Diagnostics.{at_option, misplaced, option_diagnostics}
use Rattle.vx_reading.specs.Judging.{Given, given, pairs_in}
use Rattle.vx_reading.specs.Options.{Row, Alone, stage_rows}
use Rattle.vx_reading.specs.Views.{owner_view, givens_view}
use Rattle.vx_reading.proofs.Trying.{on_ok}
use Rattle.vx_reading.proofs.diagnostic_stages.push_stage.Goals as goal

pub returns : goal.returns
returns c =
    let before = c.args.diagnostics.now in
    let owner = owner_view c.args.spot.owner in
    let lead = c.args.spot.lead.now in
    let stage = view c.args.stage.now in
    let all : givens_view c.as_slice.result.now ≡ given stage_rows (pairs_in stage) =
    ap givens_view c.as_slice.ensures.value ∙ c.in_ok-all.ensures ∙ ap (λ (rows : List Row). given rows (pairs_in stage)) c.stage_rows-rows.ensures in
    let options : c.push_options.new.diagnostics ≡ before ++ option_diagnostics owner lead stage_rows (given stage_rows (pairs_in stage)) =
    c.in_ok-push_options.ensures
    ∙ ap (λ (rows : List Row). before ++ option_diagnostics owner lead rows (givens_view c.as_slice.result.now)) c.stage_rows-rows.ensures
    ∙ ap (λ (gs : List Given). before ++ option_diagnostics owner lead stage_rows gs) all in
    on_ok c.push_if.result
    (λ is.
    is
    ∙ ap (λ (trouble : Option Trouble). c.push_options.new.diagnostics ++ at_option owner lead (Alone (codes "when_full")) trouble) c.misplaced-trouble.ensures
    ∙ ap (λ (ds : List Diagnostic). ds ++ at_option owner lead (Alone (codes "when_full")) (misplaced c.args.last stage)) options
    ∙ append_assoc before (option_diagnostics owner lead stage_rows (given stage_rows (pairs_in stage))) (at_option owner lead (Alone (codes "when_full")) (misplaced c.args.last stage)))
    c.push_if.ensures
