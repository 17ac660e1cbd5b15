use Rattle.std.proofs.Common.{◌≡◌, Option, length}
use Rattle.vx_ends.specs.Silent.{observed_if}
use Rattle.vx_cli.specs.declared.fault.Fault.{Fault}
use Rattle.vx_run.specs.Answers.{IsAnswer}
use Rattle.vx_run.specs.Calling.{HasCalled}
use Rattle.vx_run.specs.Running.{AllReturned, HasInstalled, IsCounted, IsReadOut, IsTrueTo, NoneMissing}
use Rattle.vx_run.specs.Reporting.{IsSaid}
use Rattle.vx_run.proofs.Summing.{after_print, answer_printed, but_printed, shown_all}
use Rattle.vx_run.proofs.There.{there_of}
use Rattle.vx_run.proofs.top.vector.Goals as goal

pub returns-clause-observed : goal.returns-clause-observed
returns-clause-observed g c =
    let o = c.perform_and_report-fault.result in
    let before = c.perform_and_report-fault.new.out in
    let after = c.sum_up-fault.new.out in
    after_print (λ (f : Option Fault). IsTrueTo (observed_if g.W.Port.Port.observed) o.history o.ports f) (after ≡ before) (g.P.Printer.printed before) (g.P.Printer.printed after) (g.P.Printer.faults before) (g.P.Printer.faults after)
    o.summary o.fault c.sum_up-fault.result (λ text asked holds. record { whole = but_printed _ holds.whole; rest = holds.rest }) c.sum_up-fault.ensures c.perform_and_report-fault.ensures.observed

pub returns-clause-returned : goal.returns-clause-returned
returns-clause-returned g c =
    let o = c.perform_and_report-fault.result in
    let before = c.perform_and_report-fault.new.out in
    let after = c.sum_up-fault.new.out in
    after_print (λ (f : Option Fault). AllReturned o.history f) (after ≡ before) (g.P.Printer.printed before) (g.P.Printer.printed after) (g.P.Printer.faults before) (g.P.Printer.faults after)
    o.summary o.fault c.sum_up-fault.result (λ text asked. but_printed _) c.sum_up-fault.ensures c.perform_and_report-fault.ensures.returned

pub returns-clause-installed : goal.returns-clause-installed
returns-clause-installed g c =
    let o = c.perform_and_report-fault.result in
    let before = c.perform_and_report-fault.new.out in
    let after = c.sum_up-fault.new.out in
    after_print (λ (f : Option Fault). HasInstalled c.args.words.now c.args.environment.now (g.W.World.texts c.args.world) o.history f) (after ≡ before) (g.P.Printer.printed before) (g.P.Printer.printed after) (g.P.Printer.faults before) (g.P.Printer.faults after)
    o.summary o.fault c.sum_up-fault.result (λ text asked holds. holds) c.sum_up-fault.ensures c.perform_and_report-fault.ensures.installed

pub returns-clause-read : goal.returns-clause-read
returns-clause-read g c =
    let o = c.perform_and_report-fault.result in
    let before = c.perform_and_report-fault.new.out in
    let after = c.sum_up-fault.new.out in
    after_print (λ (f : Option Fault). IsReadOut o.history f) (after ≡ before) (g.P.Printer.printed before) (g.P.Printer.printed after) (g.P.Printer.faults before) (g.P.Printer.faults after)
    o.summary o.fault c.sum_up-fault.result (λ text asked holds. holds) c.sum_up-fault.ensures c.perform_and_report-fault.ensures.read

pub returns-clause-counted : goal.returns-clause-counted
returns-clause-counted g c =
    let o = c.perform_and_report-fault.result in
    let before = c.perform_and_report-fault.new.out in
    let after = c.sum_up-fault.new.out in
    after_print (λ (f : Option Fault). IsCounted o.history (length o.ports) o.tallies f) (after ≡ before) (g.P.Printer.printed before) (g.P.Printer.printed after) (g.P.Printer.faults before) (g.P.Printer.faults after)
    o.summary o.fault c.sum_up-fault.result (λ text asked holds. holds) c.sum_up-fault.ensures c.perform_and_report-fault.ensures.counted

pub returns-clause-none_missing : goal.returns-clause-none_missing
returns-clause-none_missing g c =
    let o = c.perform_and_report-fault.result in
    let before = c.perform_and_report-fault.new.out in
    let after = c.sum_up-fault.new.out in
    after_print (λ (f : Option Fault). NoneMissing c.args.words.now c.args.environment.now (g.W.World.texts c.args.world) o.history o.ports f) (after ≡ before) (g.P.Printer.printed before) (g.P.Printer.printed after) (g.P.Printer.faults before) (g.P.Printer.faults after)
    o.summary o.fault c.sum_up-fault.result (λ text asked holds. holds) c.sum_up-fault.ensures c.perform_and_report-fault.ensures.none_missing

pub returns-clause-called : goal.returns-clause-called
returns-clause-called g c =
    let o = c.perform_and_report-fault.result in
    let before = c.perform_and_report-fault.new.out in
    let after = c.sum_up-fault.new.out in
    after_print (λ (f : Option Fault). HasCalled c.args.words.now c.args.environment.now (g.W.World.texts c.args.world) (g.W.World.calls c.args.world) (g.W.World.calls c.perform_and_report-fault.new.world) o.history f) (after ≡ before) (g.P.Printer.printed before) (g.P.Printer.printed after) (g.P.Printer.faults before) (g.P.Printer.faults after)
    o.summary o.fault c.sum_up-fault.result (λ text asked holds. holds) c.sum_up-fault.ensures c.perform_and_report-fault.ensures.called

pub returns-clause-answer : goal.returns-clause-answer
returns-clause-answer g c =
    let o = c.perform_and_report-fault.result in
    let before = c.perform_and_report-fault.new.out in
    let after = c.sum_up-fault.new.out in
    after_print (λ (f : Option Fault). IsAnswer c.args.words.now c.args.environment.now (g.H.NamedHosts.names c.args.hosts) (g.W.World.texts c.args.world) (g.W.World.faults c.args.world) (g.W.World.faults c.perform_and_report-fault.new.world) o.history f) (after ≡ before) (g.P.Printer.printed before) (g.P.Printer.printed after) (g.P.Printer.faults before) (g.P.Printer.faults after)
    o.summary o.fault c.sum_up-fault.result (λ text asked holds. answer_printed c.args.words.now c.args.environment.now (g.H.NamedHosts.names c.args.hosts) (g.W.World.texts c.args.world) (g.W.World.faults c.args.world) (g.W.World.faults c.perform_and_report-fault.new.world) o.history o.fault o.summary text asked c.perform_and_report-fault.ensures.summary holds) c.sum_up-fault.ensures c.perform_and_report-fault.ensures.answer

pub returns-clause-said : goal.returns-clause-said
returns-clause-said g c =
    let o = c.perform_and_report-fault.result in
    let before = c.perform_and_report-fault.new.out in
    let after = c.sum_up-fault.new.out in
    after_print (λ (f : Option Fault). (λ (f : Option Fault). IsSaid (c.perform_and_report-fault.new.err ≡ c.args.err.now) (g.L.Printer.printed c.args.err.now) (g.L.Printer.printed c.perform_and_report-fault.new.err) (g.L.Printer.faults c.args.err.now) (g.L.Printer.faults c.perform_and_report-fault.new.err) f) f) (after ≡ before) (g.P.Printer.printed before) (g.P.Printer.printed after) (g.P.Printer.faults before) (g.P.Printer.faults after)
    o.summary o.fault c.sum_up-fault.result (λ text asked holds. holds) c.sum_up-fault.ensures c.perform_and_report-fault.ensures.said

pub returns-clause-shown : goal.returns-clause-shown
returns-clause-shown g c =
    let o = c.perform_and_report-fault.result in
    shown_all g.P.Printer.printed g.P.Printer.faults c.args.words.now c.args.environment.now (g.W.World.texts c.args.world) o.history c.args.out.now c.perform_and_report-fault.new.out c.sum_up-fault.new.out o.summary o.fault c.sum_up-fault.result
    c.perform_and_report-fault.ensures.shown c.perform_and_report-fault.ensures.installed c.perform_and_report-fault.ensures.summary c.sum_up-fault.ensures

pub returns-clause-there : goal.returns-clause-there
returns-clause-there g c = there_of g.W.Port.Port.observed c.perform_and_report-fault.result.history c.perform_and_report-fault.result.ports c.perform_and_report-fault.ensures.observed.rest
