use Rattle.std.proofs.Common.{◌≡◌, Some, None, sym, ap, ◌∙◌}
use Rattle.std.proofs.lemmas.Result.{MatchResult-weaker}
use Rattle.vx_pick.specs.Samplers.{Sampler}
use Rattle.vx_pick.proofs.Sampling.{excluded_by, excluded_meant, none_excluded, none_meant}
use Rattle.vx_pick.proofs.sample.Sample.is_excluded.Goals as goal
use Rattle.vx_pick.proofs.sample.Sample.is_excluded.Goals.{in-Some, in-None}

pub returns-clause-says : goal.returns-clause-says
returns-clause-says c = elim c.match-self.branch [
  | in-Some w ↦
      let is : c.args.self.now.exclude ≡ Some w.in-Some.condition = ap (λ (s : Sampler). s.exclude) (sym c.self.view_is) ∙ w.in-Some.is in
      rw w.result-is (MatchResult-weaker w.holds.result w.holds.ensures.meaning
      (λ holds says tests mean. excluded_by c.args.self.now.exclude w.in-Some.condition c.args.event.now holds is says tests mean) (λ d no. tt))
  | in-None w ↦
      let is : c.args.self.now.exclude ≡ None = ap (λ (s : Sampler). s.exclude) (sym c.self.view_is) ∙ w.in-None.is in
      rw w.result-is (λ tests mean. none_excluded c.args.self.now.exclude c.args.event.now is tests)
]

pub returns-clause-meant : goal.returns-clause-meant
returns-clause-meant c = elim c.match-self.branch [
  | in-Some w ↦
      let is : c.args.self.now.exclude ≡ Some w.in-Some.condition = ap (λ (s : Sampler). s.exclude) (sym c.self.view_is) ∙ w.in-Some.is in
      rw w.result-is (MatchResult-weaker w.holds.result w.holds.ensures.meaning
      (λ holds says. excluded_meant c.args.self.now.exclude w.in-Some.condition c.args.event.now holds is says) (λ d no. tt))
  | in-None w ↦
      let is : c.args.self.now.exclude ≡ None = ap (λ (s : Sampler). s.exclude) (sym c.self.view_is) ∙ w.in-None.is in
      rw w.result-is (none_meant c.args.self.now.exclude is)
]
