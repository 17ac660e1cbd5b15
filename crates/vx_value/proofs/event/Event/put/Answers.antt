use Rattle.std.proofs.Common.{◌≡◌, ◌∙◌, ap, refl, subst, arith, Err}
use Rattle.vx_value.specs.declared.put_fault.PutFault.TheVariants.{Blocked}
use Rattle.vx_value.specs.Values.{datum_of}
use Rattle.vx_value.specs.Events.{value_at, blocked_names, IsBlocked}
use Rattle.vx_value.proofs.Puts.{at-put, at-put-kept, blocked-reports, observed-blocked, observed-open}
use Rattle.vx_value.proofs.event.Event.put.Goals as goal

pub returns-then-blocked-ne0-clause-blocked : goal.returns-then-blocked-ne0-clause-blocked
returns-then-blocked-ne0-clause-blocked c n =
    let k : c.blocked-blocked.result ≡ blocked_names c.args.self.now.fields c.args.path.now = rw c.names-names.ensures.names at c.blocked-blocked.ensures.names in
    let here : IsBlocked c.args.self.now.fields c.args.path.now c.blocked-blocked.result = observed-blocked c.args.self.now.fields c.args.path.now c.blocked-blocked.result k c.if-blocked-ne0.true in (
      λ e. let same : c.blocked-blocked.result ≡ n = cc e in subst (λ m. IsBlocked c.args.self.now.fields c.args.path.now m) same here,
      λ b. ap (λ m. Err (Blocked m)) (k ∙ blocked-reports c.args.self.now.fields c.args.path.now n b),
    )

pub returns-then-blocked-ne0-clause-deep : goal.returns-then-blocked-ne0-clause-deep
returns-then-blocked-ne0-clause-deep c =
    let k : c.blocked-blocked.result ≡ blocked_names c.args.self.now.fields c.args.path.now = rw c.names-names.ensures.names at c.blocked-blocked.ensures.names in
    let here : IsBlocked c.args.self.now.fields c.args.path.now c.blocked-blocked.result = observed-blocked c.args.self.now.fields c.args.path.now c.blocked-blocked.result k c.if-blocked-ne0.true in
    (λ e. absurd (cc e), λ d. absurd (d.0 c.blocked-blocked.result here))

pub returns-then-not-fits_with-clause-blocked : goal.returns-then-not-fits_with-clause-blocked
returns-then-not-fits_with-clause-blocked c n =
    let k : 0 ≡ blocked_names c.args.self.now.fields c.args.path.now = rw (c.names-names.ensures.names, c.if-blocked-ne0.false) at c.blocked-blocked.ensures.names in
    (λ e. absurd (cc e), λ b. absurd (observed-open c.args.self.now.fields c.args.path.now k n b))

pub returns-then-not-fits_with-clause-deep : goal.returns-then-not-fits_with-clause-deep
returns-then-not-fits_with-clause-deep c =
    let k : 0 ≡ blocked_names c.args.self.now.fields c.args.path.now = rw (c.names-names.ensures.names, c.if-blocked-ne0.false) at c.blocked-blocked.ensures.names in
    let d = rw c.names-names.ensures.names at c.if-not-fits_with.ensures in
    (λ e. (observed-open c.args.self.now.fields c.args.path.now k, grind (arith, d)), λ d. refl)

pub returns-in-Ok-clause-there : goal.returns-in-Ok-clause-there
returns-in-Ok-clause-there c =
    ap (λ fs. value_at fs c.args.path.now) (rw c.names-names.ensures.names at c.in-Ok.ensures.ok) ∙ at-put c.args.self.now.fields c.args.path.now (datum_of c.args.value) c.names-names.ensures.some

pub returns-in-Ok-clause-kept : goal.returns-in-Ok-clause-kept
returns-in-Ok-clause-kept c q h =
    ap (λ fs. value_at fs q) (rw c.names-names.ensures.names at c.in-Ok.ensures.ok) ∙ at-put-kept c.args.self.now.fields c.args.path.now q (datum_of c.args.value) h

pub returns-in-Ok-clause-blocked : goal.returns-in-Ok-clause-blocked
returns-in-Ok-clause-blocked c n =
    let k : 0 ≡ blocked_names c.args.self.now.fields c.args.path.now = rw (c.names-names.ensures.names, c.if-blocked-ne0.false) at c.blocked-blocked.ensures.names in
    (λ e. absurd (cc e), λ b. absurd (observed-open c.args.self.now.fields c.args.path.now k n b))

pub returns-in-Err-clause-blocked : goal.returns-in-Err-clause-blocked
returns-in-Err-clause-blocked c n =
    let k : 0 ≡ blocked_names c.args.self.now.fields c.args.path.now = rw (c.names-names.ensures.names, c.if-blocked-ne0.false) at c.blocked-blocked.ensures.names in
    (λ e. absurd (cc e), λ b. absurd (observed-open c.args.self.now.fields c.args.path.now k n b))
