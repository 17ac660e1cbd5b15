-- How records are shown not to be legal.
use Rattle.std.proofs.Common.{◌≡◌, Bool, true, false, Some, sym, ap, ◌∙◌}
use Rattle.vx_record.specs.Records.{Record}
use Rattle.vx_record.specs.Legal.{IsLegal}
use Rattle.vx_record.specs.Sourcing.{Yield}
use Rattle.vx_record.proofs.OnePlace.{legal_before}
use Rattle.vx_record.proofs.Rules.{some_is}
use Rattle.vx_examples.specs.Refused.{NeverLegal}

pub never : (h : Record) → (IsLegal h → ⊥) → NeverLegal h
never h refusal later legal = refusal (legal_before later h legal)

-- two things of which a test says different things are not the same
pub different : {X : Type 0} {a b : X} (test : X → Bool) → test a ≡ true → test b ≡ false → a ≡ b → ⊥
different test here there same = let e = sym here ∙ ap test same ∙ there in cc

-- what is yielded has the same parts
pub same_parts : {a b : Yield} → Some a ≡ Some b → (a.events ≡ b.events) × (a.stream ≡ b.stream) × (a.end ≡ b.end)
same_parts {a = a} {b = b} e =
    let same = some_is a b e in (ap (λ (y : Yield). y.events) same, ap (λ (y : Yield). y.stream) same, ap (λ (y : Yield). y.end) same)
