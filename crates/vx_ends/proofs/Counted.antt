-- What two calls count together.
use Rattle.std.proofs.Common.{◌≡◌, ◌∙◌, inl, inr, ℕ, ◌≤◌, Bool, true, false, refl, subst, arith}
use Rattle.std.specs.Prelude.{◌&&◌, ◌||◌}
use Rattle.vx_ends.specs.Observation.{Observation, Rose, Happened, Counts, CountsBy, raised}

-- what happened in one of two calls
abbrev pub either : Happened → Happened → Happened
either a b = record {
  failed = b.failed || a.failed;
  refused = b.refused || a.refused;
  idle = b.idle || a.idle;
  started = b.started || a.started;
  finished = b.finished || a.finished;
  confirmed = b.confirmed || a.confirmed;
}

pub rose_later : (x y z : ℕ) → x ≤ y → y ≤ z → Rose y z → Rose x z
rose_later x y z less most (inl more) = inl (omega (arith, less, more))
rose_later x y z less most (inr last) = grind arith

rose_before : (x y z : ℕ) → Rose x y → y ≤ z → Rose x z
rose_before x y z (inl more) less = inl (omega (arith, more, less))
rose_before x y z (inr last) less = inr last

-- a count that one of the two raised, at the most
pub counts_both : (e f : Bool) (x y z : ℕ) (a b : Bool) → f ≡ e → (b && a) ≡ false → Counts e x y a → Counts f y z b → Counts e x z (b || a)
counts_both e f x y z a true same once one two = record {
  later = let first = one.later in let second = two.later in omega (arith, first, second);
  rose = λ is. rose_later x y z one.later two.later (two.rose refl);
  exactly = λ on. subst (λ (n : ℕ). z ≡ raised n true) (subst (λ (t : Bool). y ≡ raised x t) once (one.exactly on)) (two.exactly (same ∙ on));
}
counts_both e f x y z a false same once one two = record {
  later = let first = one.later in let second = two.later in omega (arith, first, second);
  rose = λ is. rose_before x y z (one.rose is) two.later;
  exactly = λ on. two.exactly (same ∙ on) ∙ one.exactly on;
}

-- nothing happened in both
pub record Apart (a b : Happened) : Type 0 where
  pub failed : (b.failed && a.failed) ≡ false
  pub refused : (b.refused && a.refused) ≡ false
  pub idle : (b.idle && a.idle) ≡ false
  pub started : (b.started && a.started) ≡ false
  pub finished : (b.finished && a.finished) ≡ false
  pub confirmed : (b.confirmed && a.confirmed) ≡ false

pub all_both : (a b : Happened) (old mid new : Observation) → Apart a b → CountsBy a old mid → CountsBy b mid new → CountsBy (either a b) old new
all_both a b old mid new apart one two = record {
  faults = counts_both old.exact mid.exact old.faults mid.faults new.faults a.failed b.failed one.exact apart.failed one.faults two.faults;
  refusals = counts_both old.exact mid.exact old.refusals mid.refusals new.refusals a.refused b.refused one.exact apart.refused one.refusals two.refusals;
  idles = counts_both old.exact mid.exact old.idles mid.idles new.idles a.idle b.idle one.exact apart.idle one.idles two.idles;
  starts = counts_both old.exact mid.exact old.starts mid.starts new.starts a.started b.started one.exact apart.started one.starts two.starts;
  finishes = counts_both old.exact mid.exact old.finishes mid.finishes new.finishes a.finished b.finished one.exact apart.finished one.finishes two.finishes;
  confirms = counts_both old.exact mid.exact old.confirms mid.confirms new.confirms a.confirmed b.confirmed one.exact apart.confirmed one.confirms two.confirms;
  exact = two.exact ∙ one.exact;
}
