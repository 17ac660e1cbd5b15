-- What the entries of one task say by themselves.
use Rattle.std.proofs.Common.{◌≡◌, ℕ, ◌+◌, Bool, true, false, List, [], ◌∷◌, ◌++◌, refl, sym, ap, ◌∙◌, arith}
use Rattle.std.specs.Prelude.{if◌then◌else◌}
use Rattle.std.proofs.lemmas.List.{append-nil}
use Rattle.vx_record.specs.declared.entry.Entry.{Entry}
use Rattle.vx_record.specs.Records.{Record}
use Rattle.vx_record.specs.Copies.{all_of, total}
use Rattle.vx_record.specs.Tasks.{is_of, mine, IsOwn}
use Rattle.vx_record.specs.TaskLaws.{OthersLeave}

pub others : OthersLeave
others h e i is = rw is refl

pub ours : (h : Record) (e : Entry) (i : ℕ) → is_of i e ≡ true → mine (e ∷ h) i ≡ e ∷ mine h i
ours h e i is = rw is refl

-- what an entry makes of what is said of an instance: nothing where it is of another task, and equals of equals
pub record Acts {X : Type 0} (f : Record → ℕ → X) (e : Entry) (i : ℕ) : Type 0 where
  pub apart : is_of i e ≡ false → (h : Record) → f (e ∷ h) i ≡ f h i
  pub alike : (h : Record) → f h i ≡ f (mine h i) i → f (e ∷ h) i ≡ f (e ∷ mine h i) i

-- each entry does
abbrev pub EachActs : {X : Type 0} → (Record → ℕ → X) → Type 0
EachActs f = (e : Entry) (i : ℕ) → Acts f e i

-- it leaves it, whose ever it is
pub passes : {X : Type 0} {f : Record → ℕ → X} {e : Entry} {i : ℕ} → ((h : Record) → f (e ∷ h) i ≡ f h i) → Acts f e i
passes {i = i} same = record { apart = λ off h. same h; alike = λ h before. same h ∙ before ∙ sym (same (mine h i)) }

-- or makes a step of it, which is none where it is of another task
pub acts : {X : Type 0} {f : Record → ℕ → X} {e : Entry} {i : ℕ} (step : Bool → X → X) → ((x : X) → step false x ≡ x) →
    ((h : Record) → f (e ∷ h) i ≡ step (is_of i e) (f h i)) → Acts f e i
acts {f = f} {e = e} {i = i} step idle is = record {
  apart = λ off h. is h ∙ ap (λ b. step b (f h i)) off ∙ idle (f h i);
  alike = λ h before. is h ∙ ap (step (is_of i e)) before ∙ sym (is (mine h i));
}

-- so it does where it sets it
pub sets : {X : Type 0} {f : Record → ℕ → X} {e : Entry} {i : ℕ} (x : X) → ((h : Record) → f (e ∷ h) i ≡ (if is_of i e then x else f h i)) → Acts f e i
sets x is = acts (λ own was. if own then x else was) (λ was. refl) is

-- or adds to it
pub raises : {f : Record → ℕ → ℕ} {e : Entry} {i : ℕ} (n : ℕ) → ((h : Record) → f (e ∷ h) i ≡ f h i + (if is_of i e then n else 0)) → Acts f e i
raises n is = acts (λ own was. was + (if own then n else 0)) (λ was. omega arith) is

-- so what is said is the task's own
pub owned : {X : Type 0} {f : Record → ℕ → X} → EachActs f → IsOwn f
owned each [] i = refl
owned {f = f} each (e ∷ h) i = go (is_of i e) refl (owned each h i)
  where
    go : (b : Bool) → is_of i e ≡ b → f h i ≡ f (mine h i) i → f (e ∷ h) i ≡ f (mine (e ∷ h) i) i
    go true is same = (each e i).alike h same ∙ ap (λ m. f m i) (sym (ours h e i is))
    go false is same = (each e i).apart is h ∙ same ∙ ap (λ m. f m i) (sym (others h e i is))

-- what entries say of an instance says nothing of those of other tasks
abbrev pub IsIdle : {X : Type 0} → X → (ℕ → Entry → X) → Type 0
IsIdle none f = (e : Entry) (i : ℕ) → is_of i e ≡ false → f i e ≡ none

-- so a list is its own to which entries of others add nothing
pub listed : {X : Type 0} {f : ℕ → Entry → List X} → IsIdle [] f → IsOwn (λ h i. all_of (f i) h)
listed {f = f} none = owned (λ e i. record {
  apart = λ off h. ap (λ xs. all_of (f i) h ++ xs) (none e i off) ∙ append-nil (all_of (f i) h);
  alike = λ h same. ap (λ xs. xs ++ f i e) same;
})

-- and so is a number
pub counted : {f : ℕ → Entry → ℕ} → IsIdle 0 f → IsOwn (λ h i. total (f i) h)
counted {f = f} none = owned (λ e i. record {
  apart = λ off h. let no = none e i off in omega arith;
  alike = λ h same. ap (λ n. n + f i e) same;
})
