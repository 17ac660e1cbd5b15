-- What is printed of what the instances counted.
use Rattle.std.proofs.Common.{◌≡◌, ◌∙◌, ◌⊎◌, inl, inr, ℕ, ◌+◌, append_assoc, Bool, true, false, List, [], ◌∷◌, ◌++◌, Option, Some, None, refl, sym, ap, subst, arith}
use Rattle.std.specs.Prelude.{◌&&◌, if◌then◌else◌, IsSomeAnd}
use Rattle.std.specs.List.{flat_map}
use Rattle.std.proofs.lemmas.List.{append-nil}
use Rattle.vx_value.specs.Texts.{ByteString}
use Rattle.vx_value.specs.declared.variable.Variable.{Variable}
use Rattle.vx_ends.specs.Observation.{Rose}
use Rattle.vx_ends.specs.declared.world.Config.{Config}
use Rattle.vx_plan.specs.declared.class.Class.{Class}
use Rattle.vx_plan.specs.declared.component.Component.{Component}
use Rattle.vx_record.specs.Copies.{counting}
use Rattle.vx_record.specs.Installs.{component_of, in_force}
use Rattle.vx_record.specs.Records.{Record}
use Rattle.vx_record.specs.Tallies.{tally}
use Rattle.vx_record.specs.declared.tally.Tally.{Tally}
use Rattle.vx_cli.specs.Commands.{IsCommand, IsRun, has_stats}
use Rattle.vx_cli.specs.Summaries.{summary_line}
use Rattle.vx_cli.specs.declared.command.Command.TheVariants.{Run, Validate}
use Rattle.vx_cli.specs.declared.fault.Fault.{Fault}
use Rattle.vx_cli.specs.declared.fault.Fault.TheVariants.{Usage, ConfigRead, ConfigRefused, UnknownHost, Numbers, SourceFailed, ConfirmFailed, PrintFailed, WantOfMemory}
use Rattle.vx_hub.specs.Reporting.{IsNameOf, IsClassOf}
use Rattle.vx_run.specs.Answers.{AsksRun, AsksStats, ButForMemory, CannotBegin, IsAnswer}
use Rattle.vx_run.specs.Showing.{IsFollowed, IsShown, IsShownFirst, IsSummary, HasPrinted, IsUnprintedValid, IsUnprinted, is_summed, is_unready, line_of, lines_of, summary_for, summary_of}
use Rattle.vx_hub.specs.declared.parts.Numbered.{Numbered}
use Rattle.vx_plan.specs.declared.plan.Plan.{Plan}
use Rattle.vx_run.specs.Running.{AllRead, AllReadOrLost, HasAll, HasAllAsked, HasInstalled, IsInstalled, IsOnlyJudged, IsReadOut, IsUnbegun, NoneMissing}
use Rattle.vx_run.specs.Reporting.{IsKept}
use Rattle.vx_run.proofs.Tallied.{counting_last}

-- ---- the lines

-- the line of an instance, by what is told of it
line_is : (h : Record) (i : ℕ) (class : Class) (name : ByteString) → IsClassOf h i class → IsNameOf h i name → line_of h i ≡ summary_line class name (tally h i)
line_is h i class name is_class is_name = go (component_of h i) refl is_class is_name
  where
    go : (o : Option Component) → component_of h i ≡ o → IsSomeAnd o (λ (c : Component). class ≡ c.class) → IsSomeAnd o (λ (c : Component). name ≡ c.name) →
        line_of h i ≡ summary_line class name (tally h i)
    go None at a b = absurd a
    go (Some c) at a b =
        let here : line_of h i ≡ summary_line c.class c.name (tally h i) = ap (λ (o : Option Component). elim o [ None ↦ [] | Some c ↦ summary_line c.class c.name (tally h i) ]) at in
        here ∙ ap (λ (k : Class). summary_line k c.name (tally h i)) (sym a) ∙ ap (λ (w : ByteString). summary_line class w (tally h i)) (sym b)

flat_map_last : (f : ℕ → ByteString) (xs : List ℕ) (x : ℕ) → flat_map f (xs ++ x ∷ []) ≡ flat_map f xs ++ f x
flat_map_last f [] x = append-nil (f x)
flat_map_last f (y ∷ ys) x = ap (λ w. f y ++ w) (flat_map_last f ys x) ∙ sym (append_assoc (f y) (flat_map f ys) (f x))

lines_more : (h : Record) (k : ℕ) → lines_of h (k + 1) ≡ lines_of h k ++ line_of h k
lines_more h k =
    ap (flat_map (line_of h)) (counting_last 0 k) ∙ flat_map_last (line_of h) (counting 0 k) (0 + k)
    ∙ ap (λ m. lines_of h k ++ line_of h m) (omega arith)

-- one more line
pub summed_more : (h : Record) (k : ℕ) (before after : ByteString) (class : Class) (name : ByteString) (t : Tally) → after ≡ before ++ summary_line class name t → before ≡ lines_of h k →
    t ≡ tally h k → IsClassOf h k class → IsNameOf h k name → after ≡ lines_of h (k + 1)
summed_more h k before after class name t is so counted is_class is_name =
    is ∙ ap (λ w. w ++ summary_line class name t) so ∙ ap (λ (one : Tally). lines_of h k ++ summary_line class name one) counted
    ∙ ap (λ w. lines_of h k ++ w) (sym (line_is h k class name is_class is_name)) ∙ sym (lines_more h k)

-- ---- by the words

summed_ready : (fault : Option Fault) → is_summed fault ≡ true → is_unready fault ≡ false
summed_ready None is = refl
summed_ready (Some Usage) is = cc
summed_ready (Some (ConfigRead path)) is = cc
summed_ready (Some (ConfigRefused f)) is = cc
summed_ready (Some (UnknownHost name)) is = cc
summed_ready (Some (Numbers next wanted)) is = refl
summed_ready (Some (SourceFailed name at)) is = refl
summed_ready (Some (ConfirmFailed name)) is = refl
summed_ready (Some PrintFailed) is = refl
summed_ready (Some WantOfMemory) is = cc

summary_by : (words : List ByteString) (file : ByteString) (h : Record) (fault : Option Fault) (summary : Option ByteString) (once stats wanted : Bool) → IsCommand words (Run file once stats) → is_summed fault ≡ wanted →
    summary ≡ (if stats && wanted then Some (summary_of h) else None) → IsSummary words h fault summary
summary_by words file h fault summary once true true asked is same = subst (IsSummary words h fault) (sym same) ((file, (asked.0, asked.1.1)), (refl, summed_ready fault is))
summary_by words file h fault summary once true false asked is same = subst (IsSummary words h fault) (sym same) (λ _. is)
summary_by words file h fault summary once false wanted asked is same =
    subst (IsSummary words h fault) (sym same) (λ other. let no : true ≡ false = sym other.1.1 ∙ asked.1.1 in cc)

-- what a run is to print, by its words
pub summary_run : (words : List ByteString) (file : ByteString) (once stats : Bool) (h : Record) (fault : Option Fault) (summary : Option ByteString) → IsCommand words (Run file once stats) → summary ≡ summary_for stats h fault →
    IsSummary words h fault summary
summary_run words file once stats h fault summary asked same = summary_by words file h fault summary once stats (is_summed fault) asked refl same

-- a judgement has nothing to print of counts
pub summary_judged : (words : List ByteString) (file : ByteString) (h : Record) (fault : Option Fault) (summary : Option ByteString) → IsCommand words (Validate file) → summary ≡ None → IsSummary words h fault summary
summary_judged words file h fault summary asked same = subst (IsSummary words h fault) (sym same) (λ stats. absurd (stats.1.0.unnamed asked.rest asked.named))

-- words that are no command have none
pub summary_usage : (words : List ByteString) (h : Record) (summary : Option ByteString) → summary ≡ None → IsSummary words h (Some Usage) summary
summary_usage words h summary same = subst (IsSummary words h (Some Usage)) (sym same) (λ _. refl)

pub summary_short : (words : List ByteString) (h : Record) (summary : Option ByteString) → summary ≡ None → IsSummary words h (Some WantOfMemory) summary
summary_short words h summary same = subst (IsSummary words h (Some WantOfMemory)) (sym same) (λ _. refl)

-- what is said of a fault is said of the one that is told in the end
of_short : (words : List ByteString) (h : Record) (fault : Option Fault) (summary : Option ByteString) → IsSummary words h fault summary → IsSummary words h (Some WantOfMemory) summary
of_short words h fault None is = λ _. refl
of_short words h fault (Some text) is = (is.0, (is.1.0, refl))

-- what holds of a fault holds of the one that is told in the end, if it holds where memory was wanting
pub keeps : (Holds : Option Fault → Type 0) (fault kept : Option Fault) → IsKept fault kept → (Holds fault → Holds (Some WantOfMemory)) → Holds fault → Holds kept
keeps Holds fault (Some WantOfMemory) some short holds = short holds
keeps Holds fault None same short holds = subst Holds same holds
keeps Holds fault (Some Usage) same short holds = subst Holds same holds
keeps Holds fault (Some (ConfigRead path)) same short holds = subst Holds same holds
keeps Holds fault (Some (ConfigRefused f)) same short holds = subst Holds same holds
keeps Holds fault (Some (UnknownHost name)) same short holds = subst Holds same holds
keeps Holds fault (Some (Numbers next wanted)) same short holds = subst Holds same holds
keeps Holds fault (Some (SourceFailed name at)) same short holds = subst Holds same holds
keeps Holds fault (Some (ConfirmFailed name)) same short holds = subst Holds same holds
keeps Holds fault (Some PrintFailed) same short holds = subst Holds same holds

pub summary_kept : (words : List ByteString) (h : Record) (fault kept : Option Fault) (summary : Option ByteString) → IsKept fault kept → IsSummary words h fault summary → IsSummary words h kept summary
summary_kept words h fault kept summary same is = keeps (λ (f : Option Fault). IsSummary words h f summary) fault kept same (of_short words h fault summary) is

-- how far the input was read
or_lost : (h : Record) → AllRead h → AllReadOrLost h
or_lost h all i source = inl (all i source)

pub read_short_of : (h : Record) (fault : Option Fault) → IsReadOut h fault → IsReadOut h (Some WantOfMemory)
read_short_of h None read = λ goes. or_lost h read
read_short_of h (Some Usage) read = read
read_short_of h (Some (ConfigRead path)) read = read
read_short_of h (Some (ConfigRefused f)) read = read
read_short_of h (Some (UnknownHost name)) read = read
read_short_of h (Some (Numbers next wanted)) read = read
read_short_of h (Some (SourceFailed name at)) read = λ goes. read
read_short_of h (Some (ConfirmFailed name)) read = λ goes. or_lost h read
read_short_of h (Some PrintFailed) read = λ goes. or_lost h read
read_short_of h (Some WantOfMemory) read = read

-- that no port is missing
module _ {P : Type 0} (words : List ByteString) (environment : List Variable) (texts : Option (List Config)) (h : Record) (ports : List (Numbered P)) where
  all_asked : IsInstalled words environment texts h → IsSomeAnd (in_force h) (HasAll ports) → HasAllAsked words environment texts ports
  all_asked is all = record { plan = is.plan; ready = is.ready; each = subst (λ (o : Option Plan). IsSomeAnd o (HasAll ports)) is.began.installed all }

  ended_short : IsInstalled words environment texts h ⊎ IsOnlyJudged words environment texts h → IsSomeAnd (in_force h) (HasAll ports) ⊎ (IsOnlyJudged words environment texts h × IsUnbegun h ports) →
      IsUnbegun h ports ⊎ HasAllAsked words environment texts ports
  ended_short (inl is) (inl all) = inr (all_asked is all)
  ended_short (inr judged) (inl all) = absurd (subst (λ (k : Record). IsSomeAnd (in_force k) (HasAll ports)) judged.unbegun all)
  ended_short installed (inr none) = inl none.1

  pub missing_short : (fault : Option Fault) → HasInstalled words environment texts h fault → NoneMissing words environment texts h ports fault → NoneMissing words environment texts h ports (Some WantOfMemory)
  missing_short None installed missing = ended_short installed missing
  missing_short (Some PrintFailed) installed missing = ended_short installed missing
  missing_short (Some Usage) installed missing = inl missing
  missing_short (Some (ConfigRead path)) installed missing = inl missing
  missing_short (Some (ConfigRefused f)) installed missing = inl missing
  missing_short (Some (UnknownHost name)) installed missing = inl missing
  missing_short (Some WantOfMemory) installed missing = missing
  missing_short (Some (Numbers next wanted)) installed missing = inr (all_asked installed missing)
  missing_short (Some (SourceFailed name at)) installed missing = inr (all_asked installed missing)
  missing_short (Some (ConfirmFailed name)) installed missing = inr (all_asked installed missing)

-- ---- where a run didn't begin

pub none_for : (stats : Bool) (h : Record) (fault : Option Fault) → is_summed fault ≡ false → None ≡ summary_for stats h fault
none_for false h fault none = refl
none_for true h fault none = ap (λ (wanted : Bool). if wanted then Some (summary_of h) else None) (sym none)

pub unready_unsummed : (environment : List Variable) (names : List ByteString) (texts : Option (List Config)) (file : ByteString) (before now : ℕ) (fault : Fault) → CannotBegin environment names texts file before now fault → is_summed (Some fault) ≡ false
unready_unsummed environment names texts file before now Usage unready = absurd unready
unready_unsummed environment names texts file before now (ConfigRead path) unready = refl
unready_unsummed environment names texts file before now (ConfigRefused f) unready = refl
unready_unsummed environment names texts file before now (UnknownHost name) unready = refl
unready_unsummed environment names texts file before now (Numbers next wanted) unready = absurd unready
unready_unsummed environment names texts file before now (SourceFailed name at) unready = absurd unready
unready_unsummed environment names texts file before now (ConfirmFailed name) unready = absurd unready
unready_unsummed environment names texts file before now PrintFailed unready = absurd unready
unready_unsummed environment names texts file before now WantOfMemory unready = refl

-- ---- behind a run

-- what holds where there was no fault holds where a print failed in its place
pub after_print : (Holds : Option Fault → Type 0) (same : Type 0) (old new : Option ByteString) (before now : ℕ) (summary : Option ByteString) (was fault : Option Fault) →
    ((text : ByteString) → summary ≡ Some text → Holds None → Holds (Some PrintFailed)) → IsFollowed same old new before now summary was fault → Holds was → Holds fault
after_print Holds same old new before now None was fault carry followed holds = subst Holds (sym followed.0) holds
after_print Holds same old new before now (Some text) None fault carry (inl observed) holds = subst Holds (sym observed.0) holds
after_print Holds same old new before now (Some text) None fault carry (inr unobserved) holds = subst Holds (sym unobserved.0) (carry text refl holds)
after_print Holds same old new before now (Some text) (Some WantOfMemory) fault carry followed holds = subst Holds (sym followed.0) holds
after_print Holds same old new before now (Some text) (Some Usage) fault carry followed holds = subst Holds (sym followed.0) holds
after_print Holds same old new before now (Some text) (Some (ConfigRead path)) fault carry followed holds = subst Holds (sym followed.0) holds
after_print Holds same old new before now (Some text) (Some (ConfigRefused f)) fault carry followed holds = subst Holds (sym followed.0) holds
after_print Holds same old new before now (Some text) (Some (UnknownHost name)) fault carry followed holds = subst Holds (sym followed.0) holds
after_print Holds same old new before now (Some text) (Some (Numbers next wanted)) fault carry followed holds = subst Holds (sym followed.0) holds
after_print Holds same old new before now (Some text) (Some (SourceFailed name at)) fault carry followed holds = subst Holds (sym followed.0) holds
after_print Holds same old new before now (Some text) (Some (ConfirmFailed name)) fault carry followed holds = subst Holds (sym followed.0) holds
after_print Holds same old new before now (Some text) (Some PrintFailed) fault carry followed holds = subst Holds (sym followed.0) holds

-- what is told but for want of memory
pub but_printed : (fact : Type 0) → ButForMemory fact None → ButForMemory fact (Some PrintFailed)
but_printed fact but = λ _. but (λ is. cc)

asks_stats : (words : List ByteString) (h : Record) (fault : Option Fault) (summary : Option ByteString) (text : ByteString) → summary ≡ Some text → IsSummary words h fault summary → AsksStats words
asks_stats words h fault (Some other) text same is = is.0
asks_stats words h fault None text same is = cc

-- the answer of such a run
pub answer_printed : (words : List ByteString) (environment : List Variable) (names : List ByteString) (texts : Option (List Config)) (was is : ℕ) (h : Record) (fault : Option Fault) (summary : Option ByteString) (text : ByteString) → summary ≡ Some text →
    IsSummary words h fault summary → IsAnswer words environment names texts was is h None → IsAnswer words environment names texts was is h (Some PrintFailed)
answer_printed words environment names texts was is h fault summary text same asked answer = inl (asks_stats words h fault summary text same asked, answer)

-- ---- what is shown

-- a run asks for its counts, or doesn't
asks_by : (words : List ByteString) (file : ByteString) (stats : Bool) → IsRun words file → has_stats words ≡ stats → AsksRun words ⊎ AsksStats words
asks_by words file false runs is = inl (file, (runs, is))
asks_by words file true runs is = inr (file, (runs, is))

asks : (words : List ByteString) (file : ByteString) → IsRun words file → AsksRun words ⊎ AsksStats words
asks words file runs = asks_by words file (has_stats words) runs refl

-- words that ask for counts ask for no judgement
unjudging : (words : List ByteString) (file : ByteString) → AsksStats words → IsCommand words (Validate file) → ⊥
unjudging words file stats asked = stats.1.0.unnamed asked.rest asked.named

no_less : true ≡ false → ⊥
no_less is = cc

module _ {X : Type 0} (printed : X → Option ByteString) (faults : X → ℕ) (words : List ByteString) (environment : List Variable) (texts : Option (List Config)) (h : Record) where
  abbrev First : X → X → Option Fault → Type 0
  First a b f = IsShownFirst words environment texts (b ≡ a) (printed a) (printed b) (faults a) (faults b) f

  abbrev All : X → X → Option Fault → Type 0
  All a b f = IsShown words environment texts h (b ≡ a) (printed a) (printed b) (faults a) (faults b) f

  -- a run of which nothing is printed
  quiet : (a b : X) (fault : Option Fault) → is_summed fault ≡ true → (AsksStats words → is_summed fault ≡ false) → (file : ByteString) → IsRun words file → b ≡ a → AsksRun words × (b ≡ a)
  quiet a b fault sums none file runs same = elim (asks words file runs) [
    | inl run ↦ (run, same)
    | inr stats ↦ absurd (no_less (sym sums ∙ none stats))
  ]

  unsummed : (a b : X) (fault : Option Fault) → First a b fault → HasInstalled words environment texts h fault → (AsksStats words → is_summed fault ≡ false) → All a b fault
  unsummed a b None (inl run) installed none = inl (quiet a b None refl none run.0.0 run.0.1 run.1)
  unsummed a b None (inr observed) installed none = inr (inr observed)
  unsummed a b (Some PrintFailed) first installed none = inr first
  unsummed a b (Some WantOfMemory) first installed none = first
  unsummed a b (Some Usage) first installed none = first
  unsummed a b (Some (ConfigRead path)) first installed none = first
  unsummed a b (Some (ConfigRefused f)) first installed none = first
  unsummed a b (Some (UnknownHost name)) first installed none = first
  unsummed a b (Some (Numbers next wanted)) first installed none = inl (quiet a b (Some (Numbers next wanted)) refl none installed.ready.file installed.ready.asked first)
  unsummed a b (Some (SourceFailed name at)) first installed none = inl (quiet a b (Some (SourceFailed name at)) refl none installed.ready.file installed.ready.asked first)
  unsummed a b (Some (ConfirmFailed name)) first installed none = inl (quiet a b (Some (ConfirmFailed name)) refl none installed.ready.file installed.ready.asked first)

  -- what was printed behind a run that printed nothing
  observed_behind : (a b c : X) (text : ByteString) → b ≡ a → text ≡ summary_of h → HasPrinted (printed b) (printed c) (faults b) (faults c) text → HasPrinted (printed a) (printed c) (faults a) (faults c) (summary_of h)
  observed_behind a b c text same is observed =
      subst (λ (x : X). HasPrinted (printed x) (printed c) (faults x) (faults c) (summary_of h)) same (subst (HasPrinted (printed b) (printed c) (faults b) (faults c)) is observed)

  unobserved_behind : (a b c : X) → b ≡ a → IsUnprinted (printed b) (printed c) (faults b) (faults c) → IsUnprinted (printed a) (printed c) (faults a) (faults c)
  unobserved_behind a b c same unobserved = subst (λ (x : X). IsUnprinted (printed x) (printed c) (faults x) (faults c)) same unobserved

  either_behind : (a b c : X) (text : ByteString) → b ≡ a → text ≡ summary_of h → HasPrinted (printed b) (printed c) (faults b) (faults c) text ⊎ IsUnprinted (printed b) (printed c) (faults b) (faults c) →
      HasPrinted (printed a) (printed c) (faults a) (faults c) (summary_of h) ⊎ IsUnprinted (printed a) (printed c) (faults a) (faults c)
  either_behind a b c text same is (inl observed) = inl (observed_behind a b c text same is observed)
  either_behind a b c text same is (inr unobserved) = inr (unobserved_behind a b c same unobserved)

  -- what is shown in the end
  pub shown_all : (a b c : X) (summary : Option ByteString) (was fault : Option Fault) → First a b was → HasInstalled words environment texts h was → IsSummary words h was summary →
      IsFollowed (c ≡ b) (printed b) (printed c) (faults b) (faults c) summary was fault → All a c fault
  shown_all a b c None was fault first installed none followed =
      subst (λ (f : Option Fault). All a c f) (sym followed.0) (subst (λ (x : X). All a x was) (sym followed.1) (unsummed a b was first installed none))
  shown_all a b c (Some text) None fault (inl run) installed sums (inl observed) =
      subst (λ (f : Option Fault). All a c f) (sym observed.0) (inr (inl (sums.0, observed_behind a b c text run.1 sums.1.0 observed.1)))
  shown_all a b c (Some text) None fault (inl run) installed sums (inr unobserved) =
      subst (λ (f : Option Fault). All a c f) (sym unobserved.0) (inl (sums.0, unobserved_behind a b c run.1 unobserved.1))
  shown_all a b c (Some text) None fault (inr valid) installed sums followed = absurd (unjudging words valid.valid.file sums.0 valid.valid.asked)
  shown_all a b c (Some text) (Some WantOfMemory) fault first installed sums followed =
      subst (λ (f : Option Fault). All a c f) (sym followed.0) (subst (λ (x : X). All a x (Some WantOfMemory)) (sym followed.1) first)
  shown_all a b c (Some text) (Some Usage) fault first installed sums followed = absurd (no_less sums.1.1)
  shown_all a b c (Some text) (Some (ConfigRead path)) fault first installed sums followed = absurd (no_less sums.1.1)
  shown_all a b c (Some text) (Some (ConfigRefused f)) fault first installed sums followed = absurd (no_less sums.1.1)
  shown_all a b c (Some text) (Some (UnknownHost name)) fault first installed sums followed = absurd (no_less sums.1.1)
  shown_all a b c (Some text) (Some PrintFailed) fault first installed sums followed = absurd (unjudging words first.valid.file sums.0 first.valid.asked)
  shown_all a b c (Some text) (Some (Numbers next wanted)) fault first installed sums followed =
      subst (λ (f : Option Fault). All a c f) (sym followed.0) (inr (sums.0, either_behind a b c text first sums.1.0 followed.1))
  shown_all a b c (Some text) (Some (SourceFailed name at)) fault first installed sums followed =
      subst (λ (f : Option Fault). All a c f) (sym followed.0) (inr (sums.0, either_behind a b c text first sums.1.0 followed.1))
  shown_all a b c (Some text) (Some (ConfirmFailed name)) fault first installed sums followed =
      subst (λ (f : Option Fault). All a c f) (sym followed.0) (inr (sums.0, either_behind a b c text first sums.1.0 followed.1))

-- a failed print is told where the printer's count of failed prints rose
pub blamed : (words : List ByteString) (environment : List Variable) (texts : Option (List Config)) (h : Record) (same : Type 0) (old new : Option ByteString) (was is : ℕ) (fault : Option Fault) →
    IsShown words environment texts h same old new was is fault → fault ≡ Some PrintFailed → Rose was is
blamed words environment texts h same old new was is fault shown printed = go (subst (IsShown words environment texts h same old new was is) printed shown)
  where
    go : (AsksStats words × IsUnprinted old new was is) ⊎ IsUnprintedValid words environment texts old new was is → Rose was is
    go (inl unobserved) = unobserved.1.1
    go (inr unobserved) = unobserved.rose
