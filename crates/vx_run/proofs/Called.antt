-- How calls of a world add up.
use Rattle.std.proofs.Common.{◌≡◌, ◌∙◌, ◌⊎◌, inl, inr, ℕ, zero, suc, ◌+◌, Bool, List, [], ◌∷◌, ◌++◌, take, Option, Some, None, append_assoc, refl, sym, ap, subst, arith}
use Rattle.std.specs.Prelude.{slice_get, Result, Ok, Err, OnErr}
use Rattle.std.proofs.lemmas.List.{append-nil}
use Rattle.vx_value.specs.Texts.{ByteString}
use Rattle.vx_value.specs.declared.variable.Variable.{Variable}
use Rattle.vx_ends.specs.Observation.{Grows}
use Rattle.vx_ends.specs.declared.call.Call.{Call}
use Rattle.vx_ends.specs.declared.call.Call.TheVariants.{Config}
use Rattle.vx_ends.specs.declared.world.Config.{Config as ConfigAt}
use Rattle.vx_plan.specs.declared.component.Component.{Component}
use Rattle.vx_plan.specs.declared.plan.Plan.{Plan}
use Rattle.vx_ends.specs.declared.port_spec.PortSpec.{PortSpec}
use Rattle.vx_record.specs.Records.{Record}
use Rattle.vx_cli.specs.declared.fault.Fault.{Fault}
use Rattle.vx_cli.specs.declared.fault.Fault.TheVariants.{Usage, ConfigRead, ConfigRefused, UnknownHost, Numbers, SourceFailed, ConfirmFailed, PrintFailed, WantOfMemory}
use Rattle.vx_cli.specs.Commands.{IsCommand, IsRun, has_once}
use Rattle.vx_cli.specs.declared.command.Command.TheVariants.{Validate}
use Rattle.vx_run.specs.Answers.{CannotBegin, IsJudged, IsPlanAt}
use Rattle.vx_run.specs.Calling.{HasAskedFirst, HasBegun, HasCalled, HasCalledFor, HasReadNamed, call_of, port_calls, run_calls}
use Rattle.vx_hub.specs.declared.parts.Numbered.{Numbered}
use Rattle.vx_run.specs.Running.{IsInForce, NoneMissing}
use Rattle.vx_run.specs.Showing.{IsJudgedSo}
use Rattle.vx_run.specs.Reporting.{IsKept}

module _ {X : Type 0} where
  pub grows_none : (old : Option (List X)) → Grows old old []
  grows_none None = refl
  grows_none (Some xs) = ap Some (sym (append-nil xs))

  pub grows_both : (old mid new : Option (List X)) (first later : List X) → Grows old mid first → Grows mid new later → Grows old new (first ++ later)
  grows_both None mid new first later one two = subst (λ (o : Option (List X)). Grows o new later) one two
  grows_both (Some xs) mid new first later one two = subst (λ (o : Option (List X)). Grows o new later) one two ∙ ap Some (append_assoc xs first later)

pub on_err : {X E : Type 0} (answer : Result X E) (fact : Type 0) → fact → OnErr answer fact
on_err (Ok x) fact is = tt
on_err (Err e) fact is = is

-- a beginning behind some calls
pub begun_behind : (old mid new : Option (List Call)) (first later : List Call) → Grows old mid first → HasBegun mid new later → HasBegun old new (first ++ later)
begun_behind old mid new first later grew begun = record {
  done = first ++ begun.done;
  rest = begun.rest;
  whole = append_assoc first begun.done begun.rest ∙ ap (λ (cs : List Call). first ++ cs) begun.whole;
  calls = grows_both old mid new first begun.done grew begun.calls;
}

-- one of more calls
pub begun_more : (old new : Option (List Call)) (some more : List Call) → HasBegun old new some → HasBegun old new (some ++ more)
begun_more old new some more begun = record {
  done = begun.done;
  rest = begun.rest ++ more;
  whole = sym (append_assoc begun.done begun.rest more) ∙ ap (λ (cs : List Call). cs ++ more) begun.whole;
  calls = begun.calls;
}

pub begun_all : (old new : Option (List Call)) (all : List Call) → Grows old new all → HasBegun old new all
begun_all old new all grew = record { done = all; rest = []; whole = append-nil all; calls = grew }

pub begun_none : (old new : Option (List Call)) (all : List Call) → new ≡ old → HasBegun old new all
begun_none old new all same = record { done = []; rest = all; whole = refl; calls = subst (λ (o : Option (List Call)). Grows old o []) (sym same) (grows_none old) }

-- the calls for the first components, and for one more
record PartedAt (needs : Component → Option PortSpec) (cs : List Component) (i : ℕ) (c : Component) : Type 0 where
  rest : List Call
  more : port_calls needs (take (suc i) cs) ≡ port_calls needs (take i cs) ++ call_of (needs c)
  all : port_calls needs cs ≡ (port_calls needs (take i cs) ++ call_of (needs c)) ++ rest

calls_parted : (needs : Component → Option PortSpec) (cs : List Component) (i : ℕ) (c : Component) → slice_get cs i ≡ Some c → PartedAt needs cs i c
calls_parted needs [] i c at = cc
calls_parted needs (d ∷ cs) zero c at =
    let same : d ≡ c = cc in
    record {
      rest = port_calls needs cs;
      more = append-nil (call_of (needs d)) ∙ ap (λ (x : Component). call_of (needs x)) same;
      all = ap (λ (x : Component). call_of (needs x) ++ port_calls needs cs) same;
    }
calls_parted needs (d ∷ cs) (suc i) c at =
    let further = calls_parted needs cs i c at in
    let own = call_of (needs d) in
    let front = port_calls needs (take i cs) in
    let one = call_of (needs c) in
    record {
      rest = further.rest;
      more = ap (λ (x : List Call). own ++ x) further.more ∙ sym (append_assoc own front one);
      all = ap (λ (x : List Call). own ++ x) further.all ∙ (ap (λ (x : List Call). own ++ x) (append_assoc front one further.rest) ∙ (sym (append_assoc own front (one ++ further.rest)) ∙ sym (append_assoc (own ++ front) one further.rest)));
    }

-- one more port was made
pub ports_more : (old mid new : Option (List Call)) (needs : Component → Option PortSpec) (cs : List Component) (i : ℕ) (c : Component) → slice_get cs i ≡ Some c → Grows old mid (port_calls needs (take i cs)) → Grows mid new (call_of (needs c)) → Grows old new (port_calls needs (take (i + 1) cs))
ports_more old mid new needs cs i c at before one =
    let next : suc i ≡ i + 1 = omega arith in
    subst (λ (n : ℕ). Grows old new (port_calls needs (take n cs))) next
    (subst (λ (calls : List Call). Grows old new calls) (sym (calls_parted needs cs i c at).more) (grows_both old mid new (port_calls needs (take i cs)) (call_of (needs c)) before one))

-- or none, or it was of no use
pub ports_cut : (old mid new : Option (List Call)) (needs : Component → Option PortSpec) (cs : List Component) (i : ℕ) (c : Component) → slice_get cs i ≡ Some c → Grows old mid (port_calls needs (take i cs)) → HasBegun mid new (call_of (needs c)) → HasBegun old new (port_calls needs cs)
ports_cut old mid new needs cs i c at before begun =
    let parts = calls_parted needs cs i c at in
    subst (λ (calls : List Call). HasBegun old new calls) (sym parts.all)
    (begun_more old new (port_calls needs (take i cs) ++ call_of (needs c)) parts.rest (begun_behind old mid new (port_calls needs (take i cs)) (call_of (needs c)) before begun))

-- what was asked for where nothing begins with a file, whatever it says
pub read_for : (environment : List Variable) (texts : Option (List ConfigAt)) (once : Bool) (file : ByteString) (old new : Option (List Call)) (fault : Fault) → Grows old new (Config file ∷ []) → HasCalledFor environment texts once file old new fault
read_for environment texts once file old new Usage grew = grew
read_for environment texts once file old new (ConfigRead path) grew = grew
read_for environment texts once file old new (ConfigRefused fault) grew = grew
read_for environment texts once file old new (UnknownHost name) grew = grew
read_for environment texts once file old new (Numbers next wanted) grew = grew
read_for environment texts once file old new (SourceFailed name at) grew = grew
read_for environment texts once file old new (ConfirmFailed name) grew = grew
read_for environment texts once file old new PrintFailed grew = grew
read_for environment texts once file old new WantOfMemory grew = inl grew

-- a run that began asked for all
pub called_all : (words : List ByteString) (environment : List Variable) (texts : Option (List ConfigAt)) (file : ByteString) (plan : Plan) (old new : Option (List Call)) (h : Record) (fault : Option Fault) →
    IsRun words file → IsPlanAt environment texts file plan → IsJudged h fault → IsInForce (has_once words) plan h fault → Grows old new (run_calls (has_once words) file plan) → HasCalled words environment texts old new h fault
called_all words environment texts file plan old new h None asked stands judged is grew = inl (record { file = file; asked = asked; plan = plan; installed = is.installed; calls = grew })
called_all words environment texts file plan old new h (Some WantOfMemory) asked stands judged (inl unbegun) grew =
    inr (inr (inl (record { unbegun = unbegun; file = file; asked = asked; begun = inr (plan, (stands, begun_all old new (run_calls (has_once words) file plan) grew)) })))
called_all words environment texts file plan old new h (Some WantOfMemory) asked stands judged (inr began) grew =
    inr (inr (inr (record { file = file; asked = asked; plan = plan; installed = began.installed; calls = grew })))
called_all words environment texts file plan old new h (Some Usage) asked stands judged is grew = absurd judged
called_all words environment texts file plan old new h (Some (ConfigRead path)) asked stands judged is grew = absurd judged
called_all words environment texts file plan old new h (Some (ConfigRefused fault)) asked stands judged is grew = absurd judged
called_all words environment texts file plan old new h (Some (UnknownHost name)) asked stands judged is grew = absurd judged
called_all words environment texts file plan old new h (Some (Numbers next wanted)) asked stands judged is grew = record { file = file; asked = asked; plan = plan; installed = is.installed; calls = grew }
called_all words environment texts file plan old new h (Some PrintFailed) asked stands judged is grew = absurd judged
called_all words environment texts file plan old new h (Some (SourceFailed name at)) asked stands judged is grew = record { file = file; asked = asked; plan = plan; installed = is.installed; calls = grew }
called_all words environment texts file plan old new h (Some (ConfirmFailed name)) asked stands judged is grew = record { file = file; asked = asked; plan = plan; installed = is.installed; calls = grew }

-- one that didn't begin asked for what there was to ask
pub called_unready : (words : List ByteString) (environment : List Variable) (names : List ByteString) (texts : Option (List ConfigAt)) (file : ByteString) (before now : ℕ) (old new : Option (List Call)) (h : Record) (fault : Fault) → h ≡ [] →
    IsRun words file → CannotBegin environment names texts file before now fault → HasCalledFor environment texts (has_once words) file old new fault → HasCalled words environment texts old new h (Some fault)
called_unready words environment names texts file before now old new h Usage unbegun asked unready called = absurd unready
called_unready words environment names texts file before now old new h (ConfigRead path) unbegun asked unready called = record { file = file; asked = inl asked; calls = called }
called_unready words environment names texts file before now old new h (ConfigRefused fault) unbegun asked unready called = record { file = file; asked = inl asked; calls = called }
called_unready words environment names texts file before now old new h (UnknownHost name) unbegun asked unready called = record { file = file; asked = inl asked; calls = called }
called_unready words environment names texts file before now old new h (Numbers next wanted) unbegun asked unready called = absurd unready
called_unready words environment names texts file before now old new h (SourceFailed name at) unbegun asked unready called = absurd unready
called_unready words environment names texts file before now old new h (ConfirmFailed name) unbegun asked unready called = absurd unready
called_unready words environment names texts file before now old new h PrintFailed unbegun asked unready called = absurd unready
called_unready words environment names texts file before now old new h WantOfMemory unbegun asked unready called = inr (inr (inl (record { unbegun = unbegun; file = file; asked = asked; begun = called })))

-- a judgement read its file, whatever it says
pub called_judged : (words : List ByteString) (environment : List Variable) (texts : Option (List ConfigAt)) (file : ByteString) (was is : ℕ) (same : Type 0) (shown_before shown_now : Option ByteString) (before now : ℕ)
    (old new : Option (List Call)) (h : Record) (fault : Option Fault) → h ≡ [] → IsCommand words (Validate file) → IsJudgedSo environment texts file was is same shown_before shown_now before now fault →
    Grows old new (Config file ∷ []) → HasCalled words environment texts old new h fault
called_judged words environment texts file was is same shown_before shown_now before now old new h None unbegun asked judged grew = inr (record { unbegun = unbegun; file = file; asked = asked; calls = grew })
called_judged words environment texts file was is same shown_before shown_now before now old new h (Some PrintFailed) unbegun asked judged grew = inr (record { unbegun = unbegun; file = file; asked = asked; calls = grew })
called_judged words environment texts file was is same shown_before shown_now before now old new h (Some (ConfigRead path)) unbegun asked judged grew = record { file = file; asked = inr asked; calls = grew }
called_judged words environment texts file was is same shown_before shown_now before now old new h (Some (ConfigRefused fault)) unbegun asked judged grew = record { file = file; asked = inr asked; calls = grew }
called_judged words environment texts file was is same shown_before shown_now before now old new h (Some (UnknownHost name)) unbegun asked judged grew = absurd judged.0
called_judged words environment texts file was is same shown_before shown_now before now old new h (Some WantOfMemory) unbegun asked judged grew = inr (inl (record { unbegun = unbegun; file = file; asked = asked; calls = grew }))
called_judged words environment texts file was is same shown_before shown_now before now old new h (Some Usage) unbegun asked judged grew = absurd judged.0
called_judged words environment texts file was is same shown_before shown_now before now old new h (Some (Numbers next wanted)) unbegun asked judged grew = absurd judged.0
called_judged words environment texts file was is same shown_before shown_now before now old new h (Some (SourceFailed name at)) unbegun asked judged grew = absurd judged.0
called_judged words environment texts file was is same shown_before shown_now before now old new h (Some (ConfirmFailed name)) unbegun asked judged grew = absurd judged.0

-- where want of memory takes the place of another fault, less is said
read_first : (words : List ByteString) (environment : List Variable) (texts : Option (List ConfigAt)) (old new : Option (List Call)) (h : Record) → h ≡ [] → HasReadNamed words old new → HasAskedFirst words environment texts old new h
read_first words environment texts old new h unbegun read = go read.asked
  where
    go : IsRun words read.file ⊎ IsCommand words (Validate read.file) → HasAskedFirst words environment texts old new h
    go (inl run) = inr (inr (inl (record { unbegun = unbegun; file = read.file; asked = run; begun = inl read.calls })))
    go (inr judge) = inr (inl (record { unbegun = unbegun; file = read.file; asked = judge; calls = read.calls }))

pub called_first : {P : Type 0} (words : List ByteString) (environment : List Variable) (texts : Option (List ConfigAt)) (old new : Option (List Call)) (h : Record) (ports : List (Numbered P)) (fault : Option Fault) →
    NoneMissing words environment texts h ports fault → HasCalled words environment texts old new h fault → HasAskedFirst words environment texts old new h
called_first words environment texts old new h ports None missing (inl all) = inr (inr (inr all))
called_first words environment texts old new h ports None missing (inr read) = inr (inl read)
called_first words environment texts old new h ports (Some Usage) missing called = inl (called, missing.0)
called_first words environment texts old new h ports (Some (ConfigRead path)) missing called = read_first words environment texts old new h missing.0 called
called_first words environment texts old new h ports (Some (ConfigRefused fault)) missing called = read_first words environment texts old new h missing.0 called
called_first words environment texts old new h ports (Some (UnknownHost name)) missing called = read_first words environment texts old new h missing.0 called
called_first words environment texts old new h ports (Some (Numbers next wanted)) missing called = inr (inr (inr called))
called_first words environment texts old new h ports (Some (SourceFailed name at)) missing called = inr (inr (inr called))
called_first words environment texts old new h ports (Some (ConfirmFailed name)) missing called = inr (inr (inr called))
called_first words environment texts old new h ports (Some PrintFailed) missing (inl all) = inr (inr (inr all))
called_first words environment texts old new h ports (Some PrintFailed) missing (inr read) = inr (inl read)
called_first words environment texts old new h ports (Some WantOfMemory) missing called = called

-- what is said of a fault is said of the one that is told in the end
pub called_kept : {P : Type 0} (words : List ByteString) (environment : List Variable) (texts : Option (List ConfigAt)) (old new : Option (List Call)) (h : Record) (ports : List (Numbered P)) (fault kept : Option Fault) →
    IsKept fault kept → NoneMissing words environment texts h ports fault → HasCalled words environment texts old new h fault → HasCalled words environment texts old new h kept
called_kept words environment texts old new h ports fault None same missing called = subst (λ (f : Option Fault). HasCalled words environment texts old new h f) same called
called_kept words environment texts old new h ports fault (Some WantOfMemory) some missing called = called_first words environment texts old new h ports fault missing called
called_kept words environment texts old new h ports fault (Some Usage) same missing called = subst (λ (f : Option Fault). HasCalled words environment texts old new h f) same called
called_kept words environment texts old new h ports fault (Some (ConfigRead path)) same missing called = subst (λ (f : Option Fault). HasCalled words environment texts old new h f) same called
called_kept words environment texts old new h ports fault (Some (ConfigRefused f)) same missing called = subst (λ (f : Option Fault). HasCalled words environment texts old new h f) same called
called_kept words environment texts old new h ports fault (Some (UnknownHost name)) same missing called = subst (λ (f : Option Fault). HasCalled words environment texts old new h f) same called
called_kept words environment texts old new h ports fault (Some (Numbers next wanted)) same missing called = subst (λ (f : Option Fault). HasCalled words environment texts old new h f) same called
called_kept words environment texts old new h ports fault (Some (SourceFailed name at)) same missing called = subst (λ (f : Option Fault). HasCalled words environment texts old new h f) same called
called_kept words environment texts old new h ports fault (Some (ConfirmFailed name)) same missing called = subst (λ (f : Option Fault). HasCalled words environment texts old new h f) same called
called_kept words environment texts old new h ports fault (Some PrintFailed) same missing called = subst (λ (f : Option Fault). HasCalled words environment texts old new h f) same called
