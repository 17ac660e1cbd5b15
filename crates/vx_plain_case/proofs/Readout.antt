-- A source of one stream reads the events of the lines of its bytes, and of the open one once the stream ended.
use Rattle.std.proofs.Common.{◌≡◌, ℕ, ◌<◌, Bool, true, false, [], ◌∷◌, ◌++◌, refl, sym, ap, ◌∙◌, arith, inl, inr, Some}
use Rattle.std.specs.Prelude.{◌⊎◌, ◌≢◌, ◌==◌, ◌&&◌, ◌||◌, if◌then◌else◌}
use Rattle.std.proofs.lemmas.Bool.{eqb-true, eq-eqb}
use Rattle.std.proofs.lemmas.List.{append-nil}
use Rattle.vx_value.specs.Texts.{ByteString}
use Rattle.vx_plan.specs.declared.plan.Plan.{Plan}
use Rattle.vx_plan.specs.declared.settings.Settings.{Settings}
use Rattle.vx_plan.specs.Components.{longest_line}
use Rattle.vx_record.specs.declared.taken.Taken.{Taken}
use Rattle.vx_record.specs.declared.taken.Taken.TheVariants.{Bytes}
use Rattle.vx_record.specs.declared.entry.Entry.TheVariants.{Read}
use Rattle.vx_record.specs.Records.{Record}
use Rattle.vx_record.specs.Copies.{count}
use Rattle.vx_record.specs.Installs.{in_force}
use Rattle.vx_record.specs.Reads.{taken, all_ended, stream_of, open_bytes, still_open, lines_past, events_of_lines, events_of, ended_by, ended_streams}
use Rattle.vx_record.specs.Legal.{IsLegal}
use Rattle.vx_record.proofs.Counts.{count-append}
use Rattle.vx_plain_case.proofs.Plans.{Reads}
use Rattle.vx_plain_case.proofs.Births.{read_events}
use Rattle.vx_plain_case.proofs.Streams.{OneStream, one_before, own_taken, none_new, others_shut}
use Rattle.vx_plain_case.proofs.Lines.{lines_of, no_lines, adds, events_by, unended_yet}

-- before an end of the stream: its bytes are open, and their full lines are read
pub record IsOpen (settings : Settings) (h : Record) (i stream : ℕ) : Type 0 where
  pub unended : all_ended h i ≡ false
  pub bytes : open_bytes h i stream ≡ taken h i stream
  pub events : read_events h i ≡ lines_of settings (taken h i stream) false

-- behind it nothing is open, and all lines are read
pub record IsShut (settings : Settings) (h : Record) (i stream : ℕ) : Type 0 where
  pub over : (0 < count stream (ended_streams h i)) ⊎ (all_ended h i ≡ true)
  pub bytes : open_bytes h i stream ≡ []
  pub events : read_events h i ≡ lines_of settings (taken h i stream) true

-- one of the two
abbrev pub IsReadSo : Settings → Record → ℕ → ℕ → Type 0
IsReadSo settings h i stream = IsOpen settings h i stream ⊎ IsShut settings h i stream

-- A READ OF THE SOURCE ITSELF
pub own_read : (h : Record) (i s : ℕ) (took : Taken) → read_events (Read i s took ∷ h) i ≡ read_events h i ++ events_of h i s took
own_read h i s took = ap (λ (b : Bool). read_events h i ++ (if b then events_of h i s took else [])) (eq-eqb i i refl)

-- what it leaves open of a stream
pub own_open : (h : Record) (i s t : ℕ) (took : Taken) →
    open_bytes (Read i s took ∷ h) i t ≡ (if stream_of h i s took == t then still_open took (open_bytes h i t) else open_bytes h i t)
own_open h i s t took = ap (λ (b : Bool). if b && (stream_of h i s took == t) then still_open took (open_bytes h i t) else open_bytes h i t) (eq-eqb i i refl)

-- its events, where this was open
pub own_events : (plan : Plan) (h : Record) (i s : ℕ) (took : Taken) (before : ByteString) (reads : Reads plan i) → IsLegal h → in_force h ≡ Some plan →
    open_bytes h i (stream_of h i s took) ≡ before →
    events_of h i s took ≡ events_of_lines reads.component.settings (lines_past (longest_line reads.component.settings) before took)
own_events plan h i s took before reads legal force is =
    events_by plan h i s took reads legal force
    ∙ ap (λ (w : ByteString). events_of_lines reads.component.settings (lines_past (longest_line reads.component.settings) w took)) is

-- the stream of a Read is this one, or it is another
pub this_stream : (h : Record) (i s stream : ℕ) (took : Taken) → (stream_of h i s took == stream) ≡ true → open_bytes h i (stream_of h i s took) ≡ open_bytes h i stream
this_stream h i s stream took same = ap (λ (n : ℕ). open_bytes h i n) (eqb-true (stream_of h i s took) stream same)

-- numbers that a test tells apart differ
pub apart_by : (s stream : ℕ) → (s == stream) ≡ false → s ≢ stream
apart_by s stream other = λ (same : s ≡ stream). let no : true ≡ false = sym (eq-eqb s stream same) ∙ other in cc

-- NOTHING NEW
-- a Read that adds no event and no byte, and leaves what is open and what ended, changes nothing
pub quiet_read : (settings : Settings) (h : Record) (i s stream : ℕ) (took : Taken) → events_of h i s took ≡ [] →
    taken (Read i s took ∷ h) i stream ≡ taken h i stream → open_bytes (Read i s took ∷ h) i stream ≡ open_bytes h i stream →
    all_ended (Read i s took ∷ h) i ≡ all_ended h i → (0 < count stream (ended_streams h i) → 0 < count stream (ended_streams (Read i s took ∷ h) i)) →
    IsReadSo settings h i stream → IsReadSo settings (Read i s took ∷ h) i stream
quiet_read settings h i s stream took none same opened ends more (inl was) = inl (record {
  unended = ends ∙ was.unended;
  bytes = opened ∙ was.bytes ∙ sym same;
  events =
      own_read h i s took ∙ ap (λ es. read_events h i ++ es) none ∙ append-nil (read_events h i) ∙ was.events
      ∙ ap (λ (w : ByteString). lines_of settings w false) (sym same);
})
quiet_read settings h i s stream took none same opened ends more (inr was) = inr (record {
  over = go was.over;
  bytes = opened ∙ was.bytes;
  events =
      own_read h i s took ∙ ap (λ es. read_events h i ++ es) none ∙ append-nil (read_events h i) ∙ was.events
      ∙ ap (λ (w : ByteString). lines_of settings w true) (sym same);
})
  where
    go : (0 < count stream (ended_streams h i)) ⊎ (all_ended h i ≡ true) →
        (0 < count stream (ended_streams (Read i s took ∷ h) i)) ⊎ (all_ended (Read i s took ∷ h) i ≡ true)
    go (inl some) = inl (more some)
    go (inr all) = inr (ends ∙ all)

-- what ended stays so
pub ended_on : (h : Record) (i s stream : ℕ) (took : Taken) → 0 < count stream (ended_streams h i) → 0 < count stream (ended_streams (Read i s took ∷ h) i)
ended_on h i s stream took some =
    let all = count-append stream (ended_streams h i) (ended_by i (Read i s took)) in omega (arith, some, all)

-- BYTES
pub on_bytes : (plan : Plan) (h : Record) (i s stream : ℕ) (bytes : ByteString) (reads : Reads plan i) → IsLegal (Read i s (Bytes bytes) ∷ h) → in_force h ≡ Some plan →
    OneStream (Read i s (Bytes bytes) ∷ h) i stream → IsReadSo reads.component.settings h i stream → IsReadSo reads.component.settings (Read i s (Bytes bytes) ∷ h) i stream
on_bytes plan h i s stream bytes reads legal force is was = go (s == stream) refl was
  where
    settings : Settings
    settings = reads.component.settings

    k : Record
    k = Read i s (Bytes bytes) ∷ h

    ends : all_ended k i ≡ all_ended h i
    ends = ap (λ (b : Bool). (b && false) || all_ended h i) (eq-eqb i i refl)

    -- bytes that are none change nothing
    quiet : bytes ≡ [] → open_bytes h i s ≡ [] → IsReadSo settings h i stream → IsReadSo settings k i stream
    quiet none shut before =
        quiet_read settings h i s stream (Bytes bytes)
        (own_events plan h i s (Bytes bytes) [] reads legal.1 force shut
        ∙ ap (λ (w : ByteString). events_of_lines settings (lines_past (longest_line settings) [] (Bytes w))) none ∙ no_lines settings)
        (own_taken h i s stream (Bytes bytes) ∙ ap (λ (w : ByteString). taken h i stream ++ (if s == stream then w else [])) none ∙ same_taken (s == stream))
        (own_open h i s stream (Bytes bytes) ∙ ap (λ (w : ByteString). if s == stream then open_bytes h i stream ++ w else open_bytes h i stream) none ∙ same_open (s == stream))
        ends (ended_on h i s stream (Bytes bytes)) before
      where
        same_taken : (b : Bool) → taken h i stream ++ (if b then [] else []) ≡ taken h i stream
        same_taken true = append-nil (taken h i stream)
        same_taken false = append-nil (taken h i stream)

        same_open : (b : Bool) → (if b then open_bytes h i stream ++ [] else open_bytes h i stream) ≡ open_bytes h i stream
        same_open true = append-nil (open_bytes h i stream)
        same_open false = refl

    turn : all_ended h i ≡ false
    turn = unended_yet plan h i reads legal.1 force legal.0.row.turn

    nothing : s ≡ stream → (0 < count stream (ended_streams h i)) ⊎ (all_ended h i ≡ true) → bytes ≡ []
    nothing same (inl some) = is.unbroken [] h bytes (ap (λ (n : ℕ). Read i n (Bytes bytes) ∷ h) (sym same)) some
    nothing same (inr all) = let no : true ≡ false = sym all ∙ turn in cc

    go : (b : Bool) → (s == stream) ≡ b → IsReadSo settings h i stream → IsReadSo settings k i stream
    go true same (inl before) = inl (record {
      unended = ends ∙ before.unended;
      bytes =
          own_open h i s stream (Bytes bytes) ∙ ap (λ (b : Bool). if b then open_bytes h i stream ++ bytes else open_bytes h i stream) same
          ∙ ap (λ (w : ByteString). w ++ bytes) before.bytes
          ∙ sym (own_taken h i s stream (Bytes bytes) ∙ ap (λ (b : Bool). taken h i stream ++ (if b then bytes else [])) same);
      events =
          own_read h i s (Bytes bytes)
          ∙ ap (λ es. es ++ events_of h i s (Bytes bytes)) before.events
          ∙ ap (λ es. lines_of settings (taken h i stream) false ++ es)
          (own_events plan h i s (Bytes bytes) (taken h i stream) reads legal.1 force (this_stream h i s stream (Bytes bytes) same ∙ before.bytes))
          ∙ adds settings (taken h i stream) (Bytes bytes)
          ∙ ap (λ (w : ByteString). lines_of settings w false)
          (sym (own_taken h i s stream (Bytes bytes) ∙ ap (λ (b : Bool). taken h i stream ++ (if b then bytes else [])) same));
    })
    go true same (inr before) =
        quiet (nothing (eqb-true s stream same) before.over) (this_stream h i s stream (Bytes bytes) same ∙ before.bytes) (inr before)
    go false other before =
        quiet (none_new h i s stream bytes is (apart_by s stream other)) (others_shut h i stream s (one_before h (Read i s (Bytes bytes)) i stream is) (apart_by s stream other)) before
