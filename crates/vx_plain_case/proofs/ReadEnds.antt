-- Behind the end of all a source of one stream has read the events of all lines of its bytes.
use Rattle.std.proofs.Common.{◌≡◌, ℕ, ◌+◌, ◌<◌, Bool, true, false, List, [], ◌∷◌, ◌++◌, refl, sym, ap, subst, ◌∙◌, arith, inl, inr, Some}
use Rattle.std.specs.Prelude.{◌⊎◌, ◌==◌, ◌&&◌, ◌||◌, if◌then◌else◌, unwrap_or}
use Rattle.std.proofs.lemmas.Bool.{eqb-true, eq-eqb}
use Rattle.std.proofs.lemmas.List.{append-nil}
use Rattle.vx_value.specs.Texts.{ByteString}
use Rattle.vx_value.specs.declared.event.Event.{Event}
use Rattle.vx_frame.specs.Frames.{Frame, frames}
use Rattle.vx_plan.specs.declared.plan.Plan.{Plan}
use Rattle.vx_plan.specs.declared.settings.Settings.{Settings}
use Rattle.vx_plan.specs.Components.{longest_line}
use Rattle.vx_record.specs.declared.taken.Taken.{Taken}
use Rattle.vx_record.specs.declared.taken.Taken.TheVariants.{Bytes, StreamEnded, AllEnded}
use Rattle.vx_record.specs.declared.entry.Entry.{Entry}
use Rattle.vx_record.specs.declared.entry.Entry.TheVariants.{Install, Read, Abandon}
use Rattle.vx_record.specs.Records.{Record}
use Rattle.vx_record.specs.Copies.{count}
use Rattle.vx_record.specs.Installs.{in_force}
use Rattle.vx_record.specs.LineBytes.{lines_after}
use Rattle.vx_record.specs.Reads.{bytes_of, is_end, taken, all_ended, last_stream, stream_of, open_bytes, still_open, lines_past, events_of_lines, events_of, ended_by, ended_streams}
use Rattle.vx_record.specs.Legal.{IsLegal}
use Rattle.vx_record.proofs.Counts.{count-append}
use Rattle.vx_plain_case.proofs.Plans.{Run, Reads}
use Rattle.vx_plain_case.proofs.Births.{read_events}
use Rattle.vx_plain_case.proofs.Streams.{OneStream, one_before, own_taken, others_shut, none_of_one}
use Rattle.vx_plain_case.proofs.Lines.{lines_of, no_lines, adds}
use Rattle.vx_plain_case.proofs.Readout.{IsShut, IsReadSo, own_read, own_open, own_events, this_stream, apart_by, quiet_read, ended_on, on_bytes}

-- AN END
-- a Read that tells an end: it has no bytes, leaves nothing open, and completes the open line, if there is one
pub record IsEnd (took : Taken) : Type 0 where
  pub bytes : bytes_of took ≡ []
  pub shuts : (w : ByteString) → still_open took w ≡ []
  pub lines : (limit : ℕ) (w : ByteString) → lines_after limit w took ≡ frames w limit true
  pub none : (limit : ℕ) → lines_past limit [] took ≡ []

-- a stream's end is one
stream_end : IsEnd StreamEnded
stream_end = record { bytes = refl; shuts = λ w. refl; lines = λ limit w. refl; none = λ limit. refl }

-- and so is the end of all
end_of_all : IsEnd AllEnded
end_of_all = record { bytes = refl; shuts = λ w. refl; lines = λ limit w. refl; none = λ limit. refl }

-- it takes no bytes
same_taken : (h : Record) (i s stream : ℕ) (took : Taken) → IsEnd took → taken (Read i s took ∷ h) i stream ≡ taken h i stream
same_taken h i s stream took ends =
    own_taken h i s stream took ∙ ap (λ (w : ByteString). taken h i stream ++ (if s == stream then w else [])) ends.bytes ∙ go (s == stream)
  where
    go : (b : Bool) → taken h i stream ++ (if b then [] else []) ≡ taken h i stream
    go true = append-nil (taken h i stream)
    go false = append-nil (taken h i stream)

-- of a stream of which nothing is open it gives no event
no_event : (plan : Plan) (h : Record) (i s : ℕ) (took : Taken) (reads : Reads plan i) → IsLegal h → in_force h ≡ Some plan → IsEnd took →
    open_bytes h i (stream_of h i s took) ≡ [] → events_of h i s took ≡ []
no_event plan h i s took reads legal force ends shut =
    own_events plan h i s took [] reads legal force shut
    ∙ ap (λ (lines : List Frame). events_of_lines reads.component.settings lines) (ends.none (longest_line reads.component.settings))
    ∙ no_lines reads.component.settings

-- the events stay where it gives none
same_events : (settings : Settings) (h : Record) (i s stream : ℕ) (took : Taken) → IsEnd took → events_of h i s took ≡ [] →
    read_events h i ≡ lines_of settings (taken h i stream) true → read_events (Read i s took ∷ h) i ≡ lines_of settings (taken (Read i s took ∷ h) i stream) true
same_events settings h i s stream took ends none was =
    own_read h i s took ∙ ap (λ (es : List Event). read_events h i ++ es) none ∙ append-nil (read_events h i) ∙ was
    ∙ ap (λ (w : ByteString). lines_of settings w true) (sym (same_taken h i s stream took ends))

-- behind an end of this stream all lines are read
shut_by : (plan : Plan) (h : Record) (i s stream : ℕ) (took : Taken) (reads : Reads plan i) → IsLegal h → in_force h ≡ Some plan → IsEnd took →
    (stream_of h i s took == stream) ≡ true → (0 < count stream (ended_streams (Read i s took ∷ h) i)) ⊎ (all_ended (Read i s took ∷ h) i ≡ true) →
    IsReadSo reads.component.settings h i stream → IsShut reads.component.settings (Read i s took ∷ h) i stream
shut_by plan h i s stream took reads legal force ends same over was = record {
  over = over;
  bytes =
      own_open h i s stream took ∙ ap (λ (b : Bool). if b then still_open took (open_bytes h i stream) else open_bytes h i stream) same
      ∙ ends.shuts (open_bytes h i stream);
  events = go was;
}
  where
    settings : Settings
    settings = reads.component.settings

    go : IsReadSo settings h i stream → read_events (Read i s took ∷ h) i ≡ lines_of settings (taken (Read i s took ∷ h) i stream) true
    go (inl before) =
        own_read h i s took
        ∙ ap (λ (es : List Event). es ++ events_of h i s took) before.events
        ∙ ap (λ (es : List Event). lines_of settings (taken h i stream) false ++ es)
        (own_events plan h i s took (taken h i stream) reads legal force (this_stream h i s stream took same ∙ before.bytes))
        ∙ adds settings (taken h i stream) took
        ∙ ap (λ (lines : List Frame). events_of_lines settings lines) (ends.lines (longest_line settings) (taken h i stream))
        ∙ ap (λ (w : ByteString). lines_of settings w true) (sym (same_taken h i s stream took ends))
    go (inr before) =
        same_events settings h i s stream took ends
        (no_event plan h i s took reads legal force ends (this_stream h i s stream took same ∙ before.bytes)) before.events

-- ONE STREAM'S
on_stream_end : (plan : Plan) (h : Record) (i s stream : ℕ) (reads : Reads plan i) → IsLegal h → in_force h ≡ Some plan → OneStream h i stream →
    IsReadSo reads.component.settings h i stream → IsReadSo reads.component.settings (Read i s StreamEnded ∷ h) i stream
on_stream_end plan h i s stream reads legal force is was = go (s == stream) refl
  where
    k : Record
    k = Read i s StreamEnded ∷ h

    ended : s ≡ stream → 0 < count stream (ended_streams k i)
    ended same =
        let all = count-append stream (ended_streams h i) (ended_by i (Read i s StreamEnded)) in
        let own : 0 < count stream (ended_by i (Read i s StreamEnded)) =
        subst (λ (b : Bool). 0 < count stream (if b then s ∷ [] else [])) (sym (eq-eqb i i refl))
        (subst (λ (b : Bool). 0 < (if b then 1 else 0) + 0) (sym (eq-eqb s stream same)) (omega arith)) in
        omega (arith, all, own)

    go : (b : Bool) → (s == stream) ≡ b → IsReadSo reads.component.settings k i stream
    go true same = inr (shut_by plan h i s stream StreamEnded reads legal force stream_end same (inl (ended (eqb-true s stream same))) was)
    go false other =
        quiet_read reads.component.settings h i s stream StreamEnded
        (no_event plan h i s StreamEnded reads legal force stream_end (others_shut h i stream s is (apart_by s stream other)))
        (same_taken h i s stream StreamEnded stream_end)
        (own_open h i s stream StreamEnded ∙ ap (λ (b : Bool). if b then [] else open_bytes h i stream) other)
        (ap (λ (b : Bool). (b && false) || all_ended h i) (eq-eqb i i refl)) (ended_on h i s stream StreamEnded) was

-- OF ALL
on_end : (plan : Plan) (h : Record) (i s stream : ℕ) (reads : Reads plan i) → IsLegal h → in_force h ≡ Some plan → OneStream h i stream →
    IsReadSo reads.component.settings h i stream → IsReadSo reads.component.settings (Read i s AllEnded ∷ h) i stream
on_end plan h i s stream reads legal force is was = inr (go (unwrap_or (last_stream h i) 0 == stream) refl was)
  where
    settings : Settings
    settings = reads.component.settings

    k : Record
    k = Read i s AllEnded ∷ h

    over : all_ended k i ≡ true
    over = ap (λ (b : Bool). (b && true) || all_ended h i) (eq-eqb i i refl)

    stays : (unwrap_or (last_stream h i) 0 == stream) ≡ false → open_bytes k i stream ≡ open_bytes h i stream
    stays other = own_open h i s stream AllEnded ∙ ap (λ (b : Bool). if b then [] else open_bytes h i stream) other

    quiet : (unwrap_or (last_stream h i) 0 == stream) ≡ false → events_of h i s AllEnded ≡ []
    quiet other = no_event plan h i s AllEnded reads legal force end_of_all (others_shut h i stream (unwrap_or (last_stream h i) 0) is (apart_by _ stream other))

    go : (b : Bool) → (unwrap_or (last_stream h i) 0 == stream) ≡ b → IsReadSo settings h i stream → IsShut settings k i stream
    go true same before = shut_by plan h i s stream AllEnded reads legal force end_of_all same (inr over) before
    go false other (inl before) =
        let none : taken h i stream ≡ [] = none_of_one h i stream is (apart_by _ stream other) in
        record {
          over = inr over;
          bytes = stays other ∙ before.bytes ∙ none;
          events =
              same_events settings h i s stream AllEnded end_of_all (quiet other)
              (before.events ∙ ap (λ (w : ByteString). lines_of settings w false) none ∙ ap (λ (w : ByteString). lines_of settings w true) (sym none));
        }
    go false other (inr before) = record {
      over = inr over;
      bytes = stays other ∙ before.bytes;
      events = same_events settings h i s stream AllEnded end_of_all (quiet other) before.events;
    }

-- ALL ENTRIES
-- an entry that is nothing to the source
read_on : (settings : Settings) (h : Record) (e : Entry) (i stream : ℕ) → read_events (e ∷ h) i ≡ read_events h i → taken (e ∷ h) i stream ≡ taken h i stream →
    open_bytes (e ∷ h) i stream ≡ open_bytes h i stream → all_ended (e ∷ h) i ≡ all_ended h i → (0 < count stream (ended_streams h i) → 0 < count stream (ended_streams (e ∷ h) i)) →
    IsReadSo settings h i stream → IsReadSo settings (e ∷ h) i stream
read_on settings h e i stream read took opened ends more (inl was) = inl (record {
  unended = ends ∙ was.unended;
  bytes = opened ∙ was.bytes ∙ sym took;
  events = read ∙ was.events ∙ ap (λ (w : ByteString). lines_of settings w false) (sym took);
})
read_on settings h e i stream read took opened ends more (inr was) = inr (record {
  over = go was.over;
  bytes = opened ∙ was.bytes;
  events = read ∙ was.events ∙ ap (λ (w : ByteString). lines_of settings w true) (sym took);
})
  where
    go : (0 < count stream (ended_streams h i)) ⊎ (all_ended h i ≡ true) → (0 < count stream (ended_streams (e ∷ h) i)) ⊎ (all_ended (e ∷ h) i ≡ true)
    go (inl some) = inl (more some)
    go (inr all) = inr (ends ∙ all)

-- what ended stays so behind any entry
more_ended : (h : Record) (e : Entry) (i stream : ℕ) → 0 < count stream (ended_streams h i) → 0 < count stream (ended_streams (e ∷ h) i)
more_ended h e i stream some = let all = count-append stream (ended_streams h i) (ended_by i e) in omega (arith, some, all)

-- a Read of the source, whatever it takes
own_so : (plan : Plan) (h : Record) (i s stream : ℕ) (took : Taken) (reads : Reads plan i) → IsLegal (Read i s took ∷ h) → in_force h ≡ Some plan →
    OneStream (Read i s took ∷ h) i stream → IsReadSo reads.component.settings h i stream → IsReadSo reads.component.settings (Read i s took ∷ h) i stream
own_so plan h i s stream (Bytes bytes) reads legal force is was = on_bytes plan h i s stream bytes reads legal force is was
own_so plan h i s stream StreamEnded reads legal force is was =
    on_stream_end plan h i s stream reads legal.1 force (one_before h (Read i s StreamEnded) i stream is) was
own_so plan h i s stream AllEnded reads legal force is was = on_end plan h i s stream reads legal.1 force (one_before h (Read i s AllEnded) i stream is) was

-- a Read, of the source or of another
on_read : (plan : Plan) (h : Record) (i j s stream : ℕ) (took : Taken) (reads : Reads plan i) → IsLegal (Read j s took ∷ h) → in_force h ≡ Some plan →
    OneStream (Read j s took ∷ h) i stream → IsReadSo reads.component.settings h i stream → IsReadSo reads.component.settings (Read j s took ∷ h) i stream
on_read plan h i j s stream took reads legal force is was = go (j == i) refl
  where
    settings : Settings
    settings = reads.component.settings

    go : (b : Bool) → (j == i) ≡ b → IsReadSo settings (Read j s took ∷ h) i stream
    go true here =
        let same = eqb-true j i here in
        subst (λ (n : ℕ). IsReadSo settings (Read n s took ∷ h) i stream) (sym same)
        (own_so plan h i s stream took reads (subst (λ (n : ℕ). IsLegal (Read n s took ∷ h)) same legal) force
        (subst (λ (n : ℕ). OneStream (Read n s took ∷ h) i stream) same is) was)
    go false other =
        read_on settings h (Read j s took) i stream
        (ap (λ (b : Bool). read_events h i ++ (if b then events_of h i s took else [])) other ∙ append-nil (read_events h i))
        (ap (λ (b : Bool). taken h i stream ++ (if b && (s == stream) then bytes_of took else [])) other ∙ append-nil (taken h i stream))
        (ap (λ (b : Bool). if b && (stream_of h i s took == stream) then still_open took (open_bytes h i stream) else open_bytes h i stream) other)
        (ap (λ (b : Bool). (b && is_end took) || all_ended h i) other) (more_ended h (Read j s took) i stream) was

-- what a source of one stream has read
readout : (plan : Plan) (h : Record) (i stream : ℕ) (reads : Reads plan i) → Run plan h → OneStream h i stream → IsReadSo reads.component.settings h i stream
readout plan [] i stream reads run is = inl (record { unended = refl; bytes = refl; events = sym (no_lines reads.component.settings) })
readout plan (Install version made once instances now ∷ h) i stream reads run is =
    subst (λ (r : Record). IsReadSo reads.component.settings (Install version made once instances now ∷ r) i stream)
    (sym run.legal.0.row.first) (inl (record { unended = refl; bytes = refl; events = sym (no_lines reads.component.settings) }))
readout plan (Read j s took ∷ h) i stream reads run is =
    on_read plan h i j s stream took reads run.legal run.installed is
    (readout plan h i stream reads (record { legal = run.legal.1; installed = run.installed; whole = run.whole }) (one_before h (Read j s took) i stream is))
readout plan (Abandon cause ∷ h) i stream reads run is = let no : true ≡ false = run.whole in cc
readout plan (e ∷ h) i stream reads run is =
    read_on reads.component.settings h e i stream refl refl refl refl (more_ended h e i stream)
    (readout plan h i stream reads (record { legal = run.legal.1; installed = run.installed; whole = run.whole }) (one_before h e i stream is))

-- behind the end of all it has read all lines
pub read_all : (plan : Plan) (h : Record) (i stream : ℕ) (reads : Reads plan i) → Run plan h → OneStream h i stream → all_ended h i ≡ true →
    read_events h i ≡ lines_of reads.component.settings (taken h i stream) true
read_all plan h i stream reads run is ended = go (readout plan h i stream reads run is)
  where
    go : IsReadSo reads.component.settings h i stream → read_events h i ≡ lines_of reads.component.settings (taken h i stream) true
    go (inl was) = let no : true ≡ false = sym ended ∙ was.unended in cc
    go (inr was) = was.events
