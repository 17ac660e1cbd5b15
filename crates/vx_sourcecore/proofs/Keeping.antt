-- A source stays abreast of a record while entries are added that don't change what it read.
use Rattle.std.proofs.Common.{◌≡◌, ℕ, ◌+◌, ◌-◌, Bool, true, false, List, [], ◌∷◌, ◌++◌, length, Option, Some, None, refl, sym, ap, subst, ◌∙◌}
use Rattle.std.specs.Prelude.{is_some, if◌then◌else◌, ◌==◌, ◌&&◌, unwrap_or, IsSomeAnd, Contains}
use Rattle.std.proofs.lemmas.List.{append-nil}
use Rattle.vx_value.specs.Texts.{ByteString}
use Rattle.vx_value.specs.declared.event.Event.{Event}
use Rattle.vx_frame.specs.Framings.{HasTaken}
use Rattle.vx_frame.specs.Frames.{Frame}
use Rattle.vx_plan.specs.declared.component.Component.{Component}
use Rattle.vx_plan.specs.Components.{longest_line}
use Rattle.vx_record.specs.declared.entry.Entry.{Entry}
use Rattle.vx_record.specs.declared.entry.Entry.TheVariants.{Install, Read}
use Rattle.vx_record.specs.declared.taken.Taken.{Taken}
use Rattle.vx_record.specs.declared.taken.Taken.TheVariants as taken
use Rattle.vx_record.specs.Records.{Record, capped}
use Rattle.vx_record.specs.Legal.{Follows}
use Rattle.vx_record.specs.Makers.{Spares}
use Rattle.vx_record.specs.Additions.{OnlyAdds}
use Rattle.vx_record.specs.Tasks.{mine, IsOwn}
use Rattle.vx_plan.specs.Components.{component_named}
use Rattle.vx_record.specs.Installs.{Wiring, wiring, component_of}
use Rattle.vx_record.specs.Reads.{taken, bytes_of, has_bytes, last_stream, open_bytes, still_open, stream_of, ended_streams, ended_by, limit_of, lines_past, overlong_past, new_lines, new_overlong, new_undecodable, undecodable_lines, events_of, events_of_lines, end_of, last_end}
use Rattle.vx_record.proofs.Adding.{carry}
use Rattle.vx_record.proofs.TasksOut.{spared_stays}
use Rattle.vx_record.proofs.OwnReads.{taken_own, last_own, open_own, ended_own}
use Rattle.vx_sourcecore.specs.declared.source.Cut.{Cut}
use Rattle.vx_sourcecore.specs.declared.source.SourceCore.{SourceCore}
use Rattle.vx_sourcecore.specs.Turns.{Reading, reading_of, cut_of}
use Rattle.vx_sourcecore.specs.Abreast.{IsMadeFor, IsAbreast, IsCutOf, HasTurnedBy}
use Rattle.vx_sourcecore.specs.Laws.{FreshAbreast, ComponentStays, ComponentKept, WiringKept, AbreastKept, TurnedKept, IsUnread, AbreastUnder, TurnedUnder}

-- two records that say the same of what an instance runs and read
pub record IsAlike (old new : Record) (i : ℕ) : Type 0 where
  pub component : component_of new i ≡ component_of old i
  pub last : last_stream new i ≡ last_stream old i
  pub open_now : (stream : ℕ) → open_bytes new i stream ≡ open_bytes old i stream
  pub all : (stream : ℕ) → taken new i stream ≡ taken old i stream
  pub ended : ended_streams new i ≡ ended_streams old i

-- WHAT A READ GIVES
stream_alike : (old new : Record) (i stream : ℕ) (took : Taken) → IsAlike old new i → stream_of new i stream took ≡ stream_of old i stream took
stream_alike old new i stream (taken.Bytes bytes) alike = refl
stream_alike old new i stream taken.StreamEnded alike = refl
stream_alike old new i stream taken.AllEnded alike = ap (λ (o : Option ℕ). unwrap_or o 0) alike.last

before_alike : (old new : Record) (i stream : ℕ) (took : Taken) → IsAlike old new i → open_bytes new i (stream_of new i stream took) ≡ open_bytes old i (stream_of old i stream took)
before_alike old new i stream took alike = alike.open_now (stream_of new i stream took) ∙ ap (open_bytes old i) (stream_alike old new i stream took alike)

limit_alike : (old new : Record) (i : ℕ) → IsAlike old new i → limit_of new i ≡ limit_of old i
limit_alike old new i alike = ap (λ (o : Option Component). elim o as (λ _. ℕ) [ None ↦ 0 | Some c ↦ longest_line c.settings ]) alike.component

lines_alike : (old new : Record) (i stream : ℕ) (took : Taken) → IsAlike old new i → new_lines new i stream took ≡ new_lines old i stream took
lines_alike old new i stream took alike =
    let limit = limit_alike old new i alike in
    let before = before_alike old new i stream took alike in
    λ t. lines_past (limit t) (before t) took

overlong_alike : (old new : Record) (i stream : ℕ) (took : Taken) → IsAlike old new i → new_overlong new i stream took ≡ new_overlong old i stream took
overlong_alike old new i stream took alike =
    let limit = limit_alike old new i alike in
    let before = before_alike old new i stream took alike in
    λ t. overlong_past (limit t) (before t) took

undecodable_alike : (old new : Record) (i stream : ℕ) (took : Taken) → IsAlike old new i → new_undecodable new i stream took ≡ new_undecodable old i stream took
undecodable_alike old new i stream took alike =
    let component = alike.component in
    let lines = lines_alike old new i stream took alike in
    λ t. elim (component t) as (λ _. ℕ) [ None ↦ 0 | Some c ↦ undecodable_lines c.settings (lines t) ]

events_alike : (old new : Record) (i stream : ℕ) (took : Taken) → IsAlike old new i → events_of new i stream took ≡ events_of old i stream took
events_alike old new i stream took alike =
    let component = alike.component in
    let lines = lines_alike old new i stream took alike in
    λ t. elim (component t) as (λ _. List Event) [ None ↦ [] | Some c ↦ events_of_lines c.settings (lines t) ]

end_alike : (old new : Record) (i stream : ℕ) (took : Taken) → IsAlike old new i → end_of new i stream took ≡ end_of old i stream took
end_alike old new i stream took alike =
    let all = alike.all (stream_of new i stream took) ∙ ap (taken old i) (stream_alike old new i stream took alike) in
    let before = before_alike old new i stream took alike in
    let lines = lines_alike old new i stream took alike in
    λ t. (length (all t) - length (before t)) + last_end (lines t)

pub cut_alike : (old new : Record) (i stream : ℕ) (took : Taken) (brought : Cut) → IsAlike old new i → IsCutOf old i stream took brought → IsCutOf new i stream took brought
cut_alike old new i stream took brought alike is = record {
  events = is.events ∙ sym (events_alike old new i stream took alike);
  of_stream = λ some. is.of_stream some ∙ sym (stream_alike old new i stream took alike);
  end = λ some. is.end some ∙ ap capped (sym (end_alike old new i stream took alike));
  new = record {
    lines = is.new.lines ∙ ap (λ (fs : List Frame). capped (length fs)) (sym (lines_alike old new i stream took alike));
    overlong = is.new.overlong ∙ ap capped (sym (overlong_alike old new i stream took alike));
    undecodable = is.new.undecodable ∙ ap capped (sym (undecodable_alike old new i stream took alike));
  };
}

-- BEHIND A READ
-- records that are alike are so behind the same Read
pub read_alike : (old new : Record) (i stream : ℕ) (took : Taken) → IsAlike old new i → IsAlike (Read i stream took ∷ old) (Read i stream took ∷ new) i
read_alike old new i stream took alike =
    let last = alike.last in
    let of = stream_alike old new i stream took alike in
    let ended = alike.ended in
    record {
      component = alike.component;
      last = λ t. if (i == i) && has_bytes took then Some stream else last t;
      open_now = λ s. let before = alike.open_now s in λ t. if (i == i) && (of t == s) then still_open took (before t) else before t;
      all = λ s. ap (λ (w : ByteString). w ++ (if (i == i) && (stream == s) then bytes_of took else [])) (alike.all s);
      ended = λ t. ended t ++ ended_by i (Read i stream took);
    }

pub abreast_alike : (old new : Record) (i : ℕ) (core : SourceCore) → IsAlike old new i → IsAbreast old i core → IsAbreast new i core
abreast_alike old new i core alike a = record {
  made_for = subst (λ (o : Option Component). IsSomeAnd o (λ (c : Component). IsMadeFor c.settings core)) (sym alike.component) a.made_for;
  last = a.last ∙ sym alike.last;
  taken = λ s. subst (λ (w : ByteString). HasTaken core.framer s w) (sym (alike.open_now s)) (a.taken s);
  ended = λ s there. alike.open_now s ∙ a.ended s (subst (λ (xs : List ℕ). Contains xs s) alike.ended there);
}

turned_alike : (old new : Record) (i : ℕ) (core : SourceCore) (reading : Option Reading) (cut : Option Cut) → IsAlike old new i → HasTurnedBy old i core reading cut → HasTurnedBy new i core reading cut
turned_alike old new i core None cut alike turned = abreast_alike old new i core alike turned
turned_alike old new i core (Some reading) None alike turned = tt
turned_alike old new i core (Some reading) (Some brought) alike turned = (
  abreast_alike (Read i reading.stream reading.took ∷ old) (Read i reading.stream reading.took ∷ new) i core (read_alike old new i reading.stream reading.took alike) turned.0,
  cut_alike old new i reading.stream reading.took brought alike turned.1,
)

-- OTHERS THAT GO ON
-- an Install stands at the beginning alone
component_next : (h : Record) (e : Entry) (i : ℕ) → Follows h e → is_some (component_of h i) ≡ true → component_of (e ∷ h) i ≡ component_of h i
component_next h (Install version plan once instances now) i follows some =
    let none : is_some (component_of h i) ≡ false = ap (λ (r : Record). is_some (component_of r i)) follows.row.first in
    let no : true ≡ false = sym some ∙ none in absurd (cc)
component_next h e i follows some = refl

-- nor is what stands there wired otherwise
wiring_next : (h : Record) (e : Entry) (i : ℕ) → Follows h e → is_some (component_of h i) ≡ true → wiring (e ∷ h) i ≡ wiring h i
wiring_next h (Install version plan once instances now) i follows some =
    let none : is_some (component_of h i) ≡ false = ap (λ (r : Record). is_some (component_of r i)) follows.row.first in
    let no : true ≡ false = sym some ∙ none in absurd (cc)
wiring_next h e i follows some = refl

pub component_stays : ComponentStays
component_stays h e i legal some = component_next h e i legal.0 some

pub component_kept : ComponentKept
component_kept old new i some adds =
    carry (Spares i) (λ h. component_of h i ≡ component_of old i) (λ h e follows spares same. component_next h e i follows (ap is_some same ∙ some) ∙ same) old new adds refl

pub wiring_kept : WiringKept
wiring_kept old new i some adds =
    carry (Spares i) (λ h. wiring h i ≡ wiring old i) (λ h e follows spares same. wiring_next h e i follows (ap is_run same ∙ some) ∙ same) old new adds refl
  where
    is_run : Option Wiring → Bool
    is_run o = is_some (elim o as (λ _. Option Component) [ None ↦ None | Some w ↦ component_named w.plan w.name ])

-- what is a task's own stays with its entries
stays : {X : Type 0} (f : Record → ℕ → X) → IsOwn f → (old new : Record) (i : ℕ) → mine new i ≡ mine old i → f new i ≡ f old i
stays f own old new i same = own new i ∙ ap (λ (m : Record). f m i) same ∙ sym (own old i)

pub spared_alike : (old new : Record) (i : ℕ) → is_some (component_of old i) ≡ true → OnlyAdds (Spares i) old new → IsAlike old new i
spared_alike old new i some adds =
    let same = spared_stays old new i adds in
    record {
      component = component_kept old new i some adds;
      last = stays last_stream last_own old new i same;
      open_now = λ s. stays (λ h j. open_bytes h j s) (open_own s) old new i same;
      all = λ s. stays (λ h j. taken h j s) (taken_own s) old new i same;
      ended = stays ended_streams ended_own old new i same;
    }

pub has_component : (o : Option Component) (P : Component → Type 0) → IsSomeAnd o P → is_some o ≡ true
has_component None P some = absurd some
has_component (Some c) P some = refl

pub abreast_kept : AbreastKept
abreast_kept old new i core adds a = abreast_alike old new i core (spared_alike old new i (has_component (component_of old i) (λ c. IsMadeFor c.settings core) a.made_for) adds) a

turned_kept_by : (old new : Record) (i : ℕ) (core : SourceCore) (reading : Option Reading) (cut : Option Cut) → OnlyAdds (Spares i) old new → HasTurnedBy old i core reading cut → HasTurnedBy new i core reading cut
turned_kept_by old new i core None cut adds turned = abreast_kept old new i core adds turned
turned_kept_by old new i core (Some reading) None adds turned = tt
turned_kept_by old new i core (Some reading) (Some brought) adds turned =
    turned_alike old new i core (Some reading) (Some brought) (spared_alike old new i (has_component (component_of old i) (λ c. IsMadeFor c.settings core) turned.0.made_for) adds) turned

pub turned_kept : TurnedKept
turned_kept old new i core turned adds was = turned_kept_by old new i core (reading_of turned) (cut_of turned) adds was

-- ENTRIES THAT ARE NO READ
pub unread_alike : (h : Record) (e : Entry) (i : ℕ) → IsUnread e → IsAlike h (e ∷ h) i
unread_alike h (Install version plan once instances now) i unread = absurd unread
unread_alike h (Read j stream took) i unread = absurd unread
unread_alike h e i unread = record { component = refl; last = refl; open_now = λ s. refl; all = λ s. refl; ended = append-nil (ended_streams h i) }

pub abreast_under : AbreastUnder
abreast_under h e i core unread a = abreast_alike h (e ∷ h) i core (unread_alike h e i unread) a

pub turned_under : TurnedUnder
turned_under h e i core turned unread was = turned_alike h (e ∷ h) i core (reading_of turned) (cut_of turned) (unread_alike h e i unread) was

-- A FRESH SOURCE
pub fresh_abreast : FreshAbreast
fresh_abreast h i c d core is decodes fresh last none = record {
  made_for = subst (λ (o : Option Component). IsSomeAnd o (λ (c : Component). IsMadeFor c.settings core)) (sym is)
      (record { limit = fresh.limit_is; source_type = fresh.type_is; file = fresh.file_is; decoding_is = decodes ∙ ap Some (sym fresh.decoding_is) });
  last = fresh.none ∙ sym last;
  taken = λ s. subst (λ (w : ByteString). HasTaken core.framer s w) (sym (none s)) (fresh.fresh s);
  ended = λ s there. none s;
}
