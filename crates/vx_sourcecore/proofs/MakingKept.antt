-- A generator has come as far as a record has it while entries are added that don't change what it read.
use Rattle.std.proofs.Common.{◌≡◌, ℕ, ◌+◌, ◌-◌, ◌<◌, true, List, [], ◌∷◌, ◌++◌, length, min, Option, Some, None, arith, refl, sym, ap, subst, ◌∙◌}
use Rattle.std.specs.Prelude.{is_some, if◌then◌else◌, ◌==◌, ◌&&◌, not, IfSome, IsSomeAnd}
use Rattle.std.specs.List.{list_all}
use Rattle.std.proofs.lemmas.Bool.{and_parts}
use Rattle.vx_value.specs.Texts.{ByteString, is_empty}
use Rattle.vx_demo.specs.declared.demo_settings.DemoSettings.{DemoSettings}
use Rattle.vx_plan.specs.declared.component.Component.{Component}
use Rattle.vx_plan.specs.declared.settings.Settings.{Settings}
use Rattle.vx_plan.specs.declared.settings.Settings.TheVariants.{Stdin, FileIn, DemoLogs, Filter, Route, Sample, Dedupe, Reduce, Host, Console, FileOut, Blackhole}
use Rattle.vx_plan.specs.Options.{demo_of, reading_interval}
use Rattle.vx_record.specs.declared.entry.Entry.TheVariants.{Read}
use Rattle.vx_record.specs.declared.taken.Taken.{Taken}
use Rattle.vx_record.specs.declared.taken.Taken.TheVariants.{Bytes, StreamEnded, AllEnded}
use Rattle.vx_record.specs.Records.{Record}
use Rattle.vx_record.specs.Makers.{Spares}
use Rattle.vx_record.specs.Additions.{OnlyAdds}
use Rattle.vx_record.specs.Copies.{count}
use Rattle.vx_record.specs.Installs.{component_of}
use Rattle.vx_record.specs.Generating.{generator_of, lines_given, lines_at_once, lines_from, IsNextOf, IsGenerated}
use Rattle.vx_sourcecore.specs.declared.source.Cut.{Cut}
use Rattle.vx_sourcecore.specs.declared.source.SourceCore.{SourceCore}
use Rattle.vx_sourcecore.specs.declared.generator.Generator.{Generator}
use Rattle.vx_sourcecore.specs.Turns.{Reading, reading_of, cut_of}
use Rattle.vx_sourcecore.specs.Abreast.{IsMadeFor, IsAbreast}
use Rattle.vx_sourcecore.specs.Lines.{Generated, is_unbroken}
use Rattle.vx_sourcecore.specs.Generators.{IsGenerating, HasMadeBy}
use Rattle.vx_sourcecore.specs.Laws.{GeneratorTexts, GeneratorFresh, GeneratingKept, MadeKept, NextKept, GeneratingUnder, MadeUnder, NextUnder}
use Rattle.vx_sourcecore.proofs.Keeping.{IsAlike, cut_alike, read_alike, abreast_alike, spared_alike, has_component, unread_alike, fresh_abreast}

-- WHAT A COMPONENT SAYS
generator_alike : (old new : Record) (i : ℕ) → IsAlike old new i → generator_of new i ≡ generator_of old i
generator_alike old new i alike = ap (λ (o : Option Component). elim o as (λ _. Option DemoSettings) [ None ↦ None | Some c ↦ demo_of c.settings ]) alike.component

at_once_alike : (old new : Record) (i : ℕ) → IsAlike old new i → lines_at_once new i ≡ lines_at_once old i
at_once_alike old new i alike = ap (λ (o : Option Component). elim o as (λ _. ℕ) [ None ↦ 0 | Some c ↦ if reading_interval c.settings == 0 then 64 else 1 ]) alike.component

given_alike : (old new : Record) (i : ℕ) → IsAlike old new i → lines_given new i ≡ lines_given old i
given_alike old new i alike = ap (count 10) (alike.all 0)

-- RECORDS THAT ARE ALIKE
generating_alike : (old new : Record) (i : ℕ) (g : Generator) → IsAlike old new i → IsGenerating old i g → IsGenerating new i g
generating_alike old new i g alike is = record {
  abreast = abreast_alike old new i g.core alike is.abreast;
  made_of = generator_alike old new i alike ∙ is.made_of;
  most = at_once_alike old new i alike ∙ is.most;
  given = is.given ∙ sym (given_alike old new i alike);
  unbroken = is.unbroken;
  stream = is.stream;
  unended = alike.ended ∙ is.unended;
}

made_alike : (old new : Record) (i : ℕ) (g : Generator) (reading : Option Reading) (cut : Option Cut) → IsAlike old new i → HasMadeBy old i g reading cut → HasMadeBy new i g reading cut
made_alike old new i g None cut alike made = made
made_alike old new i g (Some reading) None alike made = tt
made_alike old new i g (Some reading) (Some brought) alike made = (
  generating_alike (Read i reading.stream reading.took ∷ old) (Read i reading.stream reading.took ∷ new) i g (read_alike old new i reading.stream reading.took alike) made.0,
  cut_alike old new i reading.stream reading.took brought alike made.1,
)

next_of_alike : (demo : DemoSettings) (old new : Record) (i stream : ℕ) (took : Taken) → IsAlike old new i → IsNextOf demo old i stream took → IsNextOf demo new i stream took
next_of_alike demo old new i stream (Bytes bytes) alike next =
    let given = given_alike old new i alike in
    let most = at_once_alike old new i alike in
    record {
      some = subst (λ n. 0 < demo.count - n) (sym given) next.some;
      of_stream = next.of_stream;
      lines = next.lines ∙ sym (λ t. lines_from demo (given t) (min (most t) (demo.count - given t)));
    }
next_of_alike demo old new i stream StreamEnded alike next = next
next_of_alike demo old new i stream AllEnded alike next = record {
  none = ap (λ n. demo.count - n) (given_alike old new i alike) ∙ next.none;
  of_stream = next.of_stream;
}

next_alike : (old new : Record) (i : ℕ) (reading : Option Reading) → IsAlike old new i → IsSomeAnd reading (λ (r : Reading). IsGenerated old i r.stream r.took) →
    IsSomeAnd reading (λ (r : Reading). IsGenerated new i r.stream r.took)
next_alike old new i None alike next = next
next_alike old new i (Some r) alike next =
    λ demo is. next_of_alike demo old new i r.stream r.took alike (next demo (sym (generator_alike old new i alike) ∙ is))

-- OTHERS THAT GO ON
pub generating_kept : GeneratingKept
generating_kept old new i g adds is =
    generating_alike old new i g (spared_alike old new i (has_component (component_of old i) (λ c. IsMadeFor c.settings g.core) is.abreast.made_for) adds) is

made_kept_by : (old new : Record) (i : ℕ) (g : Generator) (reading : Option Reading) (cut : Option Cut) → OnlyAdds (Spares i) old new → HasMadeBy old i g reading cut → HasMadeBy new i g reading cut
made_kept_by old new i g None cut adds made = made
made_kept_by old new i g (Some reading) None adds made = tt
made_kept_by old new i g (Some reading) (Some brought) adds made =
    made_alike old new i g (Some reading) (Some brought) (spared_alike old new i (has_component (component_of old i) (λ c. IsMadeFor c.settings g.core) made.0.abreast.made_for) adds) made

pub made_kept : MadeKept
made_kept old new i g turned adds made = made_kept_by old new i g (reading_of turned) (cut_of turned) adds made

pub next_kept : NextKept
next_kept old new i turned some adds next = next_alike old new i (reading_of turned) (spared_alike old new i some adds) next

-- ENTRIES THAT ARE NO READ
pub generating_under : GeneratingUnder
generating_under h e i g unread is = generating_alike h (e ∷ h) i g (unread_alike h e i unread) is

pub made_under : MadeUnder
made_under h e i g turned unread made = made_alike h (e ∷ h) i g (reading_of turned) (cut_of turned) (unread_alike h e i unread) made

pub next_under : NextUnder
next_under h e i turned unread next = next_alike h (e ∷ h) i (reading_of turned) (unread_alike h e i unread) next

-- A GENERATOR AT ITS BEGINNING
some_there : {X : Type 0} (xs : List X) → not (is_empty xs) ≡ true → 0 < length xs
some_there [] some = cc
some_there (x ∷ xs) some = omega arith

pub generator_texts : GeneratorTexts
generator_texts (Stdin max_length codec) demo makes is = cc
generator_texts (FileIn most path from codec) demo makes is = cc
generator_texts (DemoLogs own interval) demo makes is =
    let both = and_parts (not (is_empty own.lines)) (list_all is_unbroken own.lines) makes in
    let same : own ≡ demo = cc in
    (subst (λ (d : DemoSettings). 0 < length d.lines) same (some_there own.lines both.0), subst (λ (d : DemoSettings). list_all is_unbroken d.lines ≡ true) same both.1)
generator_texts (Filter condition) demo makes is = cc
generator_texts (Route routes reroute) demo makes is = cc
generator_texts (Sample rate exclude) demo makes is = cc
generator_texts (Dedupe fields most) demo makes is = cc
generator_texts (Reduce group_by starts_when ends_when expire flush strategies) demo makes is = cc
generator_texts Host demo makes is = cc
generator_texts (Console target codec sink) demo makes is = cc
generator_texts (FileOut path compression codec sink) demo makes is = cc
generator_texts (Blackhole seconds sink) demo makes is = cc

pub generator_fresh : GeneratorFresh
generator_fresh h i c d demo most core g is made at decodes fresh begun last none nothing unended = record {
  abreast = subst (λ (s : SourceCore). IsAbreast h i s) (sym begun.core_is) (fresh_abreast h i c d core is decodes fresh last none);
  made_of =
      ap (λ (o : Option Component). elim o as (λ _. Option DemoSettings) [ None ↦ None | Some c ↦ demo_of c.settings ]) is
      ∙ made ∙ ap (λ (l : Generated). Some l.settings) (sym begun.lines_are);
  most = at ∙ sym begun.most_is;
  given = ap (λ (l : Generated). l.given) begun.lines_are ∙ ap (count 10) (sym nothing);
  unbroken = g.unbroken;
  stream = subst (λ (o : Option ℕ). IfSome o (λ s. s ≡ 0)) (sym (ap (λ (s : SourceCore). s.last) begun.core_is ∙ fresh.none)) tt;
  unended = unended;
}
