-- A generator that had come as far as a record has it has done so behind its turn.
use Rattle.std.proofs.Common.{◌≡◌, ℕ, ◌+◌, ◌-◌, ◌<◌, ◌≤◌, Bool, true, false, List, [], ◌∷◌, ◌++◌, length, min, Option, Some, None, arith, refl, sym, subst, ◌∙◌, ap}
use Rattle.std.specs.Prelude.{◌==◌, ◌&&◌, if◌then◌else◌, unwrap_or, IfSome, Contains}
use Rattle.std.specs.List.{list_all}
use Rattle.std.proofs.lemmas.Bool.{and_from as both_true}
use Rattle.std.proofs.lemmas.List.{append-nil}
use Rattle.vx_value.specs.Texts.{ByteString}
use Rattle.vx_frame.specs.Frames.{cut as parts}
use Rattle.vx_frame.specs.Framings.{unfinished}
use Rattle.vx_demo.specs.declared.demo_settings.DemoSettings.{DemoSettings}
use Rattle.vx_record.specs.Records.{Record}
use Rattle.vx_record.specs.Copies.{count}
use Rattle.vx_record.specs.Generating.{lines_given}
use Rattle.vx_record.specs.Reads.{taken, all_ended, ended_streams}
use Rattle.vx_record.specs.declared.entry.Entry.TheVariants.{Read}
use Rattle.vx_record.specs.declared.taken.Taken.TheVariants as taken
use Rattle.vx_record.proofs.Counts.{count-append}
use Rattle.vx_sourcecore.specs.declared.source.Cut.{Cut}
use Rattle.vx_sourcecore.specs.declared.source.SourceCore.{SourceCore}
use Rattle.vx_sourcecore.specs.declared.generator.Generator.{Generator}
use Rattle.vx_sourcecore.specs.Lines.{Generated, is_unbroken, left_of, next_lines, behind}
use Rattle.vx_sourcecore.specs.Sources.{HasFed, HasFinished, new_lines as cut_lines, new_overlong as cut_overlong}
use Rattle.vx_sourcecore.specs.Abreast.{IsAbreast, IsCutOf}
use Rattle.vx_sourcecore.specs.Generators.{IsGenerating, HasMadeCut}
use Rattle.vx_sourcecore.proofs.Following.{same_test, when_true, none_in, fed_turned, finished_turned}
use Rattle.vx_sourcecore.proofs.Lining.{lines_few, cut_few}
use Rattle.vx_sourcecore.proofs.LineFeeds.{lines_count, count_some, cut_count}

-- LINES GIVEN
given_read : (h : Record) (i : ℕ) (bytes : ByteString) → lines_given (Read i 0 (taken.Bytes bytes) ∷ h) i ≡ lines_given h i + count 10 bytes
given_read h i bytes =
    ap (λ (w : ByteString). count 10 (taken h i 0 ++ w)) (when_true ((i == i) && (0 == 0)) bytes [] (both_true (i == i) (0 == 0) (same_test i) refl))
    ∙ count-append 10 (taken h i 0) bytes

given_end : (h : Record) (i stream : ℕ) → lines_given (Read i stream taken.AllEnded ∷ h) i ≡ lines_given h i
given_end h i stream = ap (count 10) (go ((i == i) && (stream == 0)))
  where
    go : (t : Bool) → taken h i 0 ++ (if t then [] else []) ≡ taken h i 0
    go true = append-nil (taken h i 0)
    go false = append-nil (taken h i 0)

-- how many the next ones are
next_count : (source : Generated) (most : ℕ) → list_all is_unbroken source.settings.lines ≡ true → count 10 (next_lines source most) ≡ min most (left_of source)
next_count source most unbroken = lines_count source.settings source.given (min most (left_of source)) unbroken

-- TURNS
-- a generator that cut its next lines
pub fed_made : (h : Record) (i : ℕ) (old new : Generator) (bytes : ByteString) (cut : Option Cut) → all_ended h i ≡ false → IsGenerating h i old →
    0 < left_of old.lines → bytes ≡ next_lines old.lines old.most → new.lines ≡ behind old.lines old.most → new.most ≡ old.most →
    IfSome cut (λ brought. HasFed old.core 0 bytes brought new.core) → HasMadeCut h i new (record { stream = 0; took = taken.Bytes bytes }) cut
fed_made h i old new bytes None over is left made lines most fed = tt
fed_made h i old new bytes (Some brought) over is left made lines most fed = (
  record {
    abreast = turned.0;
    made_of = is.made_of ∙ ap (λ (g : Generated). Some g.settings) (sym lines);
    most = is.most ∙ sym most;
    given = ap (λ (g : Generated). g.given) lines ∙ omega (arith, is.given, number, given_read h i bytes);
    unbroken = ap (λ (g : Generated). list_all is_unbroken g.settings.lines) lines ∙ is.unbroken;
    stream = subst (λ (o : Option ℕ). IfSome o (λ s. s ≡ 0)) (sym fed.last) refl;
    unended = ap (λ (xs : List ℕ). xs ++ []) is.unended;
  },
  turned.1,
)
  where
    number : count 10 bytes ≡ min old.most (left_of old.lines)
    number = ap (count 10) made ∙ next_count old.lines old.most is.unbroken

    some : 0 < length bytes
    some = count_some 10 bytes (let positive = old.some in omega (arith, number, positive, left))

    turned : IsAbreast (Read i 0 (taken.Bytes bytes) ∷ h) i new.core × IsCutOf h i 0 (taken.Bytes bytes) brought
    turned = fed_turned h i 0 bytes (Some brought) old.core new.core over some (λ there. none_in 0 (subst (λ (xs : List ℕ). Contains xs 0) is.unended there)) is.abreast fed

-- a generator that told the end
pub finished_made : (h : Record) (i : ℕ) (old new : Generator) (stream : ℕ) (cut : Option Cut) → all_ended h i ≡ false → IsGenerating h i old →
    stream ≡ unwrap_or old.core.last 0 → new.lines ≡ old.lines → new.most ≡ old.most →
    IfSome cut (λ brought. HasFinished old.core stream brought new.core) → HasMadeCut h i new (record { stream = stream; took = taken.AllEnded }) cut
finished_made h i old new stream None over is at lines most finished = tt
finished_made h i old new stream (Some brought) over is at lines most finished = (
  record {
    abreast = turned.0;
    made_of = is.made_of ∙ ap (λ (g : Generated). Some g.settings) (sym lines);
    most = is.most ∙ sym most;
    given = ap (λ (g : Generated). g.given) lines ∙ is.given ∙ sym (given_end h i stream);
    unbroken = ap (λ (g : Generated). list_all is_unbroken g.settings.lines) lines ∙ is.unbroken;
    stream = subst (λ (o : Option ℕ). IfSome o (λ s. s ≡ 0)) (sym finished.last) is.stream;
    unended = ap (λ (xs : List ℕ). xs ++ []) is.unended;
  },
  turned.1,
)
  where
    turned : IsAbreast (Read i stream taken.AllEnded ∷ h) i new.core × IsCutOf h i stream taken.AllEnded brought
    turned = finished_turned h i stream taken.AllEnded (Some brought) old.core new.core tt over (ap (λ (o : Option ℕ). unwrap_or o 0) (sym is.abreast.last) ∙ sym at) is.abreast finished

-- no more lines are cut than were made
pub few_made : (old : Generator) (new : SourceCore) (bytes : ByteString) (cut : Option Cut) → bytes ≡ next_lines old.lines old.most →
    IfSome cut (λ brought. HasFed old.core 0 bytes brought new) → IfSome cut (λ brought. length brought.events ≤ 65536)
few_made old new bytes None made fed = tt
few_made old new bytes (Some brought) made fed =
    let few = cut_few old.core.decoding old.core.source_type old.core.file 0 (cut_overlong old.core.framer 0 false bytes) (cut_lines old.core.framer 0 false bytes) brought fed.gave in
    let lines = lines_few old.core.framer.limit (unfinished old.core.framer 0).seen (unfinished old.core.framer 0).held (parts bytes).first (parts bytes).more in
    let number : count 10 bytes ≡ min old.most (left_of old.lines) = ap (count 10) made ∙ next_count old.lines old.most old.unbroken in
    let most = old.few in
    omega (arith, few, lines, number, most, cut_count bytes)
