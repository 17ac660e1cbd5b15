-- A framer's lines are those that the record counts.
use Rattle.std.proofs.Common.{◌≡◌, ℕ, false, Option, Some, None, List, [], ◌∷◌, ◌++◌, length, drop, sym, refl, ap, ◌∙◌, arith}
use Rattle.vx_frame.specs.Frames.{Frame, frames}
use Rattle.vx_codec.specs.declared.decoding.Decoding.{Decoding}
use Rattle.vx_plan.specs.declared.component.Component.{Component}
use Rattle.vx_plan.specs.Options.{decoding}
use Rattle.vx_record.specs.declared.taken.Taken.{Taken}
use Rattle.vx_record.specs.Records.{Record, capped}
use Rattle.vx_record.specs.Installs.{component_of}
use Rattle.vx_record.specs.Reads.{stream_of, open_bytes, limit_of, new_lines, undecodable_among, undecodable_lines}
use Rattle.vx_record.proofs.PastLines.{past-dropped, past-less}
use Rattle.vx_sourcecore.specs.NewLines.{codec_of, undecodable_by, AreFramed, FramedCounted, ObservedNew}

drop-front : (xs ys : List Frame) → drop (length xs) (xs ++ ys) ≡ ys
drop-front [] ys = refl
drop-front (x ∷ xs) ys = drop-front xs ys

by_codec : (o : Option Component) (lines : List Frame) →
    elim o as (λ _. ℕ) [ None ↦ 0 | Some c ↦ undecodable_lines c.settings lines ]
    ≡ undecodable_by (elim o as (λ _. Option Decoding) [ None ↦ None | Some c ↦ decoding c.settings ]) lines
by_codec None lines = refl
by_codec (Some c) lines = go (decoding c.settings)
  where
    go : (o : Option Decoding) → elim o as (λ _. ℕ) [ None ↦ 0 | Some d ↦ undecodable_among d lines ] ≡ undecodable_by o lines
    go None = refl
    go (Some d) = refl

-- the lines that a framer gave are those that the record has the Read complete
pub framed_lines : (h : Record) (i stream : ℕ) (took : Taken) (lines : List Frame) (over : ℕ) → AreFramed h i stream took lines over → new_lines h i stream took ≡ lines
framed_lines h i stream took lines over framed =
    past-dropped (limit_of h i) (open_bytes h i (stream_of h i stream took)) took ∙ ap (drop (length before)) framed.frames_are ∙ drop-front before lines
  where
    before : List Frame
    before = frames (open_bytes h i (stream_of h i stream took)) (limit_of h i) false

pub framed_counted : FramedCounted
framed_counted h i stream took lines over framed =
    let same = framed_lines h i stream took lines over framed in
    record {
      within = ap length same;
      overlong = let x = framed.discards in let y = past-less (limit_of h i) (open_bytes h i (stream_of h i stream took)) took in omega (arith, x, y);
      undecodable = by_codec (component_of h i) (new_lines h i stream took) ∙ ap (undecodable_by (codec_of h i)) same;
    }

pub observed_new : ObservedNew
observed_new h i stream took lines over d new framed codec observed =
    let counted = framed_counted h i stream took lines over framed in
    record {
      lines = observed.within ∙ ap capped (sym counted.within);
      overlong = observed.too_long ∙ ap capped (sym counted.overlong);
      undecodable = observed.undecoded ∙ ap capped (sym (counted.undecodable ∙ ap (λ o. undecodable_by o lines) codec));
    }
