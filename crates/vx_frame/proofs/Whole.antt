-- The lines of bytes are those that a framer gives of them as one piece.
use Rattle.std.proofs.Common.{◌≡◌, ℕ, ◌+◌, Bool, true, false, cond, not, List, [], ◌∷◌, ◌++◌, ◌&&◌, length, filter, leb, arith, refl, ◌∙◌, ap, length-append}
use Rattle.vx_frame.specs.Frames.{Frame, cut, capped, some_byte, lines_from, fits, is_overlong, frames, discarded}
use Rattle.vx_frame.specs.Pieces.{kept, counted, lines_of, overlong_of}

-- from an offset on, some bytes behind which the held ones end
pub lines-are : (limit : ℕ) (e : Bool) (at seen : ℕ) (held part : List ℕ) (more : List (List ℕ)) → seen ≡ capped (at + length held) → filter (fits limit) (lines_from at e (held ++ part) more) ≡ lines_of limit e seen held part more
lines-are limit e at seen held part [] c = by_end (e && some_byte (held ++ part))
  where
    end : capped (at + length (held ++ part)) ≡ capped (seen + length part)
    end = omega (arith, c, length-append held part)

    by_end : (b : Bool) → filter (fits limit) (cond b (record { bytes = held ++ part; end = capped (at + length (held ++ part)) } ∷ []) []) ≡ cond b (kept limit (record { bytes = held ++ part; end = capped (seen + length part) }) []) []
    by_end true = ap (λ n. kept limit (record { bytes = held ++ part; end = n }) []) end
    by_end false = refl
lines-are limit e at seen held part (next ∷ more) c =
    let end : capped (at + length (held ++ part) + 1) ≡ capped (seen + length part + 1) = omega (arith, c, length-append held part) in
    ap (λ n. kept limit (record { bytes = held ++ part; end = n }) (filter (fits limit) (lines_from (at + length (held ++ part) + 1) e next more))) end
    ∙ ap (kept limit (record { bytes = held ++ part; end = capped (seen + length part + 1) }))
    (lines-are limit e (at + length (held ++ part) + 1) (capped (seen + length part + 1)) [] next more (omega (arith, end)))

pub overlong-are : (limit : ℕ) (e : Bool) (at : ℕ) (held part : List ℕ) (more : List (List ℕ)) → length (filter (is_overlong limit) (lines_from at e (held ++ part) more)) ≡ overlong_of limit e held part more
overlong-are limit e at held part [] = by_end (e && some_byte (held ++ part))
  where
    by_length : (b : Bool) (line : Frame) → length (cond (not b) (line ∷ []) []) ≡ cond b 0 1
    by_length true line = refl
    by_length false line = refl

    by_end : (b : Bool) → length (filter (is_overlong limit) (cond b (record { bytes = held ++ part; end = capped (at + length (held ++ part)) } ∷ []) [])) ≡ cond b (counted limit (held ++ part) 0) 0
    by_end true = by_length (leb (length (held ++ part)) limit) (record { bytes = held ++ part; end = capped (at + length (held ++ part)) })
    by_end false = refl
overlong-are limit e at held part (next ∷ more) =
    by_length (leb (length (held ++ part)) limit) (record { bytes = held ++ part; end = capped (at + length (held ++ part) + 1) }) (filter (is_overlong limit) (lines_from (at + length (held ++ part) + 1) e next more))
    ∙ ap (counted limit (held ++ part)) (overlong-are limit e (at + length (held ++ part) + 1) [] next more)
  where
    by_length : (b : Bool) (line : Frame) (lines : List Frame) → length (cond (not b) (line ∷ lines) lines) ≡ cond b (length lines) (length lines + 1)
    by_length true line lines = refl
    by_length false line lines = omega arith

-- from the beginning on
pub frames-are : (bytes : List ℕ) (limit : ℕ) (e : Bool) → frames bytes limit e ≡ lines_of limit e 0 [] (cut bytes).first (cut bytes).more
frames-are bytes limit e = lines-are limit e 0 0 [] (cut bytes).first (cut bytes).more refl

pub discarded-are : (bytes : List ℕ) (limit : ℕ) (e : Bool) → discarded bytes limit e ≡ overlong_of limit e [] (cut bytes).first (cut bytes).more
discarded-are bytes limit e = overlong-are limit e 0 [] (cut bytes).first (cut bytes).more
