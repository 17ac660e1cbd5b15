-- The lines that a Read adds are those that are there behind it, but those that were there before.
use Rattle.std.proofs.Common.{◌≡◌, ℕ, ◌+◌, ◌-◌, true, false, [], ◌++◌, sym, ap, ◌∙◌, arith, length, drop, filter}
use Rattle.std.proofs.lemmas.List.{append-nil}
use Rattle.std.proofs.Math.Seq.{drop-append_seam}
use Rattle.vx_value.specs.Texts.{ByteString}
use Rattle.vx_frame.specs.Frames.{all_lines, fits, is_overlong, open_line, open_from, frames, discarded}
use Rattle.vx_frame.proofs.Tears.{frames-tear, discarded-tear}
use Rattle.vx_record.specs.declared.taken.Taken.{Taken}
use Rattle.vx_record.specs.declared.taken.Taken.TheVariants.{Bytes, StreamEnded, AllEnded}
use Rattle.vx_record.specs.Reads.{lines_past, overlong_past}
use Rattle.vx_record.specs.LineBytes.{lines_after, overlong_after}

-- all of them are those of the bytes before it, and then the Read's
pub lines-after : (limit : ℕ) (before : ByteString) (took : Taken) → lines_after limit before took ≡ frames before limit false ++ lines_past limit before took
lines-after limit before took = go took
  where
    last : frames before limit true ≡ frames before limit false ++ filter (fits limit) (all_lines (open_from before) (open_line before) true)
    last =
        ap (λ w. frames w limit true) (sym (append-nil before))
        ∙ frames-tear limit true before []
        ∙ ap (λ w. frames before limit false ++ filter (fits limit) (all_lines (open_from before) w true)) (append-nil (open_line before))

    go : (took : Taken) → lines_after limit before took ≡ frames before limit false ++ lines_past limit before took
    go (Bytes bytes) = frames-tear limit false before bytes
    go StreamEnded = last
    go AllEnded = last

pub overlong-after : (limit : ℕ) (before : ByteString) (took : Taken) → overlong_after limit before took ≡ discarded before limit false + overlong_past limit before took
overlong-after limit before took = go took
  where
    last : discarded before limit true ≡ discarded before limit false + length (filter (is_overlong limit) (all_lines (open_from before) (open_line before) true))
    last =
        ap (λ w. discarded w limit true) (sym (append-nil before))
        ∙ discarded-tear limit true before []
        ∙ ap (λ w. discarded before limit false + length (filter (is_overlong limit) (all_lines (open_from before) w true))) (append-nil (open_line before))

    go : (took : Taken) → overlong_after limit before took ≡ discarded before limit false + overlong_past limit before took
    go (Bytes bytes) = discarded-tear limit false before bytes
    go StreamEnded = last
    go AllEnded = last

-- so the Read's are what is left without those
pub past-dropped : (limit : ℕ) (before : ByteString) (took : Taken) → lines_past limit before took ≡ drop (length (frames before limit false)) (lines_after limit before took)
past-dropped limit before took =
    sym (ap (drop (length (frames before limit false))) (lines-after limit before took) ∙ drop-append_seam (frames before limit false) (lines_past limit before took))

pub past-less : (limit : ℕ) (before : ByteString) (took : Taken) → overlong_past limit before took ≡ overlong_after limit before took - discarded before limit false
past-less limit before took = let x = overlong-after limit before took in omega (arith, x)
