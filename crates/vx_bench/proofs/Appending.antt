-- One more line behind others.
use Rattle.std.proofs.Common.{◌≡◌, ℕ, ◌+◌, ◌<◌, Bool, List, [], ◌∷◌, ◌++◌, length, take, get_or, refl, sym, subst, arith, add-one}
use Rattle.std.proofs.Math.Seq.{take-suc}
use Rattle.std.specs.Prelude.{if◌then◌else◌}
use Rattle.vx_value.specs.Texts.{ByteString}
use Rattle.vx_frame.specs.declared.line.Line.{Line}
use Rattle.vx_bench.specs.Copies.{IsJudged, IsCopied, AreCounted, AreCopied}

pub count_more : (lines : List Line) (line : Line) (n : ℕ) (is_event : Bool) → AreCounted lines n → IsJudged line.bytes is_event →
    AreCounted (lines ++ line ∷ []) (n + (if is_event then 1 else 0))
count_more [] line n b none judged = record { is_event = b; judged = judged; others = 0; counted = refl; all = omega arith }
count_more (first ∷ lines) line n b c judged = record {
  is_event = c.is_event;
  judged = c.judged;
  others = c.others + (if b then 1 else 0);
  counted = count_more lines line c.others b c.counted judged;
  all = omega arith;
}

pub copy_more : (lines : List Line) (line : Line) (old mid new : ByteString) (done : Bool) → AreCopied lines old mid → IsCopied line.bytes done mid new →
    AreCopied (lines ++ line ∷ []) old new
copy_more [] line old mid new done same copied = record { is_event = done; between = new; copied = subst (λ m. IsCopied line.bytes done m new) same copied; others = refl }
copy_more (first ∷ lines) line old mid new done c copied = record {
  is_event = c.is_event;
  between = c.between;
  copied = c.copied;
  others = copy_more lines line c.between mid new done c.others copied;
}

take_more : (lines : List Line) (line : Line) (i : ℕ) → i < length lines → get_or lines i line ≡ line → take (i + 1) lines ≡ take i lines ++ line ∷ []
take_more lines line i within there = rw (add-one, take-suc lines i line within, there) refl

-- the next line of some is counted
pub count_next : (lines : List Line) (line : Line) (i n : ℕ) (is_event : Bool) → i < length lines → get_or lines i line ≡ line →
    AreCounted (take i lines) n → IsJudged line.bytes is_event → AreCounted (take (i + 1) lines) (n + (if is_event then 1 else 0))
count_next lines line i n b within there counted judged =
    subst (λ front. AreCounted front (n + (if b then 1 else 0))) (sym (take_more lines line i within there)) (count_more (take i lines) line n b counted judged)

-- and copied
pub copy_next : (lines : List Line) (line : Line) (i : ℕ) (old mid new : ByteString) (done : Bool) → i < length lines → get_or lines i line ≡ line →
    AreCopied (take i lines) old mid → IsCopied line.bytes done mid new → AreCopied (take (i + 1) lines) old new
copy_next lines line i old mid new done within there before copied =
    subst (λ front. AreCopied front old new) (sym (take_more lines line i within there)) (copy_more (take i lines) line old mid new done before copied)
