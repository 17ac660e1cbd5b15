-- How texts are written, piece by piece.
use Rattle.std.proofs.Common.{◌≡◌, ℕ, ◌<◌, ◌+◌, [], ◌∷◌, ◌++◌, take, drop, length, get_or, refl, sym, ap, ◌∙◌, append_assoc}
use Rattle.std.proofs.lemmas.List.{take_more, take-append-drop, append-nil}
use Rattle.vx_value.specs.Texts.{ByteString}
use Rattle.vx_json.specs.Written.{escaped, escapes}

pub escapes-append : (a b : ByteString) → escapes (a ++ b) ≡ escapes a ++ escapes b
escapes-append [] b = refl
escapes-append (x ∷ a) b = ap (λ r. escaped x ++ r) (escapes-append a b) ∙ sym (append_assoc (escaped x) (escapes a) (escapes b))

-- one plain byte more
pub plain-more : (text : ByteString) (i : ℕ) → i < length text → escaped (get_or text i 0) ≡ get_or text i 0 ∷ [] → escapes (take i text) ≡ take i text → escapes (take (i + 1) text) ≡ take (i + 1) text
plain-more text i h e plain =
    ap escapes (take_more text i 0 h)
    ∙ escapes-append (take i text) (get_or text i 0 ∷ [])
    ∙ ap (λ r. r ++ (escaped (get_or text i 0) ++ [])) plain
    ∙ ap (λ r. take i text ++ r) (append-nil (escaped (get_or text i 0)) ∙ e)
    ∙ sym (take_more text i 0 h)

-- a text in two parts, the first of which is plain
pub plain-front : (out text : ByteString) (n : ℕ) → escapes (take n text) ≡ take n text → (out ++ take n text) ++ escapes (drop n text) ≡ out ++ escapes text
plain-front out text n plain =
    append_assoc out (take n text) (escapes (drop n text))
    ∙ ap (λ r. out ++ r) (ap (λ r. r ++ escapes (drop n text)) (sym plain) ∙ sym (escapes-append (take n text) (drop n text)) ∙ ap escapes (take-append-drop n text))
