-- The pieces of a text make UTF-8.
use Rattle.std.proofs.Common.{◌≡◌, ℕ, ◌<◌, true, false, List, [], ◌∷◌, subst, arith}
use Rattle.std.specs.Char.{IsScalar}
use Rattle.std.specs.Str.{IsUtf8}
use Rattle.std.specs.Str.Lossy.{utf8_lossy}
use Rattle.std.proofs.lemmas.Bool.Decides.{nat_tests}
use Rattle.std.proofs.lemmas.Str.{utf8_lossy-IsUtf8, IsUtf8-append, IsUtf8-nil, IsUtf8-encode, IsUtf8-from_ascii}
use Rattle.vx_value.specs.Texts.{ByteString}
use Rattle.vx_value.specs.Replacement.{IsCharacter}
use Rattle.vx_value.proofs.Characters.{code_of as codes-of}
use Rattle.vx_json.specs.Strings.{Piece, Itself, Short, Coded, Paired, IsPiece, ArePieces, piece_bytes, pieces_bytes, is_short, short_byte, is_high, is_low, code_of, paired_code, are_hex, Four}
use Rattle.vx_json.proofs.NumberValues.{ascii-cons, ascii-nil}
use Rattle.vx_json.proofs.TextTails.{hex_bound}
use Rattle.vx_json.proofs.Choices.{both_true}

character-utf8 : (c : ByteString) → IsCharacter c → IsUtf8 c
character-utf8 c h = let k = codes-of c h in subst IsUtf8 k.2 (IsUtf8-encode k.0 k.1)

short_ascii : (c : ℕ) → is_short c ≡ true → short_byte c < 128
short_ascii c h = grind (arith, nat_tests)

scalar_of : (n : ℕ) → n < 0x110000 → is_high n ≡ false → is_low n ≡ false → IsScalar n
scalar_of n h k l = grind (arith, nat_tests)

paired_scalar : (h l : ℕ) → is_high h ≡ true → is_low l ≡ true → IsScalar (paired_code h l)
paired_scalar h l a b = grind (arith, nat_tests)

pub code_small : (h : Four) → are_hex h ≡ true → code_of h < 0x10000
code_small h a =
    let k = both_true _ _ a in
    let l = both_true _ _ k.1 in
    let m = both_true _ _ l.1 in
    let p = hex_bound h.first k.0 in
    let q = hex_bound h.second l.0 in
    let r = hex_bound h.third m.0 in
    let s = hex_bound h.fourth m.1 in
    omega arith

piece-utf8 : (p : Piece) → IsPiece p → IsUtf8 (piece_bytes p)
piece-utf8 (Itself c) h = character-utf8 c h.0
piece-utf8 (Short c) h = IsUtf8-from_ascii (short_byte c ∷ []) (ascii-cons (short_byte c) [] (short_ascii c h) ascii-nil)
piece-utf8 (Coded f) h = let l = code_small f h.0 in IsUtf8-encode (code_of f) (scalar_of (code_of f) (omega arith) h.1 h.2)
piece-utf8 (Paired f g) h = IsUtf8-encode (paired_code (code_of f) (code_of g)) (paired_scalar (code_of f) (code_of g) h.2 h.3)

pub pieces-utf8 : (ps : List Piece) → ArePieces ps → IsUtf8 (pieces_bytes ps)
pieces-utf8 [] h = IsUtf8-nil
pieces-utf8 (p ∷ ps) h = IsUtf8-append _ _ (piece-utf8 p h.0) (pieces-utf8 ps h.1)

pub lossy-pieces : (ps : List Piece) → ArePieces ps → utf8_lossy (pieces_bytes ps) ≡ pieces_bytes ps
lossy-pieces ps h = utf8_lossy-IsUtf8 (pieces_bytes ps) (pieces-utf8 ps h)
