-- How the pieces of a text go on: behind a form, over bytes without `$`, and at a `$`.
use Rattle.std.proofs.Common.{◌≡◌, ◌≢◌, ℕ, ◌+◌, ◌-◌, ◌<◌, ◌≤◌, zero, suc, Option, None, Some, List, [], ◌∷◌, ◌++◌, length, drop, get_or, refl, sym, ap, ◌∙◌, inl, inr, arith, append_assoc, add-zero, if◌then◌else◌, find}
use Rattle.std.proofs.lemmas.Bool.{cases_lt}
use Rattle.std.proofs.lemmas.Bool.Decides.{eqb_tells}
use Rattle.std.proofs.lemmas.List.{append-nil, length-append, length-drop}
use Rattle.vx_value.specs.declared.variable.Variable.{Variable}
use Rattle.vx_value.specs.Texts.{ByteString}
use Rattle.vx_subst.specs.Pieces.{Piece, Plain, Placed, form_of, behind, piece_of, pieces_after}
use Rattle.vx_subst.specs.Replaced.{becomes, lacks, name_in, text_of, lacking, first_lacking}
use Rattle.vx_subst.specs.Faults.{ReportsFirst, ReportsLack}
use Rattle.vx_subst.specs.declared.subst_fault.SubstFault.{SubstFault}
use Rattle.vx_subst.specs.declared.subst_fault.SubstFault.TheVariants.{MissingVariable, WantOfMemory}

-- bytes that end the piece before are passed over
pub pieces_behind : (skip at : ℕ) (text : ByteString) → pieces_after skip at text ≡ pieces_after 0 (at + skip) (drop skip text)
unfolding pieces_after
pieces_behind zero at text = ap (λ a. pieces_after 0 a text) (sym (add-zero at))
pieces_behind (suc k) at [] = refl
pieces_behind (suc k) at (b ∷ rest) =
    let e : (at + 1) + k ≡ at + suc k = omega arith in
    pieces_behind k (at + 1) rest ∙ ap (λ a. pieces_after 0 a (drop k rest)) e

-- a place does not matter where nothing is left
pub pieces_none : (a b : ℕ) (rest : ByteString) → length rest ≡ 0 → pieces_after 0 a rest ≡ pieces_after 0 b rest
unfolding pieces_after
pieces_none a b [] h = refl
pieces_none a b (x ∷ rest) h = absurd (omega arith)

-- a byte that is no `$` stands for itself
piece_plain : (b : ℕ) (rest : ByteString) → b ≢ 36 → piece_of b rest ≡ Plain b
unfolding piece_of
piece_plain b rest ne =
    elim (eqb_tells b 36) [
      | inl t ↦ absurd (ne t.1)
      | inr t ↦ ap (λ z. if z then form_of rest else Plain b) t.0
    ]

-- the text of pieces from a place on
abbrev pub text_from : List Variable → ℕ → ByteString → ByteString
text_from environment at rest = text_of environment (pieces_after 0 at rest)

-- the first lacking variable from a place on
abbrev pub lack_from : List Variable → ℕ → ByteString → Option Placed
lack_from environment at rest = lacking environment (pieces_after 0 at rest)

-- one byte that is no `$`
text_past_byte : (environment : List Variable) (at b : ℕ) (rest : ByteString) → b ≢ 36
    → text_from environment at (b ∷ rest) ≡ b ∷ text_from environment (at + 1) rest
unfolding text_of pieces_after behind becomes
text_past_byte environment at b rest ne =
    ap (λ p. becomes environment p ++ text_of environment (pieces_after (behind p) (at + 1) rest)) (piece_plain b rest ne)

lack_past_byte : (environment : List Variable) (at b : ℕ) (rest : ByteString) → b ≢ 36
    → lack_from environment at (b ∷ rest) ≡ lack_from environment (at + 1) rest
unfolding lacking pieces_after behind lacks
lack_past_byte environment at b rest ne =
    ap (λ p. find (λ (q : Placed). lacks environment q.piece) (record { at = at; piece = p } ∷ pieces_after (behind p) (at + 1) rest))
    (piece_plain b rest ne)

-- bytes without `$` stand for themselves
pub text_past : (environment : List Variable) (at : ℕ) (before rest : ByteString)
    → ((i : ℕ) → i < length before → get_or before i 0 ≢ 36)
    → text_from environment at (before ++ rest) ≡ before ++ text_from environment (at + length before) rest
text_past environment at [] rest none = ap (λ a. text_from environment a rest) (sym (add-zero at))
text_past environment at (b ∷ before) rest none =
    let e : (at + 1) + length before ≡ at + suc (length before) = omega arith in
    text_past_byte environment at b (before ++ rest) (none 0 (omega arith))
    ∙ ap (λ t. b ∷ t) (text_past environment (at + 1) before rest (λ i lt. none (suc i) (omega arith)))
    ∙ ap (λ a. b ∷ (before ++ text_from environment a rest)) e

pub lack_past : (environment : List Variable) (at : ℕ) (before rest : ByteString)
    → ((i : ℕ) → i < length before → get_or before i 0 ≢ 36)
    → lack_from environment at (before ++ rest) ≡ lack_from environment (at + length before) rest
lack_past environment at [] rest none = ap (λ a. lack_from environment a rest) (sym (add-zero at))
lack_past environment at (b ∷ before) rest none =
    let e : (at + 1) + length before ≡ at + suc (length before) = omega arith in
    lack_past_byte environment at b (before ++ rest) (none 0 (omega arith))
    ∙ lack_past environment (at + 1) before rest (λ i lt. none (suc i) (omega arith))
    ∙ ap (λ a. lack_from environment a rest) e

-- at a `$`
pub text_at_dollar : (environment : List Variable) (at : ℕ) (after : ByteString)
    → text_from environment at (36 ∷ after)
    ≡ becomes environment (form_of after) ++ text_from environment ((at + 1) + behind (form_of after)) (drop (behind (form_of after)) after)
unfolding text_of pieces_after piece_of
text_at_dollar environment at after =
    ap (λ ps. becomes environment (form_of after) ++ text_of environment ps) (pieces_behind (behind (form_of after)) (at + 1) after)

pub lack_at_dollar : (environment : List Variable) (at : ℕ) (after : ByteString)
    → lack_from environment at (36 ∷ after)
    ≡ (if lacks environment (form_of after) then Some (record { at = at; piece = form_of after })
    else lack_from environment ((at + 1) + behind (form_of after)) (drop (behind (form_of after)) after))
unfolding lacking pieces_after piece_of
lack_at_dollar environment at after =
    ap (λ ps. find (λ (q : Placed). lacks environment q.piece) (record { at = at; piece = form_of after } ∷ ps))
    (pieces_behind (behind (form_of after)) (at + 1) after)

-- the place of what is left of a text
abbrev pub place : ByteString → ByteString → ℕ
place text rest = length text - length rest

-- the pieces behind a form begin at the place of what is left
next_place : (text after : ByteString) (at k : ℕ) → (at + 1) + length after ≡ length text
    → pieces_after 0 ((at + 1) + k) (drop k after) ≡ pieces_after 0 (place text (drop k after)) (drop k after)
next_place text after at k e =
    elim (cases_lt (length after) k) [
      | inl lt ↦ pieces_none _ _ (drop k after) (omega (arith, length-drop k after))
      | inr le ↦ ap (λ a. pieces_after 0 a (drop k after)) (omega (arith, length-drop k after))
    ]

-- the place of the `$` that stands before a rest
dollar_place : (text rest before after : ByteString) → rest ≡ before ++ (36 ∷ after) → length rest ≤ length text
    → ((place text rest + length before) + 1) + length after ≡ length text
dollar_place text rest before after e le =
    let n : length rest ≡ length before + suc (length after) = ap length e ∙ length-append before (36 ∷ after) in
    omega arith

-- one form on
pub text_step : (environment : List Variable) (text rest before after out : ByteString)
    → rest ≡ before ++ (36 ∷ after)
    → ((i : ℕ) → i < length before → get_or before i 0 ≢ 36)
    → length rest ≤ length text
    → out ++ text_from environment (place text rest) rest
    ≡ ((out ++ before) ++ becomes environment (form_of after))
    ++ text_from environment (place text (drop (behind (form_of after)) after)) (drop (behind (form_of after)) after)
text_step environment text rest before after out e none le =
    let at : ℕ = place text rest + length before in
    let k : ℕ = behind (form_of after) in
    let new : ByteString = becomes environment (form_of after) in
    let next : ByteString = drop k after in
    ap (λ r. out ++ text_from environment (place text rest) r) e
    ∙ ap (λ t. out ++ t) (text_past environment (place text rest) before (36 ∷ after) none)
    ∙ ap (λ t. out ++ (before ++ t)) (text_at_dollar environment at after)
    ∙ ap (λ ps. out ++ (before ++ (new ++ text_of environment ps))) (next_place text after at k (dollar_place text rest before after e le))
    ∙ sym (append_assoc (out ++ before) new (text_from environment (place text next) next)
    ∙ append_assoc out before (new ++ text_from environment (place text next) next))

pub lack_step : (environment : List Variable) (text rest before after : ByteString) (at : ℕ)
    → rest ≡ before ++ (36 ∷ after)
    → ((i : ℕ) → i < length before → get_or before i 0 ≢ 36)
    → length rest ≤ length text
    → at ≡ length text - length after - 1
    → lack_from environment (place text rest) rest
    ≡ (if lacks environment (form_of after) then Some (record { at = at; piece = form_of after })
    else lack_from environment (place text (drop (behind (form_of after)) after)) (drop (behind (form_of after)) after))
lack_step environment text rest before after at e none le is =
    let here : ℕ = place text rest + length before in
    let k : ℕ = behind (form_of after) in
    let same : here ≡ at = omega (arith, dollar_place text rest before after e le) in
    ap (λ r. lack_from environment (place text rest) r) e
    ∙ lack_past environment (place text rest) before (36 ∷ after) none
    ∙ lack_at_dollar environment here after
    ∙ ap (λ ps. if lacks environment (form_of after) then Some (record { at = here; piece = form_of after }) else lacking environment ps)
    (next_place text after here k (dollar_place text rest before after e le))
    ∙ ap (λ (a : ℕ). if lacks environment (form_of after) then Some (record { at = a; piece = form_of after })
    else lack_from environment (place text (drop k after)) (drop k after)) same

-- no form is left
text_nil : (environment : List Variable) (at : ℕ) → text_from environment at [] ≡ []
unfolding text_of pieces_after
text_nil environment at = refl

lack_nil : (environment : List Variable) (at : ℕ) → lack_from environment at [] ≡ None
unfolding lacking pieces_after
lack_nil environment at = refl

pub text_end : (environment : List Variable) (at : ℕ) (rest : ByteString)
    → ((i : ℕ) → i < length rest → get_or rest i 0 ≢ 36) → text_from environment at rest ≡ rest
text_end environment at rest none =
    ap (λ r. text_from environment at r) (sym (append-nil rest))
    ∙ text_past environment at rest [] none
    ∙ ap (λ t. rest ++ t) (text_nil environment (at + length rest))
    ∙ append-nil rest

pub lack_end : (environment : List Variable) (at : ℕ) (rest : ByteString)
    → ((i : ℕ) → i < length rest → get_or rest i 0 ≢ 36) → lack_from environment at rest ≡ None
lack_end environment at rest none =
    ap (λ r. lack_from environment at r) (sym (append-nil rest))
    ∙ lack_past environment at rest [] none
    ∙ lack_nil environment (at + length rest)

-- where a form lacks a variable, and none before it does, the text's first lack is there
pub reports_first : (environment : List Variable) (text : ByteString) (piece : Piece) (at : ℕ) (rest : Option Placed) (fault : SubstFault)
    → first_lacking environment text ≡ (if lacks environment piece then Some (record { at = at; piece = piece }) else rest)
    → ReportsLack (lacks environment piece) (name_in piece) at fault
    → ReportsFirst environment text fault
reports_first environment text piece at rest (MissingVariable observed place) e t = (
  record { at = at; piece = piece },
  e ∙ ap (λ z. if z then Some (record { at = at; piece = piece }) else rest) t.0,
  t.1,
  t.2,
)
reports_first environment text piece at rest WantOfMemory e t = tt
