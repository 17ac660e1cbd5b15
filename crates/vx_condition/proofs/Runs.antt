-- How a reader goes over the tokens of a condition.
use Rattle.std.proofs.Common.{◌≡◌, ℕ, Bool, true, false, cond, ◌==◌, ◌||◌, Option, Some, None, Result, Ok, Err, List, [], ◌∷◌, ◌++◌, refl, sym, ◌∙◌, ap, append_assoc, append-nil, inl, inr}
use Rattle.std.specs.List.{list_all, list_any}
use Rattle.std.proofs.lemmas.Bool.{and_parts, cases_Bool}
use Rattle.vx_value.specs.Texts.{ByteString}
use Rattle.vx_condition.specs.Grammar.{is_blank, quoted, escaped, before_rest}
use Rattle.vx_condition.specs.Moves.{at, step, expected, behind_text, with_escape, sought}
use Rattle.vx_condition.specs.Runs.{go_on, run}
use Rattle.vx_condition.specs.declared.expected.Expected.{Expected}
use Rattle.vx_condition.specs.declared.expected.Expected.TheVariants as wants
use Rattle.vx_condition.specs.declared.mode.TextUse.{TextUse}
use Rattle.vx_condition.specs.declared.mode.Mode.TheVariants as mode
use Rattle.vx_condition.specs.declared.reader.Reader.{Reader}
use Rattle.vx_condition.specs.declared.stop.Stop.{Stop}

-- where a test holds, or doesn't
pub chosen : (t : Bool) (x y : Result Reader Stop) (f : Reader → Result Reader Stop) → t ≡ true → go_on (cond t x y) f ≡ go_on x f
chosen true x y f h = refl
chosen false x y f h = absurd (cc)

pub other : (t : Bool) (x y : Result Reader Stop) (f : Reader → Result Reader Stop) → t ≡ false → go_on (cond t x y) f ≡ go_on y f
other true x y f h = absurd (cc)
other false x y f h = refl

-- one text after another
pub run-append : (most : ℕ) (r : Reader) (text more : ByteString) → run most r (text ++ more) ≡ go_on (run most r text) (λ next. run most next more)
run-append most r [] more = refl
run-append most r (b ∷ text) more = stepped (step most r b) (λ next. run most next (text ++ more)) (λ next. run most next text) (λ next. run most next more) (λ next. run-append most next text more)
  where
    stepped : (s : Result Reader Stop) (all first rest : Reader → Result Reader Stop) → ((next : Reader) → all next ≡ go_on (first next) rest) → go_on s all ≡ go_on (go_on s first) rest
    stepped (Ok next) all first rest same = same next
    stepped (Err stop) all first rest same = refl

-- blanks, where something is expected
pub over_blanks : (most : ℕ) (r : Reader) (e : Expected) (blanks text : ByteString) → list_all is_blank blanks ≡ true
    → run most (at r (mode.Expects e)) (blanks ++ text) ≡ run most (at r (mode.Expects e)) text
over_blanks most r e [] text h = refl
over_blanks most r e (b ∷ blanks) text h =
    let both = and_parts (is_blank b) (list_all is_blank blanks) h in
    chosen (is_blank b) (Ok (at r (mode.Expects e))) (expected most (at r (mode.Expects e)) e b) (λ next. run most next (blanks ++ text)) both.0
    ∙ over_blanks most r e blanks text both.1

-- a text in quotes, behind the first quote
-- an option that a test chooses
on_true : {X : Type 0} (t : Bool) (x y z : X) → t ≡ true → cond t x y ≡ z → x ≡ z
on_true true x y z h e = e
on_true false x y z h e = absurd (cc)

on_false : {X : Type 0} (t : Bool) (x y z : X) → t ≡ false → cond t x y ≡ z → y ≡ z
on_false true x y z h e = absurd (cc)
on_false false x y z h e = e

record Before (o : Option ℕ) (rest : Option ByteString) (word : ByteString) : Type 0 where
  first : ℕ
  more : ByteString
  is_first : o ≡ Some first
  is_more : rest ≡ Some more
  whole : first ∷ more ≡ word

before_some : (o : Option ℕ) (rest : Option ByteString) (word : ByteString) → before_rest o rest ≡ Some word → Before o rest word
before_some (Some b) (Some more) word h = record { first = b; more = more; is_first = refl; is_more = refl; whole = cc }
before_some (Some b) None word h = absurd (cc)
before_some None (Some more) word h = absurd (cc)
before_some None None word h = absurd (cc)

over_escape : (r : Reader) (use_of : TextUse) (held : ByteString) (o : Option ℕ) (e : ℕ) (f : Reader → Result Reader Stop) → o ≡ Some e
    → go_on (with_escape r use_of held o) f ≡ f (at r (mode.Text use_of false (held ++ e ∷ [])))
over_escape r use_of held None e f h = absurd (cc)
over_escape r use_of held (Some x) e f h = let same : x ≡ e = cc in ap (λ y. f (at r (mode.Text use_of false (held ++ y ∷ [])))) same

longer : (most : ℕ) (r : Reader) (use_of : TextUse) (held : ByteString) (b : ℕ) (found word more : ByteString) → b ∷ found ≡ word
    → run most (behind_text r use_of ((held ++ b ∷ []) ++ found)) more ≡ run most (behind_text r use_of (held ++ word)) more
longer most r use_of held b found word more h =
    ap (λ w. run most (behind_text r use_of w) more) (append_assoc held (b ∷ []) found ∙ ap (λ w. held ++ w) h)

-- a text in quotes, behind the first quote
pub over_text : (most : ℕ) (r : Reader) (use_of : TextUse) (held text word more : ByteString) → quoted text ≡ Some word
    → run most (at r (mode.Text use_of false held)) (text ++ more) ≡ run most (behind_text r use_of (held ++ word)) more
over_text most r use_of held [] word more h = absurd (cc)
over_text most r use_of held (b ∷ []) word more h =
    elim (cases_Bool (b == 34)) [
      | inl yes_ ↦
          let none : Some [] ≡ Some word = on_true (b == 34) (Some []) None (Some word) yes_ h in
          let empty : [] ≡ word = cc in
          chosen (b == 34) (Ok (behind_text r use_of held)) (cond (b == 92) (Ok (at r (mode.Text use_of true held))) (Ok (at r (mode.Text use_of false (held ++ b ∷ []))))) (λ next. run most next more) yes_
          ∙ ap (λ w. run most (behind_text r use_of w) more) (sym (append-nil held) ∙ ap (λ w. held ++ w) empty)
      | inr no_ ↦ let none : None ≡ Some word = on_false (b == 34) (Some []) None (Some word) no_ h in absurd (cc)
    ]
over_text most r use_of held (b ∷ c ∷ rest) word more h =
    elim (cases_Bool (b == 34)) [
      | inl yes_ ↦ let none : None ≡ Some word = on_true (b == 34) None (cond (b == 92) (before_rest (escaped c) (quoted rest)) (before_rest (Some b) (quoted (c ∷ rest)))) (Some word) yes_ h in absurd (cc)
      | inr no_ ↦
          let inside : cond (b == 92) (before_rest (escaped c) (quoted rest)) (before_rest (Some b) (quoted (c ∷ rest))) ≡ Some word = on_false (b == 34) None (cond (b == 92) (before_rest (escaped c) (quoted rest)) (before_rest (Some b) (quoted (c ∷ rest)))) (Some word) no_ h in
          let here : run most (at r (mode.Text use_of false held)) (b ∷ c ∷ (rest ++ more)) ≡ go_on (cond (b == 92) (Ok (at r (mode.Text use_of true held))) (Ok (at r (mode.Text use_of false (held ++ b ∷ []))))) (λ next. run most next (c ∷ (rest ++ more)))
          = other (b == 34) (Ok (behind_text r use_of held)) (cond (b == 92) (Ok (at r (mode.Text use_of true held))) (Ok (at r (mode.Text use_of false (held ++ b ∷ []))))) (λ next. run most next (c ∷ (rest ++ more))) no_ in
          elim (cases_Bool (b == 92)) [
            | inl back ↦
                let parts = before_some (escaped c) (quoted rest) word (on_true (b == 92) (before_rest (escaped c) (quoted rest)) (before_rest (Some b) (quoted (c ∷ rest))) (Some word) back inside) in
                here
                ∙ chosen (b == 92) (Ok (at r (mode.Text use_of true held))) (Ok (at r (mode.Text use_of false (held ++ b ∷ [])))) (λ next. run most next (c ∷ (rest ++ more))) back
                ∙ over_escape (at r (mode.Text use_of true held)) use_of held (escaped c) parts.first (λ next. run most next (rest ++ more)) parts.is_first
                ∙ over_text most r use_of (held ++ parts.first ∷ []) rest parts.more more parts.is_more
                ∙ longer most r use_of held parts.first parts.more word more parts.whole
            | inr plain ↦
                let parts = before_some (Some b) (quoted (c ∷ rest)) word (on_false (b == 92) (before_rest (escaped c) (quoted rest)) (before_rest (Some b) (quoted (c ∷ rest))) (Some word) plain inside) in
                let same : b ≡ parts.first = cc in
                here
                ∙ other (b == 92) (Ok (at r (mode.Text use_of true held))) (Ok (at r (mode.Text use_of false (held ++ b ∷ [])))) (λ next. run most next (c ∷ (rest ++ more))) plain
                ∙ over_text most r use_of (held ++ b ∷ []) (c ∷ rest) parts.more more parts.is_more
                ∙ longer most r use_of held b parts.more word more (ap (λ x. x ∷ parts.more) same ∙ parts.whole)
          ]
    ]

-- a pattern, behind its first quote
pub over_pattern : (most : ℕ) (r : Reader) (path : List ByteString) (held pattern more : ByteString) → list_any (λ b. b == 39) pattern ≡ false
    → run most (at r (mode.Pattern path held)) (pattern ++ (39 ∷ more)) ≡ run most (at r (mode.Expects (wants.Close (sought r.keeps path (held ++ pattern))))) more
over_pattern most r path held [] more h = ap (λ p. run most (at r (mode.Expects (wants.Close (sought r.keeps path p)))) more) (sym (append-nil held))
over_pattern most r path held (b ∷ pattern) more h =
    let parts = or_false (b == 39) (list_any (λ c. c == 39) pattern) h in
    other (b == 39) (Ok (at r (mode.Expects (wants.Close (sought r.keeps path held))))) (Ok (at r (mode.Pattern path (held ++ b ∷ [])))) (λ next. run most next (pattern ++ (39 ∷ more))) parts.0
    ∙ over_pattern most r path (held ++ b ∷ []) pattern more parts.1
    ∙ ap (λ p. run most (at r (mode.Expects (wants.Close (sought r.keeps path p)))) more) (append_assoc held (b ∷ []) pattern)
  where
    or_false : (x y : Bool) → (x || y) ≡ false → (x ≡ false) × (y ≡ false)
    or_false true y e = absurd (cc)
    or_false false y e = (refl, e)
