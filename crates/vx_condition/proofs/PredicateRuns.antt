-- How a reader goes over a predicate.
use Rattle.std.proofs.Common.{◌≡◌, ℕ, ◌≤◌, Bool, true, false, not, ◌==◌, ◌||◌, Some, Result, Ok, ℤ, pos, negsuc, List, [], ◌∷◌, ◌++◌, length, codes, refl, sym, ◌∙◌, ap, append_assoc, eqb-true, ne_eqb, inl, inr}
use Rattle.std.specs.List.{list_all, list_any}
use Rattle.std.proofs.lemmas.Bool.{and_parts, or_cases}
use Rattle.vx_value.specs.Texts.{ByteString}
use Rattle.vx_value.specs.Paths.{path_names}
use Rattle.vx_condition.specs.Grammar.{Then, Is, is_blank, is_digit, IsPathText, IsString, IsWhole, IsPatternText, IsLiteralText, IsPredicateText, Arguments, Call, sign_of}
use Rattle.vx_condition.specs.Moves.{at, behind_blanks, stated, equal_to, behind_path, sought, or_equal}
use Rattle.vx_condition.specs.Runs.{go_on, run, out, settled, kept}
use Rattle.vx_condition.specs.declared.comparison.Comparison.{Comparison}
use Rattle.vx_condition.specs.declared.comparison.Comparison.TheVariants.{Less, AtMost, Greater, AtLeast}
use Rattle.vx_condition.specs.declared.literal.Literal.{Literal}
use Rattle.vx_condition.specs.declared.literal.Literal.TheVariants as literal
use Rattle.vx_condition.specs.declared.operator.Operator.TheVariants.{Is as Equals_, Compared as Compares}
use Rattle.vx_condition.specs.declared.operator.Equality.{Equality}
use Rattle.vx_condition.specs.declared.operator.Equality.TheVariants as equality
use Rattle.vx_condition.specs.declared.call.Call.TheVariants as call
use Rattle.vx_condition.specs.declared.call.Search.{Search}
use Rattle.vx_condition.specs.declared.call.Search.TheVariants as search_for
use Rattle.vx_value.specs.declared.path_mode.PathMode.TheVariants.{Name}
use Rattle.vx_condition.specs.declared.predicate.Predicate.{Predicate}
use Rattle.vx_condition.specs.declared.predicate.Predicate.TheVariants.{Equal, Different, Compared, Exists, Contains, Matches}
use Rattle.vx_condition.specs.declared.expected.Expected.{Expected}
use Rattle.vx_condition.specs.declared.expected.Expected.TheVariants as wants
use Rattle.vx_condition.specs.declared.mode.PathUse.{PathUse}
use Rattle.vx_condition.specs.declared.mode.PathUse.TheVariants as path_of
use Rattle.vx_condition.specs.declared.mode.TextUse.TheVariants as text_of
use Rattle.vx_condition.specs.declared.mode.Mode.TheVariants as mode
use Rattle.vx_condition.specs.declared.reader.Reader.{Reader}
use Rattle.vx_condition.specs.declared.stop.Stop.{Stop}
use Rattle.vx_condition.proofs.Runs.{other, over_blanks, over_text, over_pattern}
use Rattle.vx_condition.proofs.PathRuns.{ends_a_path, over_path, placeless}
use Rattle.vx_condition.proofs.NumberRuns.{may_follow, over_whole}

-- a text in three, and more behind it
pub regroup : (text front blanks back more : ByteString) → text ≡ front ++ (blanks ++ back) → text ++ more ≡ front ++ (blanks ++ (back ++ more))
regroup text front blanks back more e =
    ap (λ t. t ++ more) e ∙ append_assoc front (blanks ++ back) more ∙ ap (λ t. front ++ t) (append_assoc blanks back more)

-- a fixed token, and what follows it
pub then_token : (most : ℕ) (r : Reader) (e next : Expected) (token : ByteString) (More : ByteString → Type 0) (text more : ByteString) (end_ : Result Reader Stop)
    → ((rest : ByteString) → run most (at r (mode.Expects e)) (token ++ rest) ≡ run most (at r (mode.Expects next)) rest)
    → Then (Is token) More text
    → ((back : ByteString) → More back → out most (at r (mode.Expects next)) (back ++ more) ≡ end_)
    → out most (at r (mode.Expects e)) (text ++ more) ≡ end_
then_token most r e next token More text more end_ moves t goes =
    ap (λ w. out most (at r (mode.Expects e)) w) (regroup text t.front t.blanks t.back more t.whole ∙ ap (λ w. w ++ (t.blanks ++ (t.back ++ more))) t.first)
    ∙ ap settled (moves (t.blanks ++ (t.back ++ more)) ∙ over_blanks most r next t.blanks (t.back ++ more) t.blank)
    ∙ goes t.back t.more

-- blanks end a path
blank_ends : (b : ℕ) → is_blank b ≡ true → ends_a_path b ≡ true
blank_ends b h =
    elim (or_cases ((b == 9) || (b == 10) || (b == 13)) (b == 32) h) [
      | inl x ↦ elim (or_cases ((b == 9) || (b == 10)) (b == 13) x) [
        | inl y ↦ elim (or_cases (b == 9) (b == 10) y) [
          | inl z ↦ ap ends_a_path (eqb-true b 9 z)
          | inr z ↦ ap ends_a_path (eqb-true b 10 z)
        ]
        | inr y ↦ ap ends_a_path (eqb-true b 13 y)
      ]
      | inr x ↦ ap ends_a_path (eqb-true b 32 x)
    ]

-- a text begins with a byte that ends a path
pub record Heads (text : ByteString) : Type 0 where
  pub head : ℕ
  pub tail : ByteString
  pub whole : text ≡ head ∷ tail
  pub stops : ends_a_path head ≡ true

pub heads_token : (k : ℕ) (token : ByteString) (More : ByteString → Type 0) (text : ByteString) → ends_a_path k ≡ true → Then (Is (k ∷ token)) More text → Heads text
heads_token k token More text stops t =
    record { head = k; tail = token ++ (t.blanks ++ t.back); whole = t.whole ∙ ap (λ w. w ++ (t.blanks ++ t.back)) t.first; stops = stops }

path_blanks : (most : ℕ) (r : Reader) (use_of : PathUse) (p : List ByteString) (rest blanks : ByteString) (k : ℕ) (tail : ByteString) → path_names (46 ∷ rest) ≡ Some p → length p ≤ 31
    → list_all is_blank blanks ≡ true → ends_a_path k ≡ true
    → run most (at r (mode.Path use_of Name [] [])) (rest ++ (blanks ++ (k ∷ tail))) ≡ run most (at r (mode.Expects (behind_path use_of p))) (k ∷ tail)
path_blanks most r use_of p rest [] k tail named few h stops = over_path most r use_of rest k tail stops Name [] [] p named few
path_blanks most r use_of p rest (b ∷ blanks) k tail named few h stops =
    let both = and_parts (is_blank b) (list_all is_blank blanks) h in
    over_path most r use_of rest b (blanks ++ (k ∷ tail)) (blank_ends b both.0) Name [] [] p named few
    ∙ over_blanks most r (behind_path use_of p) (b ∷ blanks) (k ∷ tail) h

-- a path, and what follows it
pub then_path : (most : ℕ) (r : Reader) (e : Expected) (use_of : PathUse) (p : List ByteString) (More : ByteString → Type 0) (text more : ByteString) (end_ : Result Reader Stop)
    → ((rest : ByteString) → run most (at r (mode.Expects e)) (46 ∷ rest) ≡ run most (at r (mode.Path use_of Name [] [])) rest)
    → ((back : ByteString) → More back → Heads back)
    → Then (IsPathText p) More text
    → ((back : ByteString) → More back → out most (at r (mode.Expects (behind_path use_of p))) (back ++ more) ≡ end_)
    → out most (at r (mode.Expects e)) (text ++ more) ≡ end_
then_path most r e use_of p More text more end_ dots heads t goes =
    let h = heads t.back t.more in
    let named : path_names (46 ∷ t.first.rest) ≡ Some p = sym (ap path_names t.first.dot) ∙ t.first.names in
    ap (λ w. out most (at r (mode.Expects e)) w)
    (regroup text t.front t.blanks t.back more t.whole ∙ ap (λ w. w ++ (t.blanks ++ (t.back ++ more))) t.first.dot ∙ ap (λ w. 46 ∷ (t.first.rest ++ (t.blanks ++ (w ++ more)))) h.whole)
    ∙ ap settled (dots (t.first.rest ++ (t.blanks ++ (h.head ∷ (h.tail ++ more))))
    ∙ path_blanks most r use_of p t.first.rest t.blanks h.head (h.tail ++ more) named t.first.few t.blank h.stops)
    ∙ ap (λ w. out most (at r (mode.Expects (behind_path use_of p))) (w ++ more)) (sym h.whole)
    ∙ goes t.back t.more

-- a literal
over_literal : (most : ℕ) (r : Reader) (p : List ByteString) (e : Equality) (l : Literal) (text more : ByteString) → IsLiteralText l text → may_follow more ≡ true
    → out most (at r (mode.Expects (wants.Literal p (Equals_ e)))) (text ++ more) ≡ out most (stated r (equal_to p e l)) more
over_literal most r p e literal.Null text more is h = ap (λ t. out most (at r (mode.Expects (wants.Literal p (Equals_ e)))) (t ++ more)) is
over_literal most r p e (literal.Truth true) text more is h = ap (λ t. out most (at r (mode.Expects (wants.Literal p (Equals_ e)))) (t ++ more)) is
over_literal most r p e (literal.Truth false) text more is h = ap (λ t. out most (at r (mode.Expects (wants.Literal p (Equals_ e)))) (t ++ more)) is
over_literal most r p e (literal.Whole z) text more is h = over_whole most r p (Equals_ e) z text more is h
over_literal most r p e (literal.Words w) text more is h =
    ap (λ t. out most (at r (mode.Expects (wants.Literal p (Equals_ e)))) (t ++ more)) is.opened
    ∙ ap settled (over_text most r (text_of.Literal p e) [] is.rest w more is.held)

-- a closing bracket of a call
over_close : (most : ℕ) (r : Reader) (x : Predicate) (text more : ByteString) → text ≡ codes ")" → out most (at r (mode.Expects (wants.Close x))) (text ++ more) ≡ out most (stated r x) more
over_close most r x text more is = ap (λ t. out most (at r (mode.Expects (wants.Close x))) (t ++ more)) is

heads_close : (text : ByteString) → text ≡ codes ")" → Heads text
heads_close text is = record { head = 41; tail = []; whole = is; stops = refl }

-- what is looked for, and the closing bracket
over_part : (most : ℕ) (r : Reader) (p : List ByteString) (w text more : ByteString) → Then (IsString w) (Is (codes ")")) text
    → out most (at r (mode.Expects (wants.Argument search_for.Part p))) (text ++ more) ≡ out most (stated r (Contains p w)) more
over_part most r p w text more t =
    ap (λ u. out most (at r (mode.Expects (wants.Argument search_for.Part p))) u)
    (regroup text t.front t.blanks t.back more t.whole ∙ ap (λ u. u ++ (t.blanks ++ (t.back ++ more))) t.first.opened)
    ∙ ap settled (over_text most r (text_of.Part p) [] t.first.rest w (t.blanks ++ (t.back ++ more)) t.first.held
    ∙ over_blanks most r (wants.Close (Contains p w)) t.blanks (t.back ++ more) t.blank)
    ∙ over_close most r (Contains p w) t.back more t.more

not_so : (t : Bool) → not t ≡ true → t ≡ false
not_so true h = absurd (cc)
not_so false h = refl

over_sought : (most : ℕ) (r : Reader) (p : List ByteString) (q text more : ByteString) → Then (IsPatternText q) (Is (codes ")")) text
    → out most (at r (mode.Expects (wants.Argument search_for.Pattern p))) (text ++ more) ≡ out most (stated r (sought r.keeps p q)) more
over_sought most r p q text more t =
    ap (λ u. out most (at r (mode.Expects (wants.Argument search_for.Pattern p))) u)
    (regroup text t.front t.blanks t.back more t.whole ∙ ap (λ u. u ++ (t.blanks ++ (t.back ++ more))) t.first.written
    ∙ ap (λ u. 114 ∷ 39 ∷ u) (append_assoc q (39 ∷ []) (t.blanks ++ (t.back ++ more))))
    ∙ ap settled (over_pattern most r p [] q (t.blanks ++ (t.back ++ more)) (not_so (list_any (λ b. b == 39) q) t.first.bare)
    ∙ over_blanks most r (wants.Close (sought r.keeps p q)) t.blanks (t.back ++ more) t.blank)
    ∙ over_close most r (sought r.keeps p q) t.back more t.more

-- a bracket, a path, a comma, what is looked for, and a bracket
over_arguments : (most : ℕ) (r : Reader) (s : Search) (p : List ByteString) (Last : ByteString → Type 0) (text more : ByteString) (end_ : Result Reader Stop) (e : Expected)
    → ((rest : ByteString) → run most (at r (mode.Expects e)) (codes "(" ++ rest) ≡ run most (at r (mode.Expects (wants.Path (call.Has s)))) rest)
    → Arguments (IsPathText p) Last text
    → ((back : ByteString) → Then Last (Is (codes ")")) back → out most (at r (mode.Expects (wants.Argument s p))) (back ++ more) ≡ end_)
    → out most (at r (mode.Expects e)) (text ++ more) ≡ end_
over_arguments most r s p Last text more end_ e opens t goes =
    then_token most r e (wants.Path (call.Has s)) (codes "(") (Then (IsPathText p) (Then (Is (codes ",")) (Then Last (Is (codes ")"))))) text more end_ opens t
    (λ back u. then_path most r (wants.Path (call.Has s)) (path_of.Called (call.Has s)) p (Then (Is (codes ",")) (Then Last (Is (codes ")")))) back more end_ (λ rest. refl)
    (λ w v. heads_token 44 [] (Then Last (Is (codes ")"))) w refl v) u
    (λ w v. then_token most r (wants.Comma s p) (wants.Argument s p) (codes ",") (Then Last (Is (codes ")"))) w more end_ (λ rest. refl) v goes))

-- a call, with a `!` behind its name or without
over_call : (most : ℕ) (r : Reader) (s : Search) (p : List ByteString) (name : ByteString) (Last : ByteString → Type 0) (text more : ByteString) (end_ : Result Reader Stop)
    → ((rest : ByteString) → run most (at r (mode.Expects wants.Operand)) (name ++ rest) ≡ run most (at r (mode.Expects (wants.Open (call.Has s)))) rest)
    → Call name (Arguments (IsPathText p) Last) text
    → ((back : ByteString) → Then Last (Is (codes ")")) back → out most (at r (mode.Expects (wants.Argument s p))) (back ++ more) ≡ end_)
    → out most (at r (mode.Expects wants.Operand)) (text ++ more) ≡ end_
over_call most r s p name Last text more end_ moves (inl t) goes =
    then_token most r wants.Operand (wants.Open (call.Has s)) name (Arguments (IsPathText p) Last) text more end_ moves t
    (λ back u. over_arguments most r s p Last back more end_ (wants.Open (call.Has s)) (λ rest. refl) u goes)
over_call most r s p name Last text more end_ moves (inr t) goes =
    then_token most r wants.Operand (wants.Open (call.Has s)) name (Then (Is (codes "!")) (Arguments (IsPathText p) Last)) text more end_ moves t
    (λ back u. then_token most r (wants.Open (call.Has s)) (wants.Bracket (call.Has s)) (codes "!") (Arguments (IsPathText p) Last) back more end_ (λ rest. refl) u
    (λ w v. over_arguments most r s p Last w more end_ (wants.Bracket (call.Has s)) (λ rest. refl) v goes))

-- a whole number doesn't begin with `=`
whole_head : (z : ℤ) (text more : ByteString) → IsWhole z text → (head : ℕ) × (tail : ByteString) × (text ++ more ≡ head ∷ tail) × ((head == 61) ≡ false)
whole_head (pos n) [] more is = absurd (cc (is.0.plain))
whole_head (pos n) (b ∷ text) more is =
    let low = and_parts (is_digit b) (list_all is_digit text) is.0.digits in
    (b, text ++ more, refl, ne_eqb b 61 (λ e. no_digit b low.0 e))
  where
    no_digit : (b : ℕ) → is_digit b ≡ true → b ≡ 61 → ⊥
    no_digit b d e = let never : is_digit 61 ≡ true = sym (ap is_digit e) ∙ d in cc
whole_head (negsuc n) text more is = (45, is.0.rest ++ more, ap (λ t. t ++ more) is.0.sign, refl)

blank_no_equal : (b : ℕ) → is_blank b ≡ true → (b == 61) ≡ false
blank_no_equal b h = ne_eqb b 61 (λ e. let never : is_blank 61 ≡ true = sym (ap is_blank e) ∙ h in cc)

-- behind `<` or `>`
behind_angle : (most : ℕ) (r : Reader) (p : List ByteString) (c : Comparison) (head : ℕ) (tail : ByteString) → (head == 61) ≡ false
    → run most (at r (mode.Angle p c)) (head ∷ tail) ≡ run most (at r (mode.Expects (wants.Literal p (Compares c)))) (head ∷ tail)
behind_angle most r p c head tail h =
    other (head == 61) (Ok (at r (mode.Expects (wants.Literal p (Compares (or_equal c)))))) (behind_blanks most (at r (mode.Angle p c)) (wants.Literal p (Compares c)) head) (λ n. run most n tail) h
    ∙ ap (λ v. go_on v (λ n. run most n tail)) (placeless most r (mode.Angle p c) (mode.Expects (wants.Literal p (Compares c))) (wants.Literal p (Compares c)) head)

over_angle : (most : ℕ) (r : Reader) (p : List ByteString) (c : Comparison) (z : ℤ) (blanks back more : ByteString) → list_all is_blank blanks ≡ true → IsWhole z back → may_follow more ≡ true
    → out most (at r (mode.Angle p c)) (blanks ++ (back ++ more)) ≡ out most (stated r (Compared p c z)) more
over_angle most r p c z [] back more h is follows =
    let first = whole_head z back more is in
    ap (out most (at r (mode.Angle p c))) first.2
    ∙ ap settled (behind_angle most r p c first.0 first.1 first.3)
    ∙ ap (out most (at r (mode.Expects (wants.Literal p (Compares c))))) (sym first.2)
    ∙ over_whole most r p (Compares c) z back more is follows
over_angle most r p c z (b ∷ blanks) back more h is follows =
    let both = and_parts (is_blank b) (list_all is_blank blanks) h in
    ap settled (behind_angle most r p c b (blanks ++ (back ++ more)) (blank_no_equal b both.0) ∙ over_blanks most r (wants.Literal p (Compares c)) (b ∷ blanks) (back ++ more) h)
    ∙ over_whole most r p (Compares c) z back more is follows

-- the sign of a comparison, and the number behind it
over_sign : (most : ℕ) (r : Reader) (p : List ByteString) (c : Comparison) (z : ℤ) (text more : ByteString) → Then (Is (sign_of c)) (IsWhole z) text → may_follow more ≡ true
    → out most (at r (mode.Expects (wants.Operator p))) (text ++ more) ≡ out most (stated r (Compared p c z)) more
over_sign most r p Less z text more t h =
    ap (λ w. out most (at r (mode.Expects (wants.Operator p))) w) (regroup text t.front t.blanks t.back more t.whole ∙ ap (λ w. w ++ (t.blanks ++ (t.back ++ more))) t.first)
    ∙ over_angle most r p Less z t.blanks t.back more t.blank t.more h
over_sign most r p Greater z text more t h =
    ap (λ w. out most (at r (mode.Expects (wants.Operator p))) w) (regroup text t.front t.blanks t.back more t.whole ∙ ap (λ w. w ++ (t.blanks ++ (t.back ++ more))) t.first)
    ∙ over_angle most r p Greater z t.blanks t.back more t.blank t.more h
over_sign most r p AtMost z text more t h =
    then_token most r (wants.Operator p) (wants.Literal p (Compares AtMost)) (codes "<=") (IsWhole z) text more (out most (stated r (Compared p AtMost z)) more) (λ rest. refl) t
    (λ back is. over_whole most r p (Compares AtMost) z back more is h)
over_sign most r p AtLeast z text more t h =
    then_token most r (wants.Operator p) (wants.Literal p (Compares AtLeast)) (codes ">=") (IsWhole z) text more (out most (stated r (Compared p AtLeast z)) more) (λ rest. refl) t
    (λ back is. over_whole most r p (Compares AtLeast) z back more is h)

heads_sign : (p : List ByteString) (c : Comparison) (z : ℤ) (text : ByteString) → Then (Is (sign_of c)) (IsWhole z) text → Heads text
heads_sign p Less z text t = heads_token 60 [] (IsWhole z) text refl t
heads_sign p AtMost z text t = heads_token 60 (codes "=") (IsWhole z) text refl t
heads_sign p Greater z text t = heads_token 62 [] (IsWhole z) text refl t
heads_sign p AtLeast z text t = heads_token 62 (codes "=") (IsWhole z) text refl t

-- a predicate
pub over_predicate : (most : ℕ) (r : Reader) (x : Predicate) (text more : ByteString) → IsPredicateText x text → may_follow more ≡ true
    → out most (at r (mode.Expects wants.Operand)) (text ++ more) ≡ out most (stated r (kept r.keeps x)) more
over_predicate most r (Equal p l) text more t h =
    then_path most r wants.Operand path_of.Compared p (Then (Is (codes "==")) (IsLiteralText l)) text more (out most (stated r (Equal p l)) more) (λ rest. refl)
    (λ w v. heads_token 61 (codes "=") (IsLiteralText l) w refl v) t
    (λ back u. then_token most r (wants.Operator p) (wants.Literal p (Equals_ equality.Equal)) (codes "==") (IsLiteralText l) back more (out most (stated r (Equal p l)) more) (λ rest. refl) u
    (λ w is. over_literal most r p equality.Equal l w more is h))
over_predicate most r (Different p l) text more t h =
    then_path most r wants.Operand path_of.Compared p (Then (Is (codes "!=")) (IsLiteralText l)) text more (out most (stated r (Different p l)) more) (λ rest. refl)
    (λ w v. heads_token 33 (codes "=") (IsLiteralText l) w refl v) t
    (λ back u. then_token most r (wants.Operator p) (wants.Literal p (Equals_ equality.Different)) (codes "!=") (IsLiteralText l) back more (out most (stated r (Different p l)) more) (λ rest. refl) u
    (λ w is. over_literal most r p equality.Different l w more is h))
over_predicate most r (Compared p c z) text more t h =
    then_path most r wants.Operand path_of.Compared p (Then (Is (sign_of c)) (IsWhole z)) text more (out most (stated r (Compared p c z)) more) (λ rest. refl)
    (λ w v. heads_sign p c z w v) t (λ back u. over_sign most r p c z back more u h)
over_predicate most r (Exists p) text more t h =
    then_token most r wants.Operand (wants.Open call.Exists) (codes "exists") (Then (Is (codes "(")) (Then (IsPathText p) (Is (codes ")")))) text more (out most (stated r (Exists p)) more) (λ rest. refl) t
    (λ back u. then_token most r (wants.Open call.Exists) (wants.Path call.Exists) (codes "(") (Then (IsPathText p) (Is (codes ")"))) back more (out most (stated r (Exists p)) more) (λ rest. refl) u
    (λ w v. then_path most r (wants.Path call.Exists) (path_of.Called call.Exists) p (Is (codes ")")) w more (out most (stated r (Exists p)) more) (λ rest. refl) heads_close v
    (λ w2 is. over_close most r (Exists p) w2 more is)))
over_predicate most r (Contains p w) text more t h =
    over_call most r search_for.Part p (codes "contains") (IsString w) text more (out most (stated r (Contains p w)) more) (λ rest. refl) t (λ back u. over_part most r p w back more u)
over_predicate most r (Matches p q) text more t h =
    over_call most r search_for.Pattern p (codes "match") (IsPatternText q) text more (out most (stated r (sought r.keeps p q)) more) (λ rest. refl) t (λ back u. over_sought most r p q back more u)
