-- How the number of levels that may be opened tells on a reader, and what a reader never changes.
use Rattle.std.proofs.Common.{◌≡◌, ℕ, suc, ◌+◌, ◌-◌, ◌*◌, ◌≤◌, Bool, true, false, cond, not, ◌==◌, ◌&&◌, Option, Some, None, Result, Ok, Err, List, [], ◌∷◌, ◌++◌, length, refl, sym, ◌∙◌, ap, subst, arith, nat_lt, nat_le, ltb-true, lt-ltb, eqb-true, ◌⊎◌, inl, inr, get_or}
use Rattle.vx_value.specs.Texts.{ByteString}
use Rattle.vx_condition.specs.Grammar.{is_blank, is_digit, escaped}
use Rattle.vx_condition.specs.Words.{letters_of}
use Rattle.vx_value.specs.Paths.{move_of, ends_path}
use Rattle.vx_condition.specs.Moves.{at, at_some, stated, with_number, signed, fits, operator_mode, literal_mode, argument_mode, behind_path, expected, behind_blanks, arrived, behind_text, with_escape, in_path, sought, or_equal, may_be_marked}
use Rattle.vx_condition.specs.declared.operator.Operator.TheVariants as operator
use Rattle.vx_condition.specs.declared.call.Call.TheVariants as call
use Rattle.vx_condition.specs.declared.fixed_word.FixedWord.{FixedWord}
use Rattle.vx_condition.specs.declared.fixed_word.FixedWord.TheVariants as fixed
use Rattle.vx_value.specs.declared.path_mode.PathMode.{PathMode}
use Rattle.vx_value.specs.declared.path_mode.PathMode.TheVariants as place
use Rattle.vx_value.specs.declared.path_mode.PathMove.{PathMove}
use Rattle.vx_value.specs.declared.path_mode.PathMove.TheVariants as move
use Rattle.vx_condition.specs.declared.expected.Expected.{Expected}
use Rattle.vx_condition.specs.declared.expected.Expected.TheVariants as wants
use Rattle.vx_condition.specs.declared.mode.Behind.{Behind}
use Rattle.vx_condition.specs.declared.mode.Behind.TheVariants.{Wants, Done}
use Rattle.vx_condition.specs.declared.mode.PathUse.{PathUse}
use Rattle.vx_condition.specs.declared.mode.PathUse.TheVariants as path_of
use Rattle.vx_condition.specs.declared.mode.TextUse.{TextUse}
use Rattle.vx_condition.specs.declared.mode.TextUse.TheVariants as text_of
use Rattle.vx_condition.specs.declared.mode.Mode.{Mode}
use Rattle.vx_condition.specs.declared.mode.Mode.TheVariants as mode
use Rattle.vx_condition.specs.declared.frame.Frame.{Frame}
use Rattle.vx_condition.specs.declared.reader.Reader.{Reader}
use Rattle.vx_condition.specs.declared.stop.Stop.{Stop}
use Rattle.vx_condition.specs.declared.stop.Stop.TheVariants as stop
use Rattle.vx_condition.specs.Moves.{operand, operand_mode, closed, joint, behind_operand, fresh, levels_in, all_branches, moved, step}
use Rattle.vx_condition.proofs.Backs.{good, wrong, split}

-- ---- more levels
more_room : (here m n : ℕ) (x v : Result Reader Stop) → m ≤ n → (v ≡ wrong stop.Deep → ⊥) → cond (nat_lt here m) x (wrong stop.Deep) ≡ v → cond (nat_lt here n) x (wrong stop.Deep) ≡ v
more_room here m n x v le f h =
    split (nat_lt here m) x (wrong stop.Deep) v h
    (λ is e. ap (λ t. cond t x (wrong stop.Deep)) (lt-ltb here n (omega (arith, ltb-true here m is))) ∙ e)
    (λ no_ e. absurd (f (sym e)))

operand_more : (m n : ℕ) (r : Reader) (b : ℕ) (v : Result Reader Stop) → m ≤ n → (v ≡ wrong stop.Deep → ⊥) → operand m r b ≡ v → operand n r b ≡ v
operand_more m n r b v le f h = two (b == 33) (b == 40) h
  where
    two : (s t : Bool)
        → cond s (cond (nat_lt (levels_in r.frame) m) (good (record r { frame = record r.frame { negations = r.frame.negations + 1 }; mode = mode.Expects wants.Operand })) (wrong stop.Deep)) (cond t (cond (nat_lt (levels_in r.frame) m) (good (record r { frame = fresh (levels_in r.frame + 1); outer = r.frame ∷ r.outer; mode = mode.Expects wants.Operand })) (wrong stop.Deep)) (at_some r (operand_mode b))) ≡ v
        → cond s (cond (nat_lt (levels_in r.frame) n) (good (record r { frame = record r.frame { negations = r.frame.negations + 1 }; mode = mode.Expects wants.Operand })) (wrong stop.Deep)) (cond t (cond (nat_lt (levels_in r.frame) n) (good (record r { frame = fresh (levels_in r.frame + 1); outer = r.frame ∷ r.outer; mode = mode.Expects wants.Operand })) (wrong stop.Deep)) (at_some r (operand_mode b))) ≡ v
    two true t e = more_room (levels_in r.frame) m n (good (record r { frame = record r.frame { negations = r.frame.negations + 1 }; mode = mode.Expects wants.Operand })) v le f e
    two false true e = more_room (levels_in r.frame) m n (good (record r { frame = fresh (levels_in r.frame + 1); outer = r.frame ∷ r.outer; mode = mode.Expects wants.Operand })) v le f e
    two false false e = e

-- under a test
under : (t : Bool) (x y z v : Result Reader Stop) → (y ≡ v → z ≡ v) → cond t x y ≡ v → cond t x z ≡ v
under true x y z v f h = h
under false x y z v f h = f h

behind_more : (m n : ℕ) (r : Reader) (e : Expected) (b : ℕ) (v : Result Reader Stop) → m ≤ n → (v ≡ wrong stop.Deep → ⊥) → behind_blanks m r e b ≡ v → behind_blanks n r e b ≡ v
behind_more m n r wants.Operand b v le f h = under (is_blank b) (good (at r (mode.Expects wants.Operand))) (operand m r b) (operand n r b) v (λ g. operand_more m n r b v le f g) h
behind_more m n r (wants.Operator p) b v le f h = h
behind_more m n r (wants.Literal p o) b v le f h = h
behind_more m n r (wants.Open c) b v le f h = h
behind_more m n r (wants.Bracket c) b v le f h = h
behind_more m n r (wants.Path c) b v le f h = h
behind_more m n r (wants.Comma s p) b v le f h = h
behind_more m n r (wants.Argument s p) b v le f h = h
behind_more m n r (wants.Close q) b v le f h = h
behind_more m n r wants.Joint b v le f h = h

under_first : (t : Bool) (x z y v : Result Reader Stop) → (x ≡ v → z ≡ v) → cond t x y ≡ v → cond t z y ≡ v
under_first true x z y v f h = f h
under_first false x z y v f h = h

path_more : (m n : ℕ) (r : Reader) (use_of : PathUse) (p : PathMode) (name : ByteString) (names : List ByteString) (b : ℕ) (s : PathMove) (v : Result Reader Stop) → m ≤ n → (v ≡ wrong stop.Deep → ⊥)
    → in_path m r use_of p name names b s ≡ v → in_path n r use_of p name names b s ≡ v
path_more m n r use_of p name names b (move.Adds q) v le f h = h
path_more m n r use_of p name names b (move.Passes q) v le f h = h
path_more m n r use_of p name names b move.Ends v le f h = h
path_more m n r use_of p name names b move.Refused v le f h =
    under_first (ends_path p && nat_lt (length names) 31 && nat_lt b 128) (behind_blanks m r (behind_path use_of (names ++ name ∷ [])) b) (behind_blanks n r (behind_path use_of (names ++ name ∷ [])) b) (wrong stop.Refused) v
    (λ g. behind_more m n r (behind_path use_of (names ++ name ∷ [])) b v le f g) h

moved_more : (m n : ℕ) (r : Reader) (k : Mode) (b : ℕ) (v : Result Reader Stop) → m ≤ n → (v ≡ wrong stop.Deep → ⊥) → moved m r k b ≡ v → moved n r k b ≡ v
moved_more m n r mode.Start b v le f h = under (is_blank b) (wrong stop.Refused) (operand m r b) (operand n r b) v (λ g. operand_more m n r b v le f g) h
moved_more m n r (mode.Expects e) b v le f h = behind_more m n r e b v le f h
moved_more m n r mode.Complete b v le f h = h
moved_more m n r (mode.Word w read behind) b v le f h = h
moved_more m n r (mode.Path use_of p name names) b v le f h = path_more m n r use_of p name names b (move_of p (length name == 0) b) v le f h
moved_more m n r (mode.Text use_of t held) b v le f h = h
moved_more m n r (mode.Mark p) b v le f h = h
moved_more m n r (mode.Pattern p held) b v le f h = h
moved_more m n r (mode.Minus p o) b v le f h = h
moved_more m n r (mode.Whole p o negative size) b v le f h = h
moved_more m n r (mode.Angle p c) b v le f h = h

pub step_more : (m n : ℕ) (r : Reader) (b : ℕ) (v : Result Reader Stop) → m ≤ n → (v ≡ wrong stop.Deep → ⊥) → step m r b ≡ v → step n r b ≡ v
step_more m n r b v le f h = moved_more m n r r.mode b v le f h

-- ---- a reader keeps patterns or doesn't, and only `!` and a bracket open a level
abbrev pub Tame : Bool → Type 0 → Result Reader Stop → Type 0
Tame k D (Ok x) = x.keeps ≡ k
Tame k D (Err stop.Refused) = Unit {0}
Tame k D (Err stop.Deep) = D
Tame k D (Err (stop.BadPattern n)) = Unit {0}
Tame k D (Err stop.WantOfMemory) = Unit {0}

tame_cond : (k : Bool) (D : Type 0) (t : Bool) (x y : Result Reader Stop) → Tame k D x → Tame k D y → Tame k D (cond t x y)
tame_cond k D true x y f g = f
tame_cond k D false x y f g = g

tame_some : (r : Reader) (D : Type 0) (o : Option Mode) → Tame r.keeps D (at_some r o)
tame_some r D None = tt
tame_some r D (Some m) = refl

tame_closed : (r : Reader) (D : Type 0) (outer : List Frame) → Tame r.keeps D (closed r outer)
tame_closed r D [] = tt
tame_closed r D (g ∷ outer) = refl

tame_joint : (r : Reader) (D : Type 0) (b : ℕ) → Tame r.keeps D (joint r b)
tame_joint r D b =
    tame_cond r.keeps D (b == 38) (good (at r (mode.Word fixed.And 1 (Wants wants.Operand)))) (cond (b == 124) (good (record r { frame = record r.frame { branches = all_branches r.frame; terms = [] }; mode = mode.Word fixed.Or 1 (Wants wants.Operand) })) (cond (b == 41) (closed r r.outer) (wrong stop.Refused))) refl
    (tame_cond r.keeps D (b == 124) (good (record r { frame = record r.frame { branches = all_branches r.frame; terms = [] }; mode = mode.Word fixed.Or 1 (Wants wants.Operand) })) (cond (b == 41) (closed r r.outer) (wrong stop.Refused)) refl
    (tame_cond r.keeps D (b == 41) (closed r r.outer) (wrong stop.Refused) (tame_closed r D r.outer) tt))

tame_operand : (most : ℕ) (r : Reader) (D : Type 0) (b : ℕ) → D → Tame r.keeps D (operand most r b)
tame_operand most r D b d =
    tame_cond r.keeps D (b == 33) (cond (nat_lt (levels_in r.frame) most) (good (record r { frame = record r.frame { negations = r.frame.negations + 1 }; mode = mode.Expects wants.Operand })) (wrong stop.Deep))
    (cond (b == 40) (cond (nat_lt (levels_in r.frame) most) (good (record r { frame = fresh (levels_in r.frame + 1); outer = r.frame ∷ r.outer; mode = mode.Expects wants.Operand })) (wrong stop.Deep)) (at_some r (operand_mode b)))
    (tame_cond r.keeps D (nat_lt (levels_in r.frame) most) (good (record r { frame = record r.frame { negations = r.frame.negations + 1 }; mode = mode.Expects wants.Operand })) (wrong stop.Deep) refl d)
    (tame_cond r.keeps D (b == 40) (cond (nat_lt (levels_in r.frame) most) (good (record r { frame = fresh (levels_in r.frame + 1); outer = r.frame ∷ r.outer; mode = mode.Expects wants.Operand })) (wrong stop.Deep)) (at_some r (operand_mode b))
    (tame_cond r.keeps D (nat_lt (levels_in r.frame) most) (good (record r { frame = fresh (levels_in r.frame + 1); outer = r.frame ∷ r.outer; mode = mode.Expects wants.Operand })) (wrong stop.Deep) refl d)
    (tame_some r D (operand_mode b)))

tame_expected : (most : ℕ) (r : Reader) (D : Type 0) (e : Expected) (b : ℕ) → (e ≡ wants.Operand → D) → Tame r.keeps D (expected most r e b)
tame_expected most r D wants.Operand b f = tame_operand most r D b (f refl)
tame_expected most r D (wants.Operator p) b f = tame_some r D (operator_mode p b)
tame_expected most r D (wants.Literal p o) b f = tame_some r D (literal_mode p o b)
tame_expected most r D (wants.Open c) b f =
    tame_cond r.keeps D (b == 40) (good (at r (mode.Expects (wants.Path c)))) (cond ((b == 33) && may_be_marked c) (good (at r (mode.Expects (wants.Bracket c)))) (wrong stop.Refused)) refl
    (tame_cond r.keeps D ((b == 33) && may_be_marked c) (good (at r (mode.Expects (wants.Bracket c)))) (wrong stop.Refused) refl tt)
tame_expected most r D (wants.Bracket c) b f = tame_cond r.keeps D (b == 40) (good (at r (mode.Expects (wants.Path c)))) (wrong stop.Refused) refl tt
tame_expected most r D (wants.Path c) b f = tame_cond r.keeps D (b == 46) (good (at r (mode.Path (path_of.Called c) place.Name [] []))) (wrong stop.Refused) refl tt
tame_expected most r D (wants.Comma s p) b f = tame_cond r.keeps D (b == 44) (good (at r (mode.Expects (wants.Argument s p)))) (wrong stop.Refused) refl tt
tame_expected most r D (wants.Argument s p) b f = tame_some r D (argument_mode s p b)
tame_expected most r D (wants.Close q) b f = tame_cond r.keeps D (b == 41) (good (stated r q)) (wrong stop.Refused) refl tt
tame_expected most r D wants.Joint b f = tame_joint r D b

tame_blanks : (most : ℕ) (r : Reader) (D : Type 0) (e : Expected) (b : ℕ) → (e ≡ wants.Operand → D) → Tame r.keeps D (behind_blanks most r e b)
tame_blanks most r D e b f = tame_cond r.keeps D (is_blank b) (good (at r (mode.Expects e))) (expected most r e b) refl (tame_expected most r D e b f)

tame_behind : (r : Reader) (D : Type 0) (b : ℕ) → Tame r.keeps D (behind_operand r b)
tame_behind r D b = tame_cond r.keeps D (is_blank b) (good (at r (mode.Expects wants.Joint))) (joint r b) refl (tame_joint r D b)

keeps_arrived : (r : Reader) (behind : Behind) → (arrived r behind).keeps ≡ r.keeps
keeps_arrived r (Wants e) = refl
keeps_arrived r (Done q) = refl

keeps_letter : (r : Reader) (w : FixedWord) (read : ℕ) (behind : Behind) (t : Bool) → (cond t (arrived r behind) (at r (mode.Word w (read + 1) behind))).keeps ≡ r.keeps
keeps_letter r w read behind true = keeps_arrived r behind
keeps_letter r w read behind false = refl

keeps_behind_text : (r : Reader) (use_of : TextUse) (held : ByteString) → (behind_text r use_of held).keeps ≡ r.keeps
keeps_behind_text r (text_of.Literal p e) held = refl
keeps_behind_text r (text_of.Part p) held = refl

no_operand : (use_of : PathUse) (names : List ByteString) → behind_path use_of names ≡ wants.Operand → ⊥
no_operand path_of.Compared names e = cc
no_operand (path_of.Called call.Exists) names e = cc
no_operand (path_of.Called (call.Has s)) names e = cc

tame_path : (most : ℕ) (r : Reader) (D : Type 0) (use_of : PathUse) (p : PathMode) (name : ByteString) (names : List ByteString) (b : ℕ) (s : PathMove) → Tame r.keeps D (in_path most r use_of p name names b s)
tame_path most r D use_of p name names b (move.Adds q) = refl
tame_path most r D use_of p name names b (move.Passes q) = refl
tame_path most r D use_of p name names b move.Ends = tame_cond r.keeps D (nat_lt (length names) 30) (good (at r (mode.Path use_of place.Name [] (names ++ name ∷ [])))) (wrong stop.Refused) refl tt
tame_path most r D use_of p name names b move.Refused =
    tame_cond r.keeps D (ends_path p && nat_lt (length names) 31 && nat_lt b 128) (behind_blanks most r (behind_path use_of (names ++ name ∷ [])) b) (wrong stop.Refused)
    (tame_blanks most r D (behind_path use_of (names ++ name ∷ [])) b (λ e. absurd (no_operand use_of (names ++ name ∷ []) e))) tt

tame_escape : (r : Reader) (D : Type 0) (use_of : TextUse) (held : ByteString) (o : Option ℕ) → Tame r.keeps D (with_escape r use_of held o)
tame_escape r D use_of held None = tt
tame_escape r D use_of held (Some e) = refl

tame_moved : (most : ℕ) (r : Reader) (D : Type 0) (m : Mode) (b : ℕ) → (m ≡ mode.Start → D) → (m ≡ mode.Expects wants.Operand → D) → Tame r.keeps D (moved most r m b)
tame_moved most r D mode.Start b f g = tame_cond r.keeps D (is_blank b) (wrong stop.Refused) (operand most r b) tt (tame_operand most r D b (f refl))
tame_moved most r D (mode.Expects e) b f g = tame_blanks most r D e b (λ h. g (ap mode.Expects h))
tame_moved most r D mode.Complete b f g = tame_behind r D b
tame_moved most r D (mode.Word w read behind) b f g =
    tame_cond r.keeps D (nat_lt read (length (letters_of w)) && (b == get_or (letters_of w) read 0)) (good (cond (read + 1 == length (letters_of w)) (arrived r behind) (at r (mode.Word w (read + 1) behind)))) (wrong stop.Refused)
    (keeps_letter r w read behind (read + 1 == length (letters_of w))) tt
tame_moved most r D (mode.Path use_of p name names) b f g = tame_path most r D use_of p name names b (move_of p (length name == 0) b)
tame_moved most r D (mode.Text use_of false held) b f g =
    tame_cond r.keeps D (b == 34) (good (behind_text r use_of held)) (cond (b == 92) (good (at r (mode.Text use_of true held))) (good (at r (mode.Text use_of false (held ++ b ∷ []))))) (keeps_behind_text r use_of held)
    (tame_cond r.keeps D (b == 92) (good (at r (mode.Text use_of true held))) (good (at r (mode.Text use_of false (held ++ b ∷ [])))) refl refl)
tame_moved most r D (mode.Text use_of true held) b f g = tame_escape r D use_of held (escaped b)
tame_moved most r D (mode.Mark p) b f g = tame_cond r.keeps D (b == 39) (good (at r (mode.Pattern p []))) (wrong stop.Refused) refl tt
tame_moved most r D (mode.Pattern p held) b f g = tame_cond r.keeps D (b == 39) (good (at r (mode.Expects (wants.Close (sought r.keeps p held))))) (good (at r (mode.Pattern p (held ++ b ∷ [])))) refl refl
tame_moved most r D (mode.Minus p o) b f g = tame_cond r.keeps D (nat_le 49 b && nat_le b 57) (good (at r (mode.Whole p o true (b - 48)))) (wrong stop.Refused) refl tt
tame_moved most r D (mode.Whole p o negative size) b f g =
    tame_cond r.keeps D (is_digit b) (cond (not (size == 0) && fits negative (10 * size + (b - 48))) (good (at r (mode.Whole p o negative (10 * size + (b - 48))))) (wrong stop.Refused)) (behind_operand (stated r (with_number p o (signed negative size))) b)
    (tame_cond r.keeps D (not (size == 0) && fits negative (10 * size + (b - 48))) (good (at r (mode.Whole p o negative (10 * size + (b - 48))))) (wrong stop.Refused) refl tt)
    (tame_behind (stated r (with_number p o (signed negative size))) D b)
tame_moved most r D (mode.Angle p c) b f g =
    tame_cond r.keeps D (b == 61) (good (at r (mode.Expects (wants.Literal p (operator.Compared (or_equal c)))))) (behind_blanks most r (wants.Literal p (operator.Compared c)) b) refl
    (tame_blanks most r D (wants.Literal p (operator.Compared c)) b (λ e. absurd (cc)))

pub keeps_step : (most : ℕ) (r next : Reader) (b : ℕ) → step most r b ≡ good next → next.keeps ≡ r.keeps
keeps_step most r next b h = let P : Result Reader Stop → Type 0 = Tame r.keeps (Unit {0}) in subst P h (tame_moved most r (Unit {0}) r.mode b (λ e. tt) (λ e. tt))

-- ---- where a level too many is opened
pub record Opens (r : Reader) (b : ℕ) : Type 0 where
  pub mark : (b ≡ 33) ⊎ (b ≡ 40)
  pub next : Reader
  pub opened : step (suc (levels_in r.frame)) r b ≡ good next

record Opens_term (r : Reader) (b : ℕ) : Type 0 where
  mark : (b ≡ 33) ⊎ (b ≡ 40)
  next : Reader
  opened : operand (suc (levels_in r.frame)) r b ≡ good next

room_for : (n : ℕ) → nat_lt n (suc n) ≡ true
room_for n = lt-ltb n (suc n) (omega arith)

cond_true : (t : Bool) (x y : Result Reader Stop) → t ≡ true → cond t x y ≡ x
cond_true true x y h = refl
cond_true false x y h = absurd (cc)

cond_false : (t : Bool) (x y : Result Reader Stop) → t ≡ false → cond t x y ≡ y
cond_false true x y h = absurd (cc)
cond_false false x y h = refl

deep_operand : (most : ℕ) (r : Reader) (b : ℕ) → operand most r b ≡ wrong stop.Deep → Opens_term r b
deep_operand most r b h =
    let here = levels_in r.frame in
    let one = good (record r { frame = record r.frame { negations = r.frame.negations + 1 }; mode = mode.Expects wants.Operand }) in
    let two = good (record r { frame = fresh (levels_in r.frame + 1); outer = r.frame ∷ r.outer; mode = mode.Expects wants.Operand }) in
    split (b == 33) (cond (nat_lt here most) one (wrong stop.Deep)) (cond (b == 40) (cond (nat_lt here most) two (wrong stop.Deep)) (at_some r (operand_mode b))) (wrong stop.Deep) h
    (λ is e. record {
      mark = inl (eqb-true b 33 is);
      next = record r { frame = record r.frame { negations = r.frame.negations + 1 }; mode = mode.Expects wants.Operand };
      opened = cond_true (b == 33) (cond (nat_lt here (suc here)) one (wrong stop.Deep)) (cond (b == 40) (cond (nat_lt here (suc here)) two (wrong stop.Deep)) (at_some r (operand_mode b))) is ∙ cond_true (nat_lt here (suc here)) one (wrong stop.Deep) (room_for here);
    })
    (λ no1 h2. split (b == 40) (cond (nat_lt here most) two (wrong stop.Deep)) (at_some r (operand_mode b)) (wrong stop.Deep) h2
    (λ is e. record {
      mark = inr (eqb-true b 40 is);
      next = record r { frame = fresh (levels_in r.frame + 1); outer = r.frame ∷ r.outer; mode = mode.Expects wants.Operand };
      opened = cond_false (b == 33) (cond (nat_lt here (suc here)) one (wrong stop.Deep)) (cond (b == 40) (cond (nat_lt here (suc here)) two (wrong stop.Deep)) (at_some r (operand_mode b))) no1
          ∙ cond_true (b == 40) (cond (nat_lt here (suc here)) two (wrong stop.Deep)) (at_some r (operand_mode b)) is ∙ cond_true (nat_lt here (suc here)) two (wrong stop.Deep) (room_for here);
    })
    (λ no2 e. let never : ⊥ = let P : Result Reader Stop → Type 0 = Tame r.keeps ⊥ in subst P e (tame_some r ⊥ (operand_mode b)) in absurd never))

deep_at : (most : ℕ) (r : Reader) (m : Mode) (b : ℕ) → r.mode ≡ m → moved most r m b ≡ wrong stop.Deep → Opens r b
deep_at most r mode.Start b there h =
    split (is_blank b) (wrong stop.Refused) (operand most r b) (wrong stop.Deep) h (λ is e. absurd (cc))
    (λ no_ e. let o = deep_operand most r b e in record { mark = o.mark; next = o.next; opened = ap (λ k. moved (suc (levels_in r.frame)) r k b) there ∙ cond_false (is_blank b) (wrong stop.Refused) (operand (suc (levels_in r.frame)) r b) no_ ∙ o.opened })
deep_at most r (mode.Expects wants.Operand) b there h =
    split (is_blank b) (good (at r (mode.Expects wants.Operand))) (operand most r b) (wrong stop.Deep) h (λ is e. absurd (cc))
    (λ no_ e. let o = deep_operand most r b e in record { mark = o.mark; next = o.next; opened = ap (λ k. moved (suc (levels_in r.frame)) r k b) there ∙ cond_false (is_blank b) (good (at r (mode.Expects wants.Operand))) (operand (suc (levels_in r.frame)) r b) no_ ∙ o.opened })
deep_at most r m b there h = absurd (let P : Result Reader Stop → Type 0 = Tame r.keeps ⊥ in subst P h (tame_moved most r ⊥ m b (λ e. cc) (λ e. cc)))

pub deep : (most : ℕ) (r : Reader) (b : ℕ) → step most r b ≡ wrong stop.Deep → Opens r b
deep most r b h = deep_at most r r.mode b refl h
