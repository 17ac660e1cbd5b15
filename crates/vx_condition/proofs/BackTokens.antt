-- What a byte takes away from what a text has to go on with: inside a token.
use Rattle.std.proofs.Common.{◌≡◌, ℕ, suc, ◌+◌, ◌<◌, ◌≤◌, Bool, true, false, cond, ◌==◌, ◌&&◌, ◌||◌, Option, Some, None, List, [], ◌∷◌, ◌++◌, length, drop, refl, sym, ◌∙◌, ap, subst, append_assoc, append-nil, arith, nat_lt, ltb-true, eqb-true, add-one, drop-cons, length-append, get_or}
use Rattle.std.specs.Prelude.{option_map}
use Rattle.std.specs.List.{list_any}
use Rattle.std.proofs.lemmas.Bool.{and_parts}
use Rattle.std.proofs.Math.Seq.{drop-length}
use Rattle.vx_value.specs.Texts.{ByteString}
use Rattle.vx_value.specs.Paths.{move_of, ends_path, carry, names_from}
use Rattle.vx_condition.specs.Trees.{Disjunction}
use Rattle.vx_condition.specs.Grammar.{escaped, before_rest, quoted}
use Rattle.vx_condition.specs.Words.{letters_of}
use Rattle.vx_condition.specs.Moves.{at, stated, equal_to, behind_path, behind_blanks, in_word, arrived, in_text, behind_text, with_escape, in_pattern, in_path, sought}
use Rattle.vx_condition.specs.declared.literal.Literal.TheVariants as literal
use Rattle.vx_condition.specs.declared.predicate.Predicate.{Predicate}
use Rattle.vx_condition.specs.declared.predicate.Predicate.TheVariants.{Contains}
use Rattle.vx_condition.specs.declared.call.Call.TheVariants as call
use Rattle.vx_condition.specs.declared.fixed_word.FixedWord.{FixedWord}
use Rattle.vx_value.specs.declared.path_mode.PathMode.{PathMode}
use Rattle.vx_value.specs.declared.path_mode.PathMode.TheVariants as place
use Rattle.vx_value.specs.declared.path_mode.PathMove.{PathMove}
use Rattle.vx_value.specs.declared.path_mode.PathMove.TheVariants as move
use Rattle.vx_condition.specs.declared.expected.Expected.TheVariants as wants
use Rattle.vx_condition.specs.declared.mode.Behind.{Behind}
use Rattle.vx_condition.specs.declared.mode.Behind.TheVariants.{Wants, Done}
use Rattle.vx_condition.specs.declared.mode.PathUse.{PathUse}
use Rattle.vx_condition.specs.declared.mode.PathUse.TheVariants as path_of
use Rattle.vx_condition.specs.declared.mode.TextUse.{TextUse}
use Rattle.vx_condition.specs.declared.mode.TextUse.TheVariants as text_of
use Rattle.vx_condition.specs.declared.mode.Mode.TheVariants as mode
use Rattle.vx_condition.specs.declared.reader.Reader.{Reader}
use Rattle.vx_condition.specs.declared.stop.Stop.TheVariants as stop
use Rattle.vx_condition.proofs.PathRuns.{no_bytes}
use Rattle.vx_condition.proofs.Rests.{Blanks, Close, BehindPath, InWord, InPath, BehindText, InText, InEscape, InPattern, InMark, RestExpected, RestBehind, Rest}
use Rattle.vx_condition.proofs.Backs.{good, wrong, split, land, bad, as_byte, via, same_text, Rest_of}

-- ---- a fixed word
arrived_rest : (most : ℕ) (r : Reader) (behind : Behind) (all : Disjunction) (text : ByteString) → Rest most (arrived r behind) all text → RestBehind most r.keeps r.frame r.outer behind all text
arrived_rest most r (Wants e) all text rest = rest
arrived_rest most r (Done q) all text rest = rest

letter : (w : FixedWord) (read b : ℕ) → (nat_lt read (length (letters_of w)) && (b == get_or (letters_of w) read 0)) ≡ true → drop read (letters_of w) ≡ b ∷ drop (read + 1) (letters_of w)
letter w read b h =
    let both = and_parts (nat_lt read (length (letters_of w))) (b == get_or (letters_of w) read 0) h in
    let same : b ≡ get_or (letters_of w) read 0 = eqb-true b (get_or (letters_of w) read 0) both.1 in
    drop-cons (letters_of w) read 0 (ltb-true read (length (letters_of w)) both.0)
    ∙ ap (λ x. x ∷ drop (suc read) (letters_of w)) (sym same) ∙ ap (λ n. b ∷ drop n (letters_of w)) (sym (add-one read))

in_word_at : (most : ℕ) (r next : Reader) (w : FixedWord) (read : ℕ) (behind : Behind) (b : ℕ) (all : Disjunction) (text : ByteString) (t : Bool) → (read + 1 == length (letters_of w)) ≡ t
    → drop read (letters_of w) ≡ b ∷ drop (read + 1) (letters_of w)
    → good (cond t (arrived r behind) (at r (mode.Word w (read + 1) behind))) ≡ good next → Rest most next all text
    → InWord w read (RestBehind most r.keeps r.frame r.outer behind all) (b ∷ text)
in_word_at most r next w read behind b all text true last begins h rest =
    let none : drop (read + 1) (letters_of w) ≡ [] = ap (λ n. drop n (letters_of w)) (eqb-true (read + 1) (length (letters_of w)) last) ∙ drop-length (letters_of w) in
    record { back = text; more = arrived_rest most r behind all text (land (arrived r behind) next (λ x. Rest most x all text) h rest); whole = ap (λ l. (b ∷ l) ++ text) (sym none) ∙ ap (λ l. l ++ text) (sym begins) }
in_word_at most r next w read behind b all text false more begins h rest =
    let iw : InWord w (read + 1) (RestBehind most r.keeps r.frame r.outer behind all) text = land (at r (mode.Word w (read + 1) behind)) next (λ x. Rest most x all text) h rest in
    record { back = iw.back; more = iw.more; whole = ap (λ u. b ∷ u) iw.whole ∙ ap (λ l. l ++ iw.back) (sym begins) }

pub back_word : (most : ℕ) (r next : Reader) (w : FixedWord) (read : ℕ) (behind : Behind) (b : ℕ) (all : Disjunction) (text : ByteString) → in_word r w read behind b ≡ good next → Rest most next all text
    → InWord w read (RestBehind most r.keeps r.frame r.outer behind all) (b ∷ text)
back_word most r next w read behind b all text h rest =
    split (nat_lt read (length (letters_of w)) && (b == get_or (letters_of w) read 0)) (good (cond (read + 1 == length (letters_of w)) (arrived r behind) (at r (mode.Word w (read + 1) behind)))) (wrong stop.Refused) (good next) h
    (λ is e. in_word_at most r next w read behind b all text (read + 1 == length (letters_of w)) refl (letter w read b is) e rest)
    (λ no_ e. bad stop.Refused next e)

-- ---- a path
named_step : (p : PathMode) (name : ByteString) (b : ℕ) (front : ByteString) (s : PathMove) → move_of p (length name == 0) b ≡ s
    → names_from p name (b ∷ front) ≡ carry s name b (λ m n. names_from m n front)
named_step p name b front s e = ap (λ v. carry v name b (λ m n. names_from m n front)) (ap (λ t. move_of p t b) (no_bytes name) ∙ e)

only_name : (p : PathMode) (name : ByteString) → ends_path p ≡ true → names_from p name [] ≡ Some (name ∷ [])
only_name p name h = ap (λ t. cond t (Some (name ∷ [])) None) h

added_name : (keeps : Bool) (use_of : PathUse) (p q : PathMode) (name : ByteString) (names : List ByteString) (b : ℕ) (found : Predicate) (t : ByteString) → move_of p (length name == 0) b ≡ move.Adds q
    → InPath keeps use_of q (name ++ b ∷ []) names found t → InPath keeps use_of p name names found (b ∷ t)
added_name keeps use_of p q name names b found t e ip =
    record { front = b ∷ ip.front; back = ip.back; others = ip.others; named = named_step p name b ip.front (move.Adds q) e ∙ ip.named; few = ip.few; more = ip.more; whole = ap (λ u. b ∷ u) ip.whole }

passed_name : (keeps : Bool) (use_of : PathUse) (p q : PathMode) (name : ByteString) (names : List ByteString) (b : ℕ) (found : Predicate) (t : ByteString) → move_of p (length name == 0) b ≡ move.Passes q
    → InPath keeps use_of q name names found t → InPath keeps use_of p name names found (b ∷ t)
passed_name keeps use_of p q name names b found t e ip =
    record { front = b ∷ ip.front; back = ip.back; others = ip.others; named = named_step p name b ip.front (move.Passes q) e ∙ ip.named; few = ip.few; more = ip.more; whole = ap (λ u. b ∷ u) ip.whole }

ended_name : (keeps : Bool) (use_of : PathUse) (p : PathMode) (name : ByteString) (names : List ByteString) (b : ℕ) (found : Predicate) (t : ByteString) → move_of p (length name == 0) b ≡ move.Ends
    → InPath keeps use_of place.Name [] (names ++ name ∷ []) found t → InPath keeps use_of p name names found (b ∷ t)
ended_name keeps use_of p name names b found t e ip =
    let regrouped : (names ++ name ∷ []) ++ ip.others ≡ names ++ (name ∷ ip.others) = append_assoc names (name ∷ []) ip.others in
    record {
      front = b ∷ ip.front;
      back = ip.back;
      others = name ∷ ip.others;
      named = named_step p name b ip.front move.Ends e ∙ ap (λ o. option_map (λ ns. name ∷ ns) o) ip.named;
      few = subst (λ ns. length ns ≤ 31) regrouped ip.few;
      more = subst (λ ns. Blanks (BehindPath keeps use_of ns found) ip.back) regrouped ip.more;
      whole = ap (λ u. b ∷ u) ip.whole;
    }

whole_name : (keeps : Bool) (use_of : PathUse) (p : PathMode) (name : ByteString) (names : List ByteString) (found : Predicate) (t : ByteString) → ends_path p ≡ true → length names < 31
    → Blanks (BehindPath keeps use_of (names ++ name ∷ []) found) t → InPath keeps use_of p name names found t
whole_name keeps use_of p name names found t may few bl =
    record { front = []; back = t; others = name ∷ []; named = only_name p name may; few = omega (arith, few, length-append names (name ∷ [])); more = bl; whole = refl }

pub behind_path_rest : (most : ℕ) (r : Reader) (use_of : PathUse) (p : List ByteString) (all : Disjunction) (text : ByteString) → RestExpected most r.keeps r.frame r.outer (behind_path use_of p) all text
    → Rest_of most r (λ found. Blanks (BehindPath r.keeps use_of p found)) all text
behind_path_rest most r path_of.Compared p all text rest = rest
behind_path_rest most r (path_of.Called call.Exists) p all text rest = rest
behind_path_rest most r (path_of.Called (call.Has s)) p all text rest = rest

pub back_in_path : (most : ℕ) (r next : Reader) (use_of : PathUse) (p : PathMode) (name : ByteString) (names : List ByteString) (b : ℕ) (all : Disjunction) (text : ByteString)
    → ((n : Reader) → behind_blanks most r (behind_path use_of (names ++ name ∷ [])) b ≡ good n → Rest most n all text → RestExpected most r.keeps r.frame r.outer (behind_path use_of (names ++ name ∷ [])) all (b ∷ text))
    → (s : PathMove) → move_of p (length name == 0) b ≡ s
    → in_path most r use_of p name names b s ≡ good next → Rest most next all text → Rest_of most r (InPath r.keeps use_of p name names) all (b ∷ text)
back_in_path most r next use_of p name names b all text behind (move.Adds q) e h rest =
    via most r.keeps r.frame r.outer (InPath r.keeps use_of q (name ++ b ∷ []) names) (InPath r.keeps use_of p name names) all b text (λ found t ip. added_name r.keeps use_of p q name names b found t e ip)
    (land (at r (mode.Path use_of q (name ++ b ∷ []) names)) next (λ x. Rest most x all text) h rest)
back_in_path most r next use_of p name names b all text behind (move.Passes q) e h rest =
    via most r.keeps r.frame r.outer (InPath r.keeps use_of q name names) (InPath r.keeps use_of p name names) all b text (λ found t ip. passed_name r.keeps use_of p q name names b found t e ip)
    (land (at r (mode.Path use_of q name names)) next (λ x. Rest most x all text) h rest)
back_in_path most r next use_of p name names b all text behind move.Ends e h rest =
    split (nat_lt (length names) 30) (good (at r (mode.Path use_of place.Name [] (names ++ name ∷ [])))) (wrong stop.Refused) (good next) h
    (λ is e1. via most r.keeps r.frame r.outer (InPath r.keeps use_of place.Name [] (names ++ name ∷ [])) (InPath r.keeps use_of p name names) all b text (λ found t ip. ended_name r.keeps use_of p name names b found t e ip)
    (land (at r (mode.Path use_of place.Name [] (names ++ name ∷ []))) next (λ x. Rest most x all text) e1 rest))
    (λ no_ e1. bad stop.Refused next e1)
back_in_path most r next use_of p name names b all text behind move.Refused e h rest =
    split (ends_path p && nat_lt (length names) 31 && nat_lt b 128) (behind_blanks most r (behind_path use_of (names ++ name ∷ [])) b) (wrong stop.Refused) (good next) h
    (λ is e1.
    let both = and_parts (ends_path p && nat_lt (length names) 31) (nat_lt b 128) is in
    let first = and_parts (ends_path p) (nat_lt (length names) 31) both.0 in
    same_text most r.keeps r.frame r.outer (λ found. Blanks (BehindPath r.keeps use_of (names ++ name ∷ []) found)) (InPath r.keeps use_of p name names) all (b ∷ text)
    (λ found t bl. whole_name r.keeps use_of p name names found t first.0 (ltb-true (length names) 31 first.1) bl)
    (behind_path_rest most r use_of (names ++ name ∷ []) all (b ∷ text) (behind next e1 rest)))
    (λ no_ e1. bad stop.Refused next e1)

-- ---- a text in quotes
behind_text_rest : (use_of : TextUse) (word other : ByteString) (found : Predicate) (t : ByteString) → word ≡ other → BehindText use_of word found t → BehindText use_of other found t
behind_text_rest use_of word other found t e m = subst (λ w. BehindText use_of w found t) e m

quoted_plain : (b : ℕ) (front word : ByteString) → (b == 34) ≡ false → (b == 92) ≡ false → quoted front ≡ Some word → quoted (b ∷ front) ≡ Some (b ∷ word)
quoted_plain b [] word h g e = absurd (cc)
quoted_plain b (c ∷ rest) word h g e =
    ap (λ t. cond t None (cond (b == 92) (before_rest (escaped c) (quoted rest)) (before_rest (Some b) (quoted (c ∷ rest))))) h
    ∙ ap (λ t. cond t (before_rest (escaped c) (quoted rest)) (before_rest (Some b) (quoted (c ∷ rest)))) g
    ∙ ap (λ o. before_rest (Some b) o) e

plain_text : (use_of : TextUse) (held : ByteString) (b : ℕ) (found : Predicate) (t : ByteString) → (b == 34) ≡ false → (b == 92) ≡ false → InText use_of (held ++ b ∷ []) found t → InText use_of held found (b ∷ t)
plain_text use_of held b found t h g it =
    record {
      front = b ∷ it.front;
      back = it.back;
      word = b ∷ it.word;
      spelled = quoted_plain b it.front it.word h g it.spelled;
      more = behind_text_rest use_of ((held ++ b ∷ []) ++ it.word) (held ++ (b ∷ it.word)) found it.back (append_assoc held (b ∷ []) it.word) it.more;
      whole = ap (λ u. b ∷ u) it.whole;
    }

escaped_text : (use_of : TextUse) (held : ByteString) (found : Predicate) (t : ByteString) → InEscape use_of held found t → InText use_of held found (92 ∷ t)
escaped_text use_of held found t ie =
    let it = ie.more in
    record {
      front = 92 ∷ ie.letter ∷ it.front;
      back = it.back;
      word = ie.byte ∷ it.word;
      spelled = ap (λ o. before_rest o (quoted it.front)) ie.stands ∙ ap (λ o. before_rest (Some ie.byte) o) it.spelled;
      more = behind_text_rest use_of ((held ++ ie.byte ∷ []) ++ it.word) (held ++ (ie.byte ∷ it.word)) found it.back (append_assoc held (ie.byte ∷ []) it.word) it.more;
      whole = ap (λ u. 92 ∷ u) (ie.whole ∙ ap (λ u. ie.letter ∷ u) it.whole);
    }

ended_text : (use_of : TextUse) (held : ByteString) (found : Predicate) (t : ByteString) → BehindText use_of held found t → InText use_of held found (34 ∷ t)
ended_text use_of held found t m =
    record { front = 34 ∷ []; back = t; word = []; spelled = refl; more = behind_text_rest use_of held (held ++ []) found t (sym (append-nil held)) m; whole = refl }

back_end_text : (most : ℕ) (r next : Reader) (use_of : TextUse) (held : ByteString) (all : Disjunction) (text : ByteString) → good (behind_text r use_of held) ≡ good next → Rest most next all text
    → Rest_of most r (InText use_of held) all (34 ∷ text)
back_end_text most r next (text_of.Literal p e) held all text h rest =
    let q = equal_to p e (literal.Words held) in
    record {
      found = q;
      front = 34 ∷ [];
      back = text;
      rest = ended_text (text_of.Literal p e) held q [] (record { same = refl; none = refl });
      more = land (stated r q) next (λ x. Rest most x all text) h rest;
      whole = refl;
    }
back_end_text most r next (text_of.Part p) held all text h rest =
    via most r.keeps r.frame r.outer (λ found. Blanks (Close (Contains p held) found)) (InText (text_of.Part p) held) all 34 text (λ found t bl. ended_text (text_of.Part p) held found t bl)
    (land (at r (mode.Expects (wants.Close (Contains p held)))) next (λ x. Rest most x all text) h rest)

pub back_text : (most : ℕ) (r next : Reader) (use_of : TextUse) (held : ByteString) (b : ℕ) (all : Disjunction) (text : ByteString) → in_text r use_of false held b ≡ good next → Rest most next all text
    → Rest_of most r (InText use_of held) all (b ∷ text)
back_text most r next use_of held b all text h rest =
    split (b == 34) (good (behind_text r use_of held)) (cond (b == 92) (good (at r (mode.Text use_of true held))) (good (at r (mode.Text use_of false (held ++ b ∷ []))))) (good next) h
    (λ is e. as_byte b 34 (λ x. Rest_of most r (InText use_of held) all (x ∷ text)) is (back_end_text most r next use_of held all text e rest))
    (λ no1 h2. split (b == 92) (good (at r (mode.Text use_of true held))) (good (at r (mode.Text use_of false (held ++ b ∷ [])))) (good next) h2
    (λ is e. as_byte b 92 (λ x. Rest_of most r (InText use_of held) all (x ∷ text)) is
    (via most r.keeps r.frame r.outer (InEscape use_of held) (InText use_of held) all 92 text (λ found t ie. escaped_text use_of held found t ie)
    (land (at r (mode.Text use_of true held)) next (λ x. Rest most x all text) e rest)))
    (λ no2 e. via most r.keeps r.frame r.outer (InText use_of (held ++ b ∷ [])) (InText use_of held) all b text (λ found t it. plain_text use_of held b found t no1 no2 it)
    (land (at r (mode.Text use_of false (held ++ b ∷ []))) next (λ x. Rest most x all text) e rest)))

back_escape_at : (most : ℕ) (r next : Reader) (use_of : TextUse) (held : ByteString) (b : ℕ) (all : Disjunction) (text : ByteString) (o : Option ℕ) → escaped b ≡ o → with_escape r use_of held o ≡ good next → Rest most next all text
    → Rest_of most r (InEscape use_of held) all (b ∷ text)
back_escape_at most r next use_of held b all text None e h rest = bad stop.Refused next h
back_escape_at most r next use_of held b all text (Some x) e h rest =
    via most r.keeps r.frame r.outer (InText use_of (held ++ x ∷ [])) (InEscape use_of held) all b text (λ found t it. record { letter = b; byte = x; back = t; stands = e; more = it; whole = refl })
    (land (at r (mode.Text use_of false (held ++ x ∷ []))) next (λ y. Rest most y all text) h rest)

pub back_escape : (most : ℕ) (r next : Reader) (use_of : TextUse) (held : ByteString) (b : ℕ) (all : Disjunction) (text : ByteString) → in_text r use_of true held b ≡ good next → Rest most next all text
    → Rest_of most r (InEscape use_of held) all (b ∷ text)
back_escape most r next use_of held b all text h rest = back_escape_at most r next use_of held b all text (escaped b) refl h rest

-- ---- a pattern
pub back_pattern : (most : ℕ) (r next : Reader) (p : List ByteString) (held : ByteString) (b : ℕ) (all : Disjunction) (text : ByteString) → in_pattern r p held b ≡ good next → Rest most next all text
    → Rest_of most r (InPattern r.keeps p held) all (b ∷ text)
back_pattern most r next p held b all text h rest =
    split (b == 39) (good (at r (mode.Expects (wants.Close (sought r.keeps p held))))) (good (at r (mode.Pattern p (held ++ b ∷ [])))) (good next) h
    (λ is e. as_byte b 39 (λ x. Rest_of most r (InPattern r.keeps p held) all (x ∷ text)) is
    (via most r.keeps r.frame r.outer (λ found. Blanks (Close (sought r.keeps p held) found)) (InPattern r.keeps p held) all 39 text
    (λ found t bl. record { front = []; back = t; bare = refl; more = subst (λ w. Blanks (Close (sought r.keeps p w) found) t) (sym (append-nil held)) bl; whole = refl })
    (land (at r (mode.Expects (wants.Close (sought r.keeps p held)))) next (λ x. Rest most x all text) e rest)))
    (λ no_ e. via most r.keeps r.frame r.outer (InPattern r.keeps p (held ++ b ∷ [])) (InPattern r.keeps p held) all b text
    (λ found t ip. record {
      front = b ∷ ip.front;
      back = ip.back;
      bare = ap (λ x. x || list_any (λ c. c == 39) ip.front) no_ ∙ ip.bare;
      more = subst (λ w. Blanks (Close (sought r.keeps p w) found) ip.back) (append_assoc held (b ∷ []) ip.front) ip.more;
      whole = ap (λ u. b ∷ u) ip.whole;
    })
    (land (at r (mode.Pattern p (held ++ b ∷ []))) next (λ x. Rest most x all text) e rest))

pub back_mark : (most : ℕ) (r next : Reader) (p : List ByteString) (b : ℕ) (all : Disjunction) (text : ByteString) → cond (b == 39) (good (at r (mode.Pattern p []))) (wrong stop.Refused) ≡ good next → Rest most next all text
    → Rest_of most r (InMark r.keeps p) all (b ∷ text)
back_mark most r next p b all text h rest =
    split (b == 39) (good (at r (mode.Pattern p []))) (wrong stop.Refused) (good next) h
    (λ is e. as_byte b 39 (λ x. Rest_of most r (InMark r.keeps p) all (x ∷ text)) is
    (via most r.keeps r.frame r.outer (InPattern r.keeps p []) (InMark r.keeps p) all 39 text (λ found t ip. record { back = t; more = ip; whole = refl })
    (land (at r (mode.Pattern p [])) next (λ x. Rest most x all text) e rest)))
    (λ no_ e. bad stop.Refused next e)
