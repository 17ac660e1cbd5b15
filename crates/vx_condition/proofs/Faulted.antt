-- What a reader that stops tells of its text.
use Rattle.std.proofs.Common.{◌≡◌, ℕ, zero, suc, max, ◌+◌, ◌-◌, ◌<◌, ◌≤◌, Bool, true, false, cond, ◌==◌, ◌||◌, Some, None, Result, IsTrue, List, [], ◌∷◌, ◌++◌, length, take, drop, get_or, refl, sym, ◌∙◌, ap, subst, append_assoc, append-nil, arith, eqb-true, ◌⊎◌, inl, inr, length-append}
use Rattle.std.specs.List.{list_any}
use Rattle.std.specs.Str.{IsUtf8}
use Rattle.std.proofs.lemmas.List.{take_more, take-append-drop, take_all}
use Rattle.std.proofs.Common.{drop-cons, add-one}
use Rattle.vx_value.proofs.PathReads.{utf8-left}
use Rattle.vx_value.specs.Texts.{ByteString}
use Rattle.vx_condition.specs.Trees.{Term, Disjunction, disjunction_of}
use Rattle.vx_condition.specs.Grammar.{is_blank, IsDisjunctionText}
use Rattle.vx_condition.specs.Conditions.{disjunction_levels, IsCondition}
use Rattle.vx_condition.specs.Moves.{at, at_some, step, moved, levels_in, held_by, all_branches, stated, with_number, signed}
use Rattle.vx_condition.specs.Runs.{go_on, run, begun, settled, settle_at}
use Rattle.vx_condition.specs.Takes.{HasSize, EndsRefused, StopsIn, whole_in, end_at}
use Rattle.vx_condition.specs.Faults.{Begins, BeginsShallow, IsSyntaxFault, IsDeepFault, IsBadPattern, IsReadFault, HasTree, HasRoom, Halts, fault_of}
use Rattle.vx_condition.specs.declared.condition_fault.ConditionFault.{ConditionFault}
use Rattle.vx_condition.specs.declared.call.Search.TheVariants as search_for
use Rattle.vx_condition.specs.declared.expected.Expected.TheVariants as wants
use Rattle.vx_condition.specs.declared.mode.Mode.{Mode}
use Rattle.vx_condition.specs.declared.mode.Mode.TheVariants as mode
use Rattle.vx_condition.specs.declared.frame.Frame.{Frame}
use Rattle.vx_condition.specs.declared.reader.Reader.{Reader}
use Rattle.vx_condition.specs.declared.stop.Stop.{Stop}
use Rattle.vx_condition.specs.declared.stop.Stop.TheVariants as stop
use Rattle.vx_condition.proofs.Runs.{run-append}
use Rattle.vx_condition.proofs.Complete.{stopped, complete, behind_all, kept-disjunction}
use Rattle.vx_condition.proofs.Backs.{good, wrong}
use Rattle.vx_condition.proofs.Fits.{FitAt, Fit}
use Rattle.vx_condition.proofs.Leaps.{NoPattern, Leap, drops, passes, adds, stands, marks, starts, sought_more, leapt, reach, step_utf8}
use Rattle.vx_condition.proofs.Levels.{step_more, keeps_step, deep}
use Rattle.vx_condition.proofs.Sound.{went, fit_run, sound, viable}

-- ---- more levels, and one byte more
pub run_more : (m n : ℕ) (r last : Reader) (text : ByteString) → m ≤ n → run m r text ≡ good last → run n r text ≡ good last
run_more m n r last [] le h = h
run_more m n r last (b ∷ text) le h =
    let w = went (step m r b) (λ next. run m next text) last h in
    ap (λ s. go_on s (λ next. run n next text)) (step_more m n r b (good w.next) le (λ e. cc) w.one) ∙ run_more m n w.next last text le w.more

one_more : (most : ℕ) (r last : Reader) (text : ByteString) (b : ℕ) (v : Result Reader Stop) → run most r text ≡ good last → step most last b ≡ v → run most r (text ++ b ∷ []) ≡ go_on v (λ next. good next)
one_more most r last text b v h g =
    run-append most r text (b ∷ []) ∙ ap (λ s. go_on s (λ next. run most next (b ∷ []))) h ∙ ap (λ s. go_on s (λ next. good next)) g

pub one_good : (most : ℕ) (r last next : Reader) (text : ByteString) (b : ℕ) → run most r text ≡ good last → step most last b ≡ good next → run most r (text ++ b ∷ []) ≡ good next
one_good most r last next text b h g = one_more most r last text b (good next) h g

-- ---- a syntax fault
not_begun : (keeps : Bool) (last : Reader) (front : ByteString) (b : ℕ) → run 32 (begun keeps) front ≡ good last → step 32 last b ≡ wrong stop.Refused → Begins (front ++ b ∷ []) → ⊥
not_begun keeps last front b h g begins =
    let most = max 32 (disjunction_levels begins.tree) in
    let halted : run most (begun keeps) (front ++ b ∷ []) ≡ wrong stop.Refused =
    one_more most (begun keeps) last front b (wrong stop.Refused) (run_more 32 most (begun keeps) last front (omega arith) h) (step_more 32 most last b (wrong stop.Refused) (omega arith) (λ e. cc) g) in
    stopped most keeps (front ++ b ∷ []) begins.rest stop.Refused begins.tree halted begins.spelled (omega arith)

shallow : (keeps : Bool) (last : Reader) (front : ByteString) → run 32 (begun keeps) front ≡ good last → BeginsShallow front
shallow keeps last front h = let v = viable 32 keeps last front h in record { rest = v.rest; tree = v.tree; condition = record { spelled = v.spelled; shallow = v.low } }

none_so : (text front : ByteString) → (Begins front → ⊥) → (rest : ByteString) → text ≡ front ++ rest → (tree : Disjunction) → IsDisjunctionText tree text → ⊥
none_so text front never rest whole tree is = never (record { rest = rest; tree = tree; spelled = subst (IsDisjunctionText tree) whole is })

syntax_fault : (keeps : Bool) (text : ByteString) (at : ℕ) (last : Reader) → at < length text → run 32 (begun keeps) (take at text) ≡ good last → step 32 last (get_or text at 0) ≡ wrong stop.Refused → IsSyntaxFault text at
syntax_fault keeps text at last within h g =
    let never : Begins (take (at + 1) text) → ⊥ = subst (λ w. Begins w → ⊥) (sym (take_more text at 0 within)) (not_begun keeps last (take at text) (get_or text at 0) h g) in
    record {
      within = omega arith;
      begins = shallow keeps last (take at text) h;
      longest = λ lt x. never x;
      none = none_so text (take (at + 1) text) never (drop (at + 1) text) (sym (take-append-drop (at + 1) text));
    }

-- ---- a level too many
deep_fault : (keeps : Bool) (text : ByteString) (at : ℕ) (last : Reader) → at < length text → run 32 (begun keeps) (take at text) ≡ good last → step 32 last (get_or text at 0) ≡ wrong stop.Deep → IsDeepFault text at
deep_fault keeps text at last within h g =
    let b = get_or text at 0 in
    let o = deep 32 last b g in
    let most = suc (levels_in last.frame) + 32 in
    let longer : run most (begun keeps) (take at text ++ b ∷ []) ≡ good o.next =
    one_good most (begun keeps) last o.next (take at text) b (run_more 32 most (begun keeps) last (take at text) (omega arith) h)
    (step_more (suc (levels_in last.frame)) most last b (good o.next) (omega arith) (λ e. cc) o.opened) in
    let v = viable most keeps o.next (take at text ++ b ∷ []) longer in
    let more = take_more text at 0 within in
    let halted : run 32 (begun keeps) (take at text ++ b ∷ []) ≡ wrong stop.Deep = one_more 32 (begun keeps) last (take at text) b (wrong stop.Deep) h g in
    let begins : Begins (take at text ++ b ∷ []) = record { rest = v.rest; tree = v.tree; spelled = v.spelled } in
    let never : BeginsShallow (take at text ++ b ∷ []) → ⊥ =
    λ s. stopped 32 keeps (take at text ++ b ∷ []) s.rest stop.Deep s.tree halted s.condition.spelled s.condition.shallow in
    record {
      within = within;
      opens = o.mark;
      begins = shallow keeps last (take at text) h;
      goes_on = subst Begins (sym more) begins;
      deep = subst (λ w. BeginsShallow w → ⊥) (sym more) never;
    }

-- ---- the end of a text
ended_as : (r x : Reader) (m : Mode) → r.mode ≡ m → settle_at r m ≡ x → x.mode ≡ mode.Complete → x.outer ≡ [] → end_at r.frame r.outer m ≡ Some (all_branches x.frame)
ended_as r x mode.Complete there same done alone =
    let none : r.outer ≡ [] = ap (λ y. y.outer) same ∙ alone in
    ap (λ o. whole_in r.frame o) none ∙ ap (λ y. Some (all_branches y.frame)) same
ended_as r x (mode.Whole p o negative size) there same done alone =
    let none : r.outer ≡ [] = ap (λ y. y.outer) same ∙ alone in
    ap (λ l. whole_in (stated r (with_number p o (signed negative size))).frame l) none ∙ ap (λ y. Some (all_branches y.frame)) same
ended_as r x mode.Start there same done alone = let e : mode.Start ≡ mode.Complete = sym there ∙ ap (λ y. y.mode) same ∙ done in absurd (cc)
ended_as r x (mode.Expects w) there same done alone = let e : mode.Expects w ≡ mode.Complete = sym there ∙ ap (λ y. y.mode) same ∙ done in absurd (cc)
ended_as r x (mode.Word w read behind) there same done alone = let e : mode.Word w read behind ≡ mode.Complete = sym there ∙ ap (λ y. y.mode) same ∙ done in absurd (cc)
ended_as r x (mode.Path use_of p name names) there same done alone = let e : mode.Path use_of p name names ≡ mode.Complete = sym there ∙ ap (λ y. y.mode) same ∙ done in absurd (cc)
ended_as r x (mode.Text use_of t held) there same done alone = let e : mode.Text use_of t held ≡ mode.Complete = sym there ∙ ap (λ y. y.mode) same ∙ done in absurd (cc)
ended_as r x (mode.Mark p) there same done alone = let e : mode.Mark p ≡ mode.Complete = sym there ∙ ap (λ y. y.mode) same ∙ done in absurd (cc)
ended_as r x (mode.Pattern p held) there same done alone = let e : mode.Pattern p held ≡ mode.Complete = sym there ∙ ap (λ y. y.mode) same ∙ done in absurd (cc)
ended_as r x (mode.Minus p o) there same done alone = let e : mode.Minus p o ≡ mode.Complete = sym there ∙ ap (λ y. y.mode) same ∙ done in absurd (cc)
ended_as r x (mode.Angle p c) there same done alone = let e : mode.Angle p c ≡ mode.Complete = sym there ∙ ap (λ y. y.mode) same ∙ done in absurd (cc)

unended : (keeps : Bool) (text : ByteString) (last : Reader) → run 32 (begun keeps) text ≡ good last → end_at last.frame last.outer last.mode ≡ None → (tree : Disjunction) → IsDisjunctionText tree text → ⊥
unended keeps text last h none tree is =
    let most = max 32 (disjunction_levels tree) in
    let whole = complete most keeps tree text is (omega arith) in
    let ran = ap settled (run_more 32 most (begun keeps) last text (omega arith) h) in
    let same : good (settle_at last last.mode) ≡ good (behind_all keeps tree) = sym ran ∙ whole in
    let x : settle_at last last.mode ≡ behind_all keeps tree = cc in
    let e = ended_as last (behind_all keeps tree) last.mode refl x refl refl in
    let never : None ≡ Some (all_branches (behind_all keeps tree).frame) = sym none ∙ e in
    absurd (cc)

pub end_fault : (keeps : Bool) (text : ByteString) (last : Reader) → run 32 (begun keeps) text ≡ good last → end_at last.frame last.outer last.mode ≡ None → IsSyntaxFault text (length text)
end_fault keeps text last h none =
    record {
      within = omega arith;
      begins = subst BeginsShallow (sym (take_all (length text) text (omega arith))) (shallow keeps last text h);
      longest = λ lt x. absurd (omega arith);
      none = unended keeps text last h none;
    }

pub has_tree : (keeps : Bool) (text : ByteString) (last : Reader) (bs : List (List Term)) → run 32 (begun keeps) text ≡ good last → end_at last.frame last.outer last.mode ≡ Some bs → HasTree keeps text (disjunction_of bs)
has_tree keeps text last bs h e =
    let f = sound 32 keeps last text bs h e in record { tree = f.tree; condition = record { spelled = f.spelled; shallow = f.low }; same = f.same }

-- ---- a pattern that is refused
pub record Marked (keeps : Bool) (p : List ByteString) (text : ByteString) : Type 0 where
  pub front : ByteString
  pub before : Reader
  pub ran : run 32 (begun keeps) front ≡ good before
  pub there : before.mode ≡ mode.Expects (wants.Argument search_for.Pattern p)
  pub whole : text ≡ front ++ 114 ∷ []

pub record Quoted (keeps : Bool) (p : List ByteString) (held text : ByteString) : Type 0 where
  pub front : ByteString
  pub before : Reader
  pub ran : run 32 (begun keeps) front ≡ good before
  pub there : before.mode ≡ mode.Expects (wants.Argument search_for.Pattern p)
  pub bare : list_any (λ b. b == 39) held ≡ false
  pub whole : text ≡ front ++ (114 ∷ 39 ∷ held)

-- how a text came to a pattern
abbrev pub Came : Bool → Mode → ByteString → Type 0
Came keeps (mode.Mark p) text = Marked keeps p text
Came keeps (mode.Pattern p held) text = Quoted keeps p held text
Came keeps m text = Unit {0}

came_plain : (keeps : Bool) (m : Mode) (text : ByteString) → NoPattern m → Came keeps m text
came_plain keeps (mode.Mark p) text n = absurd n
came_plain keeps (mode.Pattern p held) text n = absurd n
came_plain keeps mode.Start text n = tt
came_plain keeps (mode.Expects w) text n = tt
came_plain keeps mode.Complete text n = tt
came_plain keeps (mode.Word w read behind) text n = tt
came_plain keeps (mode.Path use_of p name names) text n = tt
came_plain keeps (mode.Text use_of t held) text n = tt
came_plain keeps (mode.Minus p o) text n = tt
came_plain keeps (mode.Whole p o negative size) text n = tt
came_plain keeps (mode.Angle p c) text n = tt

any_more : (held : ByteString) (b : ℕ) → list_any (λ c. c == 39) held ≡ false → (b == 39) ≡ false → list_any (λ c. c == 39) (held ++ b ∷ []) ≡ false
any_more [] b h g = ap (λ t. t || false) g
any_more (c ∷ held) b h g = two (c == 39) (λ e. any_more held b e g) h
  where
    two : (t : Bool) → (list_any (λ d. d == 39) held ≡ false → list_any (λ d. d == 39) (held ++ b ∷ []) ≡ false) → (t || list_any (λ d. d == 39) held) ≡ false → (t || list_any (λ d. d == 39) (held ++ b ∷ [])) ≡ false
    two true f e = absurd (cc)
    two false f e = f e

came_more : (keeps : Bool) (r next : Reader) (b : ℕ) (text : ByteString) (m n : Mode) → r.mode ≡ m → run 32 (begun keeps) text ≡ good r → Leap m b n → Came keeps m text → Came keeps n (text ++ b ∷ [])
came_more keeps r next b text m n here h (drops low none bare) c = came_plain keeps n (text ++ b ∷ []) bare
came_more keeps r next b text m n here h (passes low same bare) c = came_plain keeps n (text ++ b ∷ []) bare
came_more keeps r next b text m n here h (adds same bare) c = came_plain keeps n (text ++ b ∷ []) bare
came_more keeps r next b text m n here h (stands low e small same bare) c = came_plain keeps n (text ++ b ∷ []) bare
came_more keeps r next b text m n here h (marks p there is114 to) c =
    subst (λ k. Came keeps k (text ++ b ∷ [])) (sym to) (record { front = text; before = r; ran = h; there = here ∙ there; whole = ap (λ x. text ++ x ∷ []) is114 })
came_more keeps r next b text m n here h (starts p there is39 to) c =
    let k : Marked keeps p text = subst (λ k. Came keeps k text) there c in
    subst (λ k. Came keeps k (text ++ b ∷ [])) (sym to)
    (record { front = k.front; before = k.before; ran = k.ran; there = k.there; bare = refl; whole = ap (λ w. w ++ b ∷ []) k.whole ∙ append_assoc k.front (114 ∷ []) (b ∷ []) ∙ ap (λ x. k.front ++ (114 ∷ x ∷ [])) is39 })
came_more keeps r next b text m n here h (sought_more p held there no_ to) c =
    let q : Quoted keeps p held text = subst (λ k. Came keeps k text) there c in
    subst (λ k. Came keeps k (text ++ b ∷ [])) (sym to)
    (record { front = q.front; before = q.before; ran = q.ran; there = q.there; bare = any_more held b q.bare no_; whole = ap (λ w. w ++ b ∷ []) q.whole ∙ append_assoc q.front (114 ∷ 39 ∷ held) (b ∷ []) })

came_run : (keeps : Bool) (r last : Reader) (done text : ByteString) → run 32 (begun keeps) done ≡ good r → Came keeps r.mode done → run 32 r text ≡ good last → Came keeps last.mode (done ++ text)
came_run keeps r last done [] h c g = subst (Came keeps last.mode) (sym (append-nil done)) (reach r last (λ x. Came keeps x.mode done) g c)
came_run keeps r last done (b ∷ text) h c g =
    let w = went (step 32 r b) (λ next. run 32 next text) last g in
    let fit : Fit r = fit_run 32 (begun keeps) r done tt h in
    let l = leapt 32 r w.next b fit w.one in
    subst (Came keeps last.mode) (append_assoc done (b ∷ []) text)
    (came_run keeps w.next last (done ++ b ∷ []) text (one_good 32 (begun keeps) r w.next done b h w.one) (came_more keeps r w.next b done r.mode w.next.mode refl h l.leap c) w.more)

pub came_to : (keeps : Bool) (last : Reader) (text : ByteString) → run 32 (begun keeps) text ≡ good last → Came keeps last.mode text
came_to keeps last text h = came_run keeps (begun keeps) last [] text refl tt h

pub keeps_run : (most : ℕ) (r last : Reader) (text : ByteString) → run most r text ≡ good last → last.keeps ≡ r.keeps
keeps_run most r last [] h = reach r last (λ x. x.keeps ≡ r.keeps) h refl
keeps_run most r last (b ∷ text) h =
    let w = went (step most r b) (λ next. run most next text) last h in
    keeps_run most w.next last text w.more ∙ keeps_step most r w.next b w.one

-- where a pattern is expected, nothing else but blanks may stand
only_pattern : (keeps : Bool) (r : Reader) (p : List ByteString) (front : ByteString) (b : ℕ) → run 32 (begun keeps) front ≡ good r → r.mode ≡ mode.Expects (wants.Argument search_for.Pattern p) → Begins (front ++ b ∷ []) → (b ≡ 114) ⊎ IsTrue (is_blank b)
only_pattern keeps r p front b h there begins = two (is_blank b) (b == 114) refl refl
  where
    stepped : step 32 r b ≡ cond (is_blank b) (good (at r (mode.Expects (wants.Argument search_for.Pattern p)))) (at_some r (cond (b == 114) (Some (mode.Mark p)) None))
    stepped = ap (λ m. moved 32 r m b) there

    two : (s t : Bool) → is_blank b ≡ s → (b == 114) ≡ t → (b ≡ 114) ⊎ IsTrue (is_blank b)
    two true t e g = inr e
    two false true e g = inl (eqb-true b 114 g)
    two false false e g =
        absurd (not_begun keeps r front b h
        (stepped ∙ ap (λ x. cond x (good (at r (mode.Expects (wants.Argument search_for.Pattern p)))) (at_some r (cond (b == 114) (Some (mode.Mark p)) None))) e
        ∙ ap (λ x. at_some r (cond x (Some (mode.Mark p)) None)) g) begins)

bad_text : (front pattern back : ByteString) → (front ++ (114 ∷ 39 ∷ pattern)) ++ (39 ∷ back) ≡ front ++ (114 ∷ 39 ∷ (pattern ++ 39 ∷ back))
bad_text front pattern back = append_assoc front (114 ∷ 39 ∷ pattern) (39 ∷ back)

taken_length : (text : ByteString) (at : ℕ) → at < length text → length (take at text) ≡ at
taken_length [] at h = absurd (omega arith)
taken_length (x ∷ text) zero h = refl
taken_length (x ∷ text) (suc at) h = let e = taken_length text at (omega arith) in omega arith

came_quoted : (keeps : Bool) (text : ByteString) (at n : ℕ) (last : Reader) → run 32 (begun keeps) (take at text) ≡ good last → (x : EndsRefused last.keeps last.mode (get_or text at 0) n) → Quoted keeps x.path x.pattern (take at text)
came_quoted keeps text at n last h x = subst (λ m. Came keeps m (take at text)) x.there (came_to keeps last (take at text) h)

pub room : (keeps : Bool) (text : ByteString) (at n : ℕ) (last : Reader) → at < length text → run 32 (begun keeps) (take at text) ≡ good last → EndsRefused last.keeps last.mode (get_or text at 0) n → n + 2 ≤ at
room keeps text at n last within h x =
    let q = came_quoted keeps text at n last h x in
    omega (arith, x.size, taken_length text at within, ap length q.whole, length-append q.front (114 ∷ 39 ∷ x.pattern))

bad_pattern : (keeps : Bool) (text : ByteString) (at n : ℕ) (last : Reader) → at < length text → run 32 (begun keeps) (take at text) ≡ good last → EndsRefused last.keeps last.mode (get_or text at 0) n → (keeps ≡ true) × IsBadPattern text (at - n - 2)
bad_pattern keeps text at n last within h x =
    let q = came_quoted keeps text at n last h x in
    let back = drop (at + 1) text in
    let split_text : text ≡ take at text ++ (39 ∷ back) =
    sym (take-append-drop (at + 1) text) ∙ ap (λ w. w ++ back) (take_more text at 0 within) ∙ append_assoc (take at text) (get_or text at 0 ∷ []) back ∙ ap (λ y. take at text ++ (y ∷ back)) x.ended in (
      sym (keeps_run 32 (begun keeps) last (take at text) h) ∙ x.kept,
      record {
        pattern = x.pattern;
        front = q.front;
        back = back;
        whole = split_text ∙ ap (λ w. w ++ (39 ∷ back)) q.whole ∙ bad_text q.front x.pattern back;
        place = omega (arith, x.size, taken_length text at within, ap length q.whole, length-append q.front (114 ∷ 39 ∷ x.pattern));
        bare = q.bare;
        only = λ b begins. only_pattern keeps q.before x.path q.front b q.ran q.there begins;
        refused = x.refused;
      },
    )

-- ---- every stop
stop_fault : (keeps : Bool) (text : ByteString) (at : ℕ) (last : Reader) (e : Stop) → at < length text → run 32 (begun keeps) (take at text) ≡ good last → StopsIn last last.mode (get_or text at 0) e → IsReadFault keeps text (fault_of e at)
stop_fault keeps text at last stop.Refused within h s = syntax_fault keeps text at last within h s
stop_fault keeps text at last stop.Deep within h s = deep_fault keeps text at last within h s
stop_fault keeps text at last (stop.BadPattern n) within h s = bad_pattern keeps text at n last within h s
stop_fault keeps text at last stop.WantOfMemory within h s = tt

pub halted : (keeps : Bool) (text : ByteString) (f : ConditionFault) → Halts keeps text f → IsReadFault keeps text f
halted keeps text f x = subst (IsReadFault keeps text) (sym x.same) (stop_fault keeps text x.at x.reader x.stop x.within x.ran x.stops)

pub has_room : (keeps : Bool) (text : ByteString) (at : ℕ) (last : Reader) (e : Stop) → at < length text → run 32 (begun keeps) (take at text) ≡ good last → StopsIn last last.mode (get_or text at 0) e → HasRoom e at
has_room keeps text at last stop.Refused within h s = tt
has_room keeps text at last stop.Deep within h s = tt
has_room keeps text at last (stop.BadPattern n) within h s = room keeps text at n last within h s
has_room keeps text at last stop.WantOfMemory within h s = tt

-- ---- a number that has begun has its size
size_of : (f : Frame) (m : Mode) → FitAt f m → HasSize m
size_of f (mode.Whole p o negative size) fit = fit
size_of f mode.Start fit = tt
size_of f (mode.Expects w) fit = tt
size_of f mode.Complete fit = tt
size_of f (mode.Word w read behind) fit = tt
size_of f (mode.Path use_of p name names) fit = tt
size_of f (mode.Text use_of t held) fit = tt
size_of f (mode.Mark p) fit = tt
size_of f (mode.Pattern p held) fit = tt
size_of f (mode.Minus p o) fit = tt
size_of f (mode.Angle p c) fit = tt

pub has_size : (keeps : Bool) (last : Reader) (text : ByteString) → run 32 (begun keeps) text ≡ good last → HasSize last.mode
has_size keeps last text h = size_of last.frame last.mode (fit_run 32 (begun keeps) last text tt h)

-- ---- a reader on its way along a text
pub record HasTaken (keeps : Bool) (text : ByteString) (i : ℕ) (reader : Reader) : Type 0 where
  pub ran : run 32 (begun keeps) (take i text) ≡ good reader
  pub utf8 : IsUtf8 (held_by reader.mode ++ drop i text)

pub taken_none : (keeps : Bool) (text : ByteString) (reader : Reader) → reader ≡ begun keeps → IsUtf8 text → HasTaken keeps text 0 reader
taken_none keeps text reader same u = let P : Reader → Type 0 = HasTaken keeps text 0 in subst P (sym same) (record { ran = refl; utf8 = u })

rest_at : (text : ByteString) (i : ℕ) → i < length text → drop i text ≡ get_or text i 0 ∷ drop (i + 1) text
rest_at text i h = drop-cons text i 0 h ∙ ap (λ n. get_or text i 0 ∷ drop n text) (sym (add-one i))

pub taken_more : (keeps : Bool) (text : ByteString) (i : ℕ) (old new : Reader) → i < length text → step 32 old (get_or text i 0) ≡ good new → HasTaken keeps text i old → HasTaken keeps text (i + 1) new
taken_more keeps text i old new within h t =
    record {
      ran = ap (run 32 (begun keeps)) (take_more text i 0 within) ∙ one_good 32 (begun keeps) old new (take i text) (get_or text i 0) t.ran h;
      utf8 = step_utf8 32 old new (get_or text i 0) (drop (i + 1) text) (fit_run 32 (begun keeps) old (take i text) tt t.ran) h
          (subst (λ w. IsUtf8 (held_by old.mode ++ w)) (rest_at text i within) t.utf8);
    }

pub taken_text : (keeps : Bool) (text : ByteString) (i b : ℕ) (reader : Reader) → i < length text → b ≡ get_or text i 0 → HasTaken keeps text i reader → b < 128 → IsUtf8 (held_by reader.mode)
taken_text keeps text i b reader within same t low =
    utf8-left (held_by reader.mode) (drop (i + 1) text) (get_or text i 0) (subst (λ x. x < 128) same low) (subst (λ w. IsUtf8 (held_by reader.mode ++ w)) (rest_at text i within) t.utf8)

pub taken_all : (keeps : Bool) (text : ByteString) (i : ℕ) (reader : Reader) → i ≡ length text → HasTaken keeps text i reader → run 32 (begun keeps) text ≡ good reader
taken_all keeps text i reader whole t = ap (run 32 (begun keeps)) (sym (take_all i text (omega arith))) ∙ t.ran

-- ---- both readings
pub kept_condition : (text : ByteString) (found : Disjunction) → HasTree true text found → IsCondition found text
kept_condition text found x = subst (λ t. IsCondition t text) (sym (x.same ∙ kept-disjunction x.tree)) x.condition
