-- The least name of a component that is to run a transform which isn't handed in; and where there is none.
use Rattle.std.proofs.Common.{◌≡◌, ◌∙◌, ◌⊎◌, inl, inr, Bool, true, false, List, [], ◌∷◌, ◌-◌, ◌≤◌, length, take, drop, get_or, Option, Some, None, refl, sym, ap, subst, arith}
use Rattle.std.specs.Prelude.{◌&&◌, ◌||◌, not, IfSome, IfNone}
use Rattle.std.specs.List.{list_all, list_any}
use Rattle.std.proofs.lemmas.Bool.{and_parts}
use Rattle.std.proofs.lemmas.List.{length-drop, take_all}
use Rattle.vx_value.specs.Texts.{ByteString, same_text, text_lt}
use Rattle.vx_value.proofs.Order.{less_not_more, less_or, same_text-refl, same_text-true, text_lt-trans}
use Rattle.vx_plan.specs.declared.component.Component.{Component}
use Rattle.vx_plan.specs.declared.plan.Plan.{Plan}
use Rattle.vx_record.specs.Installs.{in_force}
use Rattle.vx_record.specs.Records.{Record}
use Rattle.vx_cli.specs.declared.fault.Fault.{Fault}
use Rattle.vx_cli.specs.declared.fault.Fault.TheVariants.{Usage, ConfigRead, ConfigRefused, UnknownHost, Numbers, SourceFailed, ConfirmFailed, PrintFailed, WantOfMemory}
use Rattle.vx_run.specs.Hosting.{AllKnown, AreHosted, IsLeastUnknown, IsLesser, is_unknown}
use Rattle.vx_run.specs.Running.{IsInForce}

-- no text comes before itself
unlike : (a : ByteString) → text_lt a a ≡ false
unlike a = go (text_lt a a) refl
  where
    go : (b : Bool) → text_lt a a ≡ b → text_lt a a ≡ false
    go false is = is
    go true is = less_not_more a a is

-- what comes before a text comes before each that doesn't come before that
before_more : (d a b : ByteString) → text_lt d a ≡ true → text_lt b a ≡ false → text_lt d b ≡ true
before_more d a b less after = go (same_text b a) refl
  where
    go : (s : Bool) → same_text b a ≡ s → text_lt d b ≡ true
    go true same = subst (λ (t : ByteString). text_lt d t ≡ true) (sym (same_text-true b a same)) less
    go false other = text_lt-trans d a b less (less_or b a after other)

-- so what doesn't come before a text doesn't come before each that this doesn't come before
none_before : (d a b : ByteString) → text_lt b a ≡ false → text_lt d b ≡ false → text_lt d a ≡ false
none_before d a b after none = go (text_lt d a) refl
  where
    go : (t : Bool) → text_lt d a ≡ t → text_lt d a ≡ false
    go false is = is
    go true is = let both : true ≡ false = sym (before_more d a b is after) ∙ none in cc

or_true : (a b : Bool) → b ≡ true → (a || b) ≡ true
or_true true b is = refl
or_true false b is = is

both_true : (a b : Bool) → a ≡ true → b ≡ true → (a && b) ≡ true
both_true true b one other = other
both_true false b one other = cc

-- what is so of each that is so
each_wider : (names : List ByteString) (holds : Component → Bool) (cs : List Component) → AllKnown names cs → list_all (λ (c : Component). not (is_unknown names c) || holds c) cs ≡ true
each_wider names holds [] all = refl
each_wider names holds (c ∷ cs) all =
    let both = and_parts (not (is_unknown names c)) (list_all (λ (d : Component). not (is_unknown names d)) cs) all in
    both_true (not (is_unknown names c) || holds c) (list_all (λ (d : Component). not (is_unknown names d) || holds d) cs) (ap (λ (b : Bool). b || holds c) both.0) (each_wider names holds cs both.1)

least_down : (names : List ByteString) (cs : List Component) (a b : ByteString) → text_lt b a ≡ false → list_all (λ (c : Component). not (is_unknown names c) || not (text_lt c.name b)) cs ≡ true →
    list_all (λ (c : Component). not (is_unknown names c) || not (text_lt c.name a)) cs ≡ true
least_down names [] a b after all = refl
least_down names (c ∷ cs) a b after all =
    let both = and_parts (not (is_unknown names c) || not (text_lt c.name b)) (list_all (λ (d : Component). not (is_unknown names d) || not (text_lt d.name b)) cs) all in
    both_true (not (is_unknown names c) || not (text_lt c.name a)) (list_all (λ (d : Component). not (is_unknown names d) || not (text_lt d.name a)) cs)
    (go (is_unknown names c) (text_lt c.name b) refl both.0) (least_down names cs a b after both.1)
  where
    go : (u t : Bool) → text_lt c.name b ≡ t → (not u || not t) ≡ true → (not u || not (text_lt c.name a)) ≡ true
    go false t is one = refl
    go true false is one = ap not (none_before c.name a b after is)
    go true true is one = cc

module _ (names : List ByteString) (c : Component) (cs : List Component) where
  -- a component more of which it isn't so
  pub known_more : is_unknown names c ≡ false → AllKnown names cs → AllKnown names (c ∷ cs)
  known_more is all = both_true (not (is_unknown names c)) (list_all (λ (d : Component). not (is_unknown names d)) cs) (ap not is) all

  pub least_on : (name : ByteString) → is_unknown names c ≡ false → IsLeastUnknown names cs name → IsLeastUnknown names (c ∷ cs) name
  least_on name is least = record {
    there = or_true (is_unknown names c && same_text c.name name) (list_any (λ (d : Component). is_unknown names d && same_text d.name name) cs) least.there;
    least = both_true (not (is_unknown names c) || not (text_lt c.name name)) (list_all (λ (d : Component). not (is_unknown names d) || not (text_lt d.name name)) cs)
        (ap (λ (b : Bool). not b || not (text_lt c.name name)) is) least.least;
  }

  -- a component of which it is so is there
  here : is_unknown names c ≡ true → list_any (λ (d : Component). is_unknown names d && same_text d.name c.name) (c ∷ cs) ≡ true
  here is =
      ap (λ (b : Bool). b || list_any (λ (d : Component). is_unknown names d && same_text d.name c.name) cs)
      (both_true (is_unknown names c) (same_text c.name c.name) is (same_text-refl c.name))

  itself : (name : ByteString) → text_lt c.name name ≡ false → (not (is_unknown names c) || not (text_lt c.name name)) ≡ true
  itself name after = or_true (not (is_unknown names c)) (not (text_lt c.name name)) (ap not after)

  -- the first of which it is so
  pub least_first : is_unknown names c ≡ true → AllKnown names cs → IsLeastUnknown names (c ∷ cs) c.name
  least_first is all = record {
    there = here is;
    least = both_true (not (is_unknown names c) || not (text_lt c.name c.name)) (list_all (λ (d : Component). not (is_unknown names d) || not (text_lt d.name c.name)) cs)
        (itself c.name (unlike c.name)) (each_wider names (λ (d : Component). not (text_lt d.name c.name)) cs all);
  }

  -- one more of which it is so
  pub least_more : (name chosen : ByteString) → is_unknown names c ≡ true → IsLeastUnknown names cs name → IsLesser c.name name chosen → IsLeastUnknown names (c ∷ cs) chosen
  least_more name chosen is least (inl own) =
      subst (IsLeastUnknown names (c ∷ cs)) (sym own.1)
      (record {
        there = here is;
        least = both_true (not (is_unknown names c) || not (text_lt c.name c.name)) (list_all (λ (d : Component). not (is_unknown names d) || not (text_lt d.name c.name)) cs)
            (itself c.name (unlike c.name)) (least_down names cs c.name name own.0 least.least);
      })
  least_more name chosen is least (inr that) =
      subst (IsLeastUnknown names (c ∷ cs)) (sym that.1)
      (record {
        there = or_true (is_unknown names c && same_text c.name name) (list_any (λ (d : Component). is_unknown names d && same_text d.name name) cs) least.there;
        least = both_true (not (is_unknown names c) || not (text_lt c.name name)) (list_all (λ (d : Component). not (is_unknown names d) || not (text_lt d.name name)) cs)
            (itself name (less_not_more name c.name that.0)) least.least;
      })

-- what a list begins with
first_of : (cs : List Component) (c : Component) → 1 ≤ length cs → c ≡ get_or cs 0 c → cs ≡ c ∷ drop 1 cs
first_of [] c l is = absurd (omega (arith, l))
first_of (d ∷ cs) c l is = ap (λ (x : Component). x ∷ cs) (sym is)

-- the lesser of the first such name and the least of the rest, if there is one
pub least_chosen : {X : Type 0} (text : X → ByteString) (names : List ByteString) (cs : List Component) (c : Component) (least : Option X) (chosen : ByteString) → 1 ≤ length cs → c ≡ get_or cs 0 c → is_unknown names c ≡ true →
    IfSome least (λ (that : X). IsLeastUnknown names (take (length cs - 1) (drop 1 cs)) (text that)) → IfNone least (AllKnown names (take (length cs - 1) (drop 1 cs))) →
    IfSome least (λ (that : X). IsLesser c.name (text that) chosen) → IfNone least (chosen ≡ c.name) → IsLeastUnknown names cs chosen
least_chosen {X} text names cs c least chosen l is unknown some none lesser alone =
    let count : length (drop 1 cs) ≡ length cs - 1 = length-drop 1 cs in
    let whole : take (length cs - 1) (drop 1 cs) ≡ drop 1 cs = take_all (length cs - 1) (drop 1 cs) (omega (arith, count)) in
    subst (λ (all : List Component). IsLeastUnknown names all chosen) (sym (first_of cs c l is))
    (go least (subst (λ (rest : List Component). IfSome least (λ (that : X). IsLeastUnknown names rest (text that))) whole some) (subst (λ (rest : List Component). IfNone least (AllKnown names rest)) whole none) lesser alone)
  where
    go : (o : Option X) → IfSome o (λ (that : X). IsLeastUnknown names (drop 1 cs) (text that)) → IfNone o (AllKnown names (drop 1 cs)) →
        IfSome o (λ (that : X). IsLesser c.name (text that) chosen) → IfNone o (chosen ≡ c.name) → IsLeastUnknown names (c ∷ drop 1 cs) chosen
    go None some none lesser alone = subst (IsLeastUnknown names (c ∷ drop 1 cs)) (sym alone) (least_first names c (drop 1 cs) unknown none)
    go (Some that) some none lesser alone = least_more names c (drop 1 cs) (text that) chosen unknown some lesser

-- where it is so of none, there is no least
unknown_known : (b s : Bool) → (b && s) ≡ true → not b ≡ true → ⊥
unknown_known true s one other = cc
unknown_known false s one other = cc

pub none_least : (names : List ByteString) (cs : List Component) (name : ByteString) → AllKnown names cs → list_any (λ (c : Component). is_unknown names c && same_text c.name name) cs ≡ true → ⊥
none_least names [] name all there = cc
none_least names (c ∷ cs) name all there =
    let both = and_parts (not (is_unknown names c)) (list_all (λ (d : Component). not (is_unknown names d)) cs) all in
    go (is_unknown names c && same_text c.name name) refl there (λ (one : (is_unknown names c && same_text c.name name) ≡ true). unknown_known (is_unknown names c) (same_text c.name name) one both.0) (none_least names cs name both.1)
  where
    go : (b : Bool) → (is_unknown names c && same_text c.name name) ≡ b → (b || list_any (λ (d : Component). is_unknown names d && same_text d.name name) cs) ≡ true →
        ((is_unknown names c && same_text c.name name) ≡ true → ⊥) → (list_any (λ (d : Component). is_unknown names d && same_text d.name name) cs ≡ true → ⊥) → ⊥
    go true is some first rest = first is
    go false is some first rest = rest some

-- of the plan in force of a run that began no transform is wanting, if none is of the plan that it began with
known_of : (names : List ByteString) (plan : Plan) (h : Record) → in_force h ≡ Some plan → AllKnown names plan.components → AreHosted names h
known_of names plan h is known = subst (λ (found : Option Plan). IfSome found (λ (p : Plan). AllKnown names p.components)) (sym is) known

pub hosted_none : (names : List ByteString) (h : Record) → h ≡ [] → AreHosted names h
hosted_none names h none = subst (AreHosted names) (sym none) tt

pub hosted_of : (names : List ByteString) (once : Bool) (plan : Plan) (h : Record) (fault : Option Fault) → IsInForce once plan h fault → AllKnown names plan.components → AreHosted names h
hosted_of names once plan h None is known = known_of names plan h is.installed known
hosted_of names once plan h (Some WantOfMemory) (inl unbegun) known = hosted_none names h unbegun
hosted_of names once plan h (Some WantOfMemory) (inr is) known = known_of names plan h is.installed known
hosted_of names once plan h (Some Usage) is known = known_of names plan h is.installed known
hosted_of names once plan h (Some (ConfigRead path)) is known = known_of names plan h is.installed known
hosted_of names once plan h (Some (ConfigRefused f)) is known = known_of names plan h is.installed known
hosted_of names once plan h (Some (UnknownHost name)) is known = known_of names plan h is.installed known
hosted_of names once plan h (Some (Numbers next wanted)) is known = known_of names plan h is.installed known
hosted_of names once plan h (Some PrintFailed) is known = known_of names plan h is.installed known
hosted_of names once plan h (Some (SourceFailed name at)) is known = known_of names plan h is.installed known
hosted_of names once plan h (Some (ConfirmFailed name)) is known = known_of names plan h is.installed known
