-- Fields merged one by one, from the front.
use Rattle.std.proofs.Common.{◌≡◌, Bool, true, false, Option, Some, None, List, [], ◌∷◌, ◌++◌, IsTrue, arith, refl, sym, ◌∙◌, ap, cond}
use Rattle.vx_value.specs.Datum.{Datum, NamedDatum}
use Rattle.vx_value.specs.Texts.{ByteString, same_text, text_lt}
use Rattle.vx_value.specs.Events.{value_under, with_field, names_rise, last_below}
use Rattle.vx_value.proofs.Order.{less_not_same, less_not_same', less_not_more, same_text-true, text_lt-trans, less_or}
use Rattle.vx_value.proofs.With.{names_rise-with}
use Rattle.vx_condition.specs.Merging.{merged_value, merged_with}
use Rattle.vx_condition.specs.declared.strategy.Strategy.{Strategy}

-- the first name, if there is one, comes after a text
abbrev pub first_after : ByteString → List NamedDatum → Bool
first_after low [] = true
first_after low (f ∷ fs) = text_lt low f.name

pub rise-head : (f : NamedDatum) (fs : List NamedDatum) → IsTrue (names_rise (f ∷ fs)) → first_after f.name fs ≡ true
rise-head f [] r = refl
rise-head f (g ∷ fs) r = grind arith

pub rise-tail : (f : NamedDatum) (fs : List NamedDatum) → IsTrue (names_rise (f ∷ fs)) → IsTrue (names_rise fs)
rise-tail f [] r = r
rise-tail f (g ∷ gs) r = grind arith

first_after-trans : (low name : ByteString) (fs : List NamedDatum) → text_lt low name ≡ true → first_after name fs ≡ true → first_after low fs ≡ true
first_after-trans low name [] h k = refl
first_after-trans low name (f ∷ fs) h k = text_lt-trans low name f.name h k

-- what comes behind a name isn't under it
pub none_under : (fs : List NamedDatum) (name : ByteString) → first_after name fs ≡ true → IsTrue (names_rise fs) → value_under fs name ≡ None
none_under [] name h r = refl
none_under (f ∷ fs) name h r =
    rw (less_not_same' name f.name h) (none_under fs name (first_after-trans name f.name fs h (rise-head f fs r)) (rise-tail f fs r))

module _ (paths : List (List ByteString)) (strategies : List Strategy) where
  -- a field in front of all that is merged stays there
  pub merged-front : (x : NamedDatum) (gs es : List NamedDatum) → first_after x.name es ≡ true → IsTrue (names_rise es) → merged_with paths strategies (x ∷ gs) es ≡ x ∷ merged_with paths strategies gs es
  merged-front x gs [] h r = refl
  merged-front x gs (e ∷ es) h r =
      rw (less_not_same x.name e.name h, h)
      (merged-front x (with_field gs e.name (merged_value paths strategies e (value_under gs e.name))) es (first_after-trans x.name e.name es h (rise-head e es r)) (rise-tail e es r))

  -- the first field of what comes, where the group's fields come behind it
  pub merged-new : (gs es : List NamedDatum) (e : NamedDatum) → first_after e.name gs ≡ true → IsTrue (names_rise gs) → IsTrue (names_rise (e ∷ es)) → merged_with paths strategies gs (e ∷ es) ≡ record { name = e.name; value = merged_value paths strategies e None } ∷ merged_with paths strategies gs es
  merged-new [] es e h r s = merged-front (record { name = e.name; value = merged_value paths strategies e None }) [] es (rise-head e es s) (rise-tail e es s)
  merged-new (g ∷ gs) es e h r s =
      rw (none_under (g ∷ gs) e.name h r, less_first e.name g.name h, less_not_same' e.name g.name h)
      (merged-front (record { name = e.name; value = merged_value paths strategies e None }) (g ∷ gs) es (rise-head e es s) (rise-tail e es s))
    where
      less_first : (a b : ByteString) → text_lt a b ≡ true → text_lt b a ≡ false
      less_first a b k = less_not_more a b k

  -- and where the group's first field has its name
  pub merged-same : (gs es : List NamedDatum) (g e : NamedDatum) → text_lt g.name e.name ≡ false → same_text g.name e.name ≡ true → IsTrue (names_rise (e ∷ es)) → merged_with paths strategies (g ∷ gs) (e ∷ es) ≡ record { name = e.name; value = merged_value paths strategies e (Some g.value) } ∷ merged_with paths strategies gs es
  merged-same gs es g e h k s = rw (k, h) (merged-front (record { name = e.name; value = merged_value paths strategies e (Some g.value) }) gs es (rise-head e es s) (rise-tail e es s))

  -- merged fields have rising names
  pub merged-rise : (gs es : List NamedDatum) → IsTrue (names_rise gs) → IsTrue (names_rise (merged_with paths strategies gs es))
  merged-rise gs [] r = r
  merged-rise gs (e ∷ es) r = merged-rise (with_field gs e.name (merged_value paths strategies e (value_under gs e.name))) es (names_rise-with gs e.name _ r)

-- a field in the midst of others comes behind those in front of it
pub below-rise : (front rest : List NamedDatum) (f : NamedDatum) → IsTrue (names_rise (front ++ f ∷ rest)) → IsTrue (last_below front f.name)
below-rise [] rest f r = refl
below-rise (g ∷ []) rest f r = rise-head g (f ∷ rest) r
below-rise (g ∷ h ∷ front) rest f r = below-rise (h ∷ front) rest f (rise-tail g (h ∷ front ++ f ∷ rest) r)
