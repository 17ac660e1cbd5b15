-- What added entries carry.
use Rattle.std.proofs.Common.{◌≡◌, ◌∙◌, List, [], ◌∷◌, ◌++◌, sym, ap, subst, append_assoc}
use Rattle.vx_record.specs.declared.entry.Entry.{Entry}
use Rattle.vx_record.specs.Records.{Record}
use Rattle.vx_record.specs.Legal.{Follows, IsLegal}
use Rattle.vx_record.specs.Additions.{Comes, Each, OnlyAdds}

module _ (Kind : Record → Entry → Type 0) where
  each_carry : (Keep : Record → Type 0) → ((h : Record) (e : Entry) → Follows h e → Kind h e → Keep h → Keep (e ∷ h)) →
      (es : List Entry) (h : Record) → Each Kind es h → Keep h → Keep (es ++ h)
  each_carry Keep step [] h each keep = keep
  each_carry Keep step (e ∷ es) h each keep =
      step (es ++ h) e each.0.follows each.0.kind (each_carry Keep step es h each.1 keep)

  -- what each such entry keeps, all of them keep
  pub carry : (Keep : Record → Type 0) → ((h : Record) (e : Entry) → Follows h e → Kind h e → Keep h → Keep (e ∷ h)) →
      (old new : Record) → OnlyAdds Kind old new → Keep old → Keep new
  carry Keep step old new adds keep = subst Keep (sym adds.is) (each_carry Keep step adds.added old adds.each keep)

  pub adds_none : (old new : Record) → new ≡ old → OnlyAdds Kind old new
  adds_none old new same = record { added = []; is = same; each = tt }

  -- one more entry
  pub adds_one : (old mid new : Record) (e : Entry) → OnlyAdds Kind old mid → Follows mid e → Kind mid e → new ≡ e ∷ mid → OnlyAdds Kind old new
  adds_one old mid new e adds follows kind is = record {
    added = e ∷ adds.added;
    is = is ∙ ap (λ h. e ∷ h) adds.is;
    each = (subst (λ h. Comes Kind h e) adds.is (record { follows = follows; kind = kind }), adds.each);
  }

  each_both : (es more : List Entry) (h : Record) → Each Kind es h → Each Kind more (es ++ h) → Each Kind (more ++ es) h
  each_both es [] h first later = first
  each_both es (e ∷ more) h first later =
      (subst (λ r. Comes Kind r e) (sym (append_assoc more es h)) later.0, each_both es more h first later.1)

  -- what was added in two turns
  pub adds_both : (old mid new : Record) → OnlyAdds Kind old mid → OnlyAdds Kind mid new → OnlyAdds Kind old new
  adds_both old mid new first later = record {
    added = later.added ++ first.added;
    is = later.is ∙ (ap (λ h. later.added ++ h) first.is ∙ sym (append_assoc later.added first.added old));
    each = each_both first.added later.added old first.each (subst (λ h. Each Kind later.added h) first.is later.each);
  }

  -- what was legal stays so
  pub adds_legal : (old new : Record) → OnlyAdds Kind old new → IsLegal old → IsLegal new
  adds_legal = carry IsLegal (λ h e follows kind legal. (follows, legal))

  -- and a fact may rest on that
  pub carry_legal : (Keep : Record → Type 0) → ((h : Record) (e : Entry) → IsLegal (e ∷ h) → Kind h e → Keep h → Keep (e ∷ h)) →
      (old new : Record) → OnlyAdds Kind old new → IsLegal old → Keep old → Keep new
  carry_legal Keep step old new adds legal keep =
      (carry (λ h. IsLegal h × Keep h) (λ h e follows kind was. ((follows, was.0), step h e (follows, was.0) kind was.1)) old new adds (legal, keep)).1

  -- such entries alone, whose kind what was kept so far tells
  each_narrower : (Narrow : Record → Entry → Type 0) (Keep : Record → Type 0) → ((h : Record) (e : Entry) → Follows h e → Kind h e → Keep h → Narrow h e × Keep (e ∷ h)) →
      (es : List Entry) (h : Record) → Each Kind es h → Keep h → Each Narrow es h × Keep (es ++ h)
  each_narrower Narrow Keep step [] h each keep = (tt, keep)
  each_narrower Narrow Keep step (e ∷ es) h each keep =
      let rest = each_narrower Narrow Keep step es h each.1 keep in
      let next = step (es ++ h) e each.0.follows each.0.kind rest.1 in
      ((record { follows = each.0.follows; kind = next.0 }, rest.0), next.1)

  pub adds_narrower : (Narrow : Record → Entry → Type 0) (Keep : Record → Type 0) → ((h : Record) (e : Entry) → Follows h e → Kind h e → Keep h → Narrow h e × Keep (e ∷ h)) →
      (old new : Record) → OnlyAdds Kind old new → Keep old → OnlyAdds Narrow old new
  adds_narrower Narrow Keep step old new adds keep =
      record { added = adds.added; is = adds.is; each = (each_narrower Narrow Keep step adds.added old adds.each keep).0 }

-- a kind within another
pub adds_wider : (Kind Wider : Record → Entry → Type 0) → ((h : Record) (e : Entry) → Kind h e → Wider h e) →
    (old new : Record) → OnlyAdds Kind old new → OnlyAdds Wider old new
adds_wider Kind Wider within old new adds =
    adds_narrower Kind Wider (λ h. Unit {0}) (λ h e follows kind keep. (within h e kind, tt)) old new adds tt
