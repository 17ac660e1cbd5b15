-- Names that rise, after a push and after a pop.
use Rattle.std.proofs.Common.{◌≡◌, Bool, true, false, List, [], ◌∷◌, ◌++◌, map, cond, IsTrue, arith}
use Rattle.std.proofs.lemmas.Grind.{common_steps}
use Rattle.std.proofs.lemmas.List.{map-append}
use Rattle.vx_value.specs.declared.field.Field.{Field}
use Rattle.vx_value.specs.Datum.{NamedDatum}
use Rattle.vx_value.specs.Values.{named_datum}
use Rattle.vx_value.specs.Events.{names_rise, last_below}

-- a field whose name comes after the last one may be added
pub names_rise-push : (fs : List NamedDatum) (f : NamedDatum) → IsTrue (names_rise fs) → IsTrue (last_below fs f.name) → IsTrue (names_rise (fs ++ f ∷ []))
names_rise-push [] f rise below = grind (arith, common_steps)
names_rise-push (g ∷ []) f rise below = grind (arith, common_steps)
names_rise-push (g ∷ h ∷ fs) f rise below = grind (arith, common_steps, names_rise-push (h ∷ fs) f)

-- the front of fields that rise rises
pub names_rise-front : (fs gs : List NamedDatum) → IsTrue (names_rise (fs ++ gs)) → IsTrue (names_rise fs)
names_rise-front [] gs rise = grind (arith, common_steps)
names_rise-front (f ∷ []) gs rise = grind (arith, common_steps)
names_rise-front (f ∷ g ∷ fs) gs rise = grind (arith, common_steps, names_rise-front (g ∷ fs) gs)

-- a push that may fail keeps the names rising
pub rise-pushed : (old new : List Field) (f : Field) (done : Bool) → new ≡ cond done (old ++ f ∷ []) old → IsTrue (names_rise (map named_datum old)) → IsTrue (last_below (map named_datum old) f.name) → IsTrue (names_rise (map named_datum new))
rise-pushed old new f true e rise below = rw (e, map-append) (names_rise-push (map named_datum old) (named_datum f) rise below)
rise-pushed old new f false e rise below = rw e rise

-- a pop keeps the names rising
pub rise-popped : (old new : List Field) (taken : List Field) → old ≡ new ++ taken → IsTrue (names_rise (map named_datum old)) → IsTrue (names_rise (map named_datum new))
rise-popped old new taken e rise =
    names_rise-front (map named_datum new) (map named_datum taken) (rw (e, map-append) at rise)
