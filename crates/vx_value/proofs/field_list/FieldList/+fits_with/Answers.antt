use Rattle.std.proofs.Common.{◌≡◌, IsTrue, sym, ◌∙◌, arith}
use Rattle.std.proofs.lemmas.Bool.Decides.{nat_tests}
use Rattle.vx_value.specs.Values.{datum_of}
use Rattle.vx_value.specs.Events.{value_under, names_rise}
use Rattle.vx_value.proofs.Steps.{put_at-deep, put_in-deep, fields_in-Fields}
use Rattle.vx_value.proofs.field_list.FieldList.+fits_with.Goals as goal

pub fits_with-returns-then-not-others_fit : goal.fits_with-returns-then-not-others_fit
fits_with-returns-then-not-others_fit t c =
    let rise : IsTrue (names_rise c.args.self.now) = rw c.self.view_is at c.self.invariant in
    let deep = put_at-deep c.args.self.now c.args.names.now c.name-item.result c.as_str.result.now (datum_of c.args.value.now) c.in-len1-up.len_at_least c.name-item.is c.as_str.ensures rise in
    grind (arith, deep, c.if-not-others_fit.ensures)

pub fits_with-returns : goal.fits_with-returns
fits_with-returns t c =
    let rise : IsTrue (names_rise c.args.self.now) = rw c.self.view_is at c.self.invariant in
    let deep = put_at-deep c.args.self.now c.args.names.now c.name-item.result c.as_str-2.result.now (datum_of c.args.value.now) c.in-len1-up.len_at_least c.name-item.is c.as_str-2.ensures rise in
    let same : c.as_str.result.now ≡ c.as_str-2.result.now = c.as_str.ensures ∙ sym c.as_str-2.ensures in
    let low = rw same at c.if-not-others_fit.ensures in
    grind (arith, deep, low, c.under_fits.ensures)

pub under_fits-returns-in-Some : goal.under_fits-returns-in-Some
under_fits-returns-in-Some t c =
    let deep = put_in-deep (value_under c.args.self.now c.args.name.now) c.args.rest.now (datum_of c.args.value.now) c.in-Some.inner.now (grind (arith, nat_tests, c.if-is_empty.ensures)) (fields_in-Fields _ c.in-Some.inner.now c.in-Some.ensures.some) in
    grind (arith, deep, c.fits_with.ensures)

pub under_fits-returns-in-None : goal.under_fits-returns-in-None
under_fits-returns-in-None t c =
    let deep = put_in-deep (value_under c.args.self.now c.args.name.now) c.args.rest.now (datum_of c.args.value.now) c.new.result (grind (arith, nat_tests, c.if-is_empty.ensures)) (c.in-None.ensures.none ∙ sym c.new.ensures) in
    grind (arith, deep, c.fits_with-in-None-2.ensures)
