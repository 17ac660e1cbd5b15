use Rattle.std.proofs.Common.{◌≡◌, ◌∙◌, Option, Some, None, List, [], ap, sym, unwrap_or, slice_get}
use Rattle.vx_value.specs.Texts.{ByteString}
use Rattle.vx_plan.proofs.Kept.{kept_targets}
use Rattle.vx_plan.proofs.plan.Plan.targets.Goals as goal

pub returns-in_default : goal.returns-in_default
returns-in_default c =
    let port = c.args.port in
    let past : slice_get c.self.inside.targets c.place_named-place.result ≡ None = cc c.in_default.ensures in
    c.self.invariant.1
    ∙ ap (λ (o : Option (List (List ByteString))). unwrap_or (slice_get (unwrap_or o []) port) []) (sym past)
    ∙ kept_targets _ _ _ _ _ _ port c.self.view_is c.self.invariant.0 c.as_slice.ensures c.place_named-place.ensures

pub returns-in-Some-get : goal.returns-in-Some-get
returns-in-Some-get c =
    let port = c.args.port in
    let there : slice_get c.self.inside.targets c.place_named-place.result ≡ Some c.in-Some.lists.now = cc c.in-Some.ensures in
    let names : slice_get c.in-Some.lists.now port ≡ Some c.in-Some-get.names.now = cc c.in-Some-get.ensures in
    ap (λ (o : Option (List ByteString)). unwrap_or o []) (sym names)
    ∙ ap (λ (o : Option (List (List ByteString))). unwrap_or (slice_get (unwrap_or o []) port) []) (sym there)
    ∙ kept_targets _ _ _ _ _ _ port c.self.view_is c.self.invariant.0 c.as_slice.ensures c.place_named-place.ensures

pub returns-in-None : goal.returns-in-None
returns-in-None c =
    let port = c.args.port in
    let there : slice_get c.self.inside.targets c.place_named-place.result ≡ Some c.in-Some.lists.now = cc c.in-Some.ensures in
    let past : slice_get c.in-Some.lists.now port ≡ None = cc c.in-None.ensures in
    c.self.invariant.1
    ∙ ap (λ (o : Option (List ByteString)). unwrap_or o []) (sym past)
    ∙ ap (λ (o : Option (List (List ByteString))). unwrap_or (slice_get (unwrap_or o []) port) []) (sym there)
    ∙ kept_targets _ _ _ _ _ _ port c.self.view_is c.self.invariant.0 c.as_slice.ensures c.place_named-place.ensures
