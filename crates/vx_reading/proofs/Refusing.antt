-- Where no fault is found, no condition is refused.
use Rattle.std.proofs.Common.{◌≡◌, Bool, true, false, List, [], ◌∷◌, ◌++◌, map, Option, Some, None, refl, ◌∙◌, ap, subst}
use Rattle.std.specs.Prelude.{codes, not}
use Rattle.std.specs.List.{AllByRecursion, flat_map}
use Rattle.vx_value.specs.Texts.{ByteString}
use Rattle.vx_plan.specs.declared.component.Component.{Component}
use Rattle.vx_plan.specs.declared.route.Route.{Route as Way}
use Rattle.vx_plan.specs.declared.settings.Settings.{Settings}
use Rattle.vx_plan.specs.declared.settings.Settings.TheVariants as settings
use Rattle.vx_plan.specs.Options.{conditions_of, if_any}
use Rattle.vx_reading.specs.Conditions.{Placed, placed_way, placed_any, placed_in, conditions_by, all_conditions, owner_by, lead_of, is_one, IsRefusable, RefusesRightly, refusal, refusals_of, refusals}
use Rattle.vx_reading.specs.Options.{place_path}
use Rattle.vx_reading.specs.Trying.{IsRefusedOf, Tries}
use Rattle.vx_reading.proofs.Few.{none_left, none_right, right_of, untrue}
use Rattle.vx_reading.proofs.Apart.{all_mapped, all_joined}
use Rattle.vx_reading.proofs.Trying.{one_of, one_here, one_left}

-- THE TEXTS OF WHAT IS PLACED
abbrev pub texts_of : List Placed → List ByteString
texts_of placed = map (λ (p : Placed). p.text) placed

texts_joined : (xs ys : List Placed) → texts_of (xs ++ ys) ≡ texts_of xs ++ texts_of ys
texts_joined [] ys = refl
texts_joined (x ∷ xs) ys = ap (λ (more : List ByteString). x.text ∷ more) (texts_joined xs ys)

any_texts : (name : ByteString) (text : Option ByteString) → texts_of (placed_any name text) ≡ if_any text
any_texts name None = refl
any_texts name (Some text) = refl

way_texts : (ways : List Way) → texts_of (map placed_way ways) ≡ map (λ (way : Way). way.condition) ways
way_texts [] = refl
way_texts (way ∷ ways) = ap (λ (more : List ByteString). way.condition ∷ more) (way_texts ways)

-- they are the conditions of the options
pub placed_texts : (s : Settings) → texts_of (placed_in s) ≡ conditions_of s
placed_texts (settings.Filter condition) = refl
placed_texts (settings.Route routes reroute) = way_texts routes
placed_texts (settings.Sample rate exclude) = any_texts (codes "exclude") exclude
placed_texts (settings.Reduce group_by starts_when ends_when expire flush strategies) =
    texts_joined (placed_any (codes "ends_when") ends_when) (placed_any (codes "starts_when") starts_when)
    ∙ ap (λ (xs : List ByteString). xs ++ texts_of (placed_any (codes "starts_when") starts_when)) (any_texts (codes "ends_when") ends_when)
    ∙ ap (λ (ys : List ByteString). if_any ends_when ++ ys) (any_texts (codes "starts_when") starts_when)
placed_texts other = refl

-- WHERE THERE IS NO FAULT
module _ (refuses : ByteString → Bool) where
  placed_taken : (c : Component) (placed : List Placed) → flat_map (refusal refuses c) placed ≡ [] → AllByRecursion (λ (text : ByteString). refuses text ≡ false) (texts_of placed)
  placed_taken c [] none = tt
  placed_taken c (p ∷ rest) none = (
    untrue (refuses p.text) (right_of (owner_by c) (lead_of c ++ place_path p.place) (not (refuses p.text)) (none_left (refusal refuses c p) (flat_map (refusal refuses c) rest) none)),
    placed_taken c rest (none_right (refusal refuses c p) (flat_map (refusal refuses c) rest) none),
  )

  taken_by : (c : Component) → refusals_of refuses c ≡ [] → AllByRecursion (λ (text : ByteString). refuses text ≡ false) (conditions_by c)
  taken_by c none = subst (λ (texts : List ByteString). AllByRecursion (λ (text : ByteString). refuses text ≡ false) texts) (placed_texts c.settings) (placed_taken c (placed_in c.settings) none)

  -- each condition is taken
  all_taken : (components : List Component) → refusals refuses components ≡ [] → AllByRecursion (λ (text : ByteString). refuses text ≡ false) (all_conditions components)
  all_taken [] none = tt
  all_taken (c ∷ rest) none =
      all_joined (λ (text : ByteString). refuses text ≡ false) (conditions_by c) (all_conditions rest)
      (taken_by c (none_left (refusals_of refuses c) (refusals refuses rest) none))
      (all_taken rest (none_right (refusals_of refuses c) (refusals refuses rest) none))

-- WHAT WAS TRIED
module _ (components : List Component) (refused : List ByteString) (conditions : List (List ByteString))
    (tried : Tries (all_conditions components) (map conditions_by components) [] refused [] conditions) where
  rightly_refused : (text : ByteString) → is_one refused text ≡ true → IsRefusable text
  rightly_refused text is =
      one_of IsRefusable tried.more text (all_mapped (IsRefusedOf (all_conditions components)) IsRefusable tried.more (λ t of. of.refused) tried.refused)
      (subst (λ (texts : List ByteString). is_one texts text ≡ true) tried.grown is)

  each_if : (texts : List ByteString) → AllByRecursion (λ (text : ByteString). is_one refused text ≡ true → IsRefusable text) texts
  each_if [] = tt
  each_if (text ∷ texts) = (rightly_refused text, each_if texts)

  -- what is refused is refused rightly
  pub right : RefusesRightly (is_one refused) (all_conditions components)
  right = record { refused = each_if (all_conditions components); taken = tried.taken }

  -- where no fault comes of it, nothing is refused
  none_more : refusals (is_one refused) components ≡ [] → tried.more ≡ []
  none_more none = go tried.more tried.grown tried.refused
    where
      go : (more : List ByteString) → refused ≡ more → AllByRecursion (IsRefusedOf (all_conditions components)) more → more ≡ []
      go [] same all = refl
      go (text ∷ rest) same all =
          let untaken = one_of (λ (t : ByteString). is_one refused t ≡ false) (all_conditions components) text (all_taken (is_one refused) components none) all.0.among in
          let taken : is_one refused text ≡ true = ap (λ (texts : List ByteString). is_one texts text) same ∙ one_left (text ∷ []) rest text (one_here text) in
          cc

  -- so each component has its conditions
  pub conditions_are : refusals (is_one refused) components ≡ [] → conditions ≡ map conditions_by components
  conditions_are none = tried.whole (none_more none)
