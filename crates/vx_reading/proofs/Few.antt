-- An accepted configuration has few components.
use Rattle.std.proofs.Common.{◌≡◌, ◌+◌, ◌≤◌, ℕ, inl, inr, Bool, true, false, nat_lt, List, [], ◌∷◌, ◌++◌, Option, Some, None, length, Ok, refl, sym, subst, arith}
use Rattle.std.specs.List.{flat_map}
use Rattle.std.specs.Prelude.{not, if◌then◌else◌}
use Rattle.std.proofs.lemmas.Bool.Decides.{nat_tests}
use Rattle.vx_value.specs.declared.variable.Variable.{Variable}
use Rattle.vx_value.specs.Texts.{ByteString}
use Rattle.toml.specs.Data.{Data}
use Rattle.vx_plan.specs.declared.component.Component.{Component}
use Rattle.vx_plan.specs.declared.global.Global.{Global}
use Rattle.vx_plan.specs.declared.plan.Plan.{Plan}
use Rattle.vx_plan.specs.declared.class.Class.TheVariants.{Source}
use Rattle.vx_reading.specs.declared.kind.Kind.{Kind}
use Rattle.vx_reading.specs.declared.trouble.Trouble.TheVariants.{TooMany}
use Rattle.vx_reading.specs.Components.{Part, section_name, parts, kind_of, first_stdin}
use Rattle.vx_reading.specs.Diagnostics.{Owner, global_owner, found_if, diagnostics, global_diagnostics, count_diagnostics, capacity_diagnostics, all_section_diagnostics, part_diagnostics, most_parts}
use Rattle.vx_reading.specs.Judging.{bad_unless, too_many}
use Rattle.vx_reading.specs.Plans.{component, component_of, global_of}
use Rattle.vx_reading.specs.Reading.{IsReading, IsPlanOf}

-- a part is at most one component
one_component : (global : Global) (part : Part) (kind : Option Kind) → length {A = Component} (elim kind [ None ↦ [] | Some k ↦ component global part k ∷ [] ]) ≤ 1
one_component global part None = omega arith
one_component global part (Some k) = omega arith

length_joined : {X : Type 0} (xs ys : List X) → length (xs ++ ys) ≡ length xs + length ys
length_joined [] ys = omega arith
length_joined (x ∷ xs) ys = omega (arith, length_joined xs ys)

-- so there are no more components than parts
no_more : (global : Global) (all : List Part) → length (flat_map (component_of global) all) ≤ length all
no_more global [] = omega arith
no_more global (part ∷ rest) =
    omega (arith, one_component global part (kind_of part), no_more global rest, length_joined (component_of global part) (flat_map (component_of global) rest))

-- what is joined to nothing is nothing
pub none_left : {X : Type 0} (xs ys : List X) → xs ++ ys ≡ [] → xs ≡ []
none_left [] ys is = refl
none_left (x ∷ xs) ys is = cc

pub none_right : {X : Type 0} (xs ys : List X) → xs ++ ys ≡ [] → ys ≡ []
none_right [] ys is = is
none_right (x ∷ xs) ys is = cc

-- what isn't wrong is as it has to be, and isn't too much
pub right_of : (owner : Owner) (path : ByteString) (b : Bool) → found_if owner path (bad_unless b) ≡ [] → b ≡ true
right_of owner path true none = refl
right_of owner path false none = cc

pub few_of : (owner : Owner) (path : ByteString) (count most : ℕ) → found_if owner path (too_many count most) ≡ [] → count ≤ most
few_of owner path count most none = go (nat_lt most count) refl none
  where
    go : (b : Bool) → nat_lt most count ≡ b → found_if owner path (if b then Some (TooMany count most) else None) ≡ [] → count ≤ most
    go true is none = cc
    go false is none = grind (arith, nat_tests)

pub untrue : (b : Bool) → not b ≡ true → b ≡ false
untrue true is = cc
untrue false is = refl

-- where nothing is found, nothing is wrong with a component
pub parts_faultless : (root : Data) → diagnostics root ≡ [] → flat_map (part_diagnostics root (first_stdin root)) (parts root) ≡ []
parts_faultless root none =
    none_right (all_section_diagnostics root) _ (none_right (capacity_diagnostics root) _ (none_right (count_diagnostics root) _ (none_right (global_diagnostics root) _ none)))

-- and there are few
few_parts : (root : Data) → diagnostics root ≡ [] → length (parts root) ≤ 256
few_parts root none =
    few_of global_owner (section_name Source) (length (parts root)) most_parts (none_left (count_diagnostics root) _ (none_right (global_diagnostics root) _ none))

pub few_components : (environment : List Variable) (bytes : ByteString) (plan : Plan) → IsReading environment bytes (Ok plan) → length plan.components ≤ 256
few_components environment bytes plan (refuses, inl read) =
    let of : IsPlanOf refuses read.1.root plan = read.1.rightly.judged in
    let global = global_of read.1.root in
    let few : length (flat_map (component_of global) (parts read.1.root)) ≤ 256 = omega (arith, no_more global (parts read.1.root), few_parts read.1.root (none_left (diagnostics read.1.root) _ of.faultless)) in
    subst (λ (p : Plan). length p.components ≤ 256) (sym of.same) few
few_components environment bytes plan (refuses, inr none) = let e = none.1 in cc
