-- A route without faults has few ways.
use Rattle.std.proofs.Common.{◌≡◌, ℕ, suc, ◌+◌, ◌≤◌, Bool, true, false, List, [], ◌∷◌, ◌++◌, map, length, Option, Some, None, Ordering, Less, Equal, Greater, nat_cmp, refl, sym, ◌∙◌, subst, arith}
use Rattle.std.specs.Prelude.{cond, codes, if◌then◌else◌}
use Rattle.std.specs.Cmp.Lexicographic.{slice_cmp}
use Rattle.std.specs.List.{AllByRecursion}
use Rattle.std.specs.Ordering.{match_ordering}
use Rattle.std.proofs.lemmas.List.{length-map}
use Rattle.std.proofs.lemmas.List.Sums.{sum_by-append, sum_by-cons}
use Rattle.toml.specs.Data.{Data, table, Members, no_members, member, as_table, get_member}
use Rattle.vx_value.specs.Texts.{ByteString}
use Rattle.vx_value.proofs.Order.{observed_same, same_text-true}
use Rattle.vx_plan.specs.declared.route.Route.{Route as Way}
use Rattle.vx_reading.specs.declared.kind.Kind.TheVariants.{Route}
use Rattle.vx_reading.specs.Components.{Part, parts, kind_of}
use Rattle.vx_reading.specs.Diagnostics.{Owner, diagnostics, kind_diagnostics, own_diagnostics, later_diagnostics, option_diagnostics, given_diagnostics, row_diagnostics, at_option, lacking}
use Rattle.vx_reading.specs.Judging.{Pair, pairs_of, pairs_in, is_table, Given, given_by, given, within, alone, count_given}
use Rattle.vx_reading.specs.Options.{rows_of, type_row, inputs_row, route_row, most_routes, place_path, covers}
use Rattle.vx_reading.specs.Plans.{way_of, ways_of}
use Rattle.vx_reading.proofs.Faultless.{each_faultless}
use Rattle.vx_reading.proofs.Few.{none_left, none_right, few_of}

-- HOW MANY ARE GIVEN
one_more : (a b : ℕ) → a ≡ b → 1 + a ≡ suc b
one_more a b is = omega (arith, is)

abbrev counted : Given → ℕ
counted g = cond (covers route_row.place g.place) 1 0

count_joined : (xs ys : List Given) → count_given route_row.place (xs ++ ys) ≡ count_given route_row.place xs + count_given route_row.place ys
count_joined xs ys = sum_by-append counted xs ys

-- each that stands in the table of the routes counts
count_within : (pairs : List Pair) → count_given route_row.place (map (within (codes "route")) pairs) ≡ length pairs
count_within [] = refl
count_within (p ∷ pairs) =
    sum_by-cons counted (within (codes "route") p) (map (within (codes "route")) pairs) ∙ one_more _ _ (count_within pairs)

no_pairs : (o : Option Members) → (elim o [ None ↦ false | Some inner ↦ true ]) ≡ false → length {A = Pair} (elim o [ None ↦ [] | Some inner ↦ pairs_of inner ]) ≡ 0
no_pairs None is = refl
no_pairs (Some inner) is = cc

table_counts : (value : Data) → length (pairs_in value) ≤ count_given route_row.place (given_by (rows_of Route) (record { name = codes "route"; value = value }))
table_counts value = go (is_table value) refl
  where
    p : Pair
    p = record { name = codes "route"; value = value }

    go : (b : Bool) → is_table value ≡ b → length (pairs_in value) ≤ count_given route_row.place (given_by (rows_of Route) p)
    go true is =
        subst (λ (b : Bool). length (pairs_in value) ≤ count_given route_row.place (if b then map (within (codes "route")) (pairs_in value) else alone p ∷ [])) (sym is)
        (let all = count_within (pairs_in value) in omega (arith, all))
    go false is = let none = no_pairs (as_table value) is in omega (arith, none)

-- the ways of what may stand under a name
abbrev ways_in : Option Data → List Way
ways_in o = elim o [ None ↦ [] | Some inner ↦ map way_of (pairs_in inner) ]

members_count : (ms : Members) → length (ways_in (get_member (codes "route") ms)) ≤ count_given route_row.place (given (rows_of Route) (pairs_of ms))
members_count no_members = omega arith
members_count (member name value rest) = go (slice_cmp nat_cmp (codes "route") name) refl (members_count rest)
  where
    here : List Given
    here = given_by (rows_of Route) (record { name = name; value = value })

    later : List Given
    later = given (rows_of Route) (pairs_of rest)

    split : count_given route_row.place (here ++ later) ≡ count_given route_row.place here + count_given route_row.place later
    split = count_joined here later

    go : (o : Ordering) → slice_cmp nat_cmp (codes "route") name ≡ o → length (ways_in (get_member (codes "route") rest)) ≤ count_given route_row.place later →
        length (ways_in (match_ordering o (get_member (codes "route") rest) (Some value) (get_member (codes "route") rest))) ≤ count_given route_row.place (here ++ later)
    go Less is few = omega (arith, split, few)
    go Greater is few = omega (arith, split, few)
    go Equal is few =
        let same : codes "route" ≡ name = same_text-true (codes "route") name (sym (observed_same (codes "route") name Equal (sym is))) in
        let all : length (pairs_in value) ≤ count_given route_row.place here =
        subst (λ (n : ByteString). length (pairs_in value) ≤ count_given route_row.place (given_by (rows_of Route) (record { name = n; value = value }))) same (table_counts value) in
        let mapped = length-map (pairs_in value) way_of in
        omega (arith, split, all, mapped)

-- as many ways as are given, at the most
ways_count : (value : Data) → length (ways_of value) ≤ count_given route_row.place (given (rows_of Route) (pairs_in value))
ways_count (table ms) = members_count ms
ways_count value = omega arith

-- WHERE NO FAULT IS FOUND
few_given : (owner : Owner) (lead : ByteString) (all : List Given) → option_diagnostics owner lead (rows_of Route) all ≡ [] → count_given route_row.place all ≤ 64
few_given owner lead all none =
    let rows = none_right (given_diagnostics owner lead (rows_of Route) all) _ none in
    let behind_type = none_right (row_diagnostics owner lead all type_row) _ rows in
    let behind_inputs = none_right (row_diagnostics owner lead all inputs_row) _ behind_type in
    let of_route = none_left (row_diagnostics owner lead all route_row) _ behind_inputs in
    let free = none_right (at_option owner lead route_row.place (lacking all route_row)) _ of_route in
    few_of owner (lead ++ place_path route_row.place) (count_given route_row.place all) most_routes free

few_of_kind : (first : Option ByteString) (part : Part) → kind_diagnostics first part Route ≡ [] → length (ways_of part.value) ≤ 64
few_of_kind first part none =
    let given_few = few_given _ _ (given (rows_of Route) (pairs_in part.value)) (none_left _ _ (none_left (own_diagnostics part Route (given (rows_of Route) (pairs_in part.value))) _ (none_right (later_diagnostics first part) _ none))) in
    let ways = ways_count part.value in
    omega (arith, given_few, ways)

-- each route of a document without faults has at most 64 ways
pub few_ways : (root : Data) → diagnostics root ≡ [] → AllByRecursion (λ (part : Part). kind_of part ≡ Some Route → length (ways_of part.value) ≤ 64) (parts root)
few_ways = each_faultless Route (λ (part : Part). length (ways_of part.value) ≤ 64) few_of_kind
