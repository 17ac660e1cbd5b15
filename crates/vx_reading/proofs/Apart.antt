-- The components of an accepted configuration have different names.
use Rattle.std.proofs.Common.{◌≡◌, Bool, true, false, List, [], ◌∷◌, ◌++◌, map, Option, Some, None, Result, Ok, Err, IfOk, String, Global, Ordering, Less, Equal, Greater, string_bytes, nat_cmp, refl, sym, ◌∙◌, ap, subst}
use Rattle.std.specs.Prelude.{not, ◌&&◌, ◌||◌, is_some, option_and_then}
use Rattle.std.specs.List.{AllByRecursion, flat_map}
use Rattle.std.specs.List.Sorted.{IsStrictlySortedBy}
use Rattle.std.specs.Cmp.Lexicographic.{slice_cmp}
use Rattle.std.specs.Map.{keys_of}
use Rattle.std.specs.Ordering.{match_ordering}
use Rattle.std.specs.String.{string_cmp}
use Rattle.toml.specs.Data.{Data, table, Members, no_members, member, get, get_member}
use Rattle.toml.specs.View.{members_view}
use Rattle.toml.proofs.Views.{Entry}
use Rattle.vx_value.specs.Texts.{ByteString, same_text}
use Rattle.vx_value.proofs.Order.{answer_less, observed_same, less_not_same'}
use Rattle.vx_plan.specs.declared.class.Class.{Class}
use Rattle.vx_plan.specs.declared.class.Class.TheVariants.{Source, Transform, Sink}
use Rattle.vx_plan.specs.declared.global.Global.{Global as Options}
use Rattle.vx_plan.specs.declared.plan.Plan.{Plan}
use Rattle.vx_plan.proofs.Tests.{and_both}
use Rattle.vx_reading.specs.declared.kind.Kind.{Kind}
use Rattle.vx_reading.specs.declared.plan_fault.PlanFault.{PlanFault}
use Rattle.vx_reading.specs.Components.{Part, part_in, parts_in, parts, section, kind_of, has_part, part_path, is_taken, is_name, first_stdin}
use Rattle.vx_reading.specs.Diagnostics.{owner_of, diagnostics, part_diagnostic, part_diagnostics}
use Rattle.vx_reading.specs.Judging.{Pair, pairs_of, pairs_in, is_table}
use Rattle.vx_reading.specs.Names.{AreApart, names_of, part_names, pair_names, AreApartByClass}
use Rattle.vx_reading.specs.Plans.{component, component_of, global_of}
use Rattle.vx_reading.specs.declared.reading.ReadPlan.{ReadPlan}
use Rattle.vx_reading.specs.Answers.{plan_in}
use Rattle.vx_reading.specs.Reading.{IsPlanOf, IsJudged}
use Rattle.vx_reading.proofs.Few.{none_left, none_right, right_of, untrue, parts_faultless}

pub all_mapped : {X : Type 0} (P Q : X → Type 0) (xs : List X) → ((x : X) → P x → Q x) → AllByRecursion P xs → AllByRecursion Q xs
all_mapped P Q [] f all = tt
all_mapped P Q (x ∷ xs) f all = (f x all.0, all_mapped P Q xs f all.1)

pub all_joined : {X : Type 0} (P : X → Type 0) (xs ys : List X) → AllByRecursion P xs → AllByRecursion P ys → AllByRecursion P (xs ++ ys)
all_joined P [] ys all more = more
all_joined P (x ∷ xs) ys all more = (all.0, all_joined P xs ys all.1 more)

pub all_left : {X : Type 0} (P : X → Type 0) (xs ys : List X) → AllByRecursion P (xs ++ ys) → AllByRecursion P xs
all_left P [] ys all = tt
all_left P (x ∷ xs) ys all = (all.0, all_left P xs ys all.1)

pub all_right : {X : Type 0} (P : X → Type 0) (xs ys : List X) → AllByRecursion P (xs ++ ys) → AllByRecursion P ys
all_right P [] ys all = all
all_right P (x ∷ xs) ys all = all_right P xs ys all.1

map_joined : {X Y : Type 0} (f : X → Y) (xs ys : List X) → map f (xs ++ ys) ≡ map f xs ++ map f ys
map_joined f [] ys = refl
map_joined f (x ∷ xs) ys = ap (λ (rest : List _). f x ∷ rest) (map_joined f xs ys)

-- a name is none of some
abbrev IsNoneOf : ByteString → List ByteString → Type 0
IsNoneOf name names = AllByRecursion (λ (other : ByteString). same_text name other ≡ false) names

-- names that differ, before others that differ, of which none is among them
apart_joined : (xs ys : List ByteString) → AreApart xs → AreApart ys → AllByRecursion (λ (name : ByteString). IsNoneOf name xs) ys → AreApart (xs ++ ys)
apart_joined [] ys apart more none = more
apart_joined (x ∷ xs) ys apart more none = (
  all_joined (λ (other : ByteString). same_text other x ≡ false) xs ys apart.0 (all_mapped (λ (name : ByteString). IsNoneOf name (x ∷ xs)) (λ (name : ByteString). same_text name x ≡ false) ys (λ name is. is.0) none),
  apart_joined xs ys apart.1 more (all_mapped (λ (name : ByteString). IsNoneOf name (x ∷ xs)) (λ (name : ByteString). IsNoneOf name xs) ys (λ name is. is.1) none),
)

-- the keys of a map differ
others_differ : (key : String Global) (entries : List Entry) → AllByRecursion (λ other. string_cmp key other ≡ Less) (keys_of entries) →
    AllByRecursion (λ (other : ByteString). same_text other (string_bytes key) ≡ false) (pair_names (pairs_of (members_view entries)))
others_differ key [] less = tt
others_differ key (e ∷ entries) less =
    (less_not_same' (string_bytes key) (string_bytes e.0) (sym (answer_less (string_bytes key) (string_bytes e.0) Less (sym less.0))), others_differ key entries less.1)

pub apart_sorted : (entries : List Entry) → IsStrictlySortedBy string_cmp (keys_of entries) → AreApart (pair_names (pairs_of (members_view entries)))
unfolding IsStrictlySortedBy
apart_sorted [] sorted = tt
apart_sorted (e ∷ entries) sorted = (others_differ e.0 entries sorted.0, apart_sorted entries sorted.1)

-- the components of a table have the names of its members
same_names : (class : Class) (pairs : List Pair) → part_names (map (part_in class) pairs) ≡ pair_names pairs
same_names class [] = refl
same_names class (p ∷ pairs) = ap (λ (rest : List ByteString). p.name ∷ rest) (same_names class pairs)

apart_parts : (class : Class) (pairs : List Pair) → AreApart (pair_names pairs) → AreApart (part_names (map (part_in class) pairs))
apart_parts class pairs apart = subst AreApart (sym (same_names class pairs)) apart

-- a name under which a table has nothing is none of its names
none_of_members : (name : ByteString) (members : Members) → is_some (get_member name members) ≡ false → IsNoneOf name (pair_names (pairs_of members))
none_of_members name no_members none = tt
none_of_members name (member key value rest) none = go (slice_cmp nat_cmp name key) refl none (none_of_members name rest)
  where
    go : (o : Ordering) → slice_cmp nat_cmp name key ≡ o → is_some (match_ordering o (get_member name rest) (Some value) (get_member name rest)) ≡ false →
        (is_some (get_member name rest) ≡ false → IsNoneOf name (pair_names (pairs_of rest))) → IsNoneOf name (pair_names (pairs_of (member key value rest)))
    go Less is none later = (sym (observed_same name key Less (sym is)), later none)
    go Equal is none later = cc
    go Greater is none later = (sym (observed_same name key Greater (sym is)), later none)

none_of_value : (name : ByteString) (class : Class) (value : Data) → is_some (get name value) ≡ false → IsNoneOf name (part_names (map (part_in class) (pairs_in value)))
none_of_value name class (table members) none = subst (IsNoneOf name) (sym (same_names class (pairs_of members))) (none_of_members name members none)
none_of_value name class value none = tt

none_of_class : (root : Data) (class : Class) (name : ByteString) → has_part root class name ≡ false → IsNoneOf name (part_names (parts_in root class))
none_of_class root class name none = go (section root class) none
  where
    go : (o : Option Data) → is_some (option_and_then (get name) o) ≡ false → IsNoneOf name (part_names (elim o [ None ↦ [] | Some value ↦ map (part_in class) (pairs_in value) ]))
    go None none = tt
    go (Some value) none = none_of_value name class value none

-- a component without a fault has a name that no earlier table has
free : (root : Data) (part : Part) → part_diagnostic root part ≡ [] → is_taken root part.class part.name ≡ false
free root part none =
    let named = is_name part.name && not (is_taken root part.class part.name) in
    let fits = right_of (owner_of part) (part_path part) (is_table part.value && named) none in
    untrue (is_taken root part.class part.name) (and_both (is_name part.name) (not (is_taken root part.class part.name)) (and_both (is_table part.value) named fits).1).1

all_free : (root : Data) (first : Option ByteString) (all : List Part) → flat_map (part_diagnostics root first) all ≡ [] → AllByRecursion (λ (part : Part). is_taken root part.class part.name ≡ false) all
all_free root first [] none = tt
all_free root first (part ∷ rest) none = (
  free root part (none_left (part_diagnostic root part) _ (none_left (part_diagnostics root first part) (flat_map (part_diagnostics root first) rest) none)),
  all_free root first rest (none_right (part_diagnostics root first part) (flat_map (part_diagnostics root first) rest) none),
)

-- the same of the names of a class
free_names : (root : Data) (class : Class) (pairs : List Pair) → AllByRecursion (λ (part : Part). is_taken root part.class part.name ≡ false) (map (part_in class) pairs) →
    AllByRecursion (λ (name : ByteString). is_taken root class name ≡ false) (part_names (map (part_in class) pairs))
free_names root class [] all = tt
free_names root class (p ∷ pairs) all = (all.0, free_names root class pairs all.1)

free_class : (root : Data) (class : Class) → AllByRecursion (λ (part : Part). is_taken root part.class part.name ≡ false) (parts_in root class) →
    AllByRecursion (λ (name : ByteString). is_taken root class name ≡ false) (part_names (parts_in root class))
free_class root class all = go (section root class) all
  where
    go : (o : Option Data) → AllByRecursion (λ (part : Part). is_taken root part.class part.name ≡ false) (elim o [ None ↦ [] | Some value ↦ map (part_in class) (pairs_in value) ]) →
        AllByRecursion (λ (name : ByteString). is_taken root class name ≡ false) (part_names (elim o [ None ↦ [] | Some value ↦ map (part_in class) (pairs_in value) ]))
    go None all = tt
    go (Some value) all = free_names root class (pairs_in value) all

neither : (a b : Bool) → a || b ≡ false → (a ≡ false) × (b ≡ false)
neither true b is = cc
neither false b is = (refl, is)

-- so the components of a document without faults have different names
parts_apart : (root : Data) → AreApartByClass root → diagnostics root ≡ [] → AreApart (part_names (parts root))
parts_apart root apart none =
    let all = all_free root (first_stdin root) (parts root) (parts_faultless root none) in
    let s = parts_in root Source in
    let t = parts_in root Transform in
    let k = parts_in root Sink in
    let later = all_right (λ (part : Part). is_taken root part.class part.name ≡ false) s (t ++ k) all in
    let of_t = free_class root Transform (all_left (λ (part : Part). is_taken root part.class part.name ≡ false) t k later) in
    let of_k = free_class root Sink (all_right (λ (part : Part). is_taken root part.class part.name ≡ false) t k later) in
    let t_s : AllByRecursion (λ (name : ByteString). IsNoneOf name (part_names s)) (part_names t) =
    all_mapped _ _ (part_names t) (λ name is. none_of_class root Source name is) of_t in
    let k_s : AllByRecursion (λ (name : ByteString). IsNoneOf name (part_names s)) (part_names k) =
    all_mapped _ _ (part_names k) (λ name is. none_of_class root Source name (neither (has_part root Source name) (has_part root Transform name) is).0) of_k in
    let k_t : AllByRecursion (λ (name : ByteString). IsNoneOf name (part_names t)) (part_names k) =
    all_mapped _ _ (part_names k) (λ name is. none_of_class root Transform name (neither (has_part root Source name) (has_part root Transform name) is).1) of_k in
    let behind : AreApart (part_names t ++ part_names k) = apart_joined (part_names t) (part_names k) (apart Transform) (apart Sink) k_t in
    let whole : AreApart (part_names s ++ (part_names t ++ part_names k)) =
    apart_joined (part_names s) (part_names t ++ part_names k) (apart Source) behind (all_joined (λ (name : ByteString). IsNoneOf name (part_names s)) (part_names t) (part_names k) t_s k_s) in
    subst AreApart (sym (map_joined (λ (p : Part). p.name) s (t ++ k) ∙ ap (λ (rest : List ByteString). part_names s ++ rest) (map_joined (λ (p : Part). p.name) t k))) whole

-- a component has the name of its part
kept_all : (P : ByteString → Type 0) (whole : Options) (all : List Part) → AllByRecursion P (part_names all) → AllByRecursion P (names_of (flat_map (component_of whole) all))
kept_all P whole [] each = tt
kept_all P whole (part ∷ rest) each = go (kind_of part) (kept_all P whole rest each.1)
  where
    go : (o : Option Kind) → AllByRecursion P (names_of (flat_map (component_of whole) rest)) →
        AllByRecursion P (names_of ((elim o [ None ↦ [] | Some kind ↦ component whole part kind ∷ [] ]) ++ flat_map (component_of whole) rest))
    go None later = later
    go (Some kind) later = (each.0, later)

kept_apart : (whole : Options) (all : List Part) → AreApart (part_names all) → AreApart (names_of (flat_map (component_of whole) all))
kept_apart whole [] apart = tt
kept_apart whole (part ∷ rest) apart = go (kind_of part) (kept_apart whole rest apart.1)
  where
    go : (o : Option Kind) → AreApart (names_of (flat_map (component_of whole) rest)) →
        AreApart (names_of ((elim o [ None ↦ [] | Some kind ↦ component whole part kind ∷ [] ]) ++ flat_map (component_of whole) rest))
    go None later = later
    go (Some kind) later = (kept_all (λ (other : ByteString). same_text other part.name ≡ false) whole rest apart.0, later)

-- a plan that is answered of a document has components with different names
pub judged_apart : (refuses : ByteString → Bool) (root : Data) (answer : Result Plan PlanFault) → AreApartByClass root → IsJudged refuses root answer → IfOk answer (λ (plan : Plan). AreApart (names_of plan.components))
judged_apart refuses root (Ok plan) apart judged =
    let of : IsPlanOf refuses root plan = judged in
    subst (λ (p : Plan). AreApart (names_of p.components)) (sym of.same) (kept_apart (global_of root) (parts root) (parts_apart root apart (none_left (diagnostics root) _ of.faultless)))
judged_apart refuses root (Err fault) apart judged = tt

-- so has what is read
pub read_apart : (refuses : ByteString → Bool) (root : Data) (answer : Result ReadPlan PlanFault) → AreApartByClass root → IsJudged refuses root (plan_in answer) → IfOk answer (λ (read : ReadPlan). AreApart (names_of read.plan.components))
read_apart refuses root (Ok read) apart judged = judged_apart refuses root (Ok read.plan) apart judged
read_apart refuses root (Err fault) apart judged = tt

-- the components of a table that is there have the names of its members
pub apart_section : (root : Data) (class : Class) (value : Data) → section root class ≡ Some value → AreApart (pair_names (pairs_in value)) → AreApart (part_names (parts_in root class))
apart_section root class value is apart =
    subst (λ (o : Option Data). AreApart (part_names (elim o [ None ↦ [] | Some v ↦ map (part_in class) (pairs_in v) ]))) (sym is) (apart_parts class (pairs_in value) apart)
