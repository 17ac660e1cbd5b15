-- Sorting components and then keeping the readers is keeping the readers and then sorting their names.
use Rattle.std.specs.Prelude.{◌≡◌, Bool, true, false, Option, Some, None, option_map, List, [], ◌∷◌, map, filter, find, slice_index_or, All, refl, if◌then◌else◌}
use Rattle.std.proofs.Common.{◌∙◌, ap, sym}
use Rattle.std.proofs.lemmas.List.{get_or-map}
use Rattle.std.proofs.lemmas.List.Elements.{All-head, All-tail, All-cons, All-weaker}
use Rattle.vx_value.specs.Texts.{ByteString, same_text, text_le}
use Rattle.vx_value.proofs.Order.{same_text-true}
use Rattle.vx_graph.specs.declared.node.Node.{Node}
use Rattle.vx_graph.specs.Order.{node_le, enter as enter_node, in_order as nodes_in_order}
use Rattle.vx_graph.specs.Outputs.{output_text, reads_output, name_of, outputs_of, readers as graph_readers}
use Rattle.vx_graph.specs.Targets.{node_named, targets_in, targets as graph_targets}
use Rattle.vx_graph.proofs.Sorting.{le_total, le_trans, Ascending, order_ascends}
use Rattle.vx_plan.specs.declared.component.Component.{Component}
use Rattle.vx_plan.specs.Components.{port_names}
use Rattle.vx_plan.specs.Graphs.{node_of, nodes_of}
use Rattle.vx_plan.specs.Targets.{enter, in_order, readers, targets}
use Rattle.vx_plan.specs.GraphTargets.{TargetsOfGraph}
use Rattle.vx_plan.proofs.Tests.{passing}

-- a name that comes no later than those of some components goes before those that pass
put_first : (q : Node → Bool) (x : Node) (nodes : List Node) → All (λ later. node_le x later ≡ true) nodes →
    enter x.name (map name_of (filter q nodes)) ≡ x.name ∷ map name_of (filter q nodes)
put_first q x [] all = refl
put_first q x (y ∷ nodes) all = go (q y) (put_first q x nodes (All-tail (λ later. node_le x later ≡ true) y nodes all))
  where
    go : (b : Bool) → enter x.name (map name_of (filter q nodes)) ≡ x.name ∷ map name_of (filter q nodes) →
        enter x.name (map name_of (if b then y ∷ filter q nodes else filter q nodes)) ≡ x.name ∷ map name_of (if b then y ∷ filter q nodes else filter q nodes)
    go true rest =
        ap (λ before. if before then x.name ∷ y.name ∷ map name_of (filter q nodes) else y.name ∷ enter x.name (map name_of (filter q nodes)))
        (All-head (λ later. node_le x later ≡ true) y nodes all)
    go false rest = rest

-- a component that is put in, among those that pass
put_passing : (q : Node → Bool) (x : Node) (nodes : List Node) → Ascending nodes →
    map name_of (filter q (enter_node x nodes)) ≡ (if q x then enter x.name (map name_of (filter q nodes)) else map name_of (filter q nodes))
unfolding enter_node
put_passing q x [] up = go (q x)
  where
    go : (b : Bool) → map name_of (if b then x ∷ [] else []) ≡ (if b then x.name ∷ [] else [])
    go true = refl
    go false = refl
put_passing q x (y ∷ nodes) up = go (node_le x y) refl (put_passing q x nodes up.1)
  where
    late : (a b : Bool) → node_le x y ≡ false →
        map name_of (filter q (enter_node x nodes)) ≡ (if a then enter x.name (map name_of (filter q nodes)) else map name_of (filter q nodes)) →
        map name_of (if b then y ∷ filter q (enter_node x nodes) else filter q (enter_node x nodes))
        ≡ (if a then enter x.name (map name_of (if b then y ∷ filter q nodes else filter q nodes)) else map name_of (if b then y ∷ filter q nodes else filter q nodes))
    late true true after rest =
        ap (λ names. y.name ∷ names) rest
        ∙ sym (ap (λ before. if before then x.name ∷ y.name ∷ map name_of (filter q nodes) else y.name ∷ enter x.name (map name_of (filter q nodes))) after)
    late true false after rest = rest
    late false true after rest = ap (λ names. y.name ∷ names) rest
    late false false after rest = rest

    early : (a : Bool) → node_le x y ≡ true → map name_of (if a then x ∷ filter q (y ∷ nodes) else filter q (y ∷ nodes))
        ≡ (if a then enter x.name (map name_of (filter q (y ∷ nodes))) else map name_of (filter q (y ∷ nodes)))
    early true before =
        sym (put_first q x (y ∷ nodes) (All-cons (λ later. node_le x later ≡ true) y nodes before
        (All-weaker (λ later. node_le y later ≡ true) (λ later. node_le x later ≡ true) (λ later g. le_trans x.name y.name later.name before g) nodes up.0)))
    early false before = refl

    go : (b : Bool) → node_le x y ≡ b →
        map name_of (filter q (enter_node x nodes)) ≡ (if q x then enter x.name (map name_of (filter q nodes)) else map name_of (filter q nodes)) →
        map name_of (filter q (if b then x ∷ y ∷ nodes else y ∷ enter_node x nodes))
        ≡ (if q x then enter x.name (map name_of (filter q (y ∷ nodes))) else map name_of (filter q (y ∷ nodes)))
    go true before rest = early (q x) before
    go false after rest = late (q x) (q y) after rest

-- the names of the components that pass a test, in order
ordered_passing : (q : Node → Bool) (components : List Component) →
    in_order (map (λ (c : Component). c.name) (filter (λ (c : Component). q (node_of c)) components)) ≡ map name_of (filter q (nodes_in_order (map node_of components)))
unfolding nodes_in_order
ordered_passing q [] = refl
ordered_passing q (c ∷ rest) =
    go (q (node_of c)) (ordered_passing q rest)
    ∙ sym (put_passing q (node_of c) (nodes_in_order (map node_of rest)) (order_ascends (map node_of rest)))
  where
    go : (b : Bool) → in_order (map (λ (d : Component). d.name) (filter (λ (d : Component). q (node_of d)) rest)) ≡ map name_of (filter q (nodes_in_order (map node_of rest))) →
        in_order (map (λ (d : Component). d.name) (if b then c ∷ filter (λ (d : Component). q (node_of d)) rest else filter (λ (d : Component). q (node_of d)) rest))
        ≡ (if b then enter c.name (map name_of (filter q (nodes_in_order (map node_of rest)))) else map name_of (filter q (nodes_in_order (map node_of rest))))
    go true later = ap (enter c.name) later
    go false later = later

le_self : (s : ByteString) → text_le s s ≡ true
le_self s = go (text_le s s) refl
  where
    go : (b : Bool) → text_le s s ≡ b → text_le s s ≡ true
    go true e = e
    go false e = le_total s s e

-- the first component of a name, where one is put in
find_put : (name : ByteString) (x : Node) (nodes : List Node) →
    find (λ (n : Node). same_text n.name name) (enter_node x nodes) ≡ (if same_text x.name name then Some x else find (λ (n : Node). same_text n.name name) nodes)
unfolding enter_node
find_put name x [] = refl
find_put name x (y ∷ nodes) = go (node_le x y) refl (find_put name x nodes)
  where
    past : (a b : Bool) → same_text x.name name ≡ a → same_text y.name name ≡ b → node_le x y ≡ false →
        (if b then Some y else if a then Some x else find (λ (n : Node). same_text n.name name) nodes)
        ≡ (if a then Some x else if b then Some y else find (λ (n : Node). same_text n.name name) nodes)
    past true true e f after =
        let names : x.name ≡ y.name = same_text-true x.name name e ∙ sym (same_text-true y.name name f) in
        let before : node_le x y ≡ true = ap (text_le x.name) (sym names) ∙ le_self x.name in
        cc
    past true false e f after = refl
    past false true e f after = refl
    past false false e f after = refl

    go : (b : Bool) → node_le x y ≡ b →
        find (λ (n : Node). same_text n.name name) (enter_node x nodes) ≡ (if same_text x.name name then Some x else find (λ (n : Node). same_text n.name name) nodes) →
        find (λ (n : Node). same_text n.name name) (if b then x ∷ y ∷ nodes else y ∷ enter_node x nodes)
        ≡ (if same_text x.name name then Some x else find (λ (n : Node). same_text n.name name) (y ∷ nodes))
    go true before rest = refl
    go false after rest = ap (λ o. if same_text y.name name then Some y else o) rest ∙ past (same_text x.name name) (same_text y.name name) refl refl after

-- the first component of a name, in order
find_ordered : (name : ByteString) (components : List Component) →
    node_named (nodes_in_order (map node_of components)) name ≡ option_map node_of (find (λ (c : Component). same_text c.name name) components)
unfolding nodes_in_order
find_ordered name [] = refl
find_ordered name (c ∷ rest) = find_put name (node_of c) (nodes_in_order (map node_of rest)) ∙ go (same_text c.name name) (find_ordered name rest)
  where
    go : (b : Bool) → node_named (nodes_in_order (map node_of rest)) name ≡ option_map node_of (find (λ (d : Component). same_text d.name name) rest) →
        (if b then Some (node_of c) else node_named (nodes_in_order (map node_of rest)) name) ≡ option_map node_of (if b then Some c else find (λ (d : Component). same_text d.name name) rest)
    go true later = refl
    go false later = later

pub targets_of_graph : TargetsOfGraph
targets_of_graph plan name port c at within =
    let named : c.name ≡ name = same_text-true c.name name (passing (λ (d : Component). same_text d.name name) plan.components c at) in
    let text = output_text c.name (slice_index_or (port_names c) port []) in
    let here : targets plan name port ≡ readers plan name (slice_index_or (port_names c) port []) =
    ap (λ (o : Option Component). slice_index_or (elim o [ None ↦ [] | Some d ↦ map (readers plan name) (port_names d) ]) port []) at
    ∙ get_or-map (readers plan name) (port_names c) port [] [] within
    in
    let ours : readers plan name (slice_index_or (port_names c) port []) ≡ graph_readers (nodes_in_order (nodes_of plan)) c.name text =
    ap (λ n. readers plan n (slice_index_or (port_names c) port [])) (sym named)
    ∙ ordered_passing (λ reader. reads_output reader c.name text) plan.components
    in
    let theirs : graph_targets (nodes_in_order (nodes_of plan)) name port ≡ graph_readers (nodes_in_order (nodes_of plan)) c.name (slice_index_or (outputs_of (node_of c)) port []) =
    ap (λ o. targets_in (nodes_in_order (nodes_of plan)) o port) (find_ordered name plan.components ∙ ap (option_map node_of) at)
    in
    let index : slice_index_or (outputs_of (node_of c)) port [] ≡ text = get_or-map (output_text c.name) (port_names c) port [] [] within in
    here ∙ ours ∙ ap (graph_readers (nodes_in_order (nodes_of plan)) c.name) (sym index) ∙ sym theirs
