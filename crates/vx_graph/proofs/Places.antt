-- Where the targets of a component's port stand.
use Rattle.std.proofs.Common.{◌≡◌, ℕ, ◌+◌, ◌<◌, suc, Bool, not, cond, Some, find, List, [], ◌∷◌, length, get_or, map, sym, ap, ◌∙◌, subst, inl, inr, arith}
use Rattle.std.proofs.lemmas.List.{get_or-map, get_or_read, length-map}
use Rattle.std.specs.List.{position_or_len}
use Rattle.vx_value.specs.Texts.{ByteString, same_text}
use Rattle.vx_graph.specs.declared.node.Node.{Node}
use Rattle.vx_graph.specs.Outputs.{outputs_of, output_text, readers, readers_of}
use Rattle.vx_graph.specs.Targets.{node_named, port_count, ports_in, targets, targets_in}
use Rattle.vx_graph.proofs.Likeness.{which}

-- whether a component has a name
abbrev pub has_name : ByteString → Node → Bool
has_name name node = same_text node.name name

-- a component with a port stands at its place
pub named_place : (nodes : List Node) (name : ByteString) (port : ℕ) → port < port_count nodes name
    → (position_or_len (has_name name) nodes < length nodes)
    × ((d : Node) → node_named nodes name ≡ Some (get_or nodes (position_or_len (has_name name) nodes) d))
named_place [] name port lt = absurd (omega arith)
named_place (n ∷ rest) name port lt =
    elim (which (has_name name n)) [
      | inl h ↦
          let here : position_or_len (has_name name) (n ∷ rest) ≡ 0 =
          ap (λ b. cond (not b) (1 + position_or_len (has_name name) rest) 0) h
          in (
            omega arith,
            λ d. ap (λ b. cond b (Some n) (find (has_name name) rest)) h ∙ sym (ap (λ k. Some (get_or (n ∷ rest) k d)) here),
          )
      | inr h ↦
          let further : position_or_len (has_name name) (n ∷ rest) ≡ 1 + position_or_len (has_name name) rest =
          ap (λ b. cond (not b) (1 + position_or_len (has_name name) rest) 0) h
          in
          let next : position_or_len (has_name name) (n ∷ rest) ≡ suc (position_or_len (has_name name) rest) = omega arith in
          let same : node_named (n ∷ rest) name ≡ node_named rest name = ap (λ b. cond b (Some n) (find (has_name name) rest)) h in
          let later = named_place rest name port (subst (λ o. port < ports_in o) same lt) in (
            omega (arith, later.0),
            λ d. same ∙ later.1 d ∙ sym (ap (λ k. Some (get_or (n ∷ rest) k d)) next),
          )
    ]

-- its targets stand there too
pub targets_at : (nodes : List Node) (lists : List (List (List ByteString))) (name : ByteString) (port i : ℕ)
    → lists ≡ map (readers_of nodes) nodes → port < port_count nodes name → i ≡ position_or_len (has_name name) nodes
    → (i < length lists) × (port < length (get_or lists i [])) × (get_or (get_or lists i []) port [] ≡ targets nodes name port)
targets_at [] lists name port i is lt at = absurd (omega arith)
targets_at (d ∷ rest) lists name port i is lt at =
    let nodes : List Node = d ∷ rest in
    let place = named_place nodes name port lt in
    let within : i < length nodes = omega (arith, place.0) in
    let node : Node = get_or nodes i d in
    let named : node_named nodes name ≡ Some node = place.1 d ∙ ap (λ k. Some (get_or nodes k d)) (sym at) in
    let row : get_or lists i [] ≡ readers_of nodes node =
    ap (λ l. get_or l i []) is ∙ get_or-map (readers_of nodes) nodes i d [] within
    in
    let ports : port < length node.ports = subst (λ o. port < ports_in o) named lt in
    let outputs : port < length (outputs_of node) = omega (arith, length-map node.ports (output_text node.name)) in (
      omega (arith, ap length is, length-map nodes (readers_of nodes)),
      omega (arith, ap length row, length-map (outputs_of node) (readers nodes node.name)),
      ap (λ r. get_or r port []) row ∙ get_or-map (readers nodes node.name) (outputs_of node) port [] [] outputs
          ∙ sym (ap (λ o. targets_in nodes o port) named),
    )

-- the lists of a component that were read at its place
pub row_seen : (lists all : List (List (List ByteString))) (i : ℕ) (item row : List (List ByteString)) → row ≡ item → i < length lists → item ≡ get_or lists i item → lists ≡ all → row ≡ get_or all i []
row_seen lists all i item row same within is among = same ∙ get_or_read lists i item within is [] ∙ ap (λ l. get_or l i []) among

-- the same by the components that contracts see, and those among which the place was sought
pub targets_seen : (nodes seen sought : List Node) (lists : List (List (List ByteString))) (name : ByteString) (port i : ℕ)
    → lists ≡ map (readers_of nodes) nodes → nodes ≡ seen → sought ≡ nodes → port < port_count seen name → i ≡ position_or_len (has_name name) sought
    → (i < length lists) × (port < length (get_or lists i [])) × (get_or (get_or lists i []) port [] ≡ targets nodes name port)
targets_seen nodes seen sought lists name port i is same among lt at =
    targets_at nodes lists name port i is (subst (λ n. port < port_count n name) (sym same) lt) (at ∙ ap (position_or_len (has_name name)) among)
