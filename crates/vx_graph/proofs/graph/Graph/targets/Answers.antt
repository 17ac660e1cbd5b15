use Rattle.std.proofs.Common.{◌∙◌, ◌<◌, [], ap, arith, length, get_or}
use Rattle.std.proofs.lemmas.List.{get_or_read}
use Rattle.vx_graph.specs.Targets.{targets}
use Rattle.vx_graph.proofs.Places.{targets_seen, row_seen}
use Rattle.vx_graph.proofs.graph.Graph.targets.Goals as goal

pub offset_bounds-as_slice-i : goal.offset_bounds-as_slice-i
offset_bounds-as_slice-i c =
    let facts = targets_seen c.self.inside.nodes c.args.self.now c.as_slice.result.now c.self.inside.targets c.args.name.now c.args.port c.place_named-i.result c.self.invariant c.self.view_is c.as_slice.ensures c.requires c.place_named-i.ensures in
    omega (arith, facts.0, ap length c.as_slice-2.ensures, c.as_slice-2.type_inv.1)

pub bounds-as_slice-i : goal.bounds-as_slice-i
bounds-as_slice-i c =
    let facts = targets_seen c.self.inside.nodes c.args.self.now c.as_slice.result.now c.self.inside.targets c.args.name.now c.args.port c.place_named-i.result c.self.invariant c.self.view_is c.as_slice.ensures c.requires c.place_named-i.ensures in
    omega (arith, facts.0, ap length c.as_slice-2.ensures)

pub bounds-as_slice-port : goal.bounds-as_slice-port
bounds-as_slice-port c =
    let i = c.place_named-i.result in
    let lists = c.as_slice-2.result.now in
    let facts = targets_seen c.self.inside.nodes c.args.self.now c.as_slice.result.now c.self.inside.targets c.args.name.now c.args.port c.place_named-i.result c.self.invariant c.self.view_is c.as_slice.ensures c.requires c.place_named-i.ensures in
    let within : i < length lists = omega (arith, facts.0, ap length c.as_slice-2.ensures) in
    let row = row_seen lists c.self.inside.targets i _ c.as_slice-3.result.now c.as_slice-3.ensures within c.index-as_slice-i.is c.as_slice-2.ensures in
    omega (arith, facts.1, ap length row)

pub returns : goal.returns
returns c =
    let name = c.args.name.now in
    let port = c.args.port in
    let i = c.place_named-i.result in
    let lists = c.as_slice-2.result.now in
    let facts = targets_seen c.self.inside.nodes c.args.self.now c.as_slice.result.now c.self.inside.targets c.args.name.now c.args.port c.place_named-i.result c.self.invariant c.self.view_is c.as_slice.ensures c.requires c.place_named-i.ensures in
    let within : i < length lists = omega (arith, facts.0, ap length c.as_slice-2.ensures) in
    let row = row_seen lists c.self.inside.targets i _ c.as_slice-3.result.now c.as_slice-3.ensures within c.index-as_slice-i.is c.as_slice-2.ensures in
    let there : port < length c.as_slice-3.result.now = omega (arith, facts.1, ap length row) in
    get_or_read c.as_slice-3.result.now port _ there c.index-as_slice-port.is [] ∙ ap (λ l. get_or l port []) row ∙ facts.2
    ∙ ap (λ n. targets n name port) c.self.view_is
