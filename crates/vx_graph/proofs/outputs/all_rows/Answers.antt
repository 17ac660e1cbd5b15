use Rattle.std.proofs.Common.{◌≡◌, ◌∙◌, ap, sym, map, get_or}
use Rattle.std.proofs.lemmas.List.{get_or-map}
use Rattle.std.specs.List.{list_any}
use Rattle.vx_graph.specs.Outputs.{reads_output, outputs_of, row_of}
use Rattle.vx_graph.specs.declared.node.Node.{Node}
use Rattle.vx_graph.proofs.Lists.{map_step}
use Rattle.vx_graph.proofs.outputs.all_rows.Goals as goal

pub loop-i-preserved : goal.loop-i-preserved
loop-i-preserved c =
    let nodes = c.args.nodes.now in
    let i = c.loop-i.i in
    let node = c.index-nodes-i.result in
    let texts : c.as_slice.result.now ≡ outputs_of node =
    c.as_slice.ensures ∙ c.index-outputs-i.is ∙ ap (λ os. get_or os i c.index-outputs-i.result) c.requires
    ∙ get_or-map outputs_of nodes i node c.index-outputs-i.result c.loop-i-test.true ∙ ap outputs_of (sym c.index-nodes-i.is)
    in
    let row : c.in_ok-row_of.field-0 ≡ row_of nodes node =
    c.in_ok-row_of.ensures
    ∙ ap (λ owner. map (λ (reader : Node). list_any (λ text. reads_output reader owner text) c.as_slice.result.now) nodes) c.as_str.ensures
    ∙ ap (λ ts. map (λ (reader : Node). list_any (λ text. reads_output reader node.name text) ts) nodes) texts
    in
    map_step (row_of nodes) nodes i node c.loop-i.rows c.push.new.list c.in_ok-row_of.field-0 c.loop-i-test.true c.index-nodes-i.is
    c.loop-i.invariant c.in_ok-push.ensures row
