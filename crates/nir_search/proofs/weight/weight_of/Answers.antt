use Rattle.std.proofs.Common.{◌≡◌, ◌∙◌, List, ap, arith, subst}
use Rattle.nir_ir.specs.declared.node.Node.{Node}
use Rattle.nir_ir.specs.Nodes.{nodes_of}
use Rattle.nir_ir.specs.Shader.{Shader}
use Rattle.nir_ir.specs.Shaped.{IsShaped}
use Rattle.rule_term.specs.Table.{op_weight}
use Rattle.nir_search.specs.Weight.{total, weight_of}
use Rattle.nir_search.proofs.WeightLemmas.{weight_few}
use Rattle.nir_search.proofs.weight.weight_of.Goals as goal

pub returns-clause-value : goal.returns-clause-value
returns-clause-value c =
    let weight = op_weight c.args.table.now in
    let few = weight_few weight c.weights_are_few.ensures.few c.args.shader.now (subst IsShaped c.shader.view_is c.shader.invariant) in
    let whole : total weight (nodes_of c.as_slice.result.now) ≡ weight_of weight c.args.shader.now =
    ap (λ (l : List Node). total weight (nodes_of l)) c.as_slice.ensures ∙ ap (λ (s : Shader). total weight s.body) c.shader.view_is in
    let left = c.without_list.ensures in
    let bound = ap (λ (s : Shader). s.next_value) c.shader.view_is in
    omega (arith, few, whole, left, bound)
