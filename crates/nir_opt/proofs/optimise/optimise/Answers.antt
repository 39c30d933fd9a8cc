use Rattle.std.proofs.Common.{ap, arith}
use Rattle.rule_term.specs.Table.{op_weight}
use Rattle.nir_search.specs.Weight.{weight_of}
use Rattle.nir_opt.proofs.optimise.optimise.Goals as goal

pub returns-clause-lighter : goal.returns-clause-lighter
returns-clause-lighter g c = λ down.
    let weight = op_weight c.args.table.now in
    let falls = c.in_ok-rewrites.ensures.falls down in
    let before = ap (weight_of weight) c.in_ok-work.ensures.shader in
    let behind = ap (weight_of weight) c.in_ok-shader.ensures in
    omega (arith, falls, before, behind)
