use Rattle.std.proofs.Common.{◌≤◌, sym, subst, arith}
use Rattle.std.specs.Option.{option_map_or}
use Rattle.nir_ir.specs.Found.{few_components}
use Rattle.nir_search.proofs.facts.count_at.Goals as goal

pub returns-in-Some-clause-few : goal.returns-in-Some-clause-few
returns-in-Some-clause-few c =
    let few : option_map_or (λ kind. kind.count) c.kind.result 0 ≤ 4 =
    subst (λ o. option_map_or (λ kind. kind.count) o 0 ≤ 4) (sym c.kind.ensures) (few_components c.args.work.now.shader c.keeps_shape.ensures.shaped c.args.value) in
    let here : c.in-Some.kind.count ≤ 4 = subst (λ o. option_map_or (λ kind. kind.count) o 0 ≤ 4) c.in-Some.is few in
    omega (arith, here)
