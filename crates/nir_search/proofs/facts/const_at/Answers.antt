use Rattle.nir_ir.specs.Definitions.{width_at, const_at}
use Rattle.std.proofs.Common.{rules, ◌≡◌, ◌∙◌, ◌<◌, ◌^◌}
use Rattle.std.specs.List.{AllByRecursion}
use Rattle.std.specs.Option.{option_map}
use Rattle.nir_ops.specs.Width.{width_bits}
use Rattle.nir_ir.specs.Found.{const_words}
use Rattle.nir_search.proofs.ShapedLemmas.{if_words}
use Rattle.nir_search.proofs.facts.const_at.Goals as goal

pub returns-in-Some-clause-words : goal.returns-in-Some-clause-words
returns-in-Some-clause-words c =
    let is : const_at c.args.work.now.shader.body c.args.value ≡ option_map (λ comps. comps.now) c.const_of.result = search rules in
    if_words (λ comps. comps.now) c.const_of.result
    (AllByRecursion (λ comp. comp < 2 ^ width_bits (width_at c.args.work.now.shader.body c.args.value)))
    (λ comps found. const_words c.args.work.now.shader c.keeps_shape.ensures.shaped c.args.value comps (is ∙ found))
