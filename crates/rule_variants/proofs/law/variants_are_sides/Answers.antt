use Rattle.rule_variants.specs.SearchSideLaws.{variants_are_sides, variants_keep_nodes}
use Rattle.rule_variants.proofs.law.variants_are_sides.Goals as goal

pub returns : goal.returns
returns c = record { nodes = variants_keep_nodes; sides = variants_are_sides }
