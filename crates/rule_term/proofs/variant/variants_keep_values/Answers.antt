use Rattle.rule_term.specs.VariantLaws.{variants_keep_values}
use Rattle.rule_term.proofs.variant.variants_keep_values.Goals as goal

pub returns : goal.returns
returns c = record { law = variants_keep_values }
