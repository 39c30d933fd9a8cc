-- The two sides of a rule: the terms of each, and its part of a typing.
use Rattle.std.specs.Prelude.{List}
use Rattle.nir_ops.specs.declared.width.Width.{Width}
use Rattle.rule_term.specs.declared.side.Side.{Side}
use Rattle.rule_term.specs.declared.side.Side.TheVariants.{Search, Replace}
use Rattle.rule_term.specs.Terms.{Terms}
use Rattle.rule_term.specs.Rule.{Rule}
use Rattle.rule_term.specs.Typings.{search_part, replace_part}

abbrev pub side_terms : Side → Rule → Terms
side_terms Search rule = rule.search
side_terms Replace rule = rule.replace

abbrev pub side_part : Side → Rule → List Width → List Width
side_part Search rule widths = search_part rule widths
side_part Replace rule widths = replace_part rule widths
