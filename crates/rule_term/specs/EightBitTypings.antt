-- The typings of a rule at 8 bits: 8 bits for each node, and no other.
use Rattle.std.specs.Prelude.{◌≡◌, ◌+◌, true, [], ◌∷◌, filter}
use Rattle.std.proofs.Common.{sym, ◌∙◌, ap}
use Rattle.std.proofs.lemmas.List.{length-replicate}
use Rattle.nir_ops.specs.declared.width.Width.TheVariants.{W8}
use Rattle.rule_term.specs.Rule.{Rule}
use Rattle.rule_term.specs.Formed.{IsFormed}
use Rattle.rule_term.specs.EightBit.{is_eight_bit, all_eight}
use Rattle.rule_term.specs.EightBitLaws.{eight_typing, eight_is_typing}
use Rattle.rule_term.specs.OneTyping.{only_typing}
use Rattle.rule_term.specs.Typings.{size_of, is_typing, typings, width_lists}

pub eight_typings : (rule : Rule) → IsFormed rule → is_eight_bit rule ≡ true → typings rule ≡ all_eight rule ∷ []
unfolding typings
eight_typings rule formed eight =
    ap (λ n. filter (is_typing rule) (width_lists n)) (sym (length-replicate (size_of rule.search + size_of rule.replace) W8))
    ∙ only_typing (is_typing rule) (all_eight rule) (eight_is_typing rule formed eight, λ other e typing. eight_typing rule formed eight other typing)
