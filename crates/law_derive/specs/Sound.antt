-- What derivations show.
use Rattle.std.specs.Prelude.{◌≡◌, true, List, None}
use Rattle.nir_ops.specs.declared.width.Width.{Width}
use Rattle.rule_term.specs.Formed.{IsFormed}
use Rattle.rule_term.specs.Holds.{EqualAt}
use Rattle.rule_term.specs.Rule.{Rule}
use Rattle.rule_term.specs.Typings.{is_typing}
use Rattle.rule_spelling.specs.Files.{Step}
use Rattle.law_derive.specs.Derivations.{derivation_fault}

-- A derivation in which nothing is wrong shows that both sides have one value at the typing, for all values that meet the conditions of all occurrences.
abbrev pub DerivationsAreSound : Type 0
DerivationsAreSound =
    (rule : Rule) (widths : List Width) (steps : List Step) → IsFormed rule → is_typing rule widths ≡ true
    → derivation_fault (record { rule = rule; widths = widths }) steps ≡ None → EqualAt rule widths
