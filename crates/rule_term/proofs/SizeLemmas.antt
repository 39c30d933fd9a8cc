-- The nodes of a rule, counted on each side.
use Rattle.std.proofs.Common.{◌≡◌, ◌+◌, ℕ, replicate, ◌∙◌, ap}
use Rattle.nir_ops.specs.declared.width.Width.TheVariants.{W8}
use Rattle.rule_term.specs.Rule.{Rule}
use Rattle.rule_term.specs.Typings.{size_of}
use Rattle.rule_term.specs.EightBit.{all_eight}

pub all_eight-made : (rule inside : Rule) (searched replaced : ℕ) → inside ≡ rule → searched ≡ size_of inside.search → replaced ≡ size_of inside.replace → replicate (searched + replaced) W8 ≡ all_eight rule
all_eight-made rule inside searched replaced same first second =
    ap (λ n. replicate (n + replaced) W8) first ∙ ap (λ n. replicate (size_of inside.search + n) W8) second ∙ ap all_eight same
