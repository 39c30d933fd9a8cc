-- A copy of terms in which sources stand swapped, and the bits that it leaves.
use Rattle.std.specs.Prelude.{◌≡◌, ℕ}
use Rattle.rule_term.specs.Terms.{Terms}
use Rattle.rule_term.specs.Variants.{bits_behind, variant_of}

pub record IsVaried (terms : Terms) (bits : ℕ) (copy : Terms) (left : ℕ) : Type 0 where
  pub swapped : copy ≡ variant_of terms bits
  pub behind : left ≡ bits_behind terms bits
