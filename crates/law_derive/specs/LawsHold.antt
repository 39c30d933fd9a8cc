-- Each law holds at each of its sizes, for all words of its letters that meet its condition.
use Rattle.std.specs.Prelude.{◌≡◌, ◌^◌, ◌<◌, ◌≤◌, ℕ, true, List, cond}
use Rattle.std.specs.List.{AllByRecursion, slice_index_or}
use Rattle.nir_ops.specs.declared.width.Width.{Width}
use Rattle.nir_ops.specs.Width.{width_bits}
use Rattle.rule_term.specs.Holds.{meets_cond}
use Rattle.law_derive.specs.LawTable.{Law, laws, left_at, right_at}
use Rattle.law_derive.specs.Nodes.{values}

-- the least number of bits of a law
abbrev pub least_bits : Law → ℕ
least_bits law = cond law.bit 1 8

-- the word of a letter
abbrev pub word_of : List ℕ → ℕ → ℕ
word_of words letter = slice_index_or words letter 0

-- b has 1 bit, and the other letters have the law's size
pub record AreWords (width : Width) (words : List ℕ) : Type 0 where
  pub x : word_of words 0 < 2 ^ width_bits width
  pub y : word_of words 1 < 2 ^ width_bits width
  pub z : word_of words 2 < 2 ^ width_bits width
  pub b : word_of words 3 < 2 ^ 1
  pub c : word_of words 4 < 2 ^ width_bits width

-- both sides of the law have one value
abbrev pub IsLaw : Law → Type 0
IsLaw law =
    (width : Width) → least_bits law ≤ width_bits width → (words : List ℕ) → AreWords width words → meets_cond law.cond width (word_of words 4) ≡ true
    → values (left_at law width) words ≡ values (right_at law width) words

abbrev pub LawsHold : Type 0
LawsHold = AllByRecursion IsLaw laws
