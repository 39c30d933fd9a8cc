-- What contracts see of a rule file: its rules with their evidence, and its weights.
use Rattle.std.specs.Prelude.{◌≡◌, ◌≤◌, ℕ, suc, false, List, [], ◌∷◌}
use Rattle.std.specs.List.{AllByRecursion}
use Rattle.rule_term.specs.Formed.{is_mov}
use Rattle.rule_read.specs.declared.entry.Entry.{Entry}
use Rattle.rule_read.specs.declared.entry.WeightLine.{WeightLine}

pub record RuleFile : Type 0 where
  pub entries : List Entry
  pub weights : List WeightLine

-- the rules have the numbers from this one on
abbrev pub AreNumbered : ℕ → List Entry → Type 0
AreNumbered number [] = Unit {0}
AreNumbered number (entry ∷ rest) = (entry.rule.number ≡ number) × AreNumbered (suc number) rest

-- another opcode is weighed
abbrev pub IsOther : WeightLine → WeightLine → Type 0
IsOther line other = other.op ≡ line.op → ⊥

-- each opcode at most once, never mov, and at most 60
abbrev pub AreWeights : List WeightLine → Type 0
AreWeights [] = Unit {0}
AreWeights (line ∷ rest) = (is_mov line.op ≡ false) × (line.weight ≤ 60) × AllByRecursion (IsOther line) rest × AreWeights rest

pub record IsRuleFile (file : RuleFile) : Type 0 where
  pub numbered : AreNumbered 0 file.entries
  pub weighed : AreWeights file.weights
