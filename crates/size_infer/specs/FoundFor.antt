-- What is found of a rule before its typings are listed.
use Rattle.std.specs.Prelude.{◌≡◌, map}
use Rattle.rule_term.specs.Formed.{IsFormed}
use Rattle.rule_term.specs.Rule.{Rule}
use Rattle.rule_term.specs.Typings.{size_of}
use Rattle.size_laws.specs.NodeRules.{linked_rules}
use Rattle.size_laws.specs.Places.{allowed, classes}
use Rattle.size_infer.specs.Meant.{meant}
use Rattle.size_infer.specs.Options.{listed, set_at}
use Rattle.size_infer.specs.declared.found.Found.{Found}
use Rattle.size_infer.specs.declared.walk.Asked.{Asked}

-- all that the rule asks, and the nodes of its sides are counted
pub record IsAskedBy (rule : Rule) (asked : Asked) : Type 0 where
  pub formed : IsFormed rule
  pub rules : map meant asked.rules ≡ linked_rules rule
  pub searched : asked.searched ≡ size_of rule.search
  pub replaced : asked.replaced ≡ size_of rule.replace

-- the classes are those of all that the rule asks
pub record IsFoundFor (rule : Rule) (found : Found) : Type 0 where
  pub formed : IsFormed rule
  pub first : listed found.classes.first ≡ classes (linked_rules rule)
  pub sets : set_at found.classes.sets ≡ allowed (classes (linked_rules rule)) (linked_rules rule)
  pub searched : found.searched ≡ size_of rule.search
  pub replaced : found.replaced ≡ size_of rule.replace
