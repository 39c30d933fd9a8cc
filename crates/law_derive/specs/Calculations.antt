-- Terms that can be computed, and what a calculation answers.
use Rattle.std.specs.Prelude.{◌≡◌, true, List, [], Option, Some, None, Result, Ok, Err}
use Rattle.law_derive.specs.declared.node.Node.{Node}
use Rattle.law_derive.specs.declared.fault.StepFault.TheVariants.{NoMatch}
use Rattle.law_derive.specs.declared.fault.StepFault.{StepFault}
use Rattle.law_derive.specs.Fit.{nodes_fit}
use Rattle.law_derive.specs.Nodes.{AreTerms}
use Rattle.law_derive.specs.WordsLaws.{AreWordNodes}

-- one term whose sizes fit, and whose numbers are words of their sizes; it has a value where each variable is 0
pub record IsComputable (nodes : List Node) : Type 0 where
  pub one : AreTerms 1 nodes
  pub fit : nodes_fit nodes ≡ true
  pub words : AreWordNodes [] nodes

-- the nodes that a calculation makes, None where it is none
abbrev pub calc_answer : Option (List Node) → Result (List Node) StepFault
calc_answer None = Err NoMatch
calc_answer (Some nodes) = Ok nodes
