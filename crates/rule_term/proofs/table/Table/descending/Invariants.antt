-- the rules from the place on decide
use Rattle.std.proofs.Common.{◌≡◌, drop}
use Rattle.std.specs.List.{list_all}
use Rattle.rule_term.specs.Descending.{descends, is_descending}
use Rattle.rule_term.specs.Table.{op_weight}
use Rattle.rule_term.proofs.table.Table.descending.Given as goal

abbrev pub invariant-loop-place : goal.invariant-loop-place
invariant-loop-place l = list_all (descends (op_weight l.self)) (drop l.place l.self.rules) ≡ is_descending l.self
