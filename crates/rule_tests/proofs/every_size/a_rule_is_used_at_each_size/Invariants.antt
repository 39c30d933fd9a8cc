use Rattle.rule_tests.proofs.every_size.a_rule_is_used_at_each_size.Given as goal

abbrev pub ghosts-spread_in : goal.ghosts-spread_in
ghosts-spread_in g a = record { name = a.blank.name; parts = a.blank.parts }
