use Rattle.std.proofs.Common.{◌≡◌, length}
use Rattle.rule_read.specs.Lists.{with_others}
use Rattle.term_read.specs.Views.{source, terminals}
use Rattle.rule_read.proofs.list.with_others.Given as goal

-- what is read from here on is what is read in all
abbrev pub invariant-others : goal.invariant-others
invariant-others g l = record {
  so_far : with_others g.L.Listed.grammar (g.L.Listed.says l.list) (source l.reader) ≡ with_others g.L.Listed.grammar (g.L.Listed.says l.fn.list) (source l.fn.reader);
}

abbrev pub decreases-others : goal.decreases-others
decreases-others g l = length (terminals l.reader.point)
