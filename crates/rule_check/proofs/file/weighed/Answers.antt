use Rattle.std.proofs.Common.{map, sym, ◌∙◌, arith}
use Rattle.std.proofs.lemmas.List.{at_drop_all}
use Rattle.rule_term.specs.Table.{op_weight}
use Rattle.rule_read.specs.Says.{weight_says}
use Rattle.rule_check.specs.Accepted.{weight_or}
use Rattle.rule_check.proofs.FileWeights.{asked-at, not_mov, weights-step}
use Rattle.rule_check.proofs.file.weighed.Goals as goal

pub set_line-requires-clause-ordinary : goal.set_line-requires-clause-ordinary
set_line-requires-clause-ordinary c = not_mov _ (asked-at c.args.weights.now c.loop-line.line-index _ c.loop-line-test.true c.requires).0

pub set_line-requires-clause-few : goal.set_line-requires-clause-few
set_line-requires-clause-few c = (asked-at c.args.weights.now c.loop-line.line-index _ c.loop-line-test.true c.requires).1

pub loop-line-preserved : goal.loop-line-preserved
loop-line-preserved c = record {
  rules = c.set_line.ensures.rules ∙ c.loop-line.invariant.rules;
  weights = λ o.
      weights-step c.args.weights.now c.loop-line.line-index _ (op_weight c.loop-line.table) (op_weight c.set_line.new.table) c.loop-line-test.true c.requires
      c.set_line.ensures.set c.set_line.ensures.others o
      ∙ c.loop-line.invariant.weights o;
}

pub returns-clause-weights : goal.returns-clause-weights
returns-clause-weights c o =
    let past = c.loop-line-test.false in
    sym (at_drop_all (λ l. weight_or (map weight_says l) (op_weight c.loop-line.table o) o) c.args.weights.now c.loop-line.line-index (omega (arith, past)))
    ∙ c.loop-line.invariant.weights o
