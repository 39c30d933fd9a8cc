use Rattle.formula_read.specs.Formulas.{when_says}
use Rattle.term_read.specs.Views.{source, term_says}
use Rattle.rule_read.proofs.RuleParts.{rules_are_few, sides_are_formed}
use Rattle.rule_read.proofs.rule.rule.Goals as goal

pub ended-requires-clause-formed : goal.ended-requires-clause-formed
ended-requires-clause-formed c =
    sides_are_formed (source c.args.reader.now) (source c.begin.new.reader) (source c.app.new.reader) (source c.side.new.self) (source c.expr.new.reader)
    (source c.options.new.reader) (term_says c.in_ok-search.search) (term_says c.in_ok-replace.replace) (when_says c.in_ok-when.when) c.in_ok-begin.ensures
    c.in_ok-search.ensures c.in_ok-side.ensures c.in_ok-replace.ensures c.in_ok-when.ensures

pub ended-requires-clause-few : goal.ended-requires-clause-few
ended-requires-clause-few c =
    rules_are_few (source c.args.reader.now) (source c.begin.new.reader) (source c.app.new.reader) (source c.side.new.self) (source c.expr.new.reader)
    (source c.options.new.reader) (term_says c.in_ok-search.search) (term_says c.in_ok-replace.replace) (when_says c.in_ok-when.when) c.in_ok-begin.ensures
    c.in_ok-search.ensures c.in_ok-side.ensures c.in_ok-replace.ensures c.in_ok-when.ensures
