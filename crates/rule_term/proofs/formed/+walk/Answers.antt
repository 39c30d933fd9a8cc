use Rattle.std.proofs.Common.{None, Some}
use Rattle.rule_term.specs.FormedWalk.{walked}
use Rattle.rule_term.specs.Pieces.{pieces}
use Rattle.rule_term.specs.Terms.{terms_of}
use Rattle.rule_term.proofs.FormedLemmas.{walked-on}
use Rattle.rule_term.proofs.formed.+walk.Goals as goal

pub behind_terms-returns-in-None : goal.behind_terms-returns-in-None
behind_terms-returns-in-None t c =
    let l = c.loop-term in
    walked-on c.args.side l.at c.args.terms.now l.term-index c.term-item.result None (walked c.args.side c.args.at (pieces (terms_of c.args.terms.now))) c.loop-term-test.true c.term-item.is c.in-None.ensures l.invariant

pub behind_terms-loop-term-preserved : goal.behind_terms-loop-term-preserved
behind_terms-loop-term-preserved t c =
    let l = c.loop-term in
    walked-on c.args.side l.at c.args.terms.now l.term-index c.term-item.result (Some c.in-Some.next) (walked c.args.side c.args.at (pieces (terms_of c.args.terms.now))) c.loop-term-test.true c.term-item.is c.in-Some.ensures l.invariant
