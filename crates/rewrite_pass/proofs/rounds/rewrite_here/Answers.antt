use Rattle.rewrite_pass.specs.RewritingLaws.{advances_then, rewrites_then}
use Rattle.rewrite_pass.proofs.rounds.rewrite_here.Goals as goal

pub returns-in_err-rewrite_found-in-Some-clause-steps : goal.returns-in_err-rewrite_found-in-Some-clause-steps
returns-in_err-rewrite_found-in-Some-clause-steps g c =
    rewrites_then c.args.options.now c.args.table.now.rules c.args.work.now.shader c.loop-count.work.shader c.rewrite_found.new.work.shader c.args.journal.now c.loop-count.journal c.rewrite_found.new.journal
    c.loop-count.invariant.steps c.in_err-rewrite_found-in-Some.ensures.steps

pub loop-count-preserved : goal.loop-count-preserved
loop-count-preserved g c =
    advances_then c.args.options.now c.args.table.now c.args.work.now.shader c.loop-count.work.shader c.rewrite_found.new.work.shader c.args.journal.now c.loop-count.journal c.rewrite_found.new.journal c.loop-count.count 1
    c.loop-count.invariant c.in_ok-rewrite_found-in-Some.ensures.done
