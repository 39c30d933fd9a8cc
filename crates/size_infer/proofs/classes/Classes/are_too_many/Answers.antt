use Rattle.std.proofs.Common.{◌+◌, arith}
use Rattle.size_infer.proofs.OptionLemmas.{lists_more}
use Rattle.size_infer.proofs.classes.Classes.are_too_many.Goals as goal

pub returns-then-count-gt-MOST : goal.returns-then-count-gt-MOST
returns-then-count-gt-MOST c =
    let l = c.loop-node in
    let made = lists_more c.args.self.now l.node l.count c.options-count.result l.invariant.counted c.options-count.ensures.count in
    record { node = l.node + 1; inside = omega arith; more = omega (arith, made) }
