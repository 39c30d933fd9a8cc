use Rattle.std.proofs.Common.{sym}
use Rattle.op_eval.proofs.CallLemmas.{width_of_none}
use Rattle.op_eval.proofs.whole_list.call_width.Goals as goal

pub returns-in-None : goal.returns-in-None
returns-in-None c = width_of_none (λ view. view.width) c.args.op c.args.dst c.args.args.now (sym c.in-None.ensures.value)
