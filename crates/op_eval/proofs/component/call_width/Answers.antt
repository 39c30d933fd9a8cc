use Rattle.std.proofs.Common.{sym}
use Rattle.op_eval.proofs.CallLemmas.{width_of_none}
use Rattle.op_eval.proofs.component.call_width.Goals as goal

pub returns-in-None : goal.returns-in-None
returns-in-None c = width_of_none (λ word. word.width) c.args.op c.args.dst c.args.args.now (sym c.in-None.ensures.value)
