use Rattle.std.proofs.Common.{arith}
use Rattle.rewrite_pass.proofs.build.add_fresh.Goals as goal

pub returns-clause-next : goal.returns-clause-next
returns-clause-next c = omega arith
