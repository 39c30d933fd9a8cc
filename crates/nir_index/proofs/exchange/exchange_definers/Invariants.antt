-- what is left to be exchanged makes what all make
use Rattle.std.proofs.Common.{◌≡◌, length}
use Rattle.nir_index.specs.Index.{exchanged}
use Rattle.nir_index.proofs.exchange.exchange_definers.Given as goal

abbrev pub invariant-loop-instr : goal.invariant-loop-instr
invariant-loop-instr l = exchanged l.news l.definers ≡ exchanged l.fn.news l.fn.definers

abbrev pub decreases-loop-instr : goal.decreases-loop-instr
decreases-loop-instr l = length l.news
