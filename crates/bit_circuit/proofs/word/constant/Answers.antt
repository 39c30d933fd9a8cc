use Rattle.std.proofs.Common.{◌∙◌}
use Rattle.bit_circuit.proofs.WordLemmas.{constant_turn}
use Rattle.bit_circuit.proofs.word.constant.Goals as goal

pub loop-at-preserved : goal.loop-at-preserved
loop-at-preserved c =
    rw (c.in_ok-push.ensures.ok, c.of_bit.ensures) (constant_turn c.loop-at.word c.args.count c.loop-at.at c.loop-at.left c.loop-at-test.true ∙ c.loop-at.invariant)
