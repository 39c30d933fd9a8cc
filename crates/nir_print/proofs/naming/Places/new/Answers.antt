use Rattle.std.proofs.Common.{◌∙◌}
use Rattle.nir_print.proofs.PlaceLemmas.{insert_key-next}
use Rattle.nir_print.proofs.naming.Places.new.Goals as goal

pub loop-number-preserved : goal.loop-number-preserved
loop-number-preserved c =
    c.in_ok-insert.ensures.keys
    ∙ insert_key-next c.loop-number.places.keys c.args.numbers.now c.loop-number.number-index c.requires c.loop-number-test.true c.loop-number.invariant
