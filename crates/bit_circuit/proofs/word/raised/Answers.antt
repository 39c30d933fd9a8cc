use Rattle.bit_circuit.proofs.WordLemmas.{raised_parts}
use Rattle.bit_circuit.proofs.word.raised.Goals as goal

pub returns : goal.returns
returns c = rw (c.in_ok-extend_from_slice.ensures.ok, c.in_ok-word.ensures, c.saturating_sub-kept.ensures) (raised_parts c.args.literal c.args.places c.args.xs.now)
