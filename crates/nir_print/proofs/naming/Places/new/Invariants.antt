-- the numbers that were passed are there, in order
use Rattle.std.proofs.Common.{◌≡◌, take}
use Rattle.nir_print.proofs.naming.Places.new.Given as goal

abbrev pub invariant-loop-number : goal.invariant-loop-number
invariant-loop-number l = l.places.keys ≡ take l.number-index l.numbers
