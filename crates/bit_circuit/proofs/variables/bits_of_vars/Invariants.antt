-- the bits so far are those of the first variables
use Rattle.std.proofs.Common.{◌≡◌, map}
use Rattle.std.specs.List.{range_with_len}
use Rattle.nir_ops.specs.Width.{width_bits}
use Rattle.circuit_laws.specs.Variables.{var_width}
use Rattle.bit_circuit.proofs.variables.bits_of_vars.Given as goal

abbrev pub invariant-loop-var : goal.invariant-loop-var
invariant-loop-var l = l.bits.items ≡ map (λ var. width_bits (var_width l.rule l.typing.widths var)) (range_with_len 0 l.var)
