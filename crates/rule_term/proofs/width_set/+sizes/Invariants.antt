-- the unsized sizes at which the sources before the place can have their sizes, as far as the others can too
use Rattle.std.proofs.Common.{◌≡◌, drop, ◌&&◌}
use Rattle.nir_ops.specs.Opcodes.{op_allows, op_info}
use Rattle.op_eval.specs.Calls.{source_widths}
use Rattle.rule_term.specs.ReplaceLeast.{can, knows, set_has, set_of}
use Rattle.rule_term.specs.Terms.{terms_of}
use Rattle.rule_term.proofs.width_set.+sizes.Given as goal

abbrev pub invariant-usable-loop-at : goal.invariant-usable-loop-at
invariant-usable-loop-at l = record {
  inputs : l.inputs ≡ (op_info l.fn.op).inputs;
  usable : set_of (λ free. set_has l.set free && can (knows l.known) (terms_of (drop l.at l.args)) (drop l.at (source_widths l.fn.op free))) ≡ set_of (λ free. op_allows l.fn.op free && can (knows l.known) (terms_of l.args) (source_widths l.fn.op free));
}
