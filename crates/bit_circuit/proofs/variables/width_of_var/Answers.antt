use Rattle.std.proofs.Common.{◌≤◌, ◌+◌, length, sym, ap, subst, ◌∙◌}
use Rattle.std.specs.Option.{unwrap_or}
use Rattle.nir_ops.specs.declared.width.Width.TheVariants.{W1}
use Rattle.rule_term.specs.Typings.{size_of, occurrences}
use Rattle.circuit_laws.specs.Variables.{width_found, var_width}
use Rattle.bit_circuit.proofs.Walks.{occurrences-search, typing-room}
use Rattle.bit_circuit.proofs.variables.width_of_var.Goals as goal

pub found_in_term-found-requires : goal.found_in_term-found-requires
found_in_term-found-requires c = record {
  room = subst (λ terms. 0 + size_of terms ≤ length c.as_slice.result.now) (sym (ap (λ r. r.search) c.rule.view_is))
      (subst (λ list. 0 + size_of c.args.rule.now.search ≤ length list) (sym c.as_slice.ensures) (typing-room c.args.rule.now c.args.typing.now.widths c.requires));
}

pub returns : goal.returns
unfolding var_width
returns c =
    c.unwrap_or.ensures
    ∙ ap (λ w. unwrap_or w W1)
    (c.found_in_term-found.ensures.width
    ∙ ap (λ terms. width_found (occurrences terms c.as_slice.result.now) c.args.var) (ap (λ r. r.search) c.rule.view_is)
    ∙ ap (λ list. width_found (occurrences c.args.rule.now.search list) c.args.var) c.as_slice.ensures
    ∙ sym (ap (λ l. width_found l c.args.var) (occurrences-search c.args.rule.now c.args.typing.now.widths)))
