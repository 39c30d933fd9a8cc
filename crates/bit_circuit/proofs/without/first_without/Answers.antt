use Rattle.std.proofs.Common.{[], ◌∷◌, not, ap, sym, ◌∙◌}
use Rattle.std.specs.Prelude.{find}
use Rattle.std.specs.Option.{option_or}
use Rattle.std.proofs.lemmas.List.Folds.{find-append}
use Rattle.nir_ops.specs.declared.op.Op.{Op}
use Rattle.rule_term.specs.Terms.{terms_of}
use Rattle.rule_term.specs.Pieces.{ops_of}
use Rattle.rule_term.specs.Rule.{Rule}
use Rattle.circuit_laws.specs.Opcodes.{has_circuit}
use Rattle.bit_circuit.proofs.without.first_without.Goals as goal

pub returns : goal.returns
returns c =
    let test = λ (op : Op). not (has_circuit op) in
    c.or.ensures
    ∙ ap (λ o. option_or o c.without_in_term-2.result) c.without_in_term.ensures
    ∙ ap (option_or (find test (ops_of (terms_of (c.rule.inside.search ∷ []))))) c.without_in_term-2.ensures
    ∙ ap (λ (r : Rule). option_or (find test (ops_of r.search)) (find test (ops_of r.replace))) c.rule.view_is
    ∙ sym (find-append test (ops_of c.args.rule.now.search) (ops_of c.args.rule.now.replace))
