use Rattle.std.proofs.Common.{◌≡◌, [], length, ap, sym, ◌∙◌}
use Rattle.std.proofs.lemmas.Bool.{eqb-true}
use Rattle.std.proofs.lemmas.List.{nil_from_length}
use Rattle.circuit_laws.specs.Blocks.{top_negated}
use Rattle.bit_circuit.proofs.word.top_negated.Goals as goal

pub returns-then-is_empty : goal.returns-then-is_empty
unfolding top_negated
returns-then-is_empty c =
    let none : c.args.xs.now ≡ [] = nil_from_length c.args.xs.now (eqb-true (length c.args.xs.now) 0 (sym c.if-is_empty.ensures)) in
    c.new.ensures ∙ ap top_negated (sym none)
