use Rattle.std.proofs.Common.{◌≡◌, ◌+◌, ◌-◌, ◌++◌, [], ◌∷◌, suc, ap, sym, ◌∙◌, arith, append_assoc}
use Rattle.circuit_laws.specs.Literals.{variables}
use Rattle.bit_circuit.specs.declared.circuit.Circuit.{Circuit}
use Rattle.bit_circuit.proofs.AskedLemmas.{variable_next, variable_more}
use Rattle.bit_circuit.proofs.inputs.input.Goals as goal

pub loop-at-preserved : goal.loop-at-preserved
loop-at-preserved c =
    let k : Circuit = c.loop-at.circuit in
    let left : c.args.count - c.loop-at._at ≡ suc (c.args.count - (c.loop-at._at + 1)) = omega (arith, c.loop-at-test.true) in
    let next = variable_next k c.variable.new.self c.in_ok-variable.ensures.grown in
    record {
      word =
          ap (λ l. l ++ variables c.variable.new.self.next (c.args.count - (c.loop-at._at + 1))) c.in_ok-push.ensures.ok
          ∙ append_assoc c.loop-at.word (c.in_ok-variable.field-0 ∷ []) (variables c.variable.new.self.next (c.args.count - (c.loop-at._at + 1)))
          ∙ ap (λ n. c.loop-at.word ++ c.in_ok-variable.field-0 ∷ variables n (c.args.count - (c.loop-at._at + 1))) next
          ∙ ap (λ l. c.loop-at.word ++ l ∷ variables (suc k.next) (c.args.count - (c.loop-at._at + 1))) c.in_ok-variable.ensures.made
          ∙ sym (ap (λ m. c.loop-at.word ++ variables k.next m) left)
          ∙ c.loop-at.invariant.word;
      grown = variable_more c.args.circuit.now k c.variable.new.self c.loop-at._at c.loop-at.invariant.grown c.in_ok-variable.ensures.grown;
    }
