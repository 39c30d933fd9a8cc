use Rattle.std.specs.Int.{w128}
use Rattle.std.proofs.Common.{rules, to_z, of_z, get_or, ◌≡◌, ◌+◌, ◌*◌, ◌<◌, ◌≤◌, [], ◌∷◌, ◌++◌, ℕ, length, drop, ap, sym, ◌∙◌, arith, append_assoc}
use Rattle.nir_ops.specs.declared.width.Width.TheVariants.{W1}
use Rattle.nir_ops.specs.Width.{width_bits}
use Rattle.op_eval.specs.Word.{residue}
use Rattle.rule_term.specs.Terms.{terms_of}
use Rattle.rule_term.specs.Typings.{size_of}
use Rattle.circuit_laws.specs.Literals.{constant}
use Rattle.circuit_laws.specs.Blocks.{behind}
use Rattle.circuit_laws.specs.Opcodes.{op_circuit}
use Rattle.circuit_laws.specs.RuleClauses.{Built, terms_circuit}
use Rattle.bit_circuit.specs.declared.circuit.Circuit.{Circuit}
use Rattle.bit_circuit.specs.Growth.{grown}
use Rattle.bit_circuit.proofs.GrowthLemmas.{grown-append, grown-next}
use Rattle.bit_circuit.proofs.TermsLemmas.{circuit-var, circuit-lit, circuit-app, circuit-step}
use Rattle.bit_circuit.proofs.Walks.{room-step, place-step, size-step}
use Rattle.bit_circuit.proofs.terms.+terms.Goals as goal

pub word_of_term-returns-in_ok-from_slice-in-Var-clause-word : goal.word_of_term-returns-in_ok-from_slice-in-Var-clause-word
word_of_term-returns-in_ok-from_slice-in-Var-clause-word t c =
    ap (λ word. word ∷ []) (c.in_ok-from_slice-in-Var.ensures ∙ c.part.ensures)
    ∙ sym (ap (λ built. built.words) (circuit-var c.args.term.now c.in-Var.var c.in-Var.constant c.in-Var.size c.in-Var.cond (drop c.args.at c.args.widths.now) c.args.vars.now c.args.circuit.now.next c.in-Var.is))

pub word_of_term-returns-in_ok-from_slice-in-Var-clause-grown : goal.word_of_term-returns-in_ok-from_slice-in-Var-clause-grown
word_of_term-returns-in_ok-from_slice-in-Var-clause-grown t c =
    sym (ap (λ built. grown c.args.circuit.now built.gates) (circuit-var c.args.term.now c.in-Var.var c.in-Var.constant c.in-Var.size c.in-Var.cond (drop c.args.at c.args.widths.now) c.args.vars.now c.args.circuit.now.next c.in-Var.is))

pub word_of_term-returns-in_ok-word_of_number-in-Lit-clause-word : goal.word_of_term-returns-in_ok-word_of_number-in-Lit-clause-word
word_of_term-returns-in_ok-word_of_number-in-Lit-clause-word t c =
    let same : to_z w128 (of_z w128 c.in-Lit.value) ≡ c.in-Lit.value = search rules in
    let w : ℕ = width_bits (get_or c.args.widths.now c.args.at W1) in
    ap (λ word. word ∷ []) (c.in_ok-word_of_number-in-Lit.ensures ∙ ap (λ v. constant w (residue w v)) same)
    ∙ sym (ap (λ built. built.words) (circuit-lit c.args.term.now c.in-Lit.value c.in-Lit.boolean c.args.widths.now c.args.at c.args.vars.now c.args.circuit.now.next c.in-Lit.is))

pub word_of_term-returns-in_ok-word_of_number-in-Lit-clause-grown : goal.word_of_term-returns-in_ok-word_of_number-in-Lit-clause-grown
word_of_term-returns-in_ok-word_of_number-in-Lit-clause-grown t c =
    sym (ap (λ built. grown c.args.circuit.now built.gates) (circuit-lit c.args.term.now c.in-Lit.value c.in-Lit.boolean c.args.widths.now c.args.at c.args.vars.now c.args.circuit.now.next c.in-Lit.is))

pub word_of_term-returns-in_ok-word_of_call-in-App-clause-word : goal.word_of_term-returns-in_ok-word_of_call-in-App-clause-word
word_of_term-returns-in_ok-word_of_call-in-App-clause-word t c =
    let n : ℕ = c.args.circuit.now.next in
    let sources : Built = terms_circuit (terms_of c.in-App.args) (drop (c.args.at + 1) c.args.widths.now) c.args.vars.now n in
    let listed = ap (λ list. terms_circuit (terms_of list) (drop (c.args.at + 1) c.args.widths.now) c.args.vars.now n) c.as_slice.ensures in
    let words : c.in_ok-sources-in-App.sources.words ≡ sources.words = c.in_ok-sources-in-App.ensures.words ∙ ap (λ (b : Built). b.words) listed in
    let next : c.words_of_list.new.circuit.next ≡ behind n sources.gates =
    ap (λ (x : Circuit). x.next) (c.in_ok-sources-in-App.ensures.grown ∙ ap (λ (b : Built). grown c.args.circuit.now b.gates) listed) ∙ grown-next c.args.circuit.now sources.gates in
    ap (λ word. word ∷ [])
    (c.in_ok-word_of_call-in-App.ensures.word
    ∙ ap (λ l. (op_circuit c.in-App.op (width_bits (get_or c.args.widths.now c.args.at W1)) l c.words_of_list.new.circuit.next).word) (c.as_slice-in-App.ensures ∙ words)
    ∙ ap (λ m. (op_circuit c.in-App.op (width_bits (get_or c.args.widths.now c.args.at W1)) sources.words m).word) next)
    ∙ sym (ap (λ (b : Built). b.words) (circuit-app c.args.term.now c.in-App.op c.in-App.size c.in-App.once c.in-App.args c.args.widths.now c.args.at c.args.vars.now n c.in-App.is))

pub word_of_term-returns-in_ok-word_of_call-in-App-clause-grown : goal.word_of_term-returns-in_ok-word_of_call-in-App-clause-grown
word_of_term-returns-in_ok-word_of_call-in-App-clause-grown t c =
    let k : Circuit = c.args.circuit.now in
    let n : ℕ = k.next in
    let sources : Built = terms_circuit (terms_of c.in-App.args) (drop (c.args.at + 1) c.args.widths.now) c.args.vars.now n in
    let listed = ap (λ list. terms_circuit (terms_of list) (drop (c.args.at + 1) c.args.widths.now) c.args.vars.now n) c.as_slice.ensures in
    let words : c.in_ok-sources-in-App.sources.words ≡ sources.words = c.in_ok-sources-in-App.ensures.words ∙ ap (λ (b : Built). b.words) listed in
    let made : c.words_of_list.new.circuit ≡ grown k sources.gates = c.in_ok-sources-in-App.ensures.grown ∙ ap (λ (b : Built). grown k b.gates) listed in
    let next : c.words_of_list.new.circuit.next ≡ behind n sources.gates = ap (λ (x : Circuit). x.next) made ∙ grown-next k sources.gates in
    c.in_ok-word_of_call-in-App.ensures.grown
    ∙ ap (λ l. grown c.words_of_list.new.circuit (op_circuit c.in-App.op (width_bits (get_or c.args.widths.now c.args.at W1)) l c.words_of_list.new.circuit.next).gates) (c.as_slice-in-App.ensures ∙ words)
    ∙ ap (λ m. grown c.words_of_list.new.circuit (op_circuit c.in-App.op (width_bits (get_or c.args.widths.now c.args.at W1)) sources.words m).gates) next
    ∙ ap (λ x. grown x (op_circuit c.in-App.op (width_bits (get_or c.args.widths.now c.args.at W1)) sources.words (behind n sources.gates)).gates) made
    ∙ (grown-append k sources.gates (op_circuit c.in-App.op (width_bits (get_or c.args.widths.now c.args.at W1)) sources.words (behind n sources.gates)).gates)
    ∙ sym (ap (λ (b : Built). grown k b.gates) (circuit-app c.args.term.now c.in-App.op c.in-App.size c.in-App.once c.in-App.args c.args.widths.now c.args.at c.args.vars.now n c.in-App.is))

pub words_of_list-word_of_term-requires : goal.words_of_list-word_of_term-requires
words_of_list-word_of_term-requires t c =
    let room : c.loop-term.next + size_of (terms_of (drop c.loop-term.term-index c.args.list.now)) ≤ length c.args.widths.now = omega arith in
    let here = size-step c.args.list.now c.loop-term.term-index c.term-item.result c.loop-term-test.true c.term-item.is in
    let falls : 2 * size_of (terms_of (c.term-item.result ∷ [])) < t = omega (arith, c.decreases) in
    (falls, room-step c.args.list.now c.loop-term.term-index c.term-item.result c.loop-term.next (length c.args.widths.now) c.loop-term-test.true c.term-item.is room)

pub words_of_list-loop-term-preserved : goal.words_of_list-loop-term-preserved
words_of_list-loop-term-preserved t c =
    let k : Circuit = c.loop-term.circuit in
    let made : Circuit = c.word_of_term.new.circuit in
    let own : Built = terms_circuit (terms_of (c.term-item.result ∷ [])) (drop c.loop-term.next c.args.widths.now) c.args.vars.now k.next in
    let rest : ℕ → Built = λ n. terms_circuit (terms_of (drop (c.loop-term.term-index + 1) c.args.list.now)) (drop c.in_ok-placed.placed.next c.args.widths.now) c.args.vars.now n in
    let next : made.next ≡ behind k.next own.gates = ap (λ (x : Circuit). x.next) c.in_ok-placed.ensures.grown ∙ grown-next k own.gates in
    let step = circuit-step c.args.list.now c.loop-term.term-index c.term-item.result c.args.widths.now c.loop-term.next c.in_ok-placed.placed.next c.args.vars.now k.next c.loop-term-test.true c.term-item.is c.in_ok-placed.ensures.next in
    record {
      words =
          ap (λ l. l ++ (rest made.next).words) c.in_ok-push.ensures.ok
          ∙ append_assoc c.loop-term.words (c.in_ok-placed.placed.word ∷ []) (rest made.next).words
          ∙ ap (λ l. c.loop-term.words ++ (l ++ (rest made.next).words)) c.in_ok-placed.ensures.word
          ∙ ap (λ n. c.loop-term.words ++ (own.words ++ (rest n).words)) next
          ∙ sym (ap (λ (b : Built). c.loop-term.words ++ b.words) step)
          ∙ c.loop-term.invariant.words;
      grown =
          ap (λ n. grown made (rest n).gates) next
          ∙ ap (λ x. grown x (rest (behind k.next own.gates)).gates) c.in_ok-placed.ensures.grown
          ∙ (grown-append k own.gates (rest (behind k.next own.gates)).gates)
          ∙ sym (ap (λ (b : Built). grown k b.gates) step)
          ∙ c.loop-term.invariant.grown;
      place =
          place-step c.args.list.now c.loop-term.term-index c.term-item.result c.loop-term.next c.in_ok-placed.placed.next c.loop-term-test.true c.term-item.is c.in_ok-placed.ensures.next
          ∙ c.loop-term.invariant.place;
      behind = omega (arith, c.in_ok-placed.ensures.next);
    }
