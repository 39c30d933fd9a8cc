use Rattle.std.proofs.Common.{true, ◌≡◌, ◌+◌, ◌<◌, ◌≤◌, ◌-◌, ◌∙◌, ◌∷◌, List, [], ap, arith, drop, length, set, sym, subst, take}
use Rattle.std.proofs.lemmas.List.{length-drop, length-set, take_rest}
use Rattle.nir_ops.specs.declared.width.Width.{Width}
use Rattle.op_eval.specs.Words.{words_bits, words_widths}
use Rattle.op_eval.specs.declared.word.Word.{Word}
use Rattle.law_derive.specs.declared.node.Node.{Node}
use Rattle.law_derive.specs.Fit.{kind_fits}
use Rattle.law_derive.specs.Nodes.{roots, sources_of, values, with_value}
use Rattle.law_derive.proofs.CalcLemmas.{node_before, node_fits, nodes_from, sizes_step, values_step}
use Rattle.law_derive.proofs.calc.put_values.Goals as goal

pub word_at-word-requires-clause-fits : goal.word_at-word-requires-clause-fits
word_at-word-requires-clause-fits c =
    let left = c.nodes.invariant.left in
    let within = c.nodes.invariant.within in
    let room = c.nodes.invariant.room in
    let node : Node = node_before c.args.nodes.now c.nodes.at in
    let sizes : roots (drop c.nodes.at c.args.nodes.now) ≡ words_widths (take (length c.nodes.words - c.nodes.begin) (drop c.nodes.begin c.nodes.words)) =
    sym c.nodes.invariant.sizes_made ∙ sym (ap words_widths (take_rest c.nodes.words c.nodes.begin)) in
    subst (λ (list : List Width). kind_fits node.width node.kind list ≡ true) sizes
    (node_fits c.args.nodes.now c.nodes.at c.nodes-test.true (omega (arith, left, within, room)) c.requires.fit)

pub nodes-preserved : goal.nodes-preserved
nodes-preserved c =
    let left = c.nodes.invariant.left in
    let within = c.nodes.invariant.within in
    let room = c.nodes.invariant.room in
    let some = c.nodes-test.true in
    let nodes : List Node = c.args.nodes.now in
    let node : Node = node_before nodes c.nodes.at in
    let rest : List Node = drop c.nodes.at nodes in
    let words : List Word = c.nodes.words in
    let begin = c.nodes.begin in
    let word : Word = c.word_at-word.result in
    let from = nodes_from nodes c.nodes.at some (omega (arith, left, within, room)) in
    let slice = take_rest words begin in
    let count = c.sources_of.ensures.value in
    let sources = c.word_at-word.ensures.sources in
    let long = ap length slice ∙ length-drop begin words in
    let put = length-set words (begin + c.sources_of.result - 1) word in
    let enough : begin + sources_of node.kind ≤ length words = omega (arith, sources, long, within) in
    let first : 0 < begin = omega (arith, left, some) in
    let value : word.bits ∷ drop (sources_of node.kind) (words_bits (drop begin words)) ≡ with_value node.width node.kind (words_widths (drop begin words)) [] (words_bits (drop begin words)) =
    subst (λ (list : List Word). word.bits ∷ drop (sources_of node.kind) (words_bits list) ≡ with_value node.width node.kind (words_widths list) [] (words_bits list)) slice
    c.word_at-word.ensures.value in
    record {
      left = omega (arith, left, some);
      within = omega (arith, put, enough, count);
      room = put ∙ room;
      values_made =
          ap (λ n. words_bits (drop (begin + n - 1) (set words (begin + n - 1) word))) count
          ∙ values_step words begin word node rest first enough c.nodes.invariant.sizes_made c.nodes.invariant.values_made value ∙ sym (ap (λ list. values list []) from);
      sizes_made =
          ap (λ n. words_widths (drop (begin + n - 1) (set words (begin + n - 1) word))) count
          ∙ sizes_step words begin word node rest first enough c.nodes.invariant.sizes_made c.word_at-word.ensures.width ∙ sym (ap roots from);
    }
