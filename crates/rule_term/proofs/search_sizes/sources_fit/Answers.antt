use Rattle.std.proofs.Common.{◌≡◌, refl, ◌∙◌, ◌+◌, ◌&&◌, sym, ap, true, false, [], ◌∷◌, drop, length, map, arith, rules}
use Rattle.std.proofs.lemmas.List.{length-map}
use Rattle.std.specs.Cmp.Lexicographic.{pointwise}
use Rattle.op_eval.specs.Calls.{same_width, size_at}
use Rattle.rule_term.specs.Terms.{Nil, terms_of}
use Rattle.rule_term.specs.Typings.{first_of, roots, size_of}
use Rattle.rule_term.proofs.NodesLemmas.{size_of-drop}
use Rattle.rule_term.proofs.ReadyLemmas.{some_node}
use Rattle.rule_term.proofs.ReplaceSteps.{first_of-drop, other_count, source_step}
use Rattle.rule_term.proofs.search_sizes.sources_fit.Goals as goal

pub returns-then-inputs-args : goal.returns-then-inputs-args
returns-then-inputs-args c =
    let sizes = map (λ input. size_at input.kind.size c.args.free) c.args.inputs.now in
    let long = length-map c.args.inputs.now (λ input. size_at input.kind.size c.args.free) in
    other_count sizes c.args.args.now c.args.widths.now (λ same. let e : length c.args.inputs.now ≡ length c.args.args.now = sym long ∙ same in grind arith)

pub bounds-widths-nodes : goal.bounds-widths-nodes
bounds-widths-nodes c =
    let split = size_of-drop c.args.args.now c.loop-at.at c.index-args-at.result c.loop-at-test.true c.index-args-at.is in
    let some = some_node c.index-args-at.result Nil in
    let made = c.loop-at.invariant.nodes_made in
    let enough = c.requires.enough in
    omega arith

pub returns-then-not-same_width : goal.returns-then-not-same_width
returns-then-not-same_width c =
    let sizes = map (λ input. size_at input.kind.size c.args.free) c.args.inputs.now in
    let l = c.loop-at in
    let long = length-map c.args.inputs.now (λ input. size_at input.kind.size c.args.free) in
    let same = l.invariant.same_length in
    let within = c.loop-at-test.true in
    let own = size_of (terms_of (c.index-args-at.result ∷ [])) in
    let demanded : size_at c.demanded.result c.args.free ≡ first_of (drop l.at sizes) = c.demanded.ensures c.args.free in
    let first = first_of-drop l.nodes c.args.widths.now in
    let apart : c.same_width.result ≡ false = search rules in
    let fact : same_width (first_of (drop l.at sizes)) (first_of (drop l.nodes c.args.widths.now)) ≡ false = cc in
    sym (ap (λ b. b && pointwise same_width (drop (l.at + 1) sizes) (roots (terms_of (drop (l.at + 1) c.args.args.now)) (drop (l.nodes + own) c.args.widths.now))) fact)
    ∙ source_step sizes c.args.args.now l.at l.nodes (size_of (terms_of (c.index-args-at.result ∷ []))) c.index-args-at.result c.args.widths.now _ (omega arith) within c.index-args-at.is refl l.invariant.fit

pub loop-at-preserved : goal.loop-at-preserved
loop-at-preserved c =
    let sizes = map (λ input. size_at input.kind.size c.args.free) c.args.inputs.now in
    let l = c.loop-at in
    let long = length-map c.args.inputs.now (λ input. size_at input.kind.size c.args.free) in
    let same = l.invariant.same_length in
    let within = c.loop-at-test.true in
    let split = size_of-drop c.args.args.now l.at c.index-args-at.result within c.index-args-at.is in
    let made = l.invariant.nodes_made in
    let count = c.nodes_in-nodes.ensures.count in
    let demanded : size_at c.demanded.result c.args.free ≡ first_of (drop l.at sizes) = c.demanded.ensures c.args.free in
    let first = first_of-drop l.nodes c.args.widths.now in
    let both : c.same_width.result ≡ true = search rules in
    let fact : same_width (first_of (drop l.at sizes)) (first_of (drop l.nodes c.args.widths.now)) ≡ true = cc in
    record {
      fit = sym (ap (λ b. b && pointwise same_width (drop (l.at + 1) sizes) (roots (terms_of (drop (l.at + 1) c.args.args.now)) (drop (l.nodes + c.nodes_in-nodes.result) c.args.widths.now))) fact) ∙ source_step sizes c.args.args.now l.at l.nodes c.nodes_in-nodes.result c.index-args-at.result c.args.widths.now _ (omega arith) within c.index-args-at.is count l.invariant.fit;
      nodes_made = omega arith;
      same_length = same;
    }
