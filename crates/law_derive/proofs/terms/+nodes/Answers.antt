use Rattle.std.proofs.Common.{rules, ◌≡◌, ◌∙◌, ◌+◌, ◌++◌, ◌∷◌, [], sym, ap, drop, append_assoc}
use Rattle.rule_term.specs.Terms.{terms_of}
use Rattle.rule_term.specs.Typings.{first_of, size_of}
use Rattle.law_derive.specs.declared.node.Kind.TheVariants.{App}
use Rattle.law_derive.specs.declared.node.Node.{Node}
use Rattle.law_derive.specs.Nodes.{nodes_of}
use Rattle.law_derive.proofs.TermLemmas.{behind-drop, nodes-app, nodes-drop}
use Rattle.law_derive.proofs.terms.+nodes.Goals as goal

pub push_term-returns-in_ok-behind-in-App-clause-nodes : goal.push_term-returns-in_ok-behind-in-App-clause-nodes
push_term-returns-in_ok-behind-in-App-clause-nodes t c =
    let a = c.in-App in
    let widths = c.args.widths.now in
    let node : Node = record { kind = App a.op; width = first_of widths } in
    let args = nodes_of (terms_of a.args) (drop 1 widths) in
    let front = c.args.nodes.now in
    let made : c.push_terms.new.nodes ≡ (front ++ node ∷ []) ++ args = search rules in
    made ∙ append_assoc front (node ∷ []) args
    ∙ ap (λ l. front ++ l) (sym (ap (λ x. nodes_of (terms_of (x ∷ [])) widths) a.is ∙ nodes-app a.op a.size a.once a.args widths))

pub push_terms-loop-term-preserved : goal.push_terms-loop-term-preserved
push_terms-loop-term-preserved t c =
    let l = c.loop-term in
    let item = c.term-item.result in
    let rest = terms_of (drop (l.term-index + 1) c.args.terms.now) in
    let pushed : c.push_term.new.nodes ≡ l.nodes ++ nodes_of (terms_of (item ∷ [])) l.behind.now = search rules in
    let behind : c.in_ok-behind.behind.now ≡ drop (size_of (terms_of (item ∷ []))) l.behind.now = search rules in
    record {
      so_far = ap (λ x. c.push_term.new.nodes ++ nodes_of rest x) behind
          ∙ ap (λ x. x ++ nodes_of rest (drop (size_of (terms_of (item ∷ []))) l.behind.now)) pushed
          ∙ append_assoc l.nodes (nodes_of (terms_of (item ∷ [])) l.behind.now) (nodes_of rest (drop (size_of (terms_of (item ∷ []))) l.behind.now))
          ∙ ap (λ x. l.nodes ++ x) (sym (nodes-drop c.args.terms.now l.term-index item l.behind.now c.loop-term-test.true c.term-item.is))
          ∙ l.invariant.so_far;
      left = ap (λ x. drop (size_of rest) x) behind
          ∙ sym (behind-drop c.args.terms.now l.term-index item l.behind.now c.loop-term-test.true c.term-item.is)
          ∙ l.invariant.left;
    }
