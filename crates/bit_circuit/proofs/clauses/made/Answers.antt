use Rattle.std.proofs.Common.{◌≡◌, ◌+◌, [], ◌∷◌, List, length, drop, ap, ◌∙◌, arith}
use Rattle.nir_ops.specs.declared.width.Width.{Width}
use Rattle.rule_term.specs.Rule.{Rule}
use Rattle.rule_term.specs.Terms.{Terms, terms_of}
use Rattle.rule_term.specs.Typed.{IsTyped-from_is_typing}
use Rattle.rule_term.specs.Typings.{size_of, occurrences}
use Rattle.circuit_laws.specs.Blocks.{Block, xor_word}
use Rattle.circuit_laws.specs.Literals.{Lit}
use Rattle.circuit_laws.specs.RuleClauses.{Built, parts_of, terms_circuit}
use Rattle.bit_circuit.specs.declared.circuit.Circuit.{Circuit}
use Rattle.bit_circuit.specs.Asking.{with_parts}
use Rattle.bit_circuit.specs.Growth.{grown}
use Rattle.bit_circuit.proofs.ClausesLemmas.{AreMade, made_clauses, started}
use Rattle.bit_circuit.proofs.clauses.made.Goals as goal

pub word_of_term-requires : goal.word_of_term-requires
word_of_term-requires c =
    let typed = IsTyped-from_is_typing c.args.rule.now c.args.typing.now.widths c.requires in
    let search : size_of (terms_of (c.rule.inside.search ∷ [])) ≡ size_of c.args.rule.now.search = ap (λ (r : Rule). size_of r.search) c.rule.view_is in
    let all : length c.as_slice-widths.result.now ≡ length c.args.typing.now.widths = ap (λ (l : List Width). length l) c.as_slice-widths.ensures in
    record { room = omega (arith, typed.count, search, all) }

pub word_of_term-requires-2 : goal.word_of_term-requires-2
word_of_term-requires-2 c =
    let typed = IsTyped-from_is_typing c.args.rule.now c.args.typing.now.widths c.requires in
    let search : size_of (terms_of (c.rule.inside.search ∷ [])) ≡ size_of c.args.rule.now.search = ap (λ (r : Rule). size_of r.search) c.rule.view_is in
    let replace : size_of (terms_of (c.rule.inside.replace ∷ [])) ≡ size_of c.args.rule.now.replace = ap (λ (r : Rule). size_of r.replace) c.rule.view_is in
    let all : length c.as_slice-widths.result.now ≡ length c.args.typing.now.widths = ap (λ (l : List Width). length l) c.as_slice-widths.ensures in
    record { room = omega (arith, typed.count, search, replace, all, c.in_ok-search.ensures.next) }

pub returns : goal.returns
returns c =
    let rule : Rule = c.args.rule.now in
    let widths : List Width = c.args.typing.now.widths in
    let vars : List (List Lit) = c.in_ok-vars.vars in
    let k1 : Circuit = c.ask.new.self in
    let k2 : Circuit = c.inputs.new.circuit in
    let k3 : Circuit = c.meet_in_term.new.circuit in
    let k4 : Circuit = c.word_of_term.new.circuit in
    let k5 : Circuit = c.word_of_term-2.new.circuit in
    let k6 : Circuit = c.each.new.circuit in
    let found : List Lit = c.in_ok-search.search.word in
    let put : List Lit = c.in_ok-replace.replace.word in
    let start = started c.new-circuit.result k1 c.yes.result c.new-circuit.ensures.clauses c.new-circuit.ensures.next c.yes.ensures c.in_ok-ask.ensures in
    let own : Terms = terms_of (c.rule.inside.search ∷ []) in
    let other : Terms = terms_of (c.rule.inside.replace ∷ []) in
    let searched : terms_circuit own (drop 0 c.as_slice-widths.result.now) c.as_slice-3.result.now k3.next ≡ terms_circuit rule.search (drop 0 widths) vars k3.next =
    ap (λ v. terms_circuit own (drop 0 c.as_slice-widths.result.now) v k3.next) c.as_slice-3.ensures
    ∙ ap (λ w. terms_circuit own (drop 0 w) vars k3.next) c.as_slice-widths.ensures
    ∙ ap (λ (r : Rule). terms_circuit r.search (drop 0 widths) vars k3.next) c.rule.view_is in
    let replaced : terms_circuit other (drop c.in_ok-search.search.next c.as_slice-widths.result.now) c.as_slice-4.result.now k4.next ≡ terms_circuit rule.replace (drop (0 + size_of rule.search) widths) vars k4.next =
    ap (λ v. terms_circuit other (drop c.in_ok-search.search.next c.as_slice-widths.result.now) v k4.next) c.as_slice-4.ensures
    ∙ ap (λ w. terms_circuit other (drop c.in_ok-search.search.next w) vars k4.next) c.as_slice-widths.ensures
    ∙ ap (λ m. terms_circuit other (drop m widths) vars k4.next) c.in_ok-search.ensures.next
    ∙ ap (λ (r : Rule). terms_circuit r.replace (drop (0 + size_of r.search) widths) vars k4.next) c.rule.view_is in
    let apart : xor_word c.as_slice-5.result.now c.as_slice-6.result.now k5.next ≡ xor_word found put k5.next =
    ap (λ x. xor_word x c.as_slice-6.result.now k5.next) c.as_slice-5.ensures ∙ ap (λ y. xor_word found y k5.next) c.as_slice-6.ensures in
    let made : AreMade rule widths c.as_slice.result.now vars k1 k2 k3 k4 k5 k6 found put c.as_slice-7.result.now =
    record {
      bits_are = c.as_slice.ensures.value ∙ c.bits_of_vars-bits.ensures;
      first_clauses = start.0;
      first_next = start.1;
      vars_are = c.in_ok-vars.ensures.words;
      with_vars = c.in_ok-vars.ensures.grown;
      with_conds =
          c.in_ok-meet_in_term.ensures
          ∙ ap (λ v. with_parts k2 (parts_of v (occurrences own []) k2.next)) c.as_slice-2.ensures
          ∙ ap (λ (r : Rule). with_parts k2 (parts_of vars (occurrences r.search []) k2.next)) c.rule.view_is;
      found_is = c.in_ok-search.ensures.word ∙ ap (λ (b : Built). b.words) searched;
      with_search = c.in_ok-search.ensures.grown ∙ ap (λ (b : Built). grown k3 b.gates) searched;
      put_is = c.in_ok-replace.ensures.word ∙ ap (λ (b : Built). b.words) replaced;
      with_replace = c.in_ok-replace.ensures.grown ∙ ap (λ (b : Built). grown k4 b.gates) replaced;
      differ_is = c.as_slice-7.ensures ∙ c.in_ok-differ.ensures.word ∙ ap (λ (b : Block). b.word) apart;
      with_differ = c.in_ok-differ.ensures.gates ∙ ap (λ (b : Block). grown k5 b.gates) apart;
    } in
    c.into_clauses.ensures ∙ ap (λ (k : Circuit). k.clauses) c.in_ok-ask-2.ensures
    ∙ made_clauses rule widths c.as_slice.result.now vars k1 k2 k3 k4 k5 k6 found put c.as_slice-7.result.now made
