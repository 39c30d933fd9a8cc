use Rattle.std.proofs.Common.{rules, ℕ, ◌^◌, ◌<◌, length, List, eqb, ap, sym, subst, ◌∙◌}
use Rattle.std.specs.List.{IsDistinct}
use Rattle.nir_print.specs.Naming.{naming_of}
use Rattle.nir_print.specs.RoundTrip.{are_words, addresses}
use Rattle.nir_ir.specs.Nodes.{nodes_of}
use Rattle.nir_print.proofs.NamingLemmas.{found-naming_of}
use Rattle.nir_print.proofs.naming.Naming.new.Goals as goal

pub new-requires : goal.new-requires
new-requires c =
    let all = c.found.view_is ∙ found-naming_of c.collect_list.new.found c.new-found.result c.as_slice.result.now c.shader.inside.body c.in_ok-collect_list.ensures.found c.new-found.ensures c.as_slice.ensures in
    let P : List ℕ → Type 0 = λ numbers. IsDistinct eqb numbers in
    subst P (sym (c.as_slice-2.ensures ∙ ap (λ n. n.values) all)) c.shader.invariant.values

pub new-requires-2 : goal.new-requires-2
new-requires-2 c =
    let all = c.found.view_is ∙ found-naming_of c.collect_list.new.found c.new-found.result c.as_slice.result.now c.shader.inside.body c.in_ok-collect_list.ensures.found c.new-found.ensures c.as_slice.ensures in
    let P : List ℕ → Type 0 = λ numbers. IsDistinct eqb numbers in
    subst P (sym (c.as_slice-3.ensures ∙ ap (λ n. n.blocks) all)) c.shader.invariant.blocks

pub returns : goal.returns
returns c =
    let all = c.found.view_is ∙ found-naming_of c.collect_list.new.found c.new-found.result c.as_slice.result.now c.shader.inside.body c.in_ok-collect_list.ensures.found c.new-found.ensures c.as_slice.ensures in
    let named =
    ap (λ t. record { values = t; kinds = c.found.inside.kinds; blocks = c.in_ok-blocks.blocks }) (c.in_ok-values.ensures.places ∙ c.as_slice-2.ensures)
    ∙ ap (λ t. record { values = c.found.inside.values; kinds = c.found.inside.kinds; blocks = t }) (c.in_ok-blocks.ensures.places ∙ c.as_slice-3.ensures)
    ∙ all
    ∙ ap (λ s. naming_of s.body) c.shader.view_is in
    let few : List ℕ → Type 0 = λ numbers. length numbers < 2 ^ 64 in
    record {
      named = named;
      numbers = record {
        addresses = sym (ap (λ body. are_words (addresses (nodes_of body))) c.as_slice.ensures ∙ ap (λ s. are_words (addresses s.body)) c.shader.view_is) ∙ c.in_ok-collect_list.ensures.words;
        buffers = search rules;
        values = subst few (ap (λ n. n.values) named) c.in_ok-values.ensures.counted;
        blocks = subst few (ap (λ n. n.blocks) named) c.in_ok-blocks.ensures.counted;
      };
    }
