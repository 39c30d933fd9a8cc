use Rattle.std.proofs.Common.{◌&&◌, ap, sym, ◌∙◌}
use Rattle.std.specs.List.{list_all}
use Rattle.nir_validate.specs.Predecessors.{is_named_once, names_some}
use Rattle.nir_validate.proofs.PhiLemmas.{match_parts}
use Rattle.nir_validate.proofs.phis.sources_match.Goals as goal

pub returns-then-not-is_from_block : goal.returns-then-not-is_from_block
returns-then-not-is_from_block c =
    let ways = c.args.ways.now in
    let phi = c.args.phi.now in
    sym
    (match_parts c.args.scope.now ways phi
    ∙ ap (λ b. b && list_all (is_named_once phi.sources) ways && list_all (names_some ways) phi.sources) (sym c.is_from_block.ensures ∙ c.if-not-is_from_block.true))

pub returns-then-not-are_named_once : goal.returns-then-not-are_named_once
returns-then-not-are_named_once c =
    let ways = c.args.ways.now in
    let phi = c.args.phi.now in
    let named = sym (ap (λ sources. list_all (is_named_once sources) ways) c.as_slice-sources.ensures) ∙ sym c.are_named_once.ensures ∙ c.if-not-are_named_once.true in
    sym
    (match_parts c.args.scope.now ways phi
    ∙ ap (λ b. b && list_all (is_named_once phi.sources) ways && list_all (names_some ways) phi.sources) (sym c.is_from_block.ensures ∙ c.if-not-is_from_block.false)
    ∙ ap (λ b. b && list_all (names_some ways) phi.sources) named)

pub returns : goal.returns
returns c =
    let ways = c.args.ways.now in
    let phi = c.args.phi.now in
    let named = sym (ap (λ sources. list_all (is_named_once sources) ways) c.as_slice-sources.ensures) ∙ sym c.are_named_once.ensures ∙ c.if-not-are_named_once.false in
    let name = sym (ap (λ sources. list_all (names_some ways) sources) c.as_slice-sources.ensures) ∙ sym c.all_name_some.ensures in
    sym
    (match_parts c.args.scope.now ways phi
    ∙ ap (λ b. b && list_all (is_named_once phi.sources) ways && list_all (names_some ways) phi.sources) (sym c.is_from_block.ensures ∙ c.if-not-is_from_block.false)
    ∙ ap (λ b. b && list_all (names_some ways) phi.sources) named
    ∙ name)
