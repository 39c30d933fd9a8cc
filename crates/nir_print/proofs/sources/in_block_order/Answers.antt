use Rattle.std.proofs.Common.{ℕ, ◌+◌, ◌<◌, length, ap, ◌∙◌, rules}
use Rattle.std.proofs.lemmas.List.Sorted.{IsNonDecreasingBy-from_sort_by_key}
use Rattle.std.proofs.lemmas.Fn.{always_returns_same}
use Rattle.nir_ir.specs.declared.node.PhiSource.{PhiSource}
use Rattle.nir_print.specs.Naming.{block_place, in_block_order}
use Rattle.nir_print.proofs.BlockOrder.{groups-stable_sort}
use Rattle.nir_print.proofs.PlaceLemmas.{place_below}
use Rattle.nir_print.proofs.sources.in_block_order.Goals as goal

pub returns : goal.returns
returns c =
    let naming = c.args.naming.now in
    let key : PhiSource → ℕ = λ source. block_place naming source.from in
    let below : (source : PhiSource) → key source < length naming.blocks + 1 = λ source. place_below naming.blocks source.from.0 in
    groups-stable_sort key (length naming.blocks + 1) below c.in_ok-ordered.ordered.items c.sort_by_key.new.self.items
    (IsNonDecreasingBy-from_sort_by_key key c.sort_by_key.new.self.items c.in_ok-sort_by_key.ensures.sorted (λ a r q k. search rules))
    (c.sort_by_key.ensures.stable key (always_returns_same _ _ _ (λ a r q k. search rules)))
    ∙ ap (in_block_order naming) c.in_ok-ordered.ensures.items
