use Rattle.std.proofs.Common.{◌∙◌, ◌++◌, ℕ, ap, map, nat_eq, sym}
use Rattle.std.specs.Option.{option_to_list}
use Rattle.indexmap.proofs.CallerLemmas.{insert_entry-new}
use Rattle.nir_ir.specs.declared.ids.BlockId.{BlockId}
use Rattle.nir_validate.proofs.edge_table.add_edge.Goals as goal

pub returns-in-Ok-None-clause-added : goal.returns-in-Ok-None-clause-added
returns-in-Ok-None-clause-added c =
    λ _.
    c.in-Ok-None.ensures.entries
    ∙ insert_entry-new nat_eq c.args.table.now c.in-Some.from.0 c.args.way.tip (sym c.in-Ok-None.ensures.old ∙ c.in-Ok-None.field-0-is)
    ∙ ap (λ from. c.args.table.now.entries ++ map (λ (block : ℕ). (block, c.args.way.tip)) (map (λ (id : BlockId). id.0) (option_to_list from))) (sym c.in-Some.is)
