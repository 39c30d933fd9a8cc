use Rattle.std.proofs.Common.{◌∙◌, ap, sym}
use Rattle.std.specs.Option.{option_copied}
use Rattle.nir_validate.proofs.TableLemmas.{set_found}
use Rattle.nir_validate.proofs.edge_table.is_defined_in.Goals as goal

pub has-requires : goal.has-requires
has-requires c =
    set_found c.args.scope.now c.args.source.from.0 c.args.table.now.entries c.in-Some.tip.now c.requires (sym c.get.ensures.value ∙ ap option_copied c.in-Some.is)
