use Rattle.std.proofs.Common.{◌∙◌, sym, ap}
use Rattle.std.specs.List.{list_all}
use Rattle.nir_validate.specs.Predecessors.{is_defined_by}
use Rattle.nir_validate.proofs.PhiLemmas.{all_defined_along}
use Rattle.nir_validate.proofs.phis.are_defined.Goals as goal

pub returns : goal.returns
returns c =
    c.all_defined.ensures
    ∙ ap (λ sources. list_all (λ source. list_all (is_defined_by c.args.scope.now source) c.args.ways.now) sources) c.as_slice.ensures
    ∙ sym (all_defined_along c.args.scope.now c.args.ways.now c.args.phi.now.sources)
