use Rattle.std.proofs.Common.{◌∙◌, ap, ap₂, map, sym}
use Rattle.std.specs.List.{list_all}
use Rattle.std.specs.Map.{keys_of}
use Rattle.nir_ir.specs.declared.node.PhiSource.{PhiSource}
use Rattle.nir_validate.specs.declared.round.Round.{Round}
use Rattle.nir_validate.specs.Least.{sooner, sooner-assoc}
use Rattle.nir_validate.specs.Predecessors.{is_defined_in}
use Rattle.nir_validate.specs.Rules.{names_each_once}
use Rattle.nir_validate.specs.Steps.{broken}
use Rattle.nir_validate.proofs.TableLemmas.{table-defined, table-match, table-sets}
use Rattle.nir_validate.proofs.round.Round.phi_in.Goals as goal

pub are_defined_in-defined-requires : goal.are_defined_in-defined-requires
are_defined_in-defined-requires c = table-sets c.args.self.now.scope c.args.table.now.entries c.args.ways.now c.requires.tells c.requires.within

pub returns-in-Ok : goal.returns-in-Ok
returns-in-Ok c =
    let before = c.args.self.now in
    let table = c.args.table.now.entries in
    let item = c.args.item in
    let matched =
    c.in-Ok.ensures
    ∙ ap (λ sources. names_each_once (keys_of table) (map (λ (source : PhiSource). source.from.0) sources)) c.as_slice-sources.ensures
    ∙ table-match before.scope table c.args.ways.now c.args.phi.now c.requires.tells in
    let defined =
    c.are_defined_in-defined.ensures
    ∙ ap (list_all (is_defined_in before.scope table)) c.as_slice-sources.ensures
    ∙ table-defined before.scope table c.args.ways.now c.args.phi.now.sources c.requires.tells in
    c.report-in-Ok.ensures
    ∙ ap (λ (round : Round). record round { found = sooner round.found (broken c.are_defined_in-defined.result 7 item) }) c.report.ensures
    ∙ ap₂ (λ m d. record before { found = sooner (sooner before.found (broken m 6 item)) (broken d 7 item) }) matched defined
    ∙ ap (λ found. record before { found = found }) (sym (sooner-assoc before.found _ _))
