use Rattle.std.proofs.Common.{◌∙◌, ap, sym}
use Rattle.std.specs.List.{flat_map}
use Rattle.std.specs.Option.{option_to_list}
use Rattle.nir_ir.specs.declared.instr.Instr.{Instr}
use Rattle.std.specs.Prelude.{Option}
use Rattle.nir_ir.specs.Items.{reads}
use Rattle.nir_index.specs.Index.{uncounted}
use Rattle.nir_index.proofs.TallyLemmas.{uncounted-nil}
use Rattle.nir_index.proofs.exchange.drop_known.Goals as goal

pub returns-in-None : goal.returns-in-None
returns-in-None c =
    sym (ap (λ (known : Option Instr). uncounted (flat_map reads (option_to_list known)) c.args.counts.now) (sym c.in-None.ensures) ∙ uncounted-nil c.args.counts.now)
