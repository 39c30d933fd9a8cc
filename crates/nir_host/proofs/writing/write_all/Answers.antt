use Rattle.std.proofs.Common.{◌+◌, ◌∙◌, arith, rules}
use Rattle.nir_host.proofs.Fronts.{Gains-front, front_taken}
use Rattle.nir_host.proofs.writing.write_all.Goals as goal

pub returns-in-Ok-eq0-clause-prefix : goal.returns-in-Ok-eq0-clause-prefix
returns-in-Ok-eq0-clause-prefix g c = λ before told.
    front_taken before _ c.args.bytes.now (c.pieces.done + c.in-Ok-eq0.field-0) (omega arith)
    (Gains-front _ _ _ c.args.bytes.now c.pieces.done c.in-Ok-eq0.field-0 c.pieces.invariant.told c.in-Ok-eq0.ensures.bytes before told)

pub pieces-preserved : goal.pieces-preserved
pieces-preserved g c =
    record {
      within = search rules;
      told = Gains-front _ _ _ c.args.bytes.now c.pieces.done c.in-Ok.count c.pieces.invariant.told c.in-Ok.ensures.bytes;
      faults = search rules;
    }

pub returns-in-Err-clause-prefix : goal.returns-in-Err-clause-prefix
returns-in-Err-clause-prefix g c = λ before told.
    front_taken before _ c.args.bytes.now c.pieces.done c.pieces-test.true (c.in-Err.ensures.stays ∙ c.pieces.invariant.told before told)
