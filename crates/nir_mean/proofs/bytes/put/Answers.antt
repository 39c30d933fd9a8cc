use Rattle.std.proofs.Common.{◌+◌, ◌%◌, ◌∙◌, arith, refl}
use Rattle.std.proofs.lemmas.List.{length-set}
use Rattle.nir_mean.proofs.ByteLemmas.{put_done, put_more}
use Rattle.nir_mean.proofs.bytes.put.Goals as goal

pub loop-at-preserved : goal.loop-at-preserved
loop-at-preserved c = record {
  same = length-set c.loop-at.bytes (c.args.place + c.loop-at.at) (c.loop-at.left % 256) ∙ c.loop-at.invariant.same;
  rest = put_more c.args.bytes.now c.loop-at.bytes _ c.args.place c.loop-at.at c.args.size c.loop-at.left c.args.comp c.loop-at-test.true refl c.loop-at.invariant.rest;
}

pub returns : goal.returns
returns c = put_done c.args.bytes.now c.loop-at.bytes c.args.place c.loop-at.at c.args.size c.loop-at.left c.args.comp c.loop-at-test.false (omega arith) c.loop-at.invariant.rest
