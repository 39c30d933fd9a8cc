use Rattle.std.proofs.Common.{◌∙◌, sym, arith}
use Rattle.nir_print.proofs.OrderedLemmas.{counts-stops, counts-differs, counts-goes_on, counts-ends}
use Rattle.nir_print.proofs.word.is_in_order.Goals as goal

pub returns-then-next-count : goal.returns-then-next-count
returns-then-next-count c =
    sym (counts-stops c.args.swizzle.now c.loop-component.component-index c.loop-component.next c.args.count c.loop-component-test.true (omega arith))
    ∙ c.loop-component.invariant.rest

pub returns-then-component-next : goal.returns-then-component-next
returns-then-component-next c =
    sym (counts-differs c.args.swizzle.now c.loop-component.component-index c.loop-component.next c.args.count c.loop-component-test.true (omega arith) c.if-component-next.true)
    ∙ c.loop-component.invariant.rest

pub loop-component-preserved : goal.loop-component-preserved
loop-component-preserved c = record {
  place = omega arith;
  below = omega arith;
  rest = sym (counts-goes_on c.args.swizzle.now c.loop-component.component-index c.loop-component.next c.args.count c.loop-component-test.true (omega arith) c.if-component-next.false) ∙ c.loop-component.invariant.rest;
}

pub returns : goal.returns
returns c =
    sym (counts-ends c.args.swizzle.now c.loop-component.component-index c.loop-component.next c.args.count c.loop-component-test.false c.loop-component.invariant.below)
    ∙ c.loop-component.invariant.rest
