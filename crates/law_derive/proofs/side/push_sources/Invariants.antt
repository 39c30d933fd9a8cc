use Rattle.std.proofs.Common.{◌≡◌, ◌++◌, drop, map}
use Rattle.op_eval.specs.Calls.{size_at}
use Rattle.law_derive.proofs.side.push_sources.Given as goal

-- the sizes so far, and those of the sources that are left
abbrev pub invariant-loop-input : goal.invariant-loop-input
invariant-loop-input l = record {
  so_far : l.sizes ++ map (λ input. size_at input.kind.size l.free) (drop l.input-index l.inputs)
      ≡ l.fn.sizes ++ map (λ input. size_at input.kind.size l.free) l.inputs;
}
