-- no rule before the place matches, and each of their variants counted at most a step
use Rattle.std.proofs.Common.{◌≡◌, ◌≤◌, ◌+◌, drop, take}
use Rattle.nir_search.specs.First.{first_from, table_variants}
use Rattle.nir_search.proofs.first.first_match.Given as goal

abbrev pub invariant-loop-place : goal.invariant-loop-place
invariant-loop-place g l = record {
  found :
      first_from l.options l.place (drop l.place l.table.rules) l.work.shader.body l.value
      ≡ first_from l.options 0 l.table.rules l.work.shader.body l.value;
  counted : l.steps ≤ l.fn.steps + table_variants (take l.place l.table.rules);
}
