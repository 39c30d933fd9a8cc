-- so many steps were done, and where there were none nothing is found at a value before the place
use Rattle.std.proofs.Common.{◌≡◌, ◌<◌, ◌≤◌, ℕ, None}
use Rattle.nir_search.specs.First.{first_hit}
use Rattle.rewrite_pass.specs.Rewriting.{Advances}
use Rattle.rewrite_pass.proofs.rounds.one_pass.Given as goal

abbrev pub invariant-loop-number : goal.invariant-loop-number
invariant-loop-number g l = record {
  steps : Advances l.options l.table l.fn.work.shader l.work.shader l.fn.journal l.journal l.count;
  few : l.count ≤ l.limit;
  none : l.count ≡ 0 → 0 < l.limit → (n : ℕ) → n < l.number → first_hit l.options l.table.rules l.fn.work.shader.body (record { 0 = n }) ≡ None;
}
