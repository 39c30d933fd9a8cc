-- nothing is found at a value before the place
use Rattle.std.proofs.Common.{◌≡◌, ◌<◌, ℕ, None}
use Rattle.nir_search.specs.First.{first_hit}
use Rattle.rewrite_pass.proofs.rounds.is_settled.Given as goal

abbrev pub invariant-loop-number : goal.invariant-loop-number
invariant-loop-number g l = (n : ℕ) → n < l.number → first_hit l.options l.table.rules l.work.shader.body (record { 0 = n }) ≡ None
