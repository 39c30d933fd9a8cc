-- so many numbers, each without a value
use Rattle.std.proofs.Common.{◌≡◌, ℕ, length}
use Rattle.nir_mean.specs.Declares.{nothing_shown, shown_of}
use Rattle.nir_mean.proofs.start.blank.Given as goal

abbrev pub invariant-loop : goal.invariant-loop
invariant-loop l = record {
  len : length l.views ≡ l.counter;
  shown : (n : ℕ) → shown_of l.views n ≡ nothing_shown n;
}
