use Rattle.std.proofs.Common.{◌≡◌, length}
use Rattle.nir_text.specs.Naming.{first_unknown}
use Rattle.nir_text.specs.Signs.{signs_of}
use Rattle.nir_text.specs.Table.{naming}
use Rattle.nir_text.specs.Within.{AreWithin}
use Rattle.nir_text.proofs.naming.first_unknown.Given as goal

-- what the rest answers is the answer
abbrev pub invariant-loop-rest : goal.invariant-loop-rest
invariant-loop-rest l = record {
  so_far : first_unknown (naming l.table) l.counts (signs_of l.text l.rest) ≡ first_unknown (naming l.table) l.counts (signs_of l.text l.tokens);
  within : AreWithin (length l.text) l.rest;
}

abbrev pub decreases-loop-rest : goal.decreases-loop-rest
decreases-loop-rest l = length l.rest
