use Rattle.std.proofs.Common.{◌≡◌, ◌+◌, ◌≤◌, ◌^◌, length}
use Rattle.nir_text.specs.Naming.{naming_from, naming_of}
use Rattle.nir_text.specs.Signs.{signs_of}
use Rattle.nir_text.specs.Table.{naming}
use Rattle.nir_text.specs.Within.{AreWithin}
use Rattle.nir_text.proofs.naming.naming_of.Given as goal

-- what is noted, and then the rest, are all names
abbrev pub invariant-loop-rest : goal.invariant-loop-rest
invariant-loop-rest l = record {
  so_far : naming_from (naming l.table) (signs_of l.text l.rest) ≡ naming_of (signs_of l.text l.tokens);
  within : AreWithin (length l.text) l.rest;
  values : length (naming l.table).values + length l.rest ≤ 2 ^ 32;
  blocks : length (naming l.table).blocks + length l.rest ≤ 2 ^ 32;
}

abbrev pub decreases-loop-rest : goal.decreases-loop-rest
decreases-loop-rest l = length l.rest
