-- A number modulo 2 to a bit size is what is left of it by that power, counted up from 0.
use Rattle.std.proofs.Common.{◌≡◌, refl, ℕ, ◌^◌, ℤ, pos, negsuc}
use Rattle.std.specs.Int.{int_rem_euclid}
use Rattle.op_eval.specs.Word.{residue}

pub euclid_residue : (width : ℕ) (z : ℤ) → int_rem_euclid z (pos (2 ^ width)) ≡ pos (residue width z)
unfolding residue
euclid_residue width (pos n) = refl
euclid_residue width (negsuc n) = refl
