use Rattle.std.proofs.Common.{◌≡◌, drop, length}
use Rattle.nir_text.specs.Instrs.{letters_of}
use Rattle.nir_text.proofs.Letters.{with_letters}
use Rattle.nir_text.proofs.swizzle.letters_of.Given as goal

abbrev pub invariant-loop-byte : goal.invariant-loop-byte
invariant-loop-byte l = record {
  count : length l.swizzle ≡ l.byte-index;
  so_far : with_letters l.swizzle (letters_of (drop l.byte-index l.letters)) ≡ letters_of l.letters;
}
