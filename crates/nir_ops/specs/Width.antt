-- The number of bits of each bit size, after the bit sizes of Mesa's NIR.
use Rattle.std.specs.Prelude.{ℕ}
use Rattle.nir_ops.specs.declared.width.Width.{Width}
use Rattle.nir_ops.specs.declared.width.Width.TheVariants.{W1, W8, W16, W32, W64}

-- how many bits a component of this size has
abbrev pub width_bits : Width → ℕ
width_bits W1 = 1
width_bits W8 = 8
width_bits W16 = 16
width_bits W32 = 32
width_bits W64 = 64
