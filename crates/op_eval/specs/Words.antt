-- The bits and the bit sizes of a list of words.
use Rattle.std.specs.Prelude.{ℕ, List, map}
use Rattle.nir_ops.specs.declared.width.Width.{Width}
use Rattle.op_eval.specs.declared.word.Word.{Word}

abbrev pub words_bits : List Word → List ℕ
words_bits words = map (λ word. word.bits) words

abbrev pub words_widths : List Word → List Width
words_widths words = map (λ word. word.width) words
