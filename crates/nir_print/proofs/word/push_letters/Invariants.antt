-- the letters that are written and those that are left make all
use Rattle.std.proofs.Common.{◌≡◌, ◌++◌, drop}
use Rattle.nir_spelling.specs.Spelling.{swizzle_word}
use Rattle.nir_print.proofs.word.push_letters.Given as goal

abbrev pub invariant-loop-component : goal.invariant-loop-component
invariant-loop-component l = l.out.items ++ swizzle_word (drop l.component-index l.swizzle) ≡ l.fn.out.items ++ swizzle_word l.swizzle
