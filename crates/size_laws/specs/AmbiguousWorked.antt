-- An ambiguous rule, worked out: a comparison of two numbers can have sources of any size, whatever the search side has.
use Rattle.std.specs.Prelude.{◌≡◌, refl, true, false, None, List, [], ◌∷◌, pos}
use Rattle.nir_ops.specs.declared.op.Op.TheVariants.{Ieq}
use Rattle.nir_ops.specs.declared.width.Width.{Width}
use Rattle.nir_ops.specs.declared.width.Width.TheVariants.{W1, W8, W16}
use Rattle.nir_ops.specs.Opcodes.{op_allows, op_info, row_of}
use Rattle.nir_ops.specs.Width.{width_bits}
use Rattle.op_eval.specs.Calls.{result_width, sizes_fit, source_widths, unsized_width}
use Rattle.rule_term.specs.declared.when.When.TheVariants.{Always}
use Rattle.rule_term.specs.Terms.{Nil, VarThen, LitThen, AppThen}
use Rattle.rule_term.specs.Rule.{Rule}
use Rattle.rule_term.specs.Typings.{is_typing}
use Rattle.std.proofs.Common.{ap, arith}
use Rattle.size_laws.specs.Ambiguous.{IsAmbiguousAt}

-- from (ieq a a) to (ieq 1 1)
unfoldable pub compared : Rule
compared = record {
  number = 0;
  search = AppThen Ieq None false (VarThen 0 false None None (VarThen 0 false None None Nil)) Nil;
  replace = AppThen Ieq None false (LitThen (pos 1) false (LitThen (pos 1) false Nil)) Nil;
  when = Always;
  vars = 1;
}

abbrev narrow : List Width
narrow = W1 ∷ W8 ∷ W8 ∷ W1 ∷ W8 ∷ W8 ∷ []

abbrev wide : List Width
wide = W1 ∷ W8 ∷ W8 ∷ W1 ∷ W16 ∷ W16 ∷ []

narrow_typing : is_typing compared narrow ≡ true
unfolding compared is_typing sizes_fit op_allows op_info row_of unsized_width source_widths result_width
narrow_typing = refl

wide_typing : is_typing compared wide ≡ true
unfolding compared is_typing sizes_fit op_allows op_info row_of unsized_width source_widths result_width
wide_typing = refl

-- the first source of the replacement
pub compared_ambiguous : IsAmbiguousAt compared 1
unfolding compared
compared_ambiguous = record {
  one = narrow;
  two = wide;
  one_typing = narrow_typing;
  two_typing = wide_typing;
  agree = refl;
  differ = λ same. absurd (omega (arith, ap width_bits same));
}
