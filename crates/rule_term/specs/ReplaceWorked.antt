-- The sizes of two replacements worked out by hand: a variable has the size of the search side, and a free size is the least.
use Rattle.std.specs.Prelude.{◌≡◌, refl, pos, false, Some, None, [], ◌∷◌}
use Rattle.nir_ops.specs.declared.op.Op.TheVariants.{U2u8, Inot, Ieq}
use Rattle.nir_ops.specs.declared.width.Width.TheVariants.{W1, W8, W16}
use Rattle.nir_ops.specs.Opcodes.{op_info, op_allows, row_of}
use Rattle.op_eval.specs.Calls.{result_width, sizes_fit, source_widths, unsized_width}
use Rattle.rule_term.specs.declared.when.When.TheVariants.{Always}
use Rattle.rule_term.specs.Terms.{Nil, VarThen, LitThen, AppThen}
use Rattle.rule_term.specs.Rule.{Rule}
use Rattle.rule_term.specs.Typings.{is_typing, typings, width_lists}
use Rattle.rule_term.specs.Replaced.{replace_for}

-- from (u2u8 a) to a
unfoldable pub narrowed : Rule
narrowed = record {
  number = 0;
  search = AppThen U2u8 None false (VarThen 0 false None None Nil) Nil;
  replace = VarThen 0 false None None Nil;
  when = Always;
  vars = 1;
}

-- the replacement has the size of the search side, and so its variable
pub narrowed_bytes : replace_for narrowed (W8 ∷ W8 ∷ []) ≡ Some (W8 ∷ [])
unfolding narrowed replace_for typings width_lists is_typing sizes_fit op_allows op_info row_of unsized_width source_widths result_width
narrowed_bytes = refl

pub narrowed_halves : replace_for narrowed (W8 ∷ W16 ∷ []) ≡ None
unfolding narrowed replace_for typings width_lists is_typing sizes_fit op_allows op_info row_of unsized_width source_widths result_width
narrowed_halves = refl

-- from (inot a) to (ieq 2 0), which can be of 8 bits and more
unfoldable pub compared : Rule
compared = record {
  number = 0;
  search = AppThen Inot None false (VarThen 0 false None None Nil) Nil;
  replace = AppThen Ieq None false (LitThen (pos 2) false (LitThen (pos 0) false Nil)) Nil;
  when = Always;
  vars = 1;
}

pub compared_bits : replace_for compared (W1 ∷ W1 ∷ []) ≡ Some (W1 ∷ W8 ∷ W8 ∷ [])
unfolding compared replace_for typings width_lists is_typing sizes_fit op_allows op_info row_of unsized_width source_widths result_width
compared_bits = refl
