-- A rule worked out by hand: three times a number is two sums, so that the product has to weigh more than both together, and not just than each.
use Rattle.std.specs.Prelude.{◌≡◌, refl, ℕ, true, false, pos, Some, None, [], ◌∷◌, replicate, slice_set}
use Rattle.nir_ops.specs.declared.op.Op.TheVariants.{Iadd, Imul, Mov}
use Rattle.nir_ops.specs.declared.width.Width.TheVariants.{W8}
use Rattle.rule_term.specs.declared.when.When.TheVariants.{Always}
use Rattle.rule_term.specs.Descending.{is_descending}
use Rattle.rule_term.specs.Rule.{Rule}
use Rattle.rule_term.specs.Table.{Table}
use Rattle.rule_term.specs.Terms.{Nil, VarThen, LitThen, AppThen}
use Rattle.rule_term.specs.Weights.{place_of}

-- from (imul a@8 3) to (iadd (iadd a a) a)
abbrev tripled : Rule
tripled = record {
  number = 0;
  search = AppThen Imul None false (VarThen 0 false (Some W8) None (LitThen (pos 3) false Nil)) Nil;
  replace = AppThen Iadd None false (AppThen Iadd None false (VarThen 0 false None None (VarThen 0 false None None Nil)) (VarThen 0 false None None Nil)) Nil;
  when = Always;
  vars = 1;
}

-- its table, where a product weighs so much, a move nothing, and each other opcode 1
abbrev where_product_weighs : ℕ → Table
where_product_weighs weight = record { rules = tripled ∷ []; weights = slice_set (slice_set (replicate 88 1) (place_of Mov) 0) (place_of Imul) weight }

pub more_than_each : is_descending (where_product_weighs 2) ≡ false
more_than_each = refl

pub more_than_both : is_descending (where_product_weighs 3) ≡ true
more_than_both = refl
