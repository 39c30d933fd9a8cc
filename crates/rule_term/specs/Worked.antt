-- Two rules worked out by hand: one at 8 bits with two variables and a negative number, and one that has its sides equal.
use Rattle.std.specs.Prelude.{◌≡◌, refl, ◌<◌, ◌^◌, ℕ, pos, negsuc, slice_index_or, true, false, ◌&&◌, Some, None, [], ◌∷◌, nat_lt, replicate}
use Rattle.std.proofs.lemmas.Bool.{and_from, and_parts, lt-ltb, ltb-true}
use Rattle.std.proofs.Common.{ap, arith, lit≤}
use Rattle.nir_ops.specs.declared.op.Op.TheVariants.{Iadd, Isub, Ineg}
use Rattle.nir_ops.specs.declared.width.Width.TheVariants.{W8, W32}
use Rattle.nir_ops.specs.Opcodes.{op_info, op_allows, row_of}
use Rattle.op_eval.specs.Calls.{result_width, sizes_fit, source_widths, unsized_width}
use Rattle.op_eval.specs.Meaning.{op_mean, meaning}
use Rattle.op_eval.specs.Views.{shape_of}
use Rattle.op_eval.specs.Word.{residue}
use Rattle.rule_term.specs.declared.when.When.TheVariants.{Always}
use Rattle.rule_term.specs.Terms.{Nil, VarThen, LitThen, AppThen}
use Rattle.rule_term.specs.Rule.{Rule}
use Rattle.rule_term.specs.Formed.{IsFormed, may_stand}
use Rattle.rule_term.specs.Typings.{is_typing, search_part, replace_part}
use Rattle.rule_term.specs.Holds.{values_of, are_words, Holds}
use Rattle.rule_term.specs.EightBit.{is_eight_bit, is_unsized}
use Rattle.rule_term.specs.EightBitLaws.{eight_holds}

-- from (isub (iadd a -1) b) to (iadd (isub a b) -1)
unfoldable pub lowered : Rule
lowered = record {
  number = 0;
  search = AppThen Isub None false (AppThen Iadd None false (VarThen 0 false None None (LitThen (negsuc 0) false Nil)) (VarThen 1 false None None Nil)) Nil;
  replace = AppThen Iadd None false (AppThen Isub None false (VarThen 0 false None None (VarThen 1 false None None Nil)) (LitThen (negsuc 0) false Nil)) Nil;
  when = Always;
  vars = 2;
}

pub lowered_formed : IsFormed lowered
unfolding lowered may_stand shape_of op_info row_of
lowered_formed = record {
  application = refl;
  one_search = refl;
  one_replace = refl;
  search = refl;
  replace = refl;
  numbered = refl;
  few_vars = lit≤ tt;
  few_search = lit≤ tt;
  few_replace = lit≤ tt;
}

pub lowered_vars : lowered.vars ≡ 2
unfolding lowered
lowered_vars = refl

pub lowered_typing : is_typing lowered (replicate 10 W8) ≡ true
unfolding lowered is_typing sizes_fit op_allows op_info row_of unsized_width source_widths result_width
lowered_typing = refl

-- a number that is negative needs its sign, and numbers that stand for words have one size
pub lowered_mixed : is_typing lowered (W32 ∷ replicate 9 W8) ≡ false
unfolding lowered is_typing sizes_fit op_allows op_info row_of unsized_width source_widths result_width
lowered_mixed = refl

pub lowered_search : values_of lowered.search (search_part lowered (replicate 10 W8)) (3 ∷ 5 ∷ []) ≡ 253 ∷ []
unfolding lowered op_mean meaning residue op_info row_of unsized_width
lowered_search = refl

pub lowered_replace : values_of lowered.replace (replace_part lowered (replicate 10 W8)) (3 ∷ 5 ∷ []) ≡ 253 ∷ []
unfolding lowered op_mean meaning residue op_info row_of unsized_width
lowered_replace = refl

pub lowered_words : (a b : ℕ) → a < 2 ^ 8 → b < 2 ^ 8 → are_words lowered (replicate 10 W8) (a ∷ b ∷ []) ≡ true
unfolding lowered
lowered_words a b small few = and_from (nat_lt a (2 ^ 8)) (nat_lt b (2 ^ 8) && true) (lt-ltb a (2 ^ 8) small) (and_from (nat_lt b (2 ^ 8)) true (lt-ltb b (2 ^ 8) few) refl)

-- from (ineg a@8) to (ineg a), as rule 3
unfoldable pub same : Rule
same = record {
  number = 3;
  search = AppThen Ineg None false (VarThen 0 false (Some W8) None Nil) Nil;
  replace = AppThen Ineg None false (VarThen 0 false None None Nil) Nil;
  when = Always;
  vars = 1;
}

pub same_formed : IsFormed same
unfolding same may_stand shape_of op_info row_of
same_formed = record {
  application = refl;
  one_search = refl;
  one_replace = refl;
  search = refl;
  replace = refl;
  numbered = refl;
  few_vars = lit≤ tt;
  few_search = lit≤ tt;
  few_replace = lit≤ tt;
}

same_eight : is_eight_bit same ≡ true
unfolding same is_eight_bit is_unsized op_allows op_info row_of
same_eight = refl

pub same_holds : Holds same
unfolding same
same_holds = eight_holds same same_formed same_eight (λ values count words met. refl)

-- from (iadd a@8 0) to a, as rule 4
unfoldable pub neutral : Rule
neutral = record {
  number = 4;
  search = AppThen Iadd None false (VarThen 0 false (Some W8) None (LitThen (pos 0) false Nil)) Nil;
  replace = VarThen 0 false None None Nil;
  when = Always;
  vars = 1;
}

pub neutral_formed : IsFormed neutral
unfolding neutral may_stand shape_of op_info row_of
neutral_formed = record {
  application = refl;
  one_search = refl;
  one_replace = refl;
  search = refl;
  replace = refl;
  numbered = refl;
  few_vars = lit≤ tt;
  few_search = lit≤ tt;
  few_replace = lit≤ tt;
}

neutral_eight : is_eight_bit neutral ≡ true
unfolding neutral is_eight_bit is_unsized op_allows op_info row_of
neutral_eight = refl

nothing_more : (a : ℕ) → a < 2 ^ 8 → op_mean Iadd 8 8 (a ∷ 0 ∷ []) ≡ a
unfolding op_mean meaning residue
nothing_more a small = omega (arith, small)

pub neutral_holds : Holds neutral
unfolding neutral op_info row_of unsized_width residue
neutral_holds = eight_holds neutral neutral_formed neutral_eight (λ values count words met.
    ap (λ v. v ∷ []) (nothing_more (slice_index_or values 0 0) (ltb-true (slice_index_or values 0 0) (2 ^ 8) (and_parts (nat_lt (slice_index_or values 0 0) (2 ^ 8)) true words).0)))
