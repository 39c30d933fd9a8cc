-- A rule that stands at each size of its opcodes, worked out by hand: three opcodes and two numbers for one opcode. One proof over the size says that it holds at all.
use Rattle.std.specs.Prelude.{◌≡◌, refl, ◌<◌, ◌+◌, ◌*◌, ◌%◌, ◌-◌, ◌^◌, ℕ, ℤ, pos, negsuc, neg_ℤ, ◌-ℤ◌, true, false, List, None, [], ◌∷◌, length, nat_lt, replicate}
use Rattle.std.proofs.lemmas.Bool.{and_parts, ltb-true}
use Rattle.std.proofs.lemmas.Nat.{pow_pos}
use Rattle.std.proofs.Common.{ap, arith, lit≤, mod-eq_of_lt, subst, sym, ◌∙◌}
use Rattle.std.proofs.Math.IntN.{+ℤ_idl}
use Rattle.std.specs.List.{list_all, slice_index_or}
use Rattle.nir_ops.specs.declared.op.Op.TheVariants.{Iadd, Imul, Ineg, Isub}
use Rattle.nir_ops.specs.declared.width.Width.{Width}
use Rattle.nir_ops.specs.Width.{width_bits}
use Rattle.nir_ops.specs.Opcodes.{op_allows, op_info, row_of}
use Rattle.op_eval.specs.Calls.{unsized_width}
use Rattle.op_eval.specs.Meaning.{meaning, op_mean}
use Rattle.op_eval.specs.Views.{shape_of}
use Rattle.op_eval.specs.Word.{residue}
use Rattle.rule_term.specs.declared.when.When.TheVariants.{Always}
use Rattle.rule_term.specs.EightBit.{eight_piece, is_unsized}
use Rattle.rule_term.specs.EightBitLaws.{one_size_typing}
use Rattle.rule_term.specs.Formed.{IsFormed, may_stand}
use Rattle.rule_term.specs.Holds.{EqualAt, Holds, are_words, is_word, values_of}
use Rattle.rule_term.specs.Pieces.{pieces}
use Rattle.rule_term.specs.Rule.{Rule}
use Rattle.rule_term.specs.Terms.{Nil, VarThen, LitThen, AppThen}
use Rattle.rule_term.specs.Typings.{first_of, is_typing, search_part}

-- from (ineg a) to (iadd (isub 0 a) (imul a 0))
unfoldable pub spread : Rule
spread = record {
  number = 0;
  search = AppThen Ineg None false (VarThen 0 false None None Nil) Nil;
  replace =
      AppThen Iadd None false
      (AppThen Isub None false (LitThen (pos 0) false (VarThen 0 false None None Nil)) (AppThen Imul None false (VarThen 0 false None None (LitThen (pos 0) false Nil)) Nil))
      Nil;
  when = Always;
  vars = 1;
}

pub spread_formed : IsFormed spread
unfolding spread may_stand shape_of op_info row_of
spread_formed = record {
  application = refl;
  one_search = refl;
  one_replace = refl;
  search = refl;
  replace = refl;
  numbered = refl;
  few_vars = lit≤ tt;
  few_search = lit≤ tt;
  few_replace = lit≤ tt;
}

search_unsized : list_all eight_piece (pieces spread.search) ≡ true
unfolding spread is_unsized op_allows op_info row_of
search_unsized = refl

replace_unsized : list_all eight_piece (pieces spread.replace) ≡ true
unfolding spread is_unsized op_allows op_info row_of
replace_unsized = refl

-- all nodes of a typing have one size
one_size : (widths : List Width) → is_typing spread widths ≡ true → widths ≡ replicate 9 (first_of (search_part spread widths))
unfolding spread
one_size widths typing = one_size_typing spread spread_formed search_unsized replace_unsized widths typing

-- ---- both sides at one size

word_small : (width : ℕ) (z : ℤ) → residue width z < 2 ^ width
unfolding residue
word_small width (pos n) = let some = pow_pos width in omega (arith, some)
word_small width (negsuc n) = let some = pow_pos width in omega (arith, some)

word_same : (width n : ℕ) → n < 2 ^ width → residue width (pos n) ≡ n
unfolding residue
word_same width n small = mod-eq_of_lt small

less_from_zero : (v : ℕ) → (pos 0 -ℤ pos v) ≡ neg_ℤ (pos v)
less_from_zero v = +ℤ_idl (neg_ℤ (pos v))

sides_same : (width v : ℕ) → residue width (neg_ℤ (pos v)) ≡ residue width (pos (residue width (pos (residue width (pos 0)) -ℤ pos v) + residue width (pos (v * residue width (pos 0)))))
sides_same width v =
    let none : residue width (pos 0) ≡ 0 = word_same width 0 (pow_pos width) in
    let product : residue width (pos (v * residue width (pos 0))) ≡ 0 = ap (λ n. residue width (pos (v * n))) none ∙ ap (λ n. residue width (pos n)) (omega arith) ∙ none in
    let difference : residue width (pos (residue width (pos 0)) -ℤ pos v) ≡ residue width (neg_ℤ (pos v)) = ap (λ n. residue width (pos n -ℤ pos v)) none ∙ ap (residue width) (less_from_zero v) in
    let sum : residue width (neg_ℤ (pos v)) + 0 ≡ residue width (neg_ℤ (pos v)) = omega arith in
    sym (ap (λ n. residue width (pos (n + residue width (pos (v * residue width (pos 0)))))) difference
    ∙ ap (λ n. residue width (pos (residue width (neg_ℤ (pos v)) + n))) product
    ∙ ap (λ n. residue width (pos n)) sum
    ∙ word_same width (residue width (neg_ℤ (pos v))) (word_small width (neg_ℤ (pos v))))

equal_at_one : (width : Width) → EqualAt spread (replicate 9 width)
unfolding spread op_mean meaning
equal_at_one width [] count words met = absurd (omega (arith, count))
equal_at_one width (v ∷ []) count words met = ap (λ n. n ∷ []) (sides_same (width_bits width) v)
equal_at_one width (v ∷ w ∷ values) count words met = absurd (omega (arith, count))

-- it holds, at every size
pub spread_holds : Holds spread
spread_holds = record {
  unambiguous = λ widths others typing other same. one_size widths typing ∙ ap (λ l. replicate 9 (first_of l)) same ∙ sym (one_size others other);
  equal = λ widths typing. subst (EqualAt spread) (sym (one_size widths typing)) (equal_at_one (first_of (search_part spread widths)));
}
