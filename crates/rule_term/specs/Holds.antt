-- When a rule holds: at each typing both sides have one value, for all values of the variables that meet the conditions.
use Rattle.std.specs.Prelude.{◌≡◌, ◌^◌, ℕ, suc, Bool, true, Option, Some, None, List, [], ◌∷◌, length, nat_lt}
use Rattle.std.specs.List.{list_all, slice_index_or}
use Rattle.std.proofs.Common.{drop}
use Rattle.nir_ops.specs.declared.width.Width.{Width}
use Rattle.nir_ops.specs.Width.{width_bits}
use Rattle.op_eval.specs.Calls.{unsized_width}
use Rattle.op_eval.specs.Meaning.{op_mean}
use Rattle.op_eval.specs.Word.{residue}
use Rattle.rule_term.specs.declared.cond.Cond.{Cond}
use Rattle.rule_term.specs.Conditions.{cond_holds}
use Rattle.rule_term.specs.Terms.{Terms, Nil, VarThen, LitThen, AppThen}
use Rattle.rule_term.specs.Rule.{Rule}
use Rattle.rule_term.specs.Typings.{size_of, first_of, roots, is_typing, search_part, replace_part, Occurrence, occurrences}

-- the values of terms that stand one after another, where their nodes have these sizes in preorder and variable k has value k
abbrev pub values_of : Terms → List Width → List ℕ → List ℕ
values_of Nil widths values = []
values_of (VarThen var constant size cond rest) widths values = slice_index_or values var 0 ∷ values_of rest (drop 1 widths) values
values_of (LitThen value boolean rest) widths values = residue (width_bits (first_of widths)) value ∷ values_of rest (drop 1 widths) values
values_of (AppThen op size once args rest) widths values =
    op_mean op (width_bits (unsized_width op (first_of widths) (roots args (drop 1 widths)))) (width_bits (first_of widths)) (values_of args (drop 1 widths) values)
    ∷ values_of rest (drop (suc (size_of args)) widths) values

abbrev pub meets_cond : Option Cond → Width → ℕ → Bool
meets_cond None width value = true
meets_cond (Some cond) width value = cond_holds cond (width_bits width) value

-- the variable has a word of the size at an occurrence
abbrev pub is_word : List ℕ → Occurrence → Bool
is_word values o = nat_lt (slice_index_or values o.var 0) (2 ^ width_bits o.width)

-- the variable meets the condition at an occurrence
abbrev pub is_met : List ℕ → Occurrence → Bool
is_met values o = meets_cond o.cond o.width (slice_index_or values o.var 0)

-- each variable has a word of its size
abbrev pub are_words : Rule → List Width → List ℕ → Bool
are_words rule widths values = list_all (is_word values) (occurrences rule.search (search_part rule widths))

-- the variables meet the conditions on all their occurrences
abbrev pub are_met : Rule → List Width → List ℕ → Bool
are_met rule widths values = list_all (is_met values) (occurrences rule.search (search_part rule widths))

-- both sides have one value at the typing, for all values that meet the conditions
abbrev pub EqualAt : Rule → List Width → Type 0
EqualAt rule widths =
    (values : List ℕ) → length values ≡ rule.vars → are_words rule widths values ≡ true → are_met rule widths values ≡ true
    → values_of rule.search (search_part rule widths) values ≡ values_of rule.replace (replace_part rule widths) values

pub record Holds (rule : Rule) : Type 0 where
  -- the sizes of the search side leave no choice for the replacement
  pub unambiguous : (widths others : List Width) → is_typing rule widths ≡ true → is_typing rule others ≡ true → search_part rule widths ≡ search_part rule others → widths ≡ others
  pub equal : (widths : List Width) → is_typing rule widths ≡ true → EqualAt rule widths
