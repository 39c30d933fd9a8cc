-- The value of a term is a word of its size, where its variables and numbers are words of theirs.
use Rattle.std.proofs.Common.{◌<◌, ◌^◌, ℕ, suc, zero, List, [], ◌∷◌, drop}
use Rattle.std.specs.List.{AllByRecursion, slice_index_or}
use Rattle.nir_ops.specs.declared.width.Width.{Width}
use Rattle.nir_ops.specs.Width.{width_bits}
use Rattle.op_eval.specs.Meaning.{op_mean}
use Rattle.op_eval.proofs.WordLemmas.{residue_lt}
use Rattle.law_derive.specs.declared.node.Kind.{Kind}
use Rattle.law_derive.specs.declared.node.Kind.TheVariants.{App, Var, Lit}
use Rattle.law_derive.specs.declared.node.Node.{Node}
use Rattle.law_derive.specs.Nodes.{arity, roots, values, with_root, with_value}

-- a variable or a number is a word of the size
abbrev pub KindIsWord : List ℕ → Width → Kind → Type 0
KindIsWord words width (App op) = Unit {0}
KindIsWord words width (Var var) = slice_index_or words var 0 < 2 ^ width_bits width
KindIsWord words width (Lit word) = word < 2 ^ width_bits width

abbrev pub NodeIsWord : List ℕ → Node → Type 0
NodeIsWord words node = KindIsWord words node.width node.kind

abbrev pub AreWordNodes : List ℕ → List Node → Type 0
AreWordNodes words nodes = AllByRecursion (NodeIsWord words) nodes

-- each value is a word of its size
abbrev pub AreWordsOf : List Width → List ℕ → Type 0
AreWordsOf [] values = Unit {0}
AreWordsOf (width ∷ widths) [] = Unit {0}
AreWordsOf (width ∷ widths) (value ∷ values) = (value < 2 ^ width_bits width) × AreWordsOf widths values

drop_words : (n : ℕ) (widths : List Width) (values : List ℕ) → AreWordsOf widths values → AreWordsOf (drop n widths) (drop n values)
drop_words zero widths values are = are
drop_words (suc n) [] [] are = tt
drop_words (suc n) [] (value ∷ values) are = tt
drop_words (suc n) (width ∷ widths) [] are = none (drop n widths)
  where
    none : (list : List Width) → AreWordsOf list []
    none [] = tt
    none (width ∷ list) = tt
drop_words (suc n) (width ∷ widths) (value ∷ values) are = drop_words n widths values are.1

node_word : (words : List ℕ) (width : Width) (kind : Kind) (sizes : List Width) (behind : List ℕ) → KindIsWord words width kind → AreWordsOf sizes behind
    → AreWordsOf (with_root width kind sizes) (with_value width kind sizes words behind)
unfolding op_mean
node_word words width (App op) sizes behind is are = (residue_lt (width_bits width) _, drop_words (arity op) sizes behind are)
node_word words width (Var var) sizes behind is are = (is, are)
node_word words width (Lit word) sizes behind is are = (is, are)

pub values_are_words : (words : List ℕ) (nodes : List Node) → AreWordNodes words nodes → AreWordsOf (roots nodes) (values nodes words)
values_are_words words [] are = tt
values_are_words words (node ∷ nodes) are = node_word words node.width node.kind (roots nodes) (values nodes words) are.0 (values_are_words words nodes are.1)
