-- The words of terms that fit: as many as their opcodes ask for, and each in front of those behind its sources.
use Rattle.std.proofs.Common.{◌≡◌, ◌+◌, ◌-◌, ◌<◌, ◌≤◌, ℕ, suc, true, List, [], ◌∷◌, drop, get_or, length, set, take, refl, sym, ap, ◌∙◌, subst, arith}
use Rattle.std.proofs.lemmas.Bool.{and_parts}
use Rattle.std.proofs.Math.Seq.{drop-cons}
use Rattle.std.proofs.lemmas.List.{drop-drop, drop-map, drop-set, length-drop, length-map, length-take, take-map}
use Rattle.nir_ops.specs.declared.op.Op.{Op}
use Rattle.nir_ops.specs.declared.op.Op.TheVariants.{Iadd}
use Rattle.nir_ops.specs.declared.width.Width.{Width}
use Rattle.nir_ops.specs.declared.width.Width.TheVariants.{W1}
use Rattle.nir_ops.specs.Opcodes.{op_info}
use Rattle.op_eval.specs.Calls.{Fits, per_component, sizes_fit, source_widths, unsized_width}
use Rattle.op_eval.specs.Sizes.{Fits-from_sizes_fit}
use Rattle.op_eval.specs.Words.{words_bits, words_widths}
use Rattle.op_eval.specs.declared.word.Word.{Word}
use Rattle.rule_term.specs.Formed.{may_stand}
use Rattle.rule_term.specs.Standing.{per_component-from_may_stand}
use Rattle.law_derive.specs.declared.node.Kind.{Kind}
use Rattle.law_derive.specs.declared.node.Kind.TheVariants.{App, Var, Lit}
use Rattle.law_derive.specs.declared.node.Node.{Node}
use Rattle.law_derive.specs.Calculations.{IsComputable}
use Rattle.law_derive.specs.Fit.{kind_fits, nodes_fit}
use Rattle.law_derive.specs.FitLaws.{fit_drop}
use Rattle.law_derive.specs.Nodes.{arity, roots, sources_of, values, with_root, with_value}
use Rattle.law_derive.specs.NodesLaws.{count_values}

-- what an opcode over other terms has
pub record IsCall (op : Op) (width : Width) (behind : List Word) : Type 0 where
  pub each : per_component op ≡ true
  pub fits : Fits op width (words_widths (take (arity op) behind))
  pub sources : arity op ≤ length behind

source_count : (op : Op) (width : Width) → length (source_widths op width) ≡ arity op
unfolding source_widths
source_count op width = length-map (op_info op).inputs _

pub call_from : (op : Op) (width : Width) (behind : List Word) → kind_fits width (App op) (words_widths behind) ≡ true → IsCall op width behind
call_from op width behind fits =
    let both = and_parts (may_stand op) (sizes_fit op width (take (arity op) (words_widths behind))) fits in
    let sizes : List Width = take (arity op) (words_widths behind) in
    let call = Fits-from_sizes_fit op width sizes both.1 in
    let count : arity op ≡ length sizes = sym (source_count op (unsized_width op width sizes)) ∙ ap length call.sources in
    let few = length-take (arity op) (words_widths behind) in
    let long = length-map behind (λ (word : Word). word.width) in
    record {
      each = per_component-from_may_stand op both.0;
      fits = subst (Fits op width) (take-map (λ (word : Word). word.width) (arity op) behind) call;
      sources = omega (arith, count, few, long);
    }

-- a word in front of those that are left
pub word_put : (words : List Word) (begin count : ℕ) (word : Word) → 0 < begin → begin + count ≤ length words
    → drop (begin + count - 1) (set words (begin + count - 1) word) ≡ word ∷ drop count (drop begin words)
word_put words begin count word some within =
    let e : begin + count - 1 + 1 ≡ begin + count = omega (arith, some) in
    drop-set words (begin + count - 1) word (omega (arith, some, within))
    ∙ ap (λ n. word ∷ drop n words) e ∙ ap (λ list. word ∷ list) (sym (drop-drop count begin words))

-- the node before a place
abbrev pub node_before : List Node → ℕ → Node
node_before nodes at = get_or nodes (at - 1) (record { kind = App Iadd; width = W1 })

pub nodes_from : (nodes : List Node) (at : ℕ) → 0 < at → at ≤ length nodes → drop (at - 1) nodes ≡ node_before nodes at ∷ drop at nodes
nodes_from nodes at some within =
    let e : suc (at - 1) ≡ at = omega (arith, some) in
    drop-cons nodes (at - 1) _ (omega (arith, some, within)) ∙ ap (λ n. node_before nodes at ∷ drop n nodes) e

-- each node of terms that fit does so
pub node_fits : (nodes : List Node) (at : ℕ) → 0 < at → at ≤ length nodes → nodes_fit nodes ≡ true
    → kind_fits (node_before nodes at).width (node_before nodes at).kind (roots (drop at nodes)) ≡ true
node_fits nodes at some within fit =
    let node : Node = node_before nodes at in
    let own : nodes_fit (node ∷ drop at nodes) ≡ true = subst (λ list. nodes_fit list ≡ true) (nodes_from nodes at some within) (fit_drop (at - 1) nodes fit) in
    (and_parts (kind_fits node.width node.kind (roots (drop at nodes))) (nodes_fit (drop at nodes)) own).0

root_is : (width : Width) (kind : Kind) (behind : List Width) → with_root width kind behind ≡ width ∷ drop (sources_of kind) behind
root_is width (App op) behind = refl
root_is width (Var var) behind = refl
root_is width (Lit word) behind = refl

module _ (words : List Word) (begin : ℕ) (word : Word) (node : Node) (rest : List Node) (some : 0 < begin) (within : begin + sources_of node.kind ≤ length words)
    (sizes : words_widths (drop begin words) ≡ roots rest) where
  -- one more value
  pub values_step : words_bits (drop begin words) ≡ values rest []
      → word.bits ∷ drop (sources_of node.kind) (words_bits (drop begin words)) ≡ with_value node.width node.kind (words_widths (drop begin words)) [] (words_bits (drop begin words))
      → words_bits (drop (begin + sources_of node.kind - 1) (set words (begin + sources_of node.kind - 1) word)) ≡ values (node ∷ rest) []
  values_step made value =
      ap words_bits (word_put words begin (sources_of node.kind) word some within)
      ∙ ap (λ list. word.bits ∷ list) (sym (drop-map (λ (w : Word). w.bits) (sources_of node.kind) (drop begin words))) ∙ value
      ∙ (λ i. with_value node.width node.kind (sizes i) [] (made i))

  -- one more size
  pub sizes_step : word.width ≡ node.width
      → words_widths (drop (begin + sources_of node.kind - 1) (set words (begin + sources_of node.kind - 1) word)) ≡ roots (node ∷ rest)
  sizes_step width =
      ap words_widths (word_put words begin (sources_of node.kind) word some within)
      ∙ ap (λ list. word.width ∷ list) (sym (drop-map (λ (w : Word). w.width) (sources_of node.kind) (drop begin words)))
      ∙ (λ i. width i ∷ drop (sources_of node.kind) (sizes i)) ∙ sym (root_is node.width node.kind (roots rest))

-- one term has one value
pub only_value : (nodes : List Node) (words : List Word) (begin : ℕ) → IsComputable nodes → words_bits (drop begin words) ≡ values nodes [] → begin < length words
only_value nodes words begin is made =
    let count : length (words_bits (drop begin words)) ≡ 1 = ap length made ∙ count_values [] 1 nodes is.one in
    let same = length-map (drop begin words) (λ (word : Word). word.bits) in
    let left = length-drop begin words in
    omega (arith, count, same, left)

none_behind : (list : List ℕ) → suc (length list) ≡ 1 → list ≡ []
none_behind [] is = refl
none_behind (word ∷ list) is = absurd (omega (arith, is))

pub value_is : (nodes : List Node) (words : List Word) (begin : ℕ) (d : Word) → IsComputable nodes → words_bits (drop begin words) ≡ values nodes []
    → values nodes [] ≡ (get_or words begin d).bits ∷ []
value_is nodes words begin d is made =
    let word : Word = get_or words begin d in
    let first : words_bits (drop begin words) ≡ word.bits ∷ words_bits (drop (suc begin) words) =
    ap words_bits (drop-cons words begin d (only_value nodes words begin is made)) in
    let count : suc (length (words_bits (drop (suc begin) words))) ≡ 1 = sym (ap length first) ∙ ap length made ∙ count_values [] 1 nodes is.one in
    sym made ∙ first ∙ ap (λ list. word.bits ∷ list) (none_behind (words_bits (drop (suc begin) words)) count)
