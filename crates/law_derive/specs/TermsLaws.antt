-- The nodes of terms at their sizes: as many terms, and the same sizes and values.
use Rattle.std.proofs.Common.{◌≡◌, ◌+◌, ℕ, suc, Bool, true, List, ◌∷◌, ◌++◌, drop, take, length, refl, sym, ap, ◌∙◌, subst, arith}
use Rattle.std.specs.Prelude.{nat_eq}
use Rattle.std.specs.List.{list_all, slice_index_or}
use Rattle.std.proofs.lemmas.Bool.{and_parts, eqb-true}
use Rattle.std.proofs.lemmas.List.Folds.{list_all-append}
use Rattle.std.proofs.Math.Seq.{drop-append_seam, take-append_seam}
use Rattle.nir_ops.specs.declared.op.Op.{Op}
use Rattle.nir_ops.specs.declared.width.Width.{Width}
use Rattle.nir_ops.specs.Width.{width_bits}
use Rattle.op_eval.specs.Calls.{unsized_width}
use Rattle.op_eval.specs.Meaning.{op_mean}
use Rattle.op_eval.specs.Word.{residue}
use Rattle.rule_term.specs.Holds.{values_of}
use Rattle.rule_term.specs.Pieces.{Piece, VarPiece, LitPiece, AppPiece, pieces, terms_count}
use Rattle.rule_term.specs.Terms.{Terms, Nil, VarThen, LitThen, AppThen}
use Rattle.rule_term.specs.Typings.{first_of, size_of}
use Rattle.rule_term.specs.Typings as typing
use Rattle.law_derive.specs.declared.node.Node.{Node}
use Rattle.law_derive.specs.declared.node.Kind.TheVariants.{App}
use Rattle.law_derive.specs.Nodes.{arity, nodes_of, roots, values, with_value, AreTerms}
use Rattle.law_derive.specs.NodesLaws.{count_roots, count_values, roots_append, terms_append, values_append}

-- each opcode has its sources
abbrev pub has_sources : Piece → Bool
has_sources (VarPiece var constant size cond) = true
has_sources (LitPiece value boolean) = true
has_sources (AppPiece op size once sources) = nat_eq sources (arity op)

pub have_terms : (t : Terms) (widths : List Width) → list_all has_sources (pieces t) ≡ true → AreTerms (terms_count t) (nodes_of t widths)
have_terms Nil widths have = tt
have_terms (VarThen var constant size cond rest) widths have =
    let e : terms_count rest ≡ 0 + terms_count rest = omega arith in
    subst (λ n. AreTerms n (nodes_of rest (drop 1 widths))) e (have_terms rest (drop 1 widths) have)
have_terms (LitThen value boolean rest) widths have =
    let e : terms_count rest ≡ 0 + terms_count rest = omega arith in
    subst (λ n. AreTerms n (nodes_of rest (drop 1 widths))) e (have_terms rest (drop 1 widths) have)
have_terms (AppThen op size once args rest) widths have =
    let parts = and_parts (nat_eq (terms_count args) (arity op)) (list_all has_sources (pieces args ++ pieces rest)) have in
    let both = and_parts (list_all has_sources (pieces args)) (list_all has_sources (pieces rest)) (sym (list_all-append has_sources (pieces args) (pieces rest)) ∙ parts.1) in
    subst (λ n. AreTerms (n + terms_count rest) (nodes_of args (drop 1 widths) ++ nodes_of rest (drop (suc (size_of args)) widths)))
    (eqb-true (terms_count args) (arity op) parts.0)
    (terms_append (terms_count args) (terms_count rest) (nodes_of args (drop 1 widths)) (nodes_of rest (drop (suc (size_of args)) widths))
    (have_terms args (drop 1 widths) both.0) (have_terms rest (drop (suc (size_of args)) widths) both.1))

-- ---- sizes and values

module _ {X : Type 0} where
  pub take_front : (n : ℕ) (a b : List X) → length a ≡ n → take n (a ++ b) ≡ a
  take_front n a b is = ap (λ k. take k (a ++ b)) (sym is) ∙ take-append_seam a b

  drop_front : (n : ℕ) (a b : List X) → length a ≡ n → drop n (a ++ b) ≡ b
  drop_front n a b is = ap (λ k. drop k (a ++ b)) (sym is) ∙ drop-append_seam a b

-- the sources of an opcode
pub sources_stand : (op : Op) (size : _) (once : Bool) (args rest : Terms) (widths : List Width) → list_all has_sources (pieces (AppThen op size once args rest)) ≡ true
    → AreTerms (arity op) (nodes_of args widths) × (list_all has_sources (pieces args) ≡ true) × (list_all has_sources (pieces rest) ≡ true)
sources_stand op size once args rest widths have =
    let parts = and_parts (nat_eq (terms_count args) (arity op)) (list_all has_sources (pieces args ++ pieces rest)) have in
    let both = and_parts (list_all has_sources (pieces args)) (list_all has_sources (pieces rest)) (sym (list_all-append has_sources (pieces args) (pieces rest)) ∙ parts.1) in
    (subst (λ n. AreTerms n (nodes_of args widths)) (eqb-true (terms_count args) (arity op) parts.0) (have_terms args widths both.0), both.0, both.1)

pub roots_are : (t : Terms) (widths : List Width) → list_all has_sources (pieces t) ≡ true → roots (nodes_of t widths) ≡ typing.roots t widths
roots_are Nil widths have = refl
roots_are (VarThen var constant size cond rest) widths have = ap (λ r. first_of widths ∷ r) (roots_are rest (drop 1 widths) have)
roots_are (LitThen value boolean rest) widths have = ap (λ r. first_of widths ∷ r) (roots_are rest (drop 1 widths) have)
roots_are (AppThen op size once args rest) widths have =
    let a : List Node = nodes_of args (drop 1 widths) in
    let r : List Node = nodes_of rest (drop (suc (size_of args)) widths) in
    let stand = sources_stand op size once args rest (drop 1 widths) have in
    ap (λ list. first_of widths ∷ drop (arity op) list) (roots_append (arity op) a r stand.0)
    ∙ ap (λ list. first_of widths ∷ list) (drop_front (arity op) (roots a) (roots r) (count_roots (arity op) a stand.0))
    ∙ ap (λ list. first_of widths ∷ list) (roots_are rest (drop (suc (size_of args)) widths) stand.2)

pub values_are : (words : List ℕ) (t : Terms) (widths : List Width) → list_all has_sources (pieces t) ≡ true → values (nodes_of t widths) words ≡ values_of t widths words
values_are words Nil widths have = refl
values_are words (VarThen var constant size cond rest) widths have = ap (λ v. slice_index_or words var 0 ∷ v) (values_are words rest (drop 1 widths) have)
values_are words (LitThen value boolean rest) widths have = ap (λ v. residue (width_bits (first_of widths)) value ∷ v) (values_are words rest (drop 1 widths) have)
values_are words (AppThen op size once args rest) widths have =
    let a : List Node = nodes_of args (drop 1 widths) in
    let r : List Node = nodes_of rest (drop (suc (size_of args)) widths) in
    let width : Width = first_of widths in
    let stand = sources_stand op size once args rest (drop 1 widths) have in
    ap (λ list. with_value width (App op) list words (values (a ++ r) words)) (roots_append (arity op) a r stand.0)
    ∙ ap (with_value width (App op) (roots a ++ roots r) words) (values_append words (arity op) a r stand.0)
    ∙ (λ i.
    op_mean op (width_bits (unsized_width op width (take_front (arity op) (roots a) (roots r) (count_roots (arity op) a stand.0) i))) (width_bits width)
    (take_front (arity op) (values a words) (values r words) (count_values words (arity op) a stand.0) i)
    ∷ drop_front (arity op) (values a words) (values r words) (count_values words (arity op) a stand.0) i)
    ∙ (λ i.
    op_mean op (width_bits (unsized_width op width (roots_are args (drop 1 widths) stand.1 i))) (width_bits width) (values_are words args (drop 1 widths) stand.1 i)
    ∷ values_are words rest (drop (suc (size_of args)) widths) stand.2 i)
