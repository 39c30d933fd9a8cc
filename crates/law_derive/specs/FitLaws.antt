-- Terms that fit, beside others, behind others and in their place; and terms of rules at sizes that obey.
use Rattle.std.proofs.Common.{◌≡◌, ◌+◌, ◌≤◌, ℕ, zero, suc, true, List, [], ◌∷◌, ◌++◌, take, drop, length, refl, sym, ap, ◌∙◌, subst, arith}
use Rattle.std.specs.Prelude.{◌&&◌, nat_eq}
use Rattle.std.specs.List.{list_all}
use Rattle.std.proofs.lemmas.Bool.{and_from, and_parts}
use Rattle.std.proofs.lemmas.List.{take-append-drop, take-append-le}
use Rattle.list_laws.specs.AllLaws.{passes_append}
use Rattle.nir_ops.specs.declared.width.Width.{Width}
use Rattle.nir_ops.specs.Opcodes.{op_info}
use Rattle.op_eval.specs.Calls.{sizes_fit}
use Rattle.rule_term.specs.Formed.{may_stand}
use Rattle.rule_term.specs.Pieces.{Piece, VarPiece, LitPiece, AppPiece, pieces, terms_count}
use Rattle.rule_term.specs.Terms.{Terms, Nil, VarThen, LitThen, AppThen}
use Rattle.rule_term.specs.Typings.{first_of, has_size, literal_fits, obeys, size_of}
use Rattle.rule_term.specs.Typings as typing
use Rattle.law_derive.specs.declared.node.Kind.{Kind}
use Rattle.law_derive.specs.declared.node.Kind.TheVariants.{App, Var, Lit}
use Rattle.law_derive.specs.declared.node.Node.{Node}
use Rattle.law_derive.specs.Derivations.{piece_formed}
use Rattle.law_derive.specs.Fit.{kind_fits, nodes_fit}
use Rattle.law_derive.specs.Nodes.{AreTerms, arity, nodes_of, roots, sources_of}
use Rattle.law_derive.specs.NodesLaws.{count_roots, roots_append, roots_behind}
use Rattle.law_derive.specs.TermsLaws.{has_sources, roots_are, sources_stand, take_front}

-- ---- terms before others

fits_before : (width : Width) (kind : Kind) (behind more : List Width) → sources_of kind ≤ length behind → kind_fits width kind (behind ++ more) ≡ kind_fits width kind behind
fits_before width (App op) behind more l = ap (λ list. may_stand op && sizes_fit op width list) (take-append-le (arity op) behind more l)
fits_before width (Var var) behind more l = refl
fits_before width (Lit word) behind more l = refl

-- other terms behind its sources change nothing for a node
first_fits : (k : ℕ) (node : Node) (t rest : List Node) → AreTerms (sources_of node.kind + k) t
    → kind_fits node.width node.kind (roots (t ++ rest)) ≡ kind_fits node.width node.kind (roots t)
first_fits k node t rest are =
    let count = count_roots (sources_of node.kind + k) t are in
    ap (kind_fits node.width node.kind) (roots_append (sources_of node.kind + k) t rest are)
    ∙ fits_before node.width node.kind (roots t) (roots rest) (omega (arith, count))

pub fit_append : (k : ℕ) (t rest : List Node) → AreTerms k t → nodes_fit t ≡ true → nodes_fit rest ≡ true → nodes_fit (t ++ rest) ≡ true
fit_append zero [] rest are fit others = others
fit_append zero (node ∷ t) rest are fit others = absurd are
fit_append (suc k) [] rest are fit others = absurd are
fit_append (suc k) (node ∷ t) rest are fit others =
    let both = and_parts (kind_fits node.width node.kind (roots t)) (nodes_fit t) fit in
    and_from (kind_fits node.width node.kind (roots (t ++ rest))) (nodes_fit (t ++ rest)) (first_fits k node t rest are ∙ both.0)
    (fit_append (sources_of node.kind + k) t rest are both.1 others)

fit_front : (k : ℕ) (t rest : List Node) → AreTerms k t → nodes_fit (t ++ rest) ≡ true → nodes_fit t ≡ true
fit_front zero [] rest are fit = refl
fit_front zero (node ∷ t) rest are fit = absurd are
fit_front (suc k) [] rest are fit = absurd are
fit_front (suc k) (node ∷ t) rest are fit =
    let both = and_parts (kind_fits node.width node.kind (roots (t ++ rest))) (nodes_fit (t ++ rest)) fit in
    and_from (kind_fits node.width node.kind (roots t)) (nodes_fit t) (sym (first_fits k node t rest are) ∙ both.0)
    (fit_front (sources_of node.kind + k) t rest are both.1)

-- ---- parts

pub fit_drop : (n : ℕ) (nodes : List Node) → nodes_fit nodes ≡ true → nodes_fit (drop n nodes) ≡ true
fit_drop zero nodes fit = fit
fit_drop (suc n) [] fit = refl
fit_drop (suc n) (node ∷ nodes) fit = fit_drop n nodes (and_parts (kind_fits node.width node.kind (roots nodes)) (nodes_fit nodes) fit).1

pub fit_take : (n : ℕ) (k : ℕ) (nodes : List Node) → AreTerms k (take n nodes) → nodes_fit nodes ≡ true → nodes_fit (take n nodes) ≡ true
fit_take n k nodes are fit = fit_front k (take n nodes) (drop n nodes) are (subst (λ list. nodes_fit list ≡ true) (sym (take-append-drop n nodes)) fit)

-- terms of the same sizes in the place of others
pub fit_behind : (front a b : List Node) → roots a ≡ roots b → nodes_fit (front ++ a) ≡ true → nodes_fit b ≡ true → nodes_fit (front ++ b) ≡ true
fit_behind [] a b same fit others = others
fit_behind (node ∷ front) a b same fit others =
    let both = and_parts (kind_fits node.width node.kind (roots (front ++ a))) (nodes_fit (front ++ a)) fit in
    and_from (kind_fits node.width node.kind (roots (front ++ b))) (nodes_fit (front ++ b))
    (ap (kind_fits node.width node.kind) (sym (roots_behind front a b same)) ∙ both.0) (fit_behind front a b same both.1 others)

-- ---- terms of rules

piece_sources : (piece : Piece) → piece_formed piece ≡ true → has_sources piece ≡ true
piece_sources (VarPiece var constant size cond) formed = refl
piece_sources (LitPiece value boolean) formed = refl
piece_sources (AppPiece op size once sources) formed = (and_parts (may_stand op) (nat_eq sources (length (op_info op).inputs)) formed).1

pub pieces_sources : (list : List Piece) → list_all piece_formed list ≡ true → list_all has_sources list ≡ true
pieces_sources [] formed = refl
pieces_sources (piece ∷ list) formed =
    let parts = and_parts (piece_formed piece) (list_all piece_formed list) formed in
    and_from (has_sources piece) (list_all has_sources list) (piece_sources piece parts.0) (pieces_sources list parts.1)

-- terms of opcodes with their sources, at sizes that obey
pub fit_nodes_of : (t : Terms) (widths : List Width) → list_all piece_formed (pieces t) ≡ true → obeys t widths ≡ true → nodes_fit (nodes_of t widths) ≡ true
fit_nodes_of Nil widths formed obey = refl
fit_nodes_of (VarThen var constant size cond rest) widths formed obey =
    fit_nodes_of rest (drop 1 widths) formed (and_parts (has_size size (first_of widths)) (obeys rest (drop 1 widths)) obey).1
fit_nodes_of (LitThen value boolean rest) widths formed obey =
    fit_nodes_of rest (drop 1 widths) formed (and_parts (literal_fits value boolean (first_of widths)) (obeys rest (drop 1 widths)) obey).1
fit_nodes_of (AppThen op size once args rest) widths formed obey =
    let width : Width = first_of widths in
    let sizes : List Width = drop 1 widths in
    let others : List Width = drop (suc (size_of args)) widths in
    let own = and_parts (may_stand op && nat_eq (terms_count args) (length (op_info op).inputs)) (list_all piece_formed (pieces args ++ pieces rest)) formed in
    let stands = and_parts (may_stand op) (nat_eq (terms_count args) (length (op_info op).inputs)) own.0 in
    let each = passes_append piece_formed (pieces args) (pieces rest) own.1 in
    let all = and_parts (has_size size width && sizes_fit op width (typing.roots args sizes) && obeys args sizes) (obeys rest others) obey in
    let inner = and_parts (has_size size width && sizes_fit op width (typing.roots args sizes)) (obeys args sizes) all.0 in
    let fits = and_parts (has_size size width) (sizes_fit op width (typing.roots args sizes)) inner.0 in
    let stand = sources_stand op size once args rest sizes (pieces_sources (pieces (AppThen op size once args rest)) formed) in
    let a : List Node = nodes_of args sizes in
    let r : List Node = nodes_of rest others in
    let behind : take (arity op) (roots (a ++ r)) ≡ typing.roots args sizes =
    ap (take (arity op)) (roots_append (arity op) a r stand.0) ∙ take_front (arity op) (roots a) (roots r) (count_roots (arity op) a stand.0) ∙ roots_are args sizes stand.1 in
    and_from (may_stand op && sizes_fit op width (take (arity op) (roots (a ++ r)))) (nodes_fit (a ++ r))
    (and_from (may_stand op) (sizes_fit op width (take (arity op) (roots (a ++ r)))) stands.0 (ap (sizes_fit op width) behind ∙ fits.1))
    (fit_append (arity op) a r stand.0 (fit_nodes_of args sizes each.0 inner.1) (fit_nodes_of rest others each.1 all.1))
