-- A side of a rule has at most 49 nodes: it has at most 16 opcodes, and none that may stand in a rule has more than three sources.
use Rattle.std.specs.Prelude.{◌≡◌, refl, ◌≤◌, ◌+◌, ◌*◌, ℕ, Bool, true, not, ◌&&◌, ◌||◌, List, [], ◌∷◌, ◌++◌, length, nat_eq, nat_le}
use Rattle.std.proofs.Common.{◌∙◌, ap, sym, arith}
use Rattle.std.proofs.lemmas.Bool.{and_parts, eqb-true, leb-true}
use Rattle.std.proofs.lemmas.Grind.{flat_map-append}
use Rattle.std.proofs.lemmas.List.{length-append}
use Rattle.std.proofs.lemmas.List.Folds.{list_all-append}
use Rattle.std.specs.List.{list_all, flat_map}
use Rattle.nir_ops.specs.declared.op.Op.{Op}
use Rattle.nir_ops.specs.declared.op.Op.TheVariants.{Vec2}
use Rattle.nir_ops.specs.Opcodes.{op_info, row_of}
use Rattle.op_eval.specs.Views.{shape_of}
use Rattle.rule_term.specs.Terms.{Terms, Nil, VarThen, LitThen, AppThen}
use Rattle.rule_term.specs.Pieces.{Piece, VarPiece, LitPiece, AppPiece, pieces, op_of, ops_of, terms_count}
use Rattle.rule_term.specs.Rule.{Rule}
use Rattle.rule_term.specs.Formed.{IsFormed, may_stand, replace_piece_formed, search_piece_formed}
use Rattle.rule_term.specs.Typings.{size_of}

-- the first case splits, and the second is tried at each opcode that is left
three_inputs : (op : Op) → (not (may_stand op) || nat_le (length (op_info op).inputs) 3) ≡ true
unfolding may_stand shape_of op_info row_of
three_inputs Vec2 = refl
three_inputs op = refl

few_inputs : (op : Op) → may_stand op ≡ true → length (op_info op).inputs ≤ 3
few_inputs op h = leb-true (length (op_info op).inputs) 3 (cc (three_inputs op))

-- a node is no opcode, or one that may stand and has its sources
abbrev is_sourced : Piece → Bool
is_sourced (VarPiece var constant size cond) = true
is_sourced (LitPiece value boolean) = true
is_sourced (AppPiece op size once sources) = may_stand op && nat_eq sources (length (op_info op).inputs)

few_nodes : (terms : Terms) → list_all is_sourced (pieces terms) ≡ true → size_of terms ≤ terms_count terms + 3 * length (ops_of terms)
few_nodes Nil sourced = omega arith
few_nodes (VarThen var constant size cond rest) sourced = let less = few_nodes rest (and_parts true (list_all is_sourced (pieces rest)) sourced).1 in omega arith
few_nodes (LitThen value boolean rest) sourced = let less = few_nodes rest (and_parts true (list_all is_sourced (pieces rest)) sourced).1 in omega arith
few_nodes (AppThen op size once args rest) sourced =
    let has = and_parts (may_stand op && nat_eq (terms_count args) (length (op_info op).inputs)) (list_all is_sourced (pieces args ++ pieces rest)) sourced in
    let own = and_parts (may_stand op) (nat_eq (terms_count args) (length (op_info op).inputs)) has.0 in
    let have = and_parts (list_all is_sourced (pieces args)) (list_all is_sourced (pieces rest)) (sym (list_all-append is_sourced (pieces args) (pieces rest)) ∙ has.1) in
    let sources = few_inputs op own.0 in
    let same = eqb-true (terms_count args) (length (op_info op).inputs) own.1 in
    let under = few_nodes args have.0 in
    let behind = few_nodes rest have.1 in
    let count : length (flat_map op_of (pieces args ++ pieces rest)) ≡ length (ops_of args) + length (ops_of rest) =
    ap length (flat_map-append op_of (pieces args) (pieces rest)) ∙ length-append (ops_of args) (ops_of rest) in
    omega (arith, sources, same, under, behind, count)

-- a test that asks no less of each node
all_sourced : (test : Piece → Bool) → ((p : Piece) → test p ≡ true → is_sourced p ≡ true) → (list : List Piece) → list_all test list ≡ true → list_all is_sourced list ≡ true
all_sourced test from [] all = refl
all_sourced test from (p ∷ list) all =
    let parts = and_parts (test p) (list_all test list) all in
    ap (λ b. b && list_all is_sourced list) (from p parts.0) ∙ all_sourced test from list parts.1

searched : (p : Piece) → search_piece_formed p ≡ true → is_sourced p ≡ true
searched (VarPiece var constant size cond) h = refl
searched (LitPiece value boolean) h = refl
searched (AppPiece op size once sources) h = h

replacing : (vars : ℕ) (p : Piece) → replace_piece_formed vars p ≡ true → is_sourced p ≡ true
replacing vars (VarPiece var constant size cond) h = refl
replacing vars (LitPiece value boolean) h = refl
replacing vars (AppPiece op size once sources) h = (and_parts (may_stand op && nat_eq sources (length (op_info op).inputs)) (not once) h).0

pub few_searched : (rule : Rule) → IsFormed rule → size_of rule.search ≤ 49
few_searched rule formed =
    let few = few_nodes rule.search (all_sourced search_piece_formed searched (pieces rule.search) formed.search) in
    let one = formed.one_search in
    let ops = formed.few_search in
    omega (arith, few, one, ops)

pub few_replaced : (rule : Rule) → IsFormed rule → size_of rule.replace ≤ 49
few_replaced rule formed =
    let few = few_nodes rule.replace (all_sourced (replace_piece_formed rule.vars) (replacing rule.vars) (pieces rule.replace) formed.replace) in
    let one = formed.one_replace in
    let ops = formed.few_replace in
    omega (arith, few, one, ops)
