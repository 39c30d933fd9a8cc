-- Which rules are formed: an opcode is sought, opcodes have their sources, variables are numbered in order, and the replacement has no other.
use Rattle.std.specs.Prelude.{◌≡◌, ◌≤◌, ◌^◌, ℕ, suc, ℤ, pos, negsuc, Bool, true, false, not, ◌&&◌, List, [], ◌∷◌, length, nat_eq, nat_lt, is_none, if◌then◌else◌}
use Rattle.std.specs.List.{list_all}
use Rattle.nir_ops.specs.declared.op.Op.{Op}
use Rattle.nir_ops.specs.declared.op.Op.TheVariants.{Mov}
use Rattle.nir_ops.specs.Opcodes.{op_info}
use Rattle.op_eval.specs.declared.shape.Shape.{Shape}
use Rattle.op_eval.specs.declared.shape.Shape.TheVariants.{EachPlace, Gathers, AllEqual, SomeDiffer}
use Rattle.op_eval.specs.Views.{shape_of}
use Rattle.rule_term.specs.Terms.{Terms, Nil, VarThen, LitThen, AppThen}
use Rattle.rule_term.specs.Pieces.{Piece, VarPiece, LitPiece, AppPiece, pieces, terms_count, vars_of, ops_of}
use Rattle.rule_term.specs.Rule.{Rule}

abbrev pub is_each_place : Shape → Bool
is_each_place EachPlace = true
is_each_place Gathers = false
is_each_place AllEqual = false
is_each_place SomeDiffer = false

abbrev pub is_mov : Op → Bool
is_mov Mov = true
is_mov _ = false

-- an opcode that may stand in a rule: it works place by place, and is no move
unfoldable pub may_stand : Op → Bool
may_stand op = not (is_mov op) && is_each_place (shape_of op)

-- from -2^63 to 2^64 - 1, and 0 or 1 where it is a truth value
abbrev pub literal_formed : ℤ → Bool → Bool
literal_formed (pos n) boolean = nat_lt n (if boolean then 2 else 2 ^ 64)
literal_formed (negsuc n) boolean = if boolean then false else nat_lt n (2 ^ 63)

-- the opcode has its sources
abbrev pub search_piece_formed : Piece → Bool
search_piece_formed (VarPiece var constant size cond) = true
search_piece_formed (LitPiece value boolean) = literal_formed value boolean
search_piece_formed (AppPiece op size once sources) = may_stand op && nat_eq sources (length (op_info op).inputs)

-- in a replacement with so many variables nothing is asked of a variable, nor of the uses of an opcode
abbrev pub replace_piece_formed : ℕ → Piece → Bool
replace_piece_formed vars (VarPiece var constant size cond) = nat_lt var vars && not constant && is_none size && is_none cond
replace_piece_formed vars (LitPiece value boolean) = literal_formed value boolean
replace_piece_formed vars (AppPiece op size once sources) = may_stand op && nat_eq sources (length (op_info op).inputs) && not once

-- variables are numbered from this one on in the order in which they first stand, up to that one
abbrev pub numbered : ℕ → ℕ → List ℕ → Bool
numbered next vars [] = nat_eq next vars
numbered next vars (var ∷ rest) = if nat_lt var next then numbered next vars rest else nat_eq var next && numbered (suc next) vars rest

-- one term, an opcode over others
abbrev pub is_application : Terms → Bool
is_application Nil = false
is_application (VarThen var constant size cond rest) = false
is_application (LitThen value boolean rest) = false
is_application (AppThen op size once args rest) = true

pub record IsFormed (r : Rule) : Type 0 where
  pub application : is_application r.search ≡ true
  pub one_search : terms_count r.search ≡ 1
  pub one_replace : terms_count r.replace ≡ 1
  pub search : list_all search_piece_formed (pieces r.search) ≡ true
  pub replace : list_all (replace_piece_formed r.vars) (pieces r.replace) ≡ true
  pub numbered : numbered 0 r.vars (vars_of r.search) ≡ true
  pub few_vars : r.vars ≤ 16
  pub few_search : length (ops_of r.search) ≤ 16
  pub few_replace : length (ops_of r.replace) ≤ 16
