-- The nodes of a term in preorder, each with what the rule says of it.
use Rattle.std.specs.Prelude.{ℕ, suc, ℤ, Bool, Option, List, [], ◌∷◌, ◌++◌}
use Rattle.std.specs.List.{flat_map}
use Rattle.nir_ops.specs.declared.op.Op.{Op}
use Rattle.nir_ops.specs.declared.width.Width.{Width}
use Rattle.rule_term.specs.declared.cond.Cond.{Cond}
use Rattle.rule_term.specs.Terms.{Terms, Nil, VarThen, LitThen, AppThen}

-- a node without what stands under it; an opcode has so many sources
pub data Piece : Type 0 where
  VarPiece : (var : ℕ) (constant : Bool) (size : Option Width) (cond : Option Cond) → Piece
  LitPiece : (value : ℤ) (boolean : Bool) → Piece
  AppPiece : (op : Op) (size : Option Width) (once : Bool) (sources : ℕ) → Piece

-- how many terms stand one after another
abbrev pub terms_count : Terms → ℕ
terms_count Nil = 0
terms_count (VarThen var constant size cond rest) = suc (terms_count rest)
terms_count (LitThen value boolean rest) = suc (terms_count rest)
terms_count (AppThen op size once args rest) = suc (terms_count rest)

abbrev pub pieces : Terms → List Piece
pieces Nil = []
pieces (VarThen var constant size cond rest) = VarPiece var constant size cond ∷ pieces rest
pieces (LitThen value boolean rest) = LitPiece value boolean ∷ pieces rest
pieces (AppThen op size once args rest) = AppPiece op size once (terms_count args) ∷ pieces args ++ pieces rest

-- the variable, and the opcode, that a node is
abbrev pub var_of : Piece → List ℕ
var_of (VarPiece var constant size cond) = var ∷ []
var_of (LitPiece value boolean) = []
var_of (AppPiece op size once sources) = []

abbrev pub op_of : Piece → List Op
op_of (VarPiece var constant size cond) = []
op_of (LitPiece value boolean) = []
op_of (AppPiece op size once sources) = op ∷ []

-- the variables and the opcodes of a side, in preorder
abbrev pub vars_of : Terms → List ℕ
vars_of terms = flat_map var_of (pieces terms)

abbrev pub ops_of : Terms → List Op
ops_of terms = flat_map op_of (pieces terms)
