-- A walk along the nodes of one side of a rule, which stops at the first that may not stand there.
use Rattle.std.specs.Prelude.{ℕ, ◌+◌, Bool, true, false, not, ◌&&◌, Option, Some, None, List, [], ◌∷◌, length, nat_eq, nat_lt, is_none, if◌then◌else◌}
use Rattle.std.specs.Option.{option_and_then}
use Rattle.nir_ops.specs.Opcodes.{op_info}
use Rattle.rule_term.specs.declared.side.Side.{Side}
use Rattle.rule_term.specs.declared.side.Side.TheVariants.{Search, Replace}
use Rattle.rule_term.specs.declared.formed.Progress.{Progress}
use Rattle.rule_term.specs.Pieces.{Piece, VarPiece, LitPiece, AppPiece}
use Rattle.rule_term.specs.Formed.{may_stand, literal_formed}

abbrev pub is_search : Side → Bool
is_search Search = true
is_search Replace = false

-- behind a variable; only the search side may have a new one, or ask for more than its value
abbrev pub var_passed : Side → ℕ → Bool → Progress → Option Progress
var_passed Search var plain at = if nat_lt var at.next then Some at else (if nat_eq var at.next && nat_lt at.next 16 then Some (record at { next = at.next + 1 }) else None)
var_passed Replace var plain at = if nat_lt var at.next && plain then Some at else None

-- behind a node
abbrev pub passed : Side → Progress → Piece → Option Progress
passed side at (VarPiece var constant size cond) = var_passed side var (not constant && is_none size && is_none cond) at
passed side at (LitPiece value boolean) = if literal_formed value boolean then Some at else None
passed side at (AppPiece op size once sources) =
    if may_stand op && nat_eq sources (length (op_info op).inputs) && (if is_search side then true else not once) && nat_lt at.ops 16
    then Some (record at { ops = at.ops + 1 })
    else None

abbrev pub walked : Side → Progress → List Piece → Option Progress
walked side at [] = Some at
walked side at (piece ∷ rest) = option_and_then (λ next. walked side next rest) (passed side at piece)
