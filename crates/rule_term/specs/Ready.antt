-- What it takes to evaluate terms: opcodes that work place by place and have their sources, sizes that obey, and a word for each variable.
use Rattle.std.specs.Prelude.{◌≡◌, ◌≤◌, ℕ, Bool, true, ◌&&◌, List, length, nat_eq, nat_lt}
use Rattle.std.specs.List.{list_all}
use Rattle.nir_ops.specs.declared.width.Width.{Width}
use Rattle.nir_ops.specs.Opcodes.{op_info}
use Rattle.rule_term.specs.Terms.{Terms}
use Rattle.rule_term.specs.Pieces.{Piece, VarPiece, LitPiece, AppPiece, pieces}
use Rattle.rule_term.specs.Formed.{may_stand}
use Rattle.rule_term.specs.Typings.{size_of, obeys, occurrences}
use Rattle.rule_term.specs.Holds.{is_word}

-- a node of terms over so many variables
abbrev pub piece_ready : ℕ → Piece → Bool
piece_ready vars (VarPiece var constant size cond) = nat_lt var vars
piece_ready vars (LitPiece value boolean) = true
piece_ready vars (AppPiece op size once sources) = may_stand op && nat_eq sources (length (op_info op).inputs)

pub record IsReady (terms : Terms) (widths : List Width) (values : List ℕ) : Type 0 where
  pub nodes : list_all (piece_ready (length values)) (pieces terms) ≡ true
  pub sizes : obeys terms widths ≡ true
  pub enough : size_of terms ≤ length widths
  pub words : list_all (is_word values) (occurrences terms widths) ≡ true
