-- Descending tables: each use of a rule makes a shader lighter, so that it ends (a weight for each symbol, as in proofs that rewriting terminates).
use Rattle.std.specs.Prelude.{ℕ, ◌+◌, ◌<◌, Bool, All, sum_by, nat_lt}
use Rattle.std.specs.List.{list_all}
use Rattle.nir_ops.specs.declared.op.Op.{Op}
use Rattle.rule_term.specs.Pieces.{ops_of}
use Rattle.rule_term.specs.Rule.{Rule}
use Rattle.rule_term.specs.Table.{Table, op_weight}
use Rattle.rule_term.specs.Terms.{Terms, Nil, VarThen, LitThen, AppThen}

-- the weights of all opcodes of terms together
abbrev pub terms_weight : (Op → ℕ) → Terms → ℕ
terms_weight weight Nil = 0
terms_weight weight (VarThen var constant size cond rest) = terms_weight weight rest
terms_weight weight (LitThen value boolean rest) = terms_weight weight rest
terms_weight weight (AppThen op size once args rest) = weight op + terms_weight weight args + terms_weight weight rest

-- the weight of the opcode at the root of a side; a variable or a number has none
abbrev pub root_weight : (Op → ℕ) → Terms → ℕ
root_weight weight Nil = 0
root_weight weight (VarThen var constant size cond rest) = 0
root_weight weight (LitThen value boolean rest) = 0
root_weight weight (AppThen op size once args rest) = weight op

-- the root of the search side weighs more than all opcodes of the replacement together
abbrev pub descends : (Op → ℕ) → Rule → Bool
descends weight rule = nat_lt (terms_weight weight rule.replace) (root_weight weight rule.search)

-- each rule of the table does so
abbrev pub is_descending : Table → Bool
is_descending table = list_all (descends (op_weight table)) table.rules

-- the same in a sentence
abbrev pub IsDescending : Table → Type 0
IsDescending table = All (λ rule. sum_by (op_weight table) (ops_of rule.replace) < root_weight (op_weight table) rule.search) table.rules
