-- Replacements that are a variable or a number, alone.
use Rattle.std.specs.Prelude.{Bool, true, false}
use Rattle.rule_term.specs.Terms.{Terms, Nil, VarThen, LitThen}

-- a variable or a number, alone
abbrev pub is_leaf : Terms → Bool
is_leaf (VarThen var constant size cond Nil) = true
is_leaf (LitThen value boolean Nil) = true
is_leaf terms = false
