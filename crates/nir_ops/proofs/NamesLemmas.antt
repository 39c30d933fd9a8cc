-- No two opcodes have one name, since each is found by its own.
use Rattle.std.proofs.Common.{◌≡◌, ℕ, List, Some, sym, ◌∙◌, ap}
use Rattle.nir_ops.specs.declared.op.Op.{Op}
use Rattle.nir_ops.specs.Opcodes.{name_of}
use Rattle.nir_ops.specs.Lookup.{op_named}
use Rattle.nir_ops.specs.Names.{op_named-name_of}

pub op_named-every : (name : List ℕ) (op : Op) → name_of op ≡ name → op_named name ≡ Some op
op_named-every name op e = sym (ap op_named e) ∙ op_named-name_of op

pub distinct : (a b : Op) → name_of a ≡ name_of b → a ≡ b
distinct a b e = let s : Some a ≡ Some b = sym (op_named-name_of a) ∙ ap op_named e ∙ op_named-name_of b in cc
