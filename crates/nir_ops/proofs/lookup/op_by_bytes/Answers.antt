use Rattle.std.proofs.Common.{◌≡◌, subst, IfSome, sym, ◌∙◌}
use Rattle.nir_ops.specs.Opcodes.{name_of}
use Rattle.nir_ops.specs.Lookup.{all_ops, op_named}
use Rattle.nir_ops.specs.Names.{op_named-named}
use Rattle.nir_ops.proofs.NamesLemmas.{op_named-every}
use Rattle.nir_ops.proofs.lookup.op_by_bytes.Goals as goal

found : goal.returns-clause-found
unfolding op_named all_ops
found c = c.first_named.ensures

pub returns-clause-found : goal.returns-clause-found
returns-clause-found c = found c

pub returns-clause-named : goal.returns-clause-named
returns-clause-named c = subst (λ r. IfSome r (λ op. name_of op ≡ c.args.text.now)) (sym (found c)) (op_named-named _)

pub returns-clause-every : goal.returns-clause-every
returns-clause-every c = λ op e. found c ∙ op_named-every _ op e
