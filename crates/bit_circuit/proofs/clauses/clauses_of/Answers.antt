use Rattle.std.proofs.Common.{sym, ◌∙◌, subst}
use Rattle.rule_term.specs.Formed.{IsFormed}
use Rattle.clause_check.specs.Logs.{IsUnsatisfiable}
use Rattle.circuit_laws.specs.ClausesLaws.{clauses_show}
use Rattle.bit_circuit.proofs.clauses.clauses_of.Goals as goal

pub returns-in_ok-clauses-in-None-clause-equal : goal.returns-in_ok-clauses-in-None-clause-equal
returns-in_ok-clauses-in-None-clause-equal c = λ unsat.
    clauses_show c.args.rule.now c.args.typing.now.widths (subst IsFormed c.rule.view_is c.rule.invariant) c.requires (sym c.first_without.ensures ∙ c.in-None.is) (subst IsUnsatisfiable c.in_ok-clauses-in-None.ensures unsat)
