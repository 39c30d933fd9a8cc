use Rattle.std.proofs.Common.{ap, sym, subst, rules, ◌∙◌, ◌≡◌, ◌++◌, true, None, take, drop, List, []}
use Rattle.std.proofs.Math.ListN.{drop_of_length-le}
use Rattle.clause_check.specs.declared.clause.LogStep.{LogStep}
use Rattle.clause_check.specs.Logs.{fault_from, has_empty}
use Rattle.clause_check.specs.LogsLaws.{steps_show}
use Rattle.clause_check.specs.Marked.{clauses_of}
use Rattle.clause_check.proofs.check.check_log.Goals as goal

pub returns-clause-shown : goal.returns-clause-shown
returns-clause-shown c =
    let l = c.loop-at in
    let steps : List LogStep = c.as_slice-steps.result.now in
    let past : drop l.at steps ≡ [] = drop_of_length-le steps c.loop-at-test.false in
    let none : fault_from 0 c.args.clauses.now steps ≡ None = sym l.invariant.so_far ∙ ap (fault_from l.at (c.args.clauses.now ++ clauses_of (take l.at steps))) past in
    let some : has_empty steps ≡ true = search rules in
    let same : steps ≡ c.args.log.now = c.as_slice-steps.ensures in
    steps_show c.args.clauses.now c.args.log.now (subst (λ s. fault_from 0 c.args.clauses.now s ≡ None) same none) (subst (λ s. has_empty s ≡ true) same some)
