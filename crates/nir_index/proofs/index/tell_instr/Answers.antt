use Rattle.std.proofs.Common.{◌≤◌, ◌∙◌, sym, ap, set, subst}
use Rattle.nir_index.proofs.NotedLemmas.{told-instr, told-instr_past, told-no_target}
use Rattle.nir_index.proofs.index.tell_instr.Goals as goal

pub returns-in_ok-learn_instr : goal.returns-in_ok-learn_instr
returns-in_ok-learn_instr c =
    ap (set c.args.definers.now c.in-Some.value.0) c.in_ok-learn_instr.ensures
    ∙ told-instr c.args.instr.now c.in-Some.value (sym c.in-Some.ensures) c.args.definers.now c.at_mut.result.now c.at_mut.ensures.value

pub returns-else-at-len : goal.returns-else-at-len
returns-else-at-len c = told-instr_past c.args.instr.now c.in-Some.value (sym c.in-Some.ensures) c.args.definers.now (subst (λ n. n ≤ c.in-Some.value.0) c.len.ensures c.if-at-len.false)

pub returns-in_default : goal.returns-in_default
returns-in_default c = told-no_target c.args.instr.now (sym c.in_default.ensures) c.args.definers.now
