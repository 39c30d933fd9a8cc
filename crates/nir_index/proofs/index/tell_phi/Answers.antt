use Rattle.std.proofs.Common.{◌≤◌, ◌∙◌, ap, set, subst}
use Rattle.nir_index.proofs.NotedLemmas.{told-phi, told-phi_past}
use Rattle.nir_index.proofs.index.tell_phi.Goals as goal

pub returns-then-at-len : goal.returns-then-at-len
returns-then-at-len c =
    ap (set c.args.definers.now c.args.phi.now.value.0) c.learn_phi.ensures ∙ told-phi c.args.phi.now c.args.definers.now c.at_mut.result.now c.at_mut.ensures.value

pub returns-else-at-len : goal.returns-else-at-len
returns-else-at-len c = told-phi_past c.args.phi.now c.args.definers.now (subst (λ n. n ≤ c.args.phi.now.value.0) c.len.ensures c.if-at-len.false)
