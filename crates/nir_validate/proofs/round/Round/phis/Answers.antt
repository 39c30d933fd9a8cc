use Rattle.std.proofs.Common.{◌+◌, ◌∙◌, sym, ap, subst, drop, arith}
use Rattle.nir_validate.specs.Least.{sooner}
use Rattle.nir_validate.specs.Steps.{AreIn, edges_of, found_phi, found_phis}
use Rattle.nir_validate.proofs.RoundLemmas.{found-next_phi}
use Rattle.nir_validate.proofs.round.Round.phis.Goals as goal

pub phi_by-requires-clause-within : goal.phi_by-requires-clause-within
phi_by-requires-clause-within c = subst (λ links. AreIn links c.args.ways.now) (sym c.loop-phi.invariant.0) c.requires.within

pub loop-phi-preserved : goal.loop-phi-preserved
loop-phi-preserved c =
    let before = c.loop-phi.self in
    let edges = edges_of c.args.self.now.scope c.args.ways.now in
    let rest = drop (c.loop-phi.phi-index + 1) c.args.phis.now in (
      ap (λ round. round.scope) c.phi_by.ensures ∙ c.loop-phi.invariant.0,
      ap (λ round. round.item) c.phi_by.ensures ∙ c.loop-phi.invariant.1,
      omega (arith, c.loop-phi.invariant.2),
      ap (λ round. sooner round.found (found_phis (c.loop-phi.item + 1) edges rest)) c.phi_by.ensures
          ∙ ap (λ links. sooner (sooner before.found (found_phi c.loop-phi.item (edges_of links c.args.ways.now) c.phi-item.result)) (found_phis (c.loop-phi.item + 1) edges rest)) c.loop-phi.invariant.0
          ∙ sym (found-next_phi before.found edges c.args.phis.now c.loop-phi.item c.loop-phi.phi-index c.phi-item.result c.loop-phi-test.true c.phi-item.is)
          ∙ c.loop-phi.invariant.3,
    )
