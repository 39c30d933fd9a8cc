use Rattle.std.proofs.Common.{◌≡◌, ◌∙◌, ◌+◌, ◌-◌, map, sym, ap, take, arith}
use Rattle.op_eval.specs.Views.{views_comps}
use Rattle.nir_ir.specs.declared.node.Phi.{Phi}
use Rattle.nir_mean.specs.Phis.{written}
use Rattle.nir_mean.specs.Seen.{shader_of}
use Rattle.nir_mean.specs.State.{with_value}
use Rattle.nir_mean.specs.Table.{kind_seen, values_of}
use Rattle.nir_mean.proofs.PhiLemmas.{kinds_left, written_left}
use Rattle.nir_mean.proofs.TableLemmas.{table_kept}
use Rattle.nir_mean.proofs.phis.write_phis.Goals as goal

pub loop-at-preserved-in-Some : goal.loop-at-preserved-in-Some
loop-at-preserved-in-Some c =
    let more : c.loop-at.at - 1 + 1 ≡ c.loop-at.at = omega arith in
    let kinds : map kind_seen c.pop.new.self.items ≡ map (λ phi. phi.kind) (take (c.loop-at.at - 1) c.args.phis.now) =
    kinds_left c.args.phis.now (c.loop-at.at - 1) c.loop-at.read.items c.pop.new.self.items c.in-Some.view c.index-phis-at.result (omega arith) c.in-Some.ensures.items
    (c.loop-at.invariant.kinds ∙ ap (λ n. map (λ phi. phi.kind) (take n c.args.phis.now)) (sym more)) in
    record {
      table = table_kept (shader_of c.args.given.now) c.loop-at.table.views c.define.new.self.views c.loop-at.invariant.table c.define.ensures.kinds c.define.ensures.len;
      kinds = kinds;
      rest = written_left c.args.phis.now (c.loop-at.at - 1) c.loop-at.read.items c.pop.new.self.items c.in-Some.view c.index-phis-at.result
          (values_of c.loop-at.table.views) (values_of c.define.new.self.views) _ (omega arith) c.in-Some.ensures.items c.index-phis-at.is kinds
          (c.define.ensures.values ∙ ap (λ (phi : Phi). with_value phi.value c.in-Some.view.comps (values_of c.loop-at.table.views)) (sym c.index-phis-at.is))
          (ap (λ n. written (take n c.args.phis.now) (views_comps c.loop-at.read.items) (values_of c.loop-at.table.views)) more ∙ c.loop-at.invariant.rest);
    }
