use Rattle.nir_print.specs.Text.{phi_source_text}
use Rattle.nir_print.proofs.Lines.{listed_pushed}
use Rattle.nir_print.proofs.sources.push_listed.Goals as goal

pub loop-source-preserved : goal.loop-source-preserved
loop-source-preserved c =
    listed_pushed (phi_source_text c.args.naming.now) c.loop-source.out.items c.push.new.out.items c.push_phi_source-in-loop-source.new.out.items _ _ c.loop-source.source-index _ c.loop-source-test.true
    c.in_ok-push-in-len1-up.ensures c.in_ok-push_phi_source-in-len1-up-2.ensures c.loop-source.invariant
