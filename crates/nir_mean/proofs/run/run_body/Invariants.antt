-- what is left has the outcome of the whole
use Rattle.std.proofs.Common.{◌≡◌, ◌+◌, None}
use Rattle.nir_ir.specs.Nodes.{nodes_of}
use Rattle.nir_mean.specs.Frames.{FramesSound, cost, frames_cost, outcome_after}
use Rattle.nir_mean.specs.Outcome.{outcome_of}
use Rattle.nir_mean.specs.Run.{run_list}
use Rattle.nir_mean.specs.Seen.{setting_of, shader_of, state_of}
use Rattle.nir_mean.specs.Sound.{NodesSound}
use Rattle.nir_mean.specs.Table.{IsTable}
use Rattle.nir_mean.proofs.run.run_body.Given as goal

abbrev pub invariant-steps : goal.invariant-steps
invariant-steps l = record {
  table : IsTable (shader_of l.given) l.machine.table.views;
  sound : NodesSound (shader_of l.given) (nodes_of l.nodes);
  under : FramesSound (shader_of l.given) l.stack.items;
  same : outcome_after (setting_of l.given) l.stack.items (run_list (setting_of l.given) (nodes_of l.nodes) l.from (state_of l.machine))
      ≡ outcome_of (run_list (setting_of l.given) (shader_of l.given).body None (state_of l.initial.machine));
}

abbrev pub decreases-steps : goal.decreases-steps
decreases-steps l = cost l.given.turns (nodes_of l.nodes) + frames_cost l.given.turns l.stack.items
