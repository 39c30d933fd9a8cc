-- The outcome of a shader for inputs, contents of buffers and a number of repeats: how it ends, the stores that it made, and its outputs.
use Rattle.std.specs.Prelude.{ℕ, List, [], map, None}
use Rattle.nir_ir.specs.Definitions.{kind_at}
use Rattle.nir_ir.specs.Shader.{Shader}
use Rattle.nir_mean.specs.declared.outcome.Ending.{Ending}
use Rattle.nir_mean.specs.declared.outcome.Ending.TheVariants.{Done, Cut}
use Rattle.nir_mean.specs.declared.outcome.Outcome.{Outcome}
use Rattle.nir_mean.specs.Run as run
use Rattle.nir_mean.specs.Run.{Setting, run_list}
use Rattle.nir_mean.specs.State.{State, World, unwritten, zeros}

-- no values, these buffers, outputs of 0, no stores
abbrev pub start : Shader → List (List ℕ) → State
start s buffers = record { values = unwritten s.body; world = record { buffers = buffers; outputs = map zeros s.outputs; stores = [] } }

abbrev pub told : Ending → World → Outcome
told ending world = record { ending = ending; stores = world.stores; outputs = world.outputs }

-- a jump stands only in a loop, so a whole body falls or is cut
abbrev pub outcome_of : run.Exit → Outcome
outcome_of (run.Fall from state) = told Done state.world
outcome_of (run.Break from state) = told Done state.world
outcome_of (run.Continue from state) = told Done state.world
outcome_of (run.Cut state) = told Cut state.world

abbrev pub setting : Shader → List (List ℕ) → ℕ → Setting
setting s inputs repeats = record { kinds = kind_at s.body; inputs = inputs; repeats = repeats }

unfoldable pub outcome : Shader → List (List ℕ) → List (List ℕ) → ℕ → Outcome
outcome s inputs buffers repeats = outcome_of (run_list (setting s inputs repeats) s.body None (start s buffers))
