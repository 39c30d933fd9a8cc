-- The parts of the evaluator as the state and the setting of a run that they stand for.
use Rattle.std.specs.Prelude.{ℕ, List}
use Rattle.nir_ir.specs.Shader.{Shader}
use Rattle.nir_mean.specs.declared.given.Given.{Given}
use Rattle.nir_mean.specs.declared.machine.Machine.{Machine}
use Rattle.nir_mean.specs.declared.world.Outside.{Outside}
use Rattle.nir_mean.specs.Outcome.{setting}
use Rattle.nir_mean.specs.Run.{Setting}
use Rattle.nir_mean.specs.State.{State, World}
use Rattle.nir_mean.specs.Table.{values_of}

abbrev pub shader_of : Given → Shader
shader_of given = given.shader.now

abbrev pub inputs_of : Given → List (List ℕ)
inputs_of given = given.inputs.now

abbrev pub setting_of : Given → Setting
setting_of given = setting given.shader.now given.inputs.now given.turns

abbrev pub world_seen : Outside → World
world_seen outside = record { buffers = outside.buffers; outputs = outside.outputs; stores = outside.stores }

abbrev pub state_of : Machine → State
state_of machine = record { values = values_of machine.table.views; world = world_seen machine.outside }
