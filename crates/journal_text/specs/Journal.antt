-- The steps of an optimisation as text: one line for each, with the numbers that values, effects, ifs and loops have in the shader that the step changed.
use Rattle.std.specs.Prelude.{ℕ, List, ◌++◌, codes, decimal}
use Rattle.std.specs.List.{flat_map}
use Rattle.nir_ir.specs.declared.journal.Step.{Step}
use Rattle.nir_ir.specs.declared.journal.Step.TheVariants as step
use Rattle.nir_ir.specs.declared.journal.Use.{Use}
use Rattle.nir_ir.specs.declared.journal.Use.TheVariants.{OfValue, OfEffect, OfIf}

-- the use that takes the source of a mov
abbrev pub use_text : Use → List ℕ
use_text (OfValue value source) = codes "value " ++ decimal value.0 ++ codes " source " ++ decimal source
use_text (OfEffect effect source) = codes "effect " ++ decimal effect.0 ++ codes " source " ++ decimal source
use_text (OfIf at) = codes "if " ++ decimal at.0

abbrev pub step_text : Step → List ℕ
step_text (step.Rule value rule variant) = codes "rule " ++ decimal rule ++ codes " variant " ++ decimal variant ++ codes " value " ++ decimal value.0
step_text (step.Fold value) = codes "fold value " ++ decimal value.0
step_text (step.Copy at) = codes "copy " ++ use_text at
step_text step.Sweep = codes "sweep"
step_text (step.Phi value) = codes "phi value " ++ decimal value.0
step_text (step.Branch at) = codes "branch " ++ decimal at.0
step_text (step.Empty at) = codes "empty " ++ decimal at.0
step_text (step.Once at) = codes "once " ++ decimal at.0

abbrev pub step_line : Step → List ℕ
step_line step = codes "# " ++ step_text step ++ codes "\n"

abbrev pub journal_text : List Step → List ℕ
journal_text steps = flat_map step_line steps
