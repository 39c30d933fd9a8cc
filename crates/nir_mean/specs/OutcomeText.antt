-- The lines that tell an outcome: how it ended, each store in order, each output.
use Rattle.std.specs.Prelude.{ℕ, suc, List, [], ◌∷◌, ◌++◌, codes, decimal}
use Rattle.std.specs.List.{flat_map}
use Rattle.text_bytes.specs.Lists.{numbers_text}
use Rattle.nir_mean.specs.declared.outcome.Ending.{Ending}
use Rattle.nir_mean.specs.declared.outcome.Ending.TheVariants.{Done, Cut}
use Rattle.nir_mean.specs.declared.outcome.Outcome.{Outcome}
use Rattle.nir_mean.specs.declared.outcome.Stored.{Stored}

abbrev pub ending_text : Ending → List ℕ
ending_text Done = codes "end done\n"
ending_text Cut = codes "end cut\n"

abbrev pub store_text : Stored → List ℕ
store_text made =
    codes "store @" ++ decimal made.buffer ++ codes " " ++ decimal made.offset ++ codes " (" ++ numbers_text made.comps ++ codes ")\n"

-- the outputs of the slots from this one on
abbrev pub outputs_text : ℕ → List (List ℕ) → List ℕ
outputs_text slot [] = []
outputs_text slot (comps ∷ outputs) =
    codes "output @" ++ decimal slot ++ codes " (" ++ numbers_text comps ++ codes ")\n" ++ outputs_text (suc slot) outputs

unfoldable pub outcome_text : Outcome → List ℕ
outcome_text o = ending_text o.ending ++ flat_map store_text o.stores ++ outputs_text 0 o.outputs
