-- The first round as one pass over the items: what is found so far, and the number of the next item.
use Rattle.std.specs.Prelude.{ℕ, ◌+◌, ◌-◌, ◌^◌, Bool, min, List, [], ◌∷◌, Option, Some, None}
use Rattle.std.specs.List.{list_all}
use Rattle.nir_ir.specs.declared.ids.ValueId.{ValueId}
use Rattle.nir_ir.specs.declared.instr.Instr.{Instr}
use Rattle.nir_ir.specs.declared.node.Block.{Block}
use Rattle.nir_ir.specs.declared.node.Jump.{Jump}
use Rattle.nir_ir.specs.declared.node.Phi.{Phi}
use Rattle.nir_ir.specs.Nodes.{Nodes}
use Rattle.nir_ir.specs.Shader.{Shader}
use Rattle.nir_validate.specs.declared.first.Pass.{Pass}
use Rattle.nir_validate.specs.Least.{sooner}
use Rattle.nir_validate.specs.Rules.{Kinds, Spot, condition_kind, has_kind, instr_is_declared, instr_kinds_fit, instr_names_components, spots}
use Rattle.nir_validate.specs.Valid.{Fault, least, spot_faults, unless}

-- the number of the next item, which stands still at the end of its type
abbrev pub counted : ℕ → ℕ
counted at = min (at + 1) (2 ^ 64 - 1)

-- one item passed, and items in order
abbrev pub passed_one : Kinds → Shader → Pass → Spot → Pass
passed_one kinds s pass spot = record { at = counted pass.at; found = sooner pass.found (least (spot_faults kinds s spot pass.at)) }

abbrev pub passed : Kinds → Shader → Pass → List Spot → Pass
passed kinds s pass [] = pass
passed kinds s pass (spot ∷ rest) = passed kinds s (passed_one kinds s pass spot) rest

abbrev pub passed_in : Kinds → Shader → Bool → Pass → Nodes → Pass
passed_in kinds s in_loop pass nodes = passed kinds s pass (spots in_loop nodes)

-- the items of each sort: heads, phis, instructions, jumps and conditions
abbrev pub next_item : Pass → Option Fault → Pass
next_item pass found = record { at = counted pass.at; found = found }

abbrev pub passed_head : Pass → Pass
passed_head pass = next_item pass pass.found

abbrev pub passed_phi : Kinds → Pass → Phi → Pass
passed_phi kinds pass phi = next_item pass (sooner pass.found (least (unless (list_all (λ source. has_kind kinds source.value phi.kind) phi.sources) 1 pass.at)))

abbrev pub passed_phis : Kinds → Pass → List Phi → Pass
passed_phis kinds pass [] = pass
passed_phis kinds pass (phi ∷ phis) = passed_phis kinds (passed_phi kinds pass phi) phis

abbrev pub passed_instr : Kinds → Shader → Pass → Instr → Pass
passed_instr kinds s pass instr =
    next_item pass (sooner (sooner (sooner pass.found
    (least (unless (instr_kinds_fit kinds instr) 1 pass.at)))
    (least (unless (instr_is_declared kinds s instr) 2 pass.at)))
    (least (unless (instr_names_components kinds instr) 8 pass.at)))

abbrev pub passed_instrs : Kinds → Shader → Pass → List Instr → Pass
passed_instrs kinds s pass [] = pass
passed_instrs kinds s pass (instr ∷ instrs) = passed_instrs kinds s (passed_instr kinds s pass instr) instrs

abbrev pub passed_jump : Bool → Pass → Option Jump → Pass
passed_jump in_loop pass None = pass
passed_jump in_loop pass (Some jump) = next_item pass (sooner pass.found (least (unless in_loop 4 pass.at)))

abbrev pub passed_if : Kinds → Pass → ValueId → Pass
passed_if kinds pass condition = next_item pass (sooner pass.found (least (unless (has_kind kinds condition condition_kind) 9 pass.at)))

abbrev pub passed_block : Kinds → Shader → Bool → Pass → Block → Pass
passed_block kinds s in_loop pass b = passed_jump in_loop (passed_instrs kinds s (passed_phis kinds (passed_head pass) b.phis) b.instrs) b.jump
