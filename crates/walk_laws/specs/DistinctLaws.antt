-- What the parts of a list of nodes define.
use Rattle.std.specs.Prelude.{◌≡◌, refl, ℕ, List, [], ◌∷◌, ◌++◌, map, Option, Some, None}
use Rattle.std.specs.List.{flat_map}
use Rattle.std.specs.Option.{option_to_list}
use Rattle.std.proofs.Common.{◌∙◌, ap, append-nil}
use Rattle.std.proofs.lemmas.Grind.{flat_map-append}
use Rattle.nir_ir.specs.declared.instr.Instr.{Instr}
use Rattle.nir_ir.specs.declared.node.Block.{Block}
use Rattle.nir_ir.specs.declared.node.Jump.{Jump}
use Rattle.nir_ir.specs.declared.node.Phi.{Phi}
use Rattle.nir_ir.specs.Items.{Item, InstrItem, JumpItem, PhiItem, block_items, items, values_defined}
use Rattle.nir_ir.specs.Nodes.{Nodes, BlockThen}
use Rattle.edit_laws.specs.ItemsLaws.{numbers_of, target_numbers}

-- ---- what a block defines: its phis, and then its instructions

abbrev pub phis_define : List Phi → List ℕ
phis_define phis = map (λ phi. phi.value.0) phis

abbrev pub instrs_define : List Instr → List ℕ
instrs_define instrs = flat_map target_numbers instrs

abbrev pub block_defines : Block → List ℕ
block_defines b = phis_define b.phis ++ instrs_define b.instrs

phi_numbers : (phis : List Phi) → flat_map numbers_of (map PhiItem phis) ≡ phis_define phis
phi_numbers [] = refl
phi_numbers (phi ∷ phis) = ap (λ t. phi.value.0 ∷ t) (phi_numbers phis)

instr_numbers : (instrs : List Instr) → flat_map numbers_of (map InstrItem instrs) ≡ instrs_define instrs
instr_numbers [] = refl
instr_numbers (instr ∷ instrs) = ap (λ t. target_numbers instr ++ t) (instr_numbers instrs)

jump_numbers : (jump : Option Jump) → flat_map numbers_of (map JumpItem (option_to_list jump)) ≡ []
jump_numbers None = refl
jump_numbers (Some jump) = refl

block_numbers : (b : Block) → flat_map numbers_of (block_items b) ≡ block_defines b
block_numbers b =
    let phis : List Item = map PhiItem b.phis in
    let instrs : List Item = map InstrItem b.instrs in
    let jumps : List Item = map JumpItem (option_to_list b.jump) in
    flat_map-append numbers_of (phis ++ instrs) jumps
    ∙ ap (λ t. flat_map numbers_of (phis ++ instrs) ++ t) (jump_numbers b.jump)
    ∙ append-nil (flat_map numbers_of (phis ++ instrs))
    ∙ flat_map-append numbers_of phis instrs
    ∙ ap (λ t. t ++ flat_map numbers_of instrs) (phi_numbers b.phis)
    ∙ ap (λ t. phis_define b.phis ++ t) (instr_numbers b.instrs)

-- what a list of nodes defines, part by part
pub defined-block : (b : Block) (rest : Nodes) → values_defined (BlockThen b rest) ≡ block_defines b ++ values_defined rest
defined-block b rest = flat_map-append numbers_of (block_items b) (items rest) ∙ ap (λ t. t ++ values_defined rest) (block_numbers b)

pub defined-if : (first second rest : Nodes) → flat_map numbers_of (items first ++ items second ++ items rest) ≡ (values_defined first ++ values_defined second) ++ values_defined rest
defined-if first second rest =
    flat_map-append numbers_of (items first ++ items second) (items rest) ∙ ap (λ t. t ++ values_defined rest) (flat_map-append numbers_of (items first) (items second))

pub defined-loop : (body rest : Nodes) → flat_map numbers_of (items body ++ items rest) ≡ values_defined body ++ values_defined rest
defined-loop body rest = flat_map-append numbers_of (items body) (items rest)
