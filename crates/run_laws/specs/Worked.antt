-- A worked example: inside a loop a const takes the place of the sum of two consts, which stand before the loop.
use Rattle.std.specs.Prelude.{◌≡◌, refl, ℕ, List, [], ◌∷◌, Some, None, slice_index}
use Rattle.std.proofs.Common.{sym, ◌∙◌, ap}
use Rattle.nir_ops.specs.declared.op.Op.TheVariants.{Iadd}
use Rattle.nir_ops.specs.declared.width.Width.TheVariants.{W8}
use Rattle.nir_ops.specs.Opcodes.{op_info, row_of}
use Rattle.op_eval.specs.Calls.{unsized_width}
use Rattle.op_eval.specs.Meaning.{meaning, op_mean}
use Rattle.op_eval.specs.Views.{shape_of, view_mean}
use Rattle.op_eval.specs.Word.{residue}
use Rattle.nir_ir.specs.declared.ids.ValueId.{ValueId}
use Rattle.nir_ir.specs.declared.instr.Instr.{Instr}
use Rattle.nir_ir.specs.declared.instr.Instr.TheVariants.{Alu, Const, Output}
use Rattle.nir_ir.specs.declared.instr.Src.{Src}
use Rattle.nir_ir.specs.declared.kind.Kind.{Kind}
use Rattle.nir_ir.specs.declared.node.Jump.TheVariants.{Break}
use Rattle.nir_ir.specs.Definitions.{kind_at}
use Rattle.nir_ir.specs.Edits.{with_news}
use Rattle.nir_ir.specs.Nodes.{BlockThen, LoopThen, Nil}
use Rattle.nir_ir.specs.Shader.{Shader}
use Rattle.nir_mean.specs.Values.{alu_mean}
use Rattle.run_laws.specs.EquationsLaws.{const_value, makings_tell}
use Rattle.run_laws.specs.InPlace.{ComputesSame}
use Rattle.run_laws.specs.Makings.{makings_of}

abbrev value : ℕ → ValueId
value n = record { 0 = n }

abbrev byte : Kind
byte = record { width = W8; count = 1 }

abbrev first_of : ℕ → Src
first_of n = record { value = value n; swizzle = 0 ∷ [] }

abbrev sum : Instr
sum = Alu (value 2) Iadd byte (first_of 0 ∷ first_of 1 ∷ [])

abbrev shader : Shader
shader = record {
  inputs = [];
  outputs = byte ∷ [];
  buffers = 0;
  body = BlockThen (record { id = record { 0 = 0 }; phis = []; instrs = Const (value 0) byte (200 ∷ []) ∷ Const (value 1) byte (100 ∷ []) ∷ []; jump = None })
      (LoopThen (record { 0 = 0 }) (BlockThen (record { id = record { 0 = 1 }; phis = []; instrs = sum ∷ Output (record { 0 = 0 }) 0 (value 2) ∷ []; jump = Some Break }) Nil)
      (BlockThen (record { id = record { 0 = 2 }; phis = []; instrs = []; jump = None }) Nil));
  next_value = 3;
}

abbrev folded : List Instr
folded = Const (value 2) byte (44 ∷ []) ∷ []

pub fold_worked : ComputesSame shader (with_news shader (value 2) folded 3) (value 2) sum folded
unfolding alu_mean view_mean shape_of unsized_width op_info row_of op_mean meaning residue
fold_worked inputs repeats set f g given good closed tied =
    let kinds = kind_at (with_news shader (value 2) folded 3).body in
    let makings = makings_of kinds shader.body in
    let tells = makings_tell kinds shader.body in
    let first : f.values 0 ≡ 200 ∷ [] = const_value kinds makings shader.body tells set f tied.known (value 0) byte (200 ∷ []) (good.reads (value 0) (0, refl)) refl in
    let second : f.values 1 ≡ 100 ∷ [] = const_value kinds makings shader.body tells set f tied.known (value 1) byte (100 ∷ []) (good.reads (value 1) (1, refl)) refl in
    sym (ap (λ comps. op_mean Iadd 8 8 (slice_index comps 0 ∷ slice_index (f.values 1) 0 ∷ []) ∷ []) first
    ∙ ap (λ comps. op_mean Iadd 8 8 (200 ∷ slice_index comps 0 ∷ []) ∷ []) second)
