-- What an instruction under other numbers reads is what the instruction reads, under these numbers.
use Rattle.std.specs.Prelude.{◌≡◌, refl, List, [], ◌∷◌, map}
use Rattle.nir_ir.specs.declared.instr.Instr.{Instr}
use Rattle.nir_ir.specs.declared.instr.Instr.TheVariants.{Alu, Const, Undef, Input, Output, LoadBuf, StoreBuf}
use Rattle.nir_ir.specs.declared.instr.Src.{Src}
use Rattle.nir_ir.specs.Items.{reads}
use Rattle.nir_print.specs.Renumber.{Numbers, new_instr, new_src, new_value}

src_reads : (numbers : Numbers) (srcs : List Src) → map (λ src. src.value) (map (new_src numbers) srcs) ≡ map (new_value numbers) (map (λ src. src.value) srcs)
src_reads numbers [] = refl
src_reads numbers (src ∷ srcs) = λ i. new_value numbers src.value ∷ src_reads numbers srcs i

pub reads-new_instr : (numbers : Numbers) (instr : Instr) → reads (new_instr numbers instr) ≡ map (new_value numbers) (reads instr)
reads-new_instr numbers (Alu value op kind srcs) = src_reads numbers srcs
reads-new_instr numbers (Const value kind comps) = refl
reads-new_instr numbers (Undef value kind) = refl
reads-new_instr numbers (Input value kind slot) = refl
reads-new_instr numbers (Output effect slot src) = refl
reads-new_instr numbers (LoadBuf value kind buffer offset) = refl
reads-new_instr numbers (StoreBuf effect buffer offset src) = refl
