-- What a rule puts in the place of the instruction at which it matches: the opcodes and numbers of its replacement in postorder, each with a fresh value but the last.
use Rattle.std.specs.Prelude.{ℕ, suc, ℤ, List, [], ◌∷◌, ◌++◌, replicate, drop}
use Rattle.std.specs.List.{range_with_len}
use Rattle.nir_ops.specs.declared.op.Op.TheVariants.{Mov}
use Rattle.nir_ops.specs.declared.width.Width.{Width}
use Rattle.nir_ops.specs.Width.{width_bits}
use Rattle.op_eval.specs.Word.{residue}
use Rattle.nir_ir.specs.declared.ids.ValueId.{ValueId}
use Rattle.nir_ir.specs.declared.kind.Kind.{Kind}
use Rattle.nir_ir.specs.declared.instr.Src.{Src}
use Rattle.nir_ir.specs.declared.instr.Instr.{Instr}
use Rattle.nir_ir.specs.declared.instr.Instr.TheVariants.{Alu, Const}
use Rattle.nir_ir.specs.Edits.{replaced}
use Rattle.nir_ir.specs.Shader.{Shader}
use Rattle.rule_term.specs.Terms.{Terms, Nil, VarThen, LitThen, AppThen}
use Rattle.rule_term.specs.Typings.{size_of, first_of}
use Rattle.nir_search.specs.declared.hit.Bind.{Bind}
use Rattle.nir_search.specs.Match.{front}

-- a view, and all components of a value, as a source
abbrev pub view_source : Bind → Src
view_source view = record { value = view.value; swizzle = view.comps }

abbrev pub whole_source : ValueId → ℕ → Src
whole_source value count = record { value = value; swizzle = range_with_len 0 count }

-- what variable k is bound to
abbrev pub bound_to : List Bind → ℕ → Bind
bound_to subst var = front (drop var subst)

-- a number in each component
abbrev pub const_instr : ValueId → Kind → ℤ → Instr
const_instr value kind number = Const value kind (replicate kind.count (residue (width_bits kind.width) number))

-- the instructions that make terms which stand one after another, the sources by which their values are read, and the next fresh number
pub record Made : Type 0 where
  pub instrs : List Instr
  pub sources : List Src
  pub next : ℕ

-- the terms have nodes of these bit sizes in preorder, and so many components
abbrev pub made : List Bind → ℕ → Terms → List Width → ℕ → Made
made subst count Nil widths next = record { instrs = []; sources = []; next = next }
made subst count (VarThen var constant size cond rest) widths next =
    let more : Made = made subst count rest (drop 1 widths) next in
    record { instrs = more.instrs; sources = view_source (bound_to subst var) ∷ more.sources; next = more.next }
made subst count (LitThen number boolean rest) widths next =
    let more : Made = made subst count rest (drop 1 widths) (suc next) in
    record {
      instrs = const_instr (record { 0 = next }) (record { width = first_of widths; count = count }) number ∷ more.instrs;
      sources = whole_source (record { 0 = next }) count ∷ more.sources;
      next = more.next;
    }
made subst count (AppThen op size once args rest) widths next =
    let inner : Made = made subst count args (drop 1 widths) next in
    let more : Made = made subst count rest (drop (suc (size_of args)) widths) (suc inner.next) in
    record {
      instrs = inner.instrs ++ Alu (record { 0 = inner.next }) op (record { width = first_of widths; count = count }) inner.sources ∷ more.instrs;
      sources = whole_source (record { 0 = inner.next }) count ∷ more.sources;
      next = more.next;
    }

-- the instructions of a replacement whose root has this value, and the next fresh number; a variable alone is moved
pub record Root : Type 0 where
  pub instrs : List Instr
  pub next : ℕ

abbrev pub root_of : List Bind → ValueId → ℕ → Terms → List Width → ℕ → Root
root_of subst value count Nil widths next = record { instrs = []; next = next }
root_of subst value count (VarThen var constant size cond rest) widths next =
    record { instrs = Alu value Mov (record { width = first_of widths; count = count }) (view_source (bound_to subst var) ∷ []) ∷ []; next = next }
root_of subst value count (LitThen number boolean rest) widths next =
    record { instrs = const_instr value (record { width = first_of widths; count = count }) number ∷ []; next = next }
root_of subst value count (AppThen op size once args rest) widths next =
    let inner : Made = made subst count args (drop 1 widths) next in
    record { instrs = inner.instrs ++ Alu value op (record { width = first_of widths; count = count }) inner.sources ∷ []; next = inner.next }

-- the shader with those instructions in the place of the one that defines the value
abbrev pub put_root : Shader → ValueId → Root → Shader
put_root s value root =
    record { inputs = s.inputs; outputs = s.outputs; buffers = s.buffers; body = replaced value root.instrs s.body; next_value = root.next }
