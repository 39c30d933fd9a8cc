-- An instruction makes the same, and does the same, where what it reads is the same: here, and nowhere above, the instructions are told apart.
use Rattle.std.specs.Prelude.{◌≡◌, refl, ℕ, suc, false, cond, nat_eq, List, [], ◌∷◌, ◌++◌, map, Some, slice_get, slice_index}
use Rattle.std.specs.List.{slice_index_or}
use Rattle.std.specs.Option.{option_map_or, unwrap_or}
use Rattle.std.proofs.Common.{◌∙◌, ap}
use Rattle.std.proofs.lemmas.Bool.{eq-eqb}
use Rattle.std.proofs.lemmas.Option.{none-some}
use Rattle.nir_ops.specs.declared.op.Op.{Op}
use Rattle.nir_ops.specs.declared.width.Width.TheVariants.{W1}
use Rattle.nir_ops.specs.Width.{width_bits}
use Rattle.op_eval.specs.Calls.{unsized_width}
use Rattle.op_eval.specs.Views.{view_mean}
use Rattle.nir_ir.specs.declared.ids.ValueId.{ValueId}
use Rattle.nir_ir.specs.declared.kind.Kind.{Kind}
use Rattle.nir_ir.specs.declared.instr.Instr.{Instr}
use Rattle.nir_ir.specs.declared.instr.Instr.TheVariants.{Alu, Const, Undef, Input, Output, LoadBuf, StoreBuf}
use Rattle.nir_ir.specs.declared.instr.Src.{Src}
use Rattle.nir_ir.specs.Definitions.{Kinds, kind_at, kind_of_target, width_in}
use Rattle.nir_ir.specs.Items.{target}
use Rattle.nir_ir.specs.Nodes.{Nodes}
use Rattle.nir_mean.specs.Known.{Equation}
use Rattle.nir_validate.specs.Kept.{IsRead}
use Rattle.nir_mean.specs.Run.{Setting, kind_of, run_instr, run_instrs, scalar, value_of, world_of}
use Rattle.nir_mean.specs.State.{State, load, put_out, store, with_value}
use Rattle.nir_mean.specs.Values.{Values, alu_mean, read, source_sizes}

-- a value of a list of sources
abbrev pub SourceOf : List Src → ValueId → Type 0
SourceOf srcs id = (at : ℕ) × (slice_get (map (λ src. src.value) srcs) at ≡ Some id)

-- sources that have the same components, and the same bit sizes
sources_same : (f g : Values) (srcs : List Src) → ((id : ValueId) → SourceOf srcs id → f id.0 ≡ g id.0) → map (read f) srcs ≡ map (read g) srcs
sources_same f g [] h = refl
sources_same f g (src ∷ srcs) h =
    ap (λ comps. map (λ c. slice_index comps c) src.swizzle ∷ map (read f) srcs) (h src.value (0, refl))
    ∙ ap (λ t. read g src ∷ t) (sources_same f g srcs (λ id at. h id (suc at.0, at.1)))

sizes_same : (kinds other : Kinds) (srcs : List Src) → ((id : ValueId) → SourceOf srcs id → kinds id ≡ other id) → source_sizes kinds srcs ≡ source_sizes other srcs
sizes_same kinds other [] h = refl
sizes_same kinds other (src ∷ srcs) h =
    ap (λ found. option_map_or (λ kind. kind.width) found W1 ∷ source_sizes kinds srcs) (h src.value (0, refl))
    ∙ ap (λ t. width_in other src.value ∷ t) (sizes_same kinds other srcs (λ id at. h id (suc at.0, at.1)))

pub alu_mean-same : (kinds other : Kinds) (op : Op) (kind : Kind) (srcs : List Src) (f g : Values)
    → ((id : ValueId) → SourceOf srcs id → f id.0 ≡ g id.0)
    → ((id : ValueId) → SourceOf srcs id → kinds id ≡ other id)
    → alu_mean kinds op kind srcs f ≡ alu_mean other op kind srcs g
unfolding alu_mean
alu_mean-same kinds other op kind srcs f g values same =
    ap (λ sizes. view_mean op (width_bits (unsized_width op kind.width sizes)) (width_bits kind.width) kind.count (map (read f) srcs)) (sizes_same kinds other srcs same)
    ∙ ap (view_mean op (width_bits (unsized_width op kind.width (source_sizes other srcs))) (width_bits kind.width) kind.count) (sources_same f g srcs values)

-- what an instruction reads has the same components, and has the same kind
abbrev pub SameRead : Instr → Values → Values → Type 0
SameRead instr f g = (id : ValueId) → IsRead instr id → f id.0 ≡ g id.0

abbrev pub SameKinds : Kinds → Kinds → Instr → Type 0
SameKinds kinds other instr = (id : ValueId) → IsRead instr id → kinds id ≡ other id

pub value_of-same : (s t : Setting) (instr : Instr) (f g : State) → s.inputs ≡ t.inputs → SameKinds s.kinds t.kinds instr → SameRead instr f.values g.values → f.world ≡ g.world
    → value_of s instr f ≡ value_of t instr g
value_of-same s t (Alu id op kind srcs) f g inputs kinds same world = alu_mean-same s.kinds t.kinds op kind srcs f.values g.values same kinds
value_of-same s t (Const id kind comps) f g inputs kinds same world = refl
value_of-same s t (Undef id kind) f g inputs kinds same world = refl
value_of-same s t (Input id kind slot) f g inputs kinds same world = ap (λ given. slice_index_or given slot []) inputs
value_of-same s t (Output effect slot src) f g inputs kinds same world = refl
value_of-same s t (LoadBuf id kind buffer offset) f g inputs kinds same world =
    ap (λ w. load w kind buffer (scalar f.values offset)) world ∙ ap (λ comps. load g.world kind buffer (slice_index comps 0)) (same offset (0, refl))
value_of-same s t (StoreBuf effect buffer offset src) f g inputs kinds same world = refl

pub world_of-same : (s t : Setting) (instr : Instr) (f g : State) → SameKinds s.kinds t.kinds instr → SameRead instr f.values g.values → f.world ≡ g.world
    → world_of s instr f ≡ world_of t instr g
world_of-same s t (Alu id op kind srcs) f g kinds same world = world
world_of-same s t (Const id kind comps) f g kinds same world = world
world_of-same s t (Undef id kind) f g kinds same world = world
world_of-same s t (Input id kind slot) f g kinds same world = world
world_of-same s t (Output effect slot src) f g kinds same world = ap (put_out slot (f.values src.0)) world ∙ ap (λ comps. put_out slot comps g.world) (same src (0, refl))
world_of-same s t (LoadBuf id kind buffer offset) f g kinds same world = world
world_of-same s t (StoreBuf effect buffer offset src) f g kinds same world =
    ap (store (record { buffer = buffer; offset = scalar f.values offset; kind = kind_of s.kinds src; comps = f.values src.0 })) world
    ∙ ap (λ comps. store (record { buffer = buffer; offset = slice_index comps 0; kind = kind_of s.kinds src; comps = f.values src.0 }) g.world) (same offset (0, refl))
    ∙ ap (λ comps. store (record { buffer = buffer; offset = scalar g.values offset; kind = kind_of s.kinds src; comps = comps }) g.world) (same src (1, refl))
    ∙ ap (λ found. store (record { buffer = buffer; offset = scalar g.values offset; kind = unwrap_or found (record { width = W1; count = 0 }); comps = g.values src.0 }) g.world) (kinds src (1, refl))

-- the equation of a value goes on where its sources stay
pub Equation-same : (body : Nodes) (instr : Instr) (f g : Values) (comps : List ℕ) → SameRead instr f g → Equation body f instr comps → Equation body g instr comps
Equation-same body (Alu id op kind srcs) f g comps same h = h ∙ alu_mean-same (kind_at body) (kind_at body) op kind srcs f g same (λ _ _. refl)
Equation-same body (Const id kind list) f g comps same h = h
Equation-same body (Undef id kind) f g comps same h = tt
Equation-same body (Input id kind slot) f g comps same h = tt
Equation-same body (Output effect slot src) f g comps same h = tt
Equation-same body (LoadBuf id kind buffer offset) f g comps same h = tt
Equation-same body (StoreBuf effect buffer offset src) f g comps same h = tt

-- what an instruction makes meets its equation
pub Equation-value : (body : Nodes) (inputs : List (List ℕ)) (repeats : ℕ) (instr : Instr) (state : State)
    → Equation body state.values instr (value_of (record { kinds = kind_at body; inputs = inputs; repeats = repeats }) instr state)
Equation-value body inputs repeats (Alu id op kind srcs) state = refl
Equation-value body inputs repeats (Const id kind list) state = refl
Equation-value body inputs repeats (Undef id kind) state = tt
Equation-value body inputs repeats (Input id kind slot) state = tt
Equation-value body inputs repeats (Output effect slot src) state = tt
Equation-value body inputs repeats (LoadBuf id kind buffer offset) state = tt
Equation-value body inputs repeats (StoreBuf effect buffer offset src) state = tt

-- what defines a value does nothing outside of the values, and has a kind
pub world_of-target : (s : Setting) (instr : Instr) (state : State) (id : ValueId) → target instr ≡ Some id → world_of s instr state ≡ state.world
world_of-target s (Alu value op kind srcs) state id is = refl
world_of-target s (Const value kind comps) state id is = refl
world_of-target s (Undef value kind) state id is = refl
world_of-target s (Input value kind slot) state id is = refl
world_of-target s (Output effect slot src) state id is = absurd (none-some id is)
world_of-target s (LoadBuf value kind buffer offset) state id is = refl
world_of-target s (StoreBuf effect buffer offset src) state id is = absurd (none-some id is)

pub kind_of_target-found : (instr : Instr) (id : ValueId) → target instr ≡ Some id → (kind : Kind) × (kind_of_target instr ≡ Some kind)
kind_of_target-found (Alu value op kind srcs) id is = (kind, refl)
kind_of_target-found (Const value kind comps) id is = (kind, refl)
kind_of_target-found (Undef value kind) id is = (kind, refl)
kind_of_target-found (Input value kind slot) id is = (kind, refl)
kind_of_target-found (Output effect slot src) id is = absurd (none-some id is)
kind_of_target-found (LoadBuf value kind buffer offset) id is = (kind, refl)
kind_of_target-found (StoreBuf effect buffer offset src) id is = absurd (none-some id is)

-- a value that is written has its components, and every other has what it had
pub with_value-here : (id : ValueId) (comps : List ℕ) (values : Values) → with_value id comps values id.0 ≡ comps
with_value-here id comps values = ap (λ test. cond test comps (values id.0)) (eq-eqb id.0 id.0 refl)

pub with_value-other : (id : ValueId) (comps : List ℕ) (values : Values) (n : ℕ) → nat_eq n id.0 ≡ false → with_value id comps values n ≡ values n
with_value-other id comps values n other = ap (λ test. cond test comps (values n)) other

-- instructions one after another
pub run_instrs-append : (s : Setting) (first second : List Instr) (state : State) → run_instrs s (first ++ second) state ≡ run_instrs s second (run_instrs s first state)
run_instrs-append s [] second state = refl
run_instrs-append s (instr ∷ first) second state = run_instrs-append s first second (run_instr s instr state)
