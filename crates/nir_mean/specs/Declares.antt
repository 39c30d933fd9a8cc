-- The values of a shader and their kinds, in text order, and what each value is before it is written.
use Rattle.std.specs.Prelude.{ℕ, List, [], ◌∷◌, ◌≤◌, ◌<◌, cond, nat_eq, Option}
use Rattle.std.specs.List.{AllByRecursion, flat_map}
use Rattle.std.specs.Option.{option_to_list}
use Rattle.nir_ops.specs.declared.width.Width.TheVariants.{W1}
use Rattle.op_eval.specs.declared.view.View.{View}
use Rattle.nir_ir.specs.declared.ids.ValueId.{ValueId}
use Rattle.nir_ir.specs.declared.instr.Instr.{Instr}
use Rattle.nir_ir.specs.declared.kind.Kind.{Kind}
use Rattle.nir_ir.specs.Items.{Item, BlockHead, PhiItem, InstrItem, JumpItem, IfHead, LoopHead, items}
use Rattle.nir_ir.specs.Nodes.{Nodes}
use Rattle.nir_ir.specs.Parts.{parts}
use Rattle.nir_mean.specs.State.{zeros}
use Rattle.nir_mean.specs.Table.{kinds_of, values_of}

-- a value and its kind
abbrev pub Declared : Type 0
Declared = ValueId × Kind

abbrev pub declared_by : Instr → Option Declared
declared_by instr = (parts instr).defines

abbrev pub declares : Item → List Declared
declares (BlockHead id) = []
declares (PhiItem phi) = (phi.value, phi.kind) ∷ []
declares (InstrItem instr) = option_to_list (declared_by instr)
declares (JumpItem jump) = []
declares (IfHead id condition) = []
declares (LoopHead id) = []

-- the values of a list, in text order
abbrev pub declared : Nodes → List Declared
declared nodes = flat_map declares (items nodes)

-- the kind and the components that a table shows at each number
abbrev pub Shown : Type 0
Shown = ℕ → Kind × List ℕ

abbrev pub shown_of : List View → Shown
shown_of table n = (kinds_of table n, values_of table n)

abbrev pub nothing_shown : Shown
nothing_shown n = (record { width = W1; count = 0 }, [])

-- what a table shows where it is told of these values, a later one in the place of an earlier: each is 0
abbrev pub told_of : List Declared → Shown → Shown
told_of [] before n = before n
told_of (value ∷ values) before n = told_of values (λ m. cond (nat_eq m value.0.0) (value.1, zeros value.1) (before m)) n

-- each value is below this number, and has at most 16 components
abbrev pub FitIn : ℕ → List Declared → Type 0
FitIn limit values = AllByRecursion (λ value. (value.0.0 < limit) × (value.1.count ≤ 16)) values
