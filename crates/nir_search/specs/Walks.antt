-- What a part of a match answers: none where it fails, else what the variables are bound to behind it.
use Rattle.std.specs.Prelude.{◌≡◌, ℕ, Bool, true, false, List, [], ◌∷◌, map, Option, Some, None}
use Rattle.nir_ops.specs.declared.op.Op.{Op}
use Rattle.nir_ops.specs.Width.{width_bits}
use Rattle.nir_ir.specs.declared.ids.ValueId.{ValueId}
use Rattle.nir_ir.specs.declared.instr.Src.{Src}
use Rattle.nir_ir.specs.Definitions.{const_at, width_at}
use Rattle.nir_ir.specs.Nodes.{Nodes}
use Rattle.rule_term.specs.declared.cond.Cond.{Cond}
use Rattle.rule_term.specs.Conditions.{cond_holds}
use Rattle.rule_term.specs.Terms.{Terms}
use Rattle.nir_search.specs.declared.hit.Bind.{Bind}
use Rattle.rule_term.specs.Variants.{bits_behind}
use Rattle.nir_search.specs.Match.{matches, is_applied, children, child, swapped, viewed_const}

-- terms were matched with views: the answer says whether they match, and which bits of the variant are left
abbrev pub Walks : Nodes → Terms → ℕ → List Bind → List (Option Bind) → Option ℕ → List (Option Bind) → Type 0
Walks body terms bits views before None after = matches body terms bits views before ≡ None
Walks body terms bits views before (Some left) after = (matches body terms bits views before ≡ Some after) × (left ≡ bits_behind terms bits)

-- no view of the value matches the terms, whatever is bound
abbrev pub NeverMatches : Nodes → Terms → ValueId → Type 0
NeverMatches body terms value = (bits : ℕ) (view : Bind) (bound : List (Option Bind)) → view.value ≡ value → matches body terms bits (view ∷ []) bound ≡ None

-- the view is one of a const, and its components meet a condition on words
abbrev pub words_meet : Nodes → Cond → Bind → Bool
words_meet body cond view = viewed_const (λ word. cond_holds cond (width_bits (width_at body view.value)) word) (const_at body view.value) view

-- the sources of the instruction that writes the viewed value, where it is of the opcode and, where that is asked, has one use
abbrev pub IsSources : Nodes → Op → Bool → Bind → Option (List Src) → Type 0
IsSources body op once view None = is_applied body op once view ≡ false
IsSources body op once view (Some srcs) = (is_applied body op once view ≡ true) × ((flag : Bool) → children body flag view ≡ map (child view.comps) (swapped flag srcs))
