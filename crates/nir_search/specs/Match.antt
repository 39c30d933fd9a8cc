-- Where a rule matches, after nir_search of Mesa's NIR: a walk along the search side and along what the shader computes, in which each variable takes one view.
use Rattle.op_eval.specs.Calls.{same_width}
use Rattle.std.specs.Prelude.{ℕ, ℤ, Bool, true, false, not, ◌&&◌, Option, Some, None, List, [], ◌∷◌, ◌++◌, map, replicate, nat_eq, slice_index, slice_get, slice_set, if◌then◌else◌, is_some, drop}
use Rattle.std.specs.List.{list_all, list_any, range_with_len, slice_index_or}
use Rattle.std.specs.Option.{option_and_then, option_map, option_map_or, option_to_list}
use Rattle.std.specs.List.{flat_map}
use Rattle.std.specs.Str.{bytes_eq}
use Rattle.std.specs.Cmp.Lexicographic.{pointwise}
use Rattle.nir_ops.specs.declared.op.Op.{Op}
use Rattle.nir_ops.specs.declared.width.Width.{Width}
use Rattle.nir_ops.specs.Width.{width_bits}
use Rattle.op_eval.specs.Word.{residue}
use Rattle.nir_ir.specs.declared.ids.ValueId.{ValueId}
use Rattle.nir_ir.specs.declared.instr.Src.{Src}
use Rattle.nir_ir.specs.Definitions.{alu_at, const_at, kind_at, width_at}
use Rattle.nir_ir.specs.Uses.{use_count}
use Rattle.nir_ir.specs.Nodes.{Nodes}
use Rattle.nir_ops.specs.contracts.op.Op as op
use denote.Enum.Bare.{sameb}
use Rattle.rule_term.specs.declared.cond.Cond.{Cond}
use Rattle.rule_term.specs.declared.cond.Cond.TheVariants.{NotConst, UsedOnce}
use Rattle.rule_term.specs.Conditions.{cond_holds}
use Rattle.rule_term.specs.Terms.{Terms, Nil, VarThen, LitThen, AppThen}
use Rattle.rule_term.specs.Rule.{Rule}
use Rattle.rule_term.specs.Typings.{search_part, typings}
use Rattle.rule_term.specs.Variants.{bits_behind, bits_left, is_swapped}
use Rattle.nir_search.specs.declared.hit.Bind.{Bind}

-- A view of a value: which of its components stand in each place. It is written as what a variable is bound to.

-- all components of a value, in order
abbrev pub whole_view : ValueId → ℕ → Bind
whole_view value count = record { value = value; comps = range_with_len 0 count }

-- what a source of an instruction is, of which these components are viewed
abbrev pub child : List ℕ → Src → Bind
child comps src = record { value = src.value; comps = map (λ c. slice_index src.swizzle c) comps }

-- whether all components of a view are those of a const and pass a test of words
abbrev pub viewed_const : (ℕ → Bool) → Option (List ℕ) → Bind → Bool
viewed_const test None view = false
viewed_const test (Some comps) view = list_all (λ c. test (slice_index comps c)) view.comps

-- the view is a const of this number, modulo 2 to its bit size
abbrev pub is_literal : Nodes → ℤ → Bind → Bool
is_literal body value view = viewed_const (λ word. nat_eq word (residue (width_bits (width_at body view.value)) value)) (const_at body view.value) view

-- the view meets a condition
abbrev pub meets : Nodes → Bind → Cond → Bool
meets body view NotConst = not (is_some (const_at body view.value))
meets body view UsedOnce = nat_eq (use_count view.value body) 1
meets body view cond = viewed_const (λ word. cond_holds cond (width_bits (width_at body view.value)) word) (const_at body view.value) view

-- the view is one that the variable takes
abbrev pub is_taken : Nodes → Bool → Option Cond → Bind → Bool
is_taken body constant cond view =
    (if constant then is_some (const_at body view.value) else true) && option_map_or (meets body view) cond true

-- one value with one list of components
abbrev pub same_view : Bind → Bind → Bool
same_view a b = nat_eq a.value.0 b.value.0 && bytes_eq a.comps b.comps

-- What the variables are bound to so far; None is not bound.
-- a variable takes a view: it is bound to it, or was bound to it before
abbrev pub bind_slot : Option (Option Bind) → ℕ → Bind → List (Option Bind) → Option (List (Option Bind))
bind_slot None var view bound = None
bind_slot (Some None) var view bound = Some (slice_set bound var (Some view))
bind_slot (Some (Some old)) var view bound = if same_view old view then Some bound else None

abbrev pub bind : ℕ → Bind → List (Option Bind) → Option (List (Option Bind))
bind var view bound = bind_slot (slice_get bound var) var view bound

-- the first two change places
abbrev pub swapped : Bool → List Src → List Src
swapped true (a ∷ b ∷ rest) = b ∷ a ∷ rest
swapped flag srcs = srcs

-- the views of the sources of the instruction that writes the viewed value, in the order in which the variant meets them
abbrev pub children_of : Option (Op × List Src) → Bool → List ℕ → List Bind
children_of None flag comps = []
children_of (Some alu) flag comps = map (child comps) (swapped flag alu.1)

abbrev pub children : Nodes → Bool → Bind → List Bind
children body flag view = children_of (alu_at body view.value) flag view.comps

abbrev pub same_op : Op → Op → Bool
same_op a b = sameb op.the_type a b

-- the value is written by this opcode
abbrev pub has_op : Op → Option (Op × List Src) → Bool
has_op wanted None = false
has_op wanted (Some alu) = same_op alu.0 wanted

-- and has exactly one use where that is asked
abbrev pub is_applied : Nodes → Op → Bool → Bind → Bool
is_applied body op once view = has_op op (alu_at body view.value) && (if once then nat_eq (use_count view.value body) 1 else true)

-- the view at the front, and one of nothing where there is none
abbrev pub front : List Bind → Bind
front views = slice_index_or views 0 (record { value = record { 0 = 0 }; comps = [] })

-- what the variables are bound to after terms were matched with views, one after another
abbrev pub matches : Nodes → Terms → ℕ → List Bind → List (Option Bind) → Option (List (Option Bind))
matches body Nil bits views bound = Some bound
matches body (VarThen var constant size cond rest) bits views bound =
    if is_taken body constant cond (front views)
    then option_and_then (matches body rest bits (drop 1 views)) (bind var (front views) bound)
    else None
matches body (LitThen value boolean rest) bits views bound =
    if is_literal body value (front views) then matches body rest bits (drop 1 views) bound else None
matches body (AppThen op size once args rest) bits views bound =
    if is_applied body op once (front views)
    then option_and_then
    (matches body rest (bits_behind args (bits_left op bits)) (drop 1 views))
    (matches body args (bits_left op bits) (children body (is_swapped op bits) (front views)) bound)
    else None

-- the bit sizes of the values that are met, in preorder of the terms
abbrev pub met : Nodes → Terms → ℕ → List Bind → List Width
met body Nil bits views = []
met body (VarThen var constant size cond rest) bits views = width_at body (front views).value ∷ met body rest bits (drop 1 views)
met body (LitThen value boolean rest) bits views = width_at body (front views).value ∷ met body rest bits (drop 1 views)
met body (AppThen op size once args rest) bits views =
    width_at body (front views).value
    ∷ met body args (bits_left op bits) (children body (is_swapped op bits) (front views))
    ++ met body rest (bits_behind args (bits_left op bits)) (drop 1 views)

-- the bit sizes are those of the search side in one of the typings
unfoldable pub is_typed : Rule → List Width → Bool
is_typed rule widths = list_any (λ typing. pointwise same_width (search_part rule typing) widths) (typings rule)

-- the substitution, where each variable is bound
abbrev pub all_bound : List (Option Bind) → List Bind
all_bound bound = flat_map option_to_list bound

-- the view from which a match begins
abbrev pub root_view : Nodes → ValueId → Bind
root_view body value = whole_view value (option_map_or (λ kind. kind.count) (kind_at body value) 0)

-- the views that the variables of the rule take where this variant of it matches at the value
unfoldable pub match_of : Rule → ℕ → Nodes → ValueId → Option (List Bind)
match_of rule variant body value =
    if is_typed rule (met body rule.search variant (root_view body value ∷ []))
    then option_map all_bound (matches body rule.search variant (root_view body value ∷ []) (replicate rule.vars None))
    else None
