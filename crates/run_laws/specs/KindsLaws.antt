-- A run asks for the kinds of the values that are used, and of no other.
use Rattle.std.specs.Prelude.{◌≡◌, refl, ℕ, zero, suc, List, [], ◌∷◌, Some, nat_eq, slice_get}
use Rattle.std.specs.List.{AllByRecursion}
use Rattle.std.proofs.Common.{◌∙◌, ap, subst}
use Rattle.std.proofs.lemmas.Option.{none-some, same_Some}
use Rattle.nir_ir.specs.declared.instr.Instr.{Instr}
use Rattle.nir_ir.specs.Definitions.{Kinds}
use Rattle.nir_ir.specs.Items.{Item, InstrItem, items, reads, target, uses}
use Rattle.nir_ir.specs.Nodes.{Nodes, Nil, BlockThen, IfThen, LoopThen}
use Rattle.nir_mean.specs.Reads.{SameKinds, value_of-same, world_of-same}
use Rattle.nir_mean.specs.Run.{Setting, after_fall, jump_exit, run_choice, run_instr, run_instrs, run_list, run_phis, scalar, turns, value_of, world_of}
use Rattle.nir_mean.specs.State.{State, with_target}
use Rattle.run_laws.specs.ItemsLaws.{OfNodes, of_items}

-- each value that an item uses has the same kind in both
abbrev pub UsesAlike : Kinds → Kinds → Item → Type 0
UsesAlike kinds other item = AllByRecursion (λ id. kinds id ≡ other id) (uses item)

-- the run of a list is the same, from every block and in every state, where the kinds of what it uses are
abbrev pub RunsByKinds : Type 0
RunsByKinds =
    (nodes : Nodes) (s t : Setting) → s.inputs ≡ t.inputs → s.repeats ≡ t.repeats → AllByRecursion (UsesAlike s.kinds t.kinds) (items nodes)
    → run_list s nodes ≡ run_list t nodes

pub all_get : {A : Type 0} (P : A → Type 0) (list : List A) → AllByRecursion P list → (a : A) (at : ℕ) → slice_get list at ≡ Some a → P a
all_get P [] all a at found = absurd (none-some a found)
all_get P (first ∷ list) all a zero found = subst P (same_Some first a found) all.0
all_get P (first ∷ list) all a (suc at) found = all_get P list all.1 a at found

module _ (s t : Setting) (inputs : s.inputs ≡ t.inputs) (repeats : s.repeats ≡ t.repeats) where
  instr_alike : (instr : Instr) → UsesAlike s.kinds t.kinds (InstrItem instr) → (state : State) → run_instr s instr state ≡ run_instr t instr state
  instr_alike instr all state =
      let kinds : SameKinds s.kinds t.kinds instr = λ id at. all_get (λ v. s.kinds v ≡ t.kinds v) (reads instr) all id at.0 at.1 in
      let made : value_of s instr state ≡ value_of t instr state = value_of-same s t instr state state inputs kinds (λ _ _. refl) refl in
      let done : world_of s instr state ≡ world_of t instr state = world_of-same s t instr state state kinds (λ _ _. refl) refl in
      λ i. record { values = with_target (target instr) (made i) state.values; world = done i }

  instrs_alike : (instrs : List Instr) → AllByRecursion (λ instr. UsesAlike s.kinds t.kinds (InstrItem instr)) instrs → (state : State) → run_instrs s instrs state ≡ run_instrs t instrs state
  instrs_alike [] all state = refl
  instrs_alike (instr ∷ instrs) all state = ap (run_instrs s instrs) (instr_alike instr all.0 state) ∙ instrs_alike instrs all.1 (run_instr t instr state)

  nodes_alike : (nodes : Nodes) → OfNodes (UsesAlike s.kinds t.kinds) nodes → run_list s nodes ≡ run_list t nodes
  nodes_alike Nil all = refl
  nodes_alike (BlockThen b rest) all =
      let next = nodes_alike rest all.1 in
      λ i from state. after_fall (jump_exit b.jump (Some b.id) (instrs_alike b.instrs all.0.1 (record state { values = run_phis from b.phis state.values }) i)) (next i)
  nodes_alike (IfThen id condition first second rest) all =
      let one = nodes_alike first all.1 in
      let two = nodes_alike second all.2 in
      let next = nodes_alike rest all.3 in
      λ i from state. after_fall (run_choice (nat_eq (scalar state.values condition) 1) (one i) (two i) from state) (next i)
  nodes_alike (LoopThen id body rest) all =
      let inside = nodes_alike body all.0 in
      let next = nodes_alike rest all.1 in
      λ i from state. after_fall (turns (repeats i) (inside i) from state) (next i)

pub run_list-kinds : RunsByKinds
run_list-kinds nodes s t inputs repeats all = nodes_alike s t inputs repeats nodes (of_items (UsesAlike s.kinds t.kinds) nodes all)
