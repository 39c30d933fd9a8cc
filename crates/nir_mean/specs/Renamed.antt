-- Runs under other numbers: states of which one has each named value under its new number, and parts of shaders that lead from such states to such states.
use Rattle.std.specs.Prelude.{◌≡◌, refl, ℕ, zero, suc, Bool, true, false, cond, nat_eq, List, map, Option, Some, None}
use Rattle.std.specs.List.{AllByRecursion}
use Rattle.std.specs.Option.{option_map, option_to_list}
use Rattle.std.proofs.Common.{sym, ◌∙◌, ap, subst}
use Rattle.nir_ir.specs.declared.ids.BlockId.{BlockId}
use Rattle.nir_ir.specs.declared.ids.ValueId.{ValueId}
use Rattle.nir_ir.specs.declared.instr.Instr.{Instr}
use Rattle.nir_ir.specs.declared.node.Jump.{Jump}
use Rattle.nir_ir.specs.declared.node.Jump.TheVariants as jump
use Rattle.nir_ir.specs.Items.{target}
use Rattle.nir_ir.specs.Shaped.{IsOneOf}
use Rattle.nir_mean.specs.declared.outcome.Ending.TheVariants as ending
use Rattle.nir_mean.specs.Outcome.{outcome_of, told}
use Rattle.nir_mean.specs.Run.{Exit, Fall, Break, Continue, Cut, Part, Setting, after_fall, after_turn, jump_exit, run_choice, run_instr, turns, value_of, world_of}
use Rattle.nir_mean.specs.State.{State, with_target}
use Rattle.nir_mean.specs.Values.{Values}

-- the values and blocks that are named, and the new number of each
pub record Renaming : Type 0 where
  pub values : List ℕ
  pub blocks : List ℕ
  pub value : ℕ → ℕ
  pub block : ℕ → ℕ

abbrev pub renamed_value : Renaming → ValueId → ValueId
renamed_value r id = record { 0 = r.value id.0 }

abbrev pub renamed_block : Renaming → BlockId → BlockId
renamed_block r id = record { 0 = r.block id.0 }

-- what is named stays apart
abbrev pub KeepsApart : List ℕ → (ℕ → ℕ) → Type 0
KeepsApart named rename = (m n : ℕ) → IsOneOf named m → IsOneOf named n → nat_eq (rename m) (rename n) ≡ nat_eq m n

-- the block that control comes from is named; none is the entry of the shader
abbrev pub IsNamed : List ℕ → Option BlockId → Type 0
IsNamed blocks None = Unit {0}
IsNamed blocks (Some id) = IsOneOf blocks id.0

-- each named value has its components under its new number
abbrev pub SameValues : Renaming → Values → Values → Type 0
SameValues r f g = (n : ℕ) → IsOneOf r.values n → g (r.value n) ≡ f n

pub record SameState (r : Renaming) (f g : State) : Type 0 where
  pub values : SameValues r f.values g.values
  pub world : g.world ≡ f.world

-- ---- exits

-- an exit of this form, from the same block and in the same state under other numbers
pub record EndsAs (r : Renaming) (form : Option BlockId → State → Exit) (last : Option BlockId) (f : State) (exit : Exit) : Type 0 where
  pub state : State
  pub is : exit ≡ form (option_map (renamed_block r) last) state
  pub same : SameState r f state
  pub named : IsNamed r.blocks last

-- which block a cut run was in is not told
pub record IsCut (r : Renaming) (f : State) (exit : Exit) : Type 0 where
  pub state : State
  pub is : exit ≡ Cut state
  pub same : SameState r f state

abbrev pub SameExit : Renaming → Exit → Exit → Type 0
SameExit r (Fall last f) exit = EndsAs r Fall last f exit
SameExit r (Break last f) exit = EndsAs r Break last f exit
SameExit r (Continue last f) exit = EndsAs r Continue last f exit
SameExit r (Cut f) exit = IsCut r f exit

-- ---- parts

abbrev pub SamePart : Renaming → Part → Part → Type 0
SamePart r first second =
    (last : Option BlockId) (f g : State) → IsNamed r.blocks last → SameState r f g → SameExit r (first last f) (second (option_map (renamed_block r) last) g)

-- what is behind a part
pub after_fall-same : (r : Renaming) (first second : Exit) (behind other : Part) → SameExit r first second → SamePart r behind other
    → SameExit r (after_fall first behind) (after_fall second other)
after_fall-same r (Fall last f) second behind other ends parts =
    subst (λ (e : Exit). SameExit r (behind last f) (after_fall e other)) (sym ends.is) (parts last f ends.state ends.named ends.same)
after_fall-same r (Break last f) second behind other ends parts =
    record { state = ends.state; is = ap (λ e. after_fall e other) ends.is; same = ends.same; named = ends.named }
after_fall-same r (Continue last f) second behind other ends parts =
    record { state = ends.state; is = ap (λ e. after_fall e other) ends.is; same = ends.same; named = ends.named }
after_fall-same r (Cut f) second behind other ends parts = record { state = ends.state; is = ap (λ e. after_fall e other) ends.is; same = ends.same }

-- another turn of a loop
pub after_turn-same : (r : Renaming) (first second : Exit) (again other : Part) → SameExit r first second → SamePart r again other
    → SameExit r (after_turn first again) (after_turn second other)
after_turn-same r (Fall last f) second again other ends parts =
    subst (λ (e : Exit). SameExit r (again last f) (after_turn e other)) (sym ends.is) (parts last f ends.state ends.named ends.same)
after_turn-same r (Break last f) second again other ends parts =
    record { state = ends.state; is = ap (λ e. after_turn e other) ends.is; same = ends.same; named = ends.named }
after_turn-same r (Continue last f) second again other ends parts =
    subst (λ (e : Exit). SameExit r (again last f) (after_turn e other)) (sym ends.is) (parts last f ends.state ends.named ends.same)
after_turn-same r (Cut f) second again other ends parts = record { state = ends.state; is = ap (λ e. after_turn e other) ends.is; same = ends.same }

pub turns-same : (r : Renaming) (n : ℕ) (body other : Part) → SamePart r body other → SamePart r (turns n body) (turns n other)
turns-same r zero body other parts last f g named same =
    after_turn-same r (body last f) (other (option_map (renamed_block r) last) g) (λ _ end. Cut end) (λ _ end. Cut end)
    (parts last f g named same)
    (λ _ a b _ alike. record { state = b; is = refl; same = alike })
turns-same r (suc n) body other parts last f g named same =
    after_turn-same r (body last f) (other (option_map (renamed_block r) last) g) (turns n body) (turns n other)
    (parts last f g named same)
    (turns-same r n body other parts)

pub run_choice-same : (r : Renaming) (test other : Bool) (first second first_other second_other : Part) → other ≡ test → SamePart r first first_other → SamePart r second second_other
    → SamePart r (run_choice test first second) (run_choice other first_other second_other)
run_choice-same r test other first second first_other second_other tells firsts seconds last f g named same =
    subst (λ (b : Bool). SameExit r (run_choice test first second last f) (run_choice b first_other second_other (option_map (renamed_block r) last) g)) (sym tells) (by test)
  where
    by : (b : Bool) → SameExit r (run_choice b first second last f) (run_choice b first_other second_other (option_map (renamed_block r) last) g)
    by true = firsts last f g named same
    by false = seconds last f g named same

pub jump_exit-same : (r : Renaming) (found : Option Jump) (last : Option BlockId) (f g : State) → IsNamed r.blocks last → SameState r f g
    → SameExit r (jump_exit found last f) (jump_exit found (option_map (renamed_block r) last) g)
jump_exit-same r None last f g named same = record { state = g; is = refl; same = same; named = named }
jump_exit-same r (Some jump.Break) last f g named same = record { state = g; is = refl; same = same; named = named }
jump_exit-same r (Some jump.Continue) last f g named same = record { state = g; is = refl; same = same; named = named }

-- ---- instructions

-- the target of an instruction gets the same components under its new number
pub with_target-same : (r : Renaming) (found : Option ValueId) (made other : List ℕ) (f g : Values) → KeepsApart r.values r.value
    → AllByRecursion (IsOneOf r.values) (map (λ id. id.0) (option_to_list found)) → other ≡ made → SameValues r f g
    → SameValues r (with_target found made f) (with_target (option_map (renamed_value r) found) other g)
with_target-same r None made other f g apart named is same n at = same n at
with_target-same r (Some id) made other f g apart named is same n at = λ i. cond (apart n id.0 at named.0 i) (is i) (same n at i)

pub run_instr-same : (r : Renaming) (s t : Setting) (instr other : Instr) (f g : State) → KeepsApart r.values r.value
    → AllByRecursion (IsOneOf r.values) (map (λ id. id.0) (option_to_list (target instr))) → target other ≡ option_map (renamed_value r) (target instr)
    → value_of t other g ≡ value_of s instr f → world_of t other g ≡ world_of s instr f → SameState r f g
    → SameState r (run_instr s instr f) (run_instr t other g)
run_instr-same r s t instr other f g apart named targets made world same = record {
  values = subst (λ (found : Option ValueId). SameValues r (with_target (target instr) (value_of s instr f) f.values) (with_target found (value_of t other g) g.values)) (sym targets)
      (with_target-same r (target instr) (value_of s instr f) (value_of t other g) f.values g.values apart named made same.values);
  world = world;
}

-- ---- outcomes

pub outcome_of-same : (r : Renaming) (first second : Exit) → SameExit r first second → outcome_of first ≡ outcome_of second
outcome_of-same r (Fall last f) second ends = sym (ap outcome_of ends.is ∙ ap (told ending.Done) ends.same.world)
outcome_of-same r (Break last f) second ends = sym (ap outcome_of ends.is ∙ ap (told ending.Done) ends.same.world)
outcome_of-same r (Continue last f) second ends = sym (ap outcome_of ends.is ∙ ap (told ending.Done) ends.same.world)
outcome_of-same r (Cut f) second ends = sym (ap outcome_of ends.is ∙ ap (told ending.Cut) ends.same.world)
