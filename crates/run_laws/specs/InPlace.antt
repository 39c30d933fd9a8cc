-- Instructions in the place of the one that defines a value, which compute what it computes wherever what is known holds: a step by a rule,
-- a fold and a lowering are such.
use Rattle.std.specs.Prelude.{◌≡◌, ℕ, nat_lt, List}
use Rattle.nir_ir.specs.declared.ids.ValueId.{ValueId}
use Rattle.nir_ir.specs.declared.instr.Instr.{Instr}
use Rattle.nir_ir.specs.Definitions.{kind_at}
use Rattle.nir_ir.specs.Edits.{with_news}
use Rattle.nir_ir.specs.Shader.{Shader}
use Rattle.nir_ir.specs.Shaped.{IsShaped}
use Rattle.nir_validate.specs.Edges.{Set}
use Rattle.nir_validate.specs.Valid.{Valid}
use Rattle.walk_laws.specs.PlacedLaws.{IsInPlace}
use Rattle.nir_mean.specs.Run.{run_instrs, value_of}
use Rattle.nir_mean.specs.Same.{InputsFit, Same}
use Rattle.nir_mean.specs.State.{State}
use Rattle.run_laws.specs.Agree.{Agree, basis_in}
use Rattle.run_laws.specs.Known.{Basis, InstrGood, under}
use Rattle.run_laws.specs.Makings.{Closed, makings_of}
use Rattle.run_laws.specs.Simulates.{Tied}

-- the numbers of the values of a shader
abbrev pub values_below : ℕ → Set
values_below next n = nat_lt n next

-- the shader by the kinds that values have behind the change, and by the equations of its own instructions
abbrev pub basis_for : Shader → Shader → Basis
basis_for s t = basis_in s (kind_at t.body) (makings_of (kind_at t.body) s.body)

-- wherever the old instruction stands, in states of both runs that agree on the values of the first shader, the new ones make the value what
-- the old one makes it
abbrev pub ComputesSame : Shader → Shader → ValueId → Instr → List Instr → Type 0
ComputesSame s t value old news =
    (inputs : List (List ℕ)) (repeats : ℕ) (set : Set) (f g : State) → InputsFit s.inputs inputs
    → InstrGood (basis_for s t) set old → Closed (makings_of (kind_at t.body) s.body) set
    → Tied (basis_for s t) (Agree (values_below s.next_value)) set f g
    → (run_instrs (under (basis_for s t) inputs repeats) news g).values value.0 ≡ value_of (under (basis_for s t) inputs repeats) old f

-- what a step keeps
pub record Keeps (s t : Shader) : Type 0 where
  pub shaped : IsShaped t
  pub valid : Valid t
  pub same : Same s t

abbrev pub InPlaceKeeps : Type 0
InPlaceKeeps =
    (s : Shader) (value : ValueId) (old : Instr) (news : List Instr) (after : ℕ) → IsShaped s → Valid s → IsInPlace s value old news after
    → ComputesSame s (with_news s value news after) value old news → Keeps s (with_news s value news after)
