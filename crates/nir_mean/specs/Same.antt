-- Shaders that mean the same: they declare the same slots and buffers, and do the same for all inputs, all contents of the buffers and every number of repeats.
use Rattle.std.specs.Prelude.{◌≡◌, refl, ◌<◌, ℕ, List, [], ◌∷◌, length}
use Rattle.std.specs.List.{AllByRecursion}
use Rattle.std.proofs.Common.{◌∙◌, subst}
use Rattle.nir_ir.specs.declared.kind.Kind.{Kind}
use Rattle.nir_ir.specs.Shader.{Shader}
use Rattle.nir_mean.specs.Known.{HasKind}
use Rattle.nir_mean.specs.Outcome.{outcome}

-- components for each input slot, as its kind says
abbrev pub InputsFit : List Kind → List (List ℕ) → Type 0
InputsFit [] [] = Unit {0}
InputsFit [] (comps ∷ inputs) = ⊥
InputsFit (kind ∷ kinds) [] = ⊥
InputsFit (kind ∷ kinds) (comps ∷ inputs) = HasKind kind comps × InputsFit kinds inputs

-- so many buffers of bytes
pub record BuffersFit (declared : ℕ) (buffers : List (List ℕ)) : Type 0 where
  pub count : length buffers ≡ declared
  pub bytes : AllByRecursion (AllByRecursion (λ byte. byte < 256)) buffers

pub record Same (s t : Shader) : Type 0 where
  pub inputs : s.inputs ≡ t.inputs
  pub outputs : s.outputs ≡ t.outputs
  pub buffers : s.buffers ≡ t.buffers
  pub outcomes : (inputs buffers : List (List ℕ)) (repeats : ℕ) → InputsFit s.inputs inputs → BuffersFit s.buffers buffers
      → outcome s inputs buffers repeats ≡ outcome t inputs buffers repeats

-- sameness goes from one shader to the next
pub Same-refl : (s : Shader) → Same s s
Same-refl s = record { inputs = refl; outputs = refl; buffers = refl; outcomes = λ _ _ _ _ _. refl }

pub Same-trans : (s t u : Shader) → Same s t → Same t u → Same s u
Same-trans s t u first second = record {
  inputs = first.inputs ∙ second.inputs;
  outputs = first.outputs ∙ second.outputs;
  buffers = first.buffers ∙ second.buffers;
  outcomes = λ inputs buffers repeats given bytes.
      first.outcomes inputs buffers repeats given bytes
      ∙ second.outcomes inputs buffers repeats (subst (λ (kinds : List Kind). InputsFit kinds inputs) first.inputs given) (subst (λ (n : ℕ). BuffersFit n buffers) first.buffers bytes);
}
