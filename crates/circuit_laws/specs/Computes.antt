-- What it is for an opcode's circuit to be right, whatever its sources are.
use Rattle.std.specs.Prelude.{◌≡◌, ℕ, Bool, true, List, [], ◌∷◌, map, length}
use Rattle.nir_ops.specs.declared.op.Op.{Op}
use Rattle.nir_ops.specs.declared.width.Width.{Width}
use Rattle.nir_ops.specs.Width.{width_bits}
use Rattle.op_eval.specs.Meaning.{op_mean}
use Rattle.circuit_laws.specs.Literals.{Lit, word}
use Rattle.circuit_laws.specs.Gates.{AreMade, AreBelow, AreOrdered}
use Rattle.circuit_laws.specs.Blocks.{Block, behind}
use Rattle.circuit_laws.specs.Opcodes.{op_circuit}

-- words of these sizes
abbrev pub AreSized : List Width → List (List Lit) → Type 0
AreSized [] [] = Unit {0}
AreSized [] (x ∷ xs) = ⊥
AreSized (w ∷ ws) [] = ⊥
AreSized (w ∷ ws) (x ∷ xs) = (length x ≡ width_bits w) × AreSized ws xs

abbrev pub AllBelow : ℕ → List (List Lit) → Type 0
AllBelow n [] = Unit {0}
AllBelow n (x ∷ xs) = AreBelow n x × AllBelow n xs

-- a block makes a word of so many bits behind this variable, from what stands before
pub record IsBlock (n d : ℕ) (block : Block) : Type 0 where
  pub long : length block.word ≡ d
  pub ordered : AreOrdered n block.gates
  pub below : AreBelow (behind n block.gates) block.word

-- wherever variable 0 is true and each gate makes what it is to make, the word stands for this number
abbrev pub StandsFor : ℕ → Block → ((ℕ → Bool) → ℕ) → Type 0
StandsFor n block value = (α : ℕ → Bool) → α 0 ≡ true → AreMade α n block.gates → word α block.word ≡ value α

abbrev pub words_values : (ℕ → Bool) → List (List Lit) → List ℕ
words_values α words = map (word α) words

-- the circuit makes a word of d bits that stands for what the opcode gives at the unsized bit size w
pub record Computes (op : Op) (w d n : ℕ) (words : List (List Lit)) : Type 0 where
  pub block : IsBlock n d (op_circuit op d words n)
  pub value : StandsFor n (op_circuit op d words n) (λ α. op_mean op w d (words_values α words))
