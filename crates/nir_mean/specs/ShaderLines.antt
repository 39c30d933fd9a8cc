-- What the lines of statuses say of a shader: the fault of its text, the rule that it breaks; which of two texts a line is about; and what a sink takes of a line.
use Rattle.std.specs.Prelude.{◌≡◌, ◌⊎◌, ℕ, List, ◌++◌, codes, decimal, Option, Some}
use Rattle.nir_host.specs.declared.fault.Which.{Which}
use Rattle.nir_host.specs.declared.fault.Which.TheVariants.{Rules, Shader}
use Rattle.nir_host.specs.Faults.{Rose}
use Rattle.nir_host.specs.Whole.{TakesFront}
use Rattle.nir_text.specs.declared.fault.TextFault.{TextFault}
use Rattle.nir_mean.specs.Faults.{fault_text}

-- a text that is not in the grammar
abbrev pub syntax_line : TextFault → List ℕ
syntax_line fault = codes "shader: " ++ fault_text fault ++ codes "\n"

-- the rule that is broken, and the item that breaks it
abbrev pub invalid_line : ℕ → ℕ → List ℕ
invalid_line rule item = codes "shader: V" ++ decimal rule ++ codes " at item " ++ decimal item ++ codes "\n"

abbrev pub which_text : Which → List ℕ
which_text Rules = codes "rules"
which_text Shader = codes "shader"

-- a sink that tells what it takes took the line, or a fault of it was counted and it took a front of the line
abbrev pub TakesLine : Option (List ℕ) → Option (List ℕ) → ℕ → ℕ → List ℕ → Type 0
TakesLine before now faults_before faults_now line =
    (taken : List ℕ) → before ≡ Some taken → (now ≡ Some (taken ++ line)) ⊎ (Rose faults_before faults_now × TakesFront taken now line)
