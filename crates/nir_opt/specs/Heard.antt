-- What a sink took of several texts, one after another, of which none is written behind a fault.
use Rattle.std.specs.Prelude.{◌≡◌, ℕ, Bool, true, false, List, Option, Some}
use Rattle.nir_host.specs.Faults.{Rose}
use Rattle.nir_host.specs.Told.{Gains}
use Rattle.nir_host.specs.Whole.{TakesFront}

-- a text that was taken whole without a fault, or of which a front was taken with one
abbrev pub IsHeard : Option (List ℕ) → Option (List ℕ) → ℕ → ℕ → List ℕ → Bool → Type 0
IsHeard before now faults_before faults_now text true = Gains before now text × (faults_now ≡ faults_before)
IsHeard before now faults_before faults_now text false =
    Rose faults_before faults_now × ((taken : List ℕ) → before ≡ Some taken → TakesFront taken now text)

-- what was done with one text more: where all before it was taken, this; else nothing
abbrev pub Hears : Option (List ℕ) → Option (List ℕ) → ℕ → ℕ → List ℕ → Bool → Bool → Type 0
Hears before now faults_before faults_now text true heard = IsHeard before now faults_before faults_now text heard
Hears before now faults_before faults_now text false heard = (now ≡ before) × (faults_now ≡ faults_before) × (heard ≡ false)
