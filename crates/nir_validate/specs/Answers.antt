-- What the answers of validation mean.
use Rattle.std.specs.Prelude.{◌≡◌, Some, None}
use Rattle.std.specs.Option.{option_or}
use Rattle.std.proofs.Common.{sym, ◌∙◌, ap}
use Rattle.nir_ir.specs.Shader.{Shader}
use Rattle.nir_validate.specs.declared.fault.ValidateFault.{ValidateFault}
use Rattle.nir_validate.specs.declared.fault.ValidateFault.TheVariants.{Invalid, OutOfMemory}
use Rattle.nir_validate.specs.Least.{least-none}
use Rattle.nir_validate.specs.Valid.{Fault, Valid, first_invalid, first_round, least, second_round}

-- the first rule that is broken, and where; want of memory says nothing
abbrev pub IsFirstInvalid : Shader → ValidateFault → Type 0
IsFirstInvalid s (Invalid rule item) = first_invalid s ≡ Some (record { rule = rule; item = item })
IsFirstInvalid s OutOfMemory = Unit {0}

-- what each round found decides
pub valid_by_rounds : (s : Shader) → None ≡ least (first_round s) → None ≡ least (second_round s) → Valid s
valid_by_rounds s first second = record { parts = least-none (first_round s) (sym first); paths = least-none (second_round s) (sym second) }

pub invalid_by_first : (s : Shader) (fault : Fault) → Some fault ≡ least (first_round s) → first_invalid s ≡ Some fault
unfolding first_invalid
invalid_by_first s fault first = ap (λ found. option_or found (least (second_round s))) (sym first)

pub invalid_by_second : (s : Shader) (fault : Fault) → None ≡ least (first_round s) → Some fault ≡ least (second_round s) → first_invalid s ≡ Some fault
unfolding first_invalid
invalid_by_second s fault first second = ap (λ found. option_or found (least (second_round s))) (sym first) ∙ sym second

pub ruleset by_rounds = (valid_by_rounds, invalid_by_first, invalid_by_second)
