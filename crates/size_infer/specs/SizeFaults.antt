-- Why the sizes of a rule are of no use: it has no typing, or its search side leaves sizes of the replacement open, or it has too many typings.
use Rattle.std.specs.Prelude.{◌≡◌, ◌<◌, ℕ, Option, Some, None, List, [], ◌∷◌, length, nat_lt, Result, Ok, Err, if◌then◌else◌}
use Rattle.std.specs.Option.{option_map, option_or}
use Rattle.nir_ops.specs.declared.width.Width.{Width}
use Rattle.rule_term.specs.Rule.{Rule}
use Rattle.rule_term.specs.Typings.{typings}
use Rattle.rule_term.specs.declared.typing.Typing.{Typing}
use Rattle.size_laws.specs.Ambiguous.{IsDefinite, IsFirstAmbiguous, ambiguous_node}
use Rattle.size_infer.specs.declared.fault.SizeFault.{SizeFault}
use Rattle.size_infer.specs.declared.fault.SizeFault.TheVariants.{Contradiction, Ambiguous, TooMany, OutOfMemory}

abbrev pub too_many : List (List Width) → Option SizeFault
too_many list = if nat_lt 64 (length list) then Some TooMany else None

-- by all typings of a rule, and the first node of the replacement that they leave open
abbrev pub fault_of : List (List Width) → Option ℕ → Option SizeFault
fault_of [] first = Some Contradiction
fault_of (one ∷ others) first = option_or (option_map Ambiguous first) (too_many (one ∷ others))

-- the fault of a rule's sizes, None where they are of use
unfoldable pub size_fault : Rule → Option SizeFault
size_fault rule = fault_of (typings rule) (ambiguous_node rule)

-- the answer tells the fault, or that there is none; memory may be wanting at any time
abbrev pub TellsFault : Rule → Result (List Typing) SizeFault → Type 0
TellsFault rule (Ok list) = size_fault rule ≡ None
TellsFault rule (Err Contradiction) = size_fault rule ≡ Some Contradiction
TellsFault rule (Err (Ambiguous node)) = size_fault rule ≡ Some (Ambiguous node)
TellsFault rule (Err TooMany) = size_fault rule ≡ Some TooMany
TellsFault rule (Err OutOfMemory) = Unit {0}

-- what a fault says of the typings; want of memory is no fault of a rule
abbrev pub IsSizeFault : Rule → SizeFault → Type 0
IsSizeFault rule Contradiction = typings rule ≡ []
IsSizeFault rule (Ambiguous node) = IsFirstAmbiguous rule node
IsSizeFault rule TooMany = IsDefinite rule × (64 < length (typings rule))
IsSizeFault rule OutOfMemory = ⊥
