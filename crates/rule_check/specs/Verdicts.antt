-- What a verdict means: an accepted rule holds, and a refused one has exactly the fault that is told.
use Rattle.std.specs.Prelude.{◌≡◌, ◌<◌, ◌≤◌, ℕ, true, Option, None, Some, List, ◌∷◌, ◌++◌, length, slice_get, Result, Ok, Err}
use Rattle.std.specs.List.{AllByRecursion}
use Rattle.std.specs.Cmp.Lexicographic.{slice_cmp}
use Rattle.std.specs.Ordering.{nat_cmp}
use Rattle.std.specs.declared.cmp.Ordering.TheVariants.{Less}
use Rattle.nir_ops.specs.declared.width.Width.{Width}
use Rattle.rule_term.specs.Rule.{Rule}
use Rattle.rule_term.specs.Table.{Table}
use Rattle.rule_term.specs.Formed.{IsFormed}
use Rattle.rule_term.specs.Typings.{search_part, replace_part, typings}
use Rattle.rule_term.specs.Holds.{values_of, are_words, are_met, EqualAt, Holds}
use Rattle.size_infer.specs.SizeFaults.{IsSizeFault, size_fault}
use Rattle.rule_spelling.specs.Files as said
use Rattle.rule_spelling.specs.Files.{Proof}
use Rattle.law_derive.specs.declared.fault.DeriveFault.{DeriveFault}
use Rattle.law_derive.specs.Derivations.{derivation_fault}
use Rattle.clause_check.specs.declared.fault.LogFault.{LogFault}
use Rattle.circuit_laws.specs.RuleClauses.{first_without}
use Rattle.rule_read.specs.declared.entry.Entry.{Entry}
use Rattle.rule_read.specs.Says.{entry_says}
use Rattle.rule_check.specs.declared.refused.RuleCause.{RuleCause}
use Rattle.rule_check.specs.declared.refused.RuleCause.TheVariants as cause
use Rattle.rule_check.specs.declared.refused.Refused.{Refused}
use Rattle.rule_check.specs.declared.refused.CheckFault.{CheckFault}
use Rattle.rule_check.specs.declared.refused.CheckFault.TheVariants as fault
use Rattle.rule_check.specs.Accepted.{chosen_line, Claim, claim_of, fault_of_log, refusal_of}
use Rattle.circuit_laws.specs.Variables.{free_bits}

-- both sides have one value where the variables have these values
abbrev pub AreEqualAt : Rule → List Width → List ℕ → Type 0
AreEqualAt rule widths values = values_of rule.search (search_part rule widths) values ≡ values_of rule.replace (replace_part rule widths) values

-- there is a word of its size for each variable, and they meet the conditions
pub record MayStand (rule : Rule) (widths : List Width) (values : List ℕ) : Type 0 where
  pub count : length values ≡ rule.vars
  pub words : are_words rule widths values ≡ true
  pub met : are_met rule widths values ≡ true

-- of the values that may stand, these are the first in lexicographic order at which the sides differ
pub record IsFirstDifference (rule : Rule) (widths : List Width) (values : List ℕ) : Type 0 where
  pub may_stand : MayStand rule widths values
  pub differ : AreEqualAt rule widths values → ⊥
  pub first : (others : List ℕ) → MayStand rule widths others → slice_cmp nat_cmp others values ≡ Less → AreEqualAt rule widths others

-- the evidence is the trial of all cases
abbrev pub IsTrial : Option Proof → Type 0
IsTrial None = ⊥
IsTrial (Some said.Cases) = Unit {0}
IsTrial (Some (said.Derive steps)) = ⊥
IsTrial (Some (said.Logged log)) = ⊥

-- it is a derivation, with this fault
abbrev pub IsDerivedWith : Rule → List Width → DeriveFault → Option Proof → Type 0
IsDerivedWith rule widths wrong None = ⊥
IsDerivedWith rule widths wrong (Some said.Cases) = ⊥
IsDerivedWith rule widths wrong (Some (said.Derive steps)) = derivation_fault (record { rule = rule; widths = widths }) steps ≡ Some wrong
IsDerivedWith rule widths wrong (Some (said.Logged log)) = ⊥

-- it is a log
abbrev pub IsLog : Option Proof → Type 0
IsLog None = ⊥
IsLog (Some said.Cases) = ⊥
IsLog (Some (said.Derive steps)) = ⊥
IsLog (Some (said.Logged log)) = Unit {0}

-- it is a log of a rule whose opcodes all have circuits, with this fault
abbrev pub IsLoggedWith : Rule → List Width → LogFault → Option Proof → Type 0
IsLoggedWith rule widths wrong None = ⊥
IsLoggedWith rule widths wrong (Some said.Cases) = ⊥
IsLoggedWith rule widths wrong (Some (said.Derive steps)) = ⊥
IsLoggedWith rule widths wrong (Some (said.Logged log)) = (first_without rule ≡ None) × (fault_of_log rule widths log ≡ Some wrong)

-- it goes through: all cases can be tried, nothing is wrong with the derivation, or each opcode has a circuit and nothing is wrong with the log
abbrev pub GoesThrough : Rule → List Width → Option Proof → Type 0
GoesThrough rule widths None = ⊥
GoesThrough rule widths (Some said.Cases) = free_bits rule widths ≤ 16
GoesThrough rule widths (Some (said.Derive steps)) = derivation_fault (record { rule = rule; widths = widths }) steps ≡ None
GoesThrough rule widths (Some (said.Logged log)) = (first_without rule ≡ None) × (fault_of_log rule widths log ≡ None)

-- the evidence at a typing is good: it goes through, and the sides are equal
pub record IsGood (rule : Rule) (widths : List Width) (evidence : Option Proof) : Type 0 where
  pub through : GoesThrough rule widths evidence
  pub equal : EqualAt rule widths

-- it is not, for this cause
abbrev pub IsBad : Rule → List Width → Option Proof → RuleCause → Type 0
IsBad rule widths evidence (cause.Size fault) = ⊥
IsBad rule widths evidence cause.NoEvidence = evidence ≡ None
IsBad rule widths evidence (cause.Cases values) = IsTrial evidence × (free_bits rule widths ≤ 16) × IsFirstDifference rule widths values
IsBad rule widths evidence cause.TooManyCases = IsTrial evidence × (16 < free_bits rule widths)
IsBad rule widths evidence (cause.NoCircuit op) = IsLog evidence × (first_without rule ≡ Some op)
IsBad rule widths evidence (cause.Log wrong) = IsLoggedWith rule widths wrong evidence
IsBad rule widths evidence (cause.Derive wrong) = IsDerivedWith rule widths wrong evidence

-- each typing before this one has good evidence
abbrev pub AreGoodBefore : Claim → ℕ → Type 0
AreGoodBefore claim number = (k : ℕ) (widths : List Width) → k < number → slice_get (typings claim.rule) k ≡ Some widths → IsGood claim.rule widths (chosen_line k claim.lines)

-- the first typing without good evidence
pub record IsFirstBad (claim : Claim) (number : ℕ) (cause : RuleCause) : Type 0 where
  pub sizes : size_fault claim.rule ≡ None
  pub widths : List Width
  pub at : slice_get (typings claim.rule) number ≡ Some widths
  pub bad : IsBad claim.rule widths (chosen_line number claim.lines) cause
  pub before : AreGoodBefore claim number

-- the cause is the fault of the sizes, or that of the first typing without good evidence
abbrev pub IsCause : Claim → Option ℕ → RuleCause → Type 0
IsCause claim None (cause.Size fault) = IsSizeFault claim.rule fault
IsCause claim None cause.NoEvidence = ⊥
IsCause claim None (cause.Cases values) = ⊥
IsCause claim None cause.TooManyCases = ⊥
IsCause claim None (cause.NoCircuit op) = ⊥
IsCause claim None (cause.Log wrong) = ⊥
IsCause claim None (cause.Derive wrong) = ⊥
IsCause claim (Some number) cause = IsFirstBad claim number cause

pub record IsRefusal (claim : Claim) (refused : Refused) : Type 0 where
  pub rule : refused.rule ≡ claim.rule.number
  pub cause : IsCause claim refused.typing refused.cause

abbrev pub HasHolding : Entry → Type 0
HasHolding entry = Holds entry.rule

-- a rule of these entries is refused, and all rules before it hold
pub record IsFirstRefused (entries : List Entry) (refused : Refused) : Type 0 where
  pub before : List Entry
  pub entry : Entry
  pub behind : List Entry
  pub placed : entries ≡ before ++ entry ∷ behind
  pub hold : AllByRecursion HasHolding before
  pub refusal : IsRefusal (claim_of entry) refused

-- what the answer for these entries tells of their rules
abbrev pub IsJust : List Entry → Result Table CheckFault → Type 0
IsJust entries (Ok table) = AllByRecursion HasHolding entries
IsJust entries (Err (fault.Refused refused)) = IsFirstRefused entries refused
IsJust entries (Err fault.OutOfMemory) = Unit {0}

-- an accepted rule holds
abbrev pub AcceptedHold : Type 0
AcceptedHold = (entry : Entry) → IsFormed entry.rule → refusal_of (entry_says entry) ≡ None → Holds entry.rule

-- what is told of a refused rule is so
abbrev pub RefusedAreJust : Type 0
RefusedAreJust = (entry : Entry) (refused : Refused) → IsFormed entry.rule → refusal_of (entry_says entry) ≡ Some refused → IsRefusal (claim_of entry) refused
