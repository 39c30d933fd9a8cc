-- Which rules of a file are accepted: those whose sizes have no fault and that have good evidence at each typing. A rule that is not is refused, with the reason.
-- It is told of what a file says, where no evidence holds a pointer; the options of a rule play no part.
use Rattle.std.specs.Prelude.{◌+◌, ℕ, Bool, false, Option, Some, None, List, [], ◌∷◌, ◌++◌, map, filter, is_none, nat_eq, cond, slice_get, option_to_list}
use Rattle.std.specs.List.{find}
use Rattle.std.specs.Option.{option_map, option_or}
use denote.Enum.Bare.{sameb}
use Rattle.nir_ops.specs.contracts.op.Op as op
use Rattle.nir_ops.specs.declared.op.Op.{Op}
use Rattle.nir_ops.specs.declared.width.Width.{Width}
use Rattle.rule_term.specs.declared.when.When.TheVariants.{Always}
use Rattle.rule_term.specs.Rule.{Rule}
use Rattle.rule_term.specs.Typings.{typings}
use Rattle.rule_term.specs.Weights.{initial_weight}
use Rattle.size_infer.specs.SizeFaults.{size_fault}
use Rattle.size_infer.specs.declared.fault.SizeFault.{SizeFault}
use Rattle.rule_spelling.specs.Files as said
use Rattle.rule_spelling.specs.Files.{Entry, Line, LogStep, Proof, Step, WeightLine}
use Rattle.rule_read.specs.declared.entry.Entry as code
use Rattle.rule_read.specs.Says.{entry_says, line_says}
use Rattle.law_derive.specs.Derivations.{derivation_fault}
use Rattle.clause_check.specs.declared.clause.LogStep as checked
use Rattle.clause_check.specs.declared.fault.LogFault.{LogFault}
use Rattle.clause_check.specs.Logs.{log_fault}
use Rattle.circuit_laws.specs.RuleClauses.{first_without, rule_clauses}
use Rattle.rule_check.specs.declared.cases.Trial.{Trial}
use Rattle.rule_check.specs.declared.cases.Trial.TheVariants.{Equal, Differ, TooMany}
use Rattle.rule_check.specs.declared.refused.RuleCause.{RuleCause}
use Rattle.rule_check.specs.declared.refused.RuleCause.TheVariants as cause
use Rattle.rule_check.specs.declared.refused.Refused.{Refused}
use Rattle.rule_check.specs.Cases.{trial_of}

-- a rule, and the lines of evidence that are said for it
pub record Claim : Type 0 where
  pub rule : Rule
  pub lines : List Line

-- a rule that is said, without its options
abbrev pub bare : said.Rule → Rule
bare rule = record { number = rule.number; search = rule.search; replace = rule.replace; when = Always; vars = rule.vars }

abbrev pub claim_said : Entry → Claim
claim_said entry = record { rule = bare entry.rule; lines = entry.lines }

-- what an entry of the code claims
abbrev pub claim_of : code.Entry → Claim
claim_of entry = record { rule = entry.rule; lines = map line_says entry.lines }

-- a line is for the typing of this number alone, or for all
abbrev pub is_number : ℕ → Option ℕ → Bool
is_number number None = false
is_number number (Some typing) = nat_eq typing number

abbrev pub is_by : ℕ → Line → Bool
is_by number line = is_number number line.typing

abbrev pub is_by_all : Line → Bool
is_by_all line = is_none line.typing

-- the evidence at the typing of this number: the first line for it alone, and only where there is none, the first for all
abbrev pub chosen_line : ℕ → List Line → Option Proof
chosen_line number lines = option_map (λ line. line.proof) (option_or (find (is_by number) lines) (find is_by_all lines))

abbrev pub cause_of_trial : Trial → Option RuleCause
cause_of_trial Equal = None
cause_of_trial (Differ values) = Some (cause.Cases values)
cause_of_trial TooMany = Some cause.TooManyCases

-- what is wrong with a derivation at a typing
abbrev pub cause_of_derivation : Rule → List Width → List Step → Option RuleCause
cause_of_derivation rule widths steps = option_map cause.Derive (derivation_fault (record { rule = rule; widths = widths }) steps)

-- a step of a log that is said, as it is checked
abbrev pub checked_step : LogStep → checked.LogStep
checked_step step = record { clause = step.clause; hints = step.hints }

-- the fault of a log that begins with the clauses of the rule
abbrev pub fault_of_log : Rule → List Width → List LogStep → Option LogFault
fault_of_log rule widths log = log_fault (rule_clauses rule widths) (map checked_step log)

-- what is wrong with a log at a typing: the first opcode without a circuit, and only where there is none, the fault of the log
abbrev pub cause_of_log : Rule → List Width → List LogStep → Option RuleCause
cause_of_log rule widths log = option_or (option_map cause.NoCircuit (first_without rule)) (option_map cause.Log (fault_of_log rule widths log))

-- what is wrong with the evidence at a typing, None where nothing is
abbrev pub cause_by : Rule → List Width → Option Proof → Option RuleCause
cause_by rule widths None = Some cause.NoEvidence
cause_by rule widths (Some said.Cases) = cause_of_trial (trial_of rule widths)
cause_by rule widths (Some (said.Derive steps)) = cause_of_derivation rule widths steps
cause_by rule widths (Some (said.Logged log)) = cause_of_log rule widths log

unfoldable pub cause_at : Claim → ℕ → List Width → Option RuleCause
cause_at claim number widths = cause_by claim.rule widths (chosen_line number claim.lines)

abbrev pub refused_at : Claim → ℕ → RuleCause → Refused
refused_at claim number cause = record { rule = claim.rule.number; typing = Some number; cause = cause }

abbrev pub refused_by_size : Claim → SizeFault → Refused
refused_by_size claim fault = record { rule = claim.rule.number; typing = None; cause = cause.Size fault }

-- the first typing without good evidence, where these have the numbers from this one on
abbrev pub refused_among : Claim → ℕ → List (List Width) → Option Refused
refused_among claim number [] = None
refused_among claim number (widths ∷ rest) = option_or (option_map (refused_at claim number) (cause_at claim number widths)) (refused_among claim (number + 1) rest)

abbrev pub refused_for : Claim → Option SizeFault → Option Refused
refused_for claim (Some fault) = Some (refused_by_size claim fault)
refused_for claim None = refused_among claim 0 (typings claim.rule)

-- why the rule of a claim is refused, None where it is accepted
unfoldable pub refusal_on : Claim → Option Refused
refusal_on claim = refused_for claim (size_fault claim.rule)

-- and that of an entry which a file says
unfoldable pub refusal_of : Entry → Option Refused
refusal_of entry = refusal_on (claim_said entry)

-- the refusals of a file, and the first of them, in the order of the file
abbrev pub refusals : List Entry → List Refused
refusals [] = []
refusals (entry ∷ rest) = option_to_list (refusal_of entry) ++ refusals rest

abbrev pub first_refusal : List Entry → Option Refused
first_refusal entries = slice_get (refusals entries) 0

-- ---- files of the code

abbrev pub entries_say : List code.Entry → List Entry
entries_say entries = map entry_says entries

abbrev pub accepts : code.Entry → Bool
accepts entry = is_none (refusal_of (entry_says entry))

abbrev pub rules_of : List code.Entry → List Rule
rules_of entries = map (λ entry. entry.rule) entries

-- the accepted rules, in the order of the file
abbrev pub accepted : List code.Entry → List Rule
accepted entries = rules_of (filter accepts entries)

-- the weight of an opcode by these lines, or this one where none names it
abbrev pub weight_or : List WeightLine → ℕ → Op → ℕ
weight_or [] weight o = weight
weight_or (line ∷ rest) weight o = cond (sameb op.the_type line.op o) line.weight (weight_or rest weight o)

-- the weight of an opcode in a file
abbrev pub weight_in : List WeightLine → Op → ℕ
weight_in weights o = weight_or weights (initial_weight o) o
