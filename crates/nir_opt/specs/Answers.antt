-- What each status is: its number, its place, the stage at which a run ends with it, and the line that it writes.
use Rattle.std.specs.Prelude.{◌≡◌, ℕ, Bool, true, false, ◌++◌, List, [], ◌∷◌, codes, decimal, Option, Some, None, ◌⊎◌}
use Rattle.std.specs.List.{flat_map}
use Rattle.nir_lex.specs.declared.fault.LexFault.TheVariants.{BadByte, BadNumber}
use Rattle.nir_lex.specs.declared.fault.LexFault.TheVariants as lex
use Rattle.text_bytes.specs.Lists.{numbers_text}
use Rattle.size_infer.specs.declared.fault.SizeFault.{SizeFault}
use Rattle.size_infer.specs.declared.fault.SizeFault.TheVariants as size
use Rattle.term_read.specs.declared.fault.RuleFault.{RuleFault}
use Rattle.term_read.specs.declared.fault.RuleFault.TheVariants as rule
use Rattle.rule_check.specs.declared.refused.Refused.{Refused}
use Rattle.rule_check.specs.declared.refused.RuleCause.{RuleCause}
use Rattle.nir_ops.specs.Opcodes.{name_of}
use Rattle.clause_check.specs.declared.fault.LogFault.{LogFault}
use Rattle.clause_check.specs.declared.fault.LogFault.TheVariants as log
use Rattle.law_derive.specs.declared.fault.DeriveFault.{DeriveFault}
use Rattle.law_derive.specs.declared.fault.DeriveFault.TheVariants as derive
use Rattle.rule_check.specs.declared.refused.RuleCause.TheVariants.{Size, NoEvidence, Cases, TooManyCases, NoCircuit, Log, Derive}
use Rattle.nir_mean.specs.Faults.{fault_place}
use Rattle.nir_mean.specs.ShaderLines.{invalid_line, syntax_line, which_text}
use Rattle.nir_opt.specs.declared.status.Status.{Status}
use Rattle.nir_opt.specs.declared.status.Status.TheVariants.{Usage, ReadFault, WriteFault, RulesSyntax, RuleRefused, ShaderSyntax, ShaderInvalid, OutOfMemory}
use Rattle.nir_opt.specs.declared.status.Status.TheVariants as status

abbrev pub number_of : Status → ℕ
number_of status.Ok = 0
number_of Usage = 2
number_of (ReadFault which) = 3
number_of WriteFault = 4
number_of (RulesSyntax fault) = 5
number_of (RuleRefused refused) = 6
number_of (ShaderSyntax fault) = 7
number_of (ShaderInvalid rule item) = 8
number_of (status.TooLong which) = 9
number_of OutOfMemory = 10

-- ---- faults of a rule text

-- a fault that the text has, and not a want of memory in reading it
abbrev pub is_of_rule_text : RuleFault → Bool
is_of_rule_text (rule.Lex (BadByte place)) = true
is_of_rule_text (rule.Lex (BadNumber place)) = true
is_of_rule_text (rule.Lex lex.OutOfMemory) = false
is_of_rule_text (rule.Expected place) = true
is_of_rule_text (rule.UnknownOp place) = true
is_of_rule_text (rule.Arity place) = true
is_of_rule_text (rule.Unbound place) = true
is_of_rule_text (rule.TooLarge place) = true
is_of_rule_text (rule.BadOption place) = true
is_of_rule_text (rule.Excluded place) = true
is_of_rule_text (rule.Weight place) = true
is_of_rule_text rule.OutOfMemory = false

-- its place in the text, where it is of the text
abbrev pub rule_fault_place : RuleFault → ℕ
rule_fault_place (rule.Lex (BadByte place)) = place
rule_fault_place (rule.Lex (BadNumber place)) = place
rule_fault_place (rule.Lex lex.OutOfMemory) = 0
rule_fault_place (rule.Expected place) = place
rule_fault_place (rule.UnknownOp place) = place
rule_fault_place (rule.Arity place) = place
rule_fault_place (rule.Unbound place) = place
rule_fault_place (rule.TooLarge place) = place
rule_fault_place (rule.BadOption place) = place
rule_fault_place (rule.Excluded place) = place
rule_fault_place (rule.Weight place) = place
rule_fault_place rule.OutOfMemory = 0

-- what it is called, where it is of the text
abbrev pub rule_fault_what : RuleFault → List ℕ
rule_fault_what (rule.Lex (BadByte place)) = codes "bad byte"
rule_fault_what (rule.Lex (BadNumber place)) = codes "bad number"
rule_fault_what (rule.Lex lex.OutOfMemory) = []
rule_fault_what (rule.Expected place) = codes "unexpected"
rule_fault_what (rule.UnknownOp place) = codes "unknown opcode"
rule_fault_what (rule.Arity place) = codes "wrong number of sources"
rule_fault_what (rule.Unbound place) = codes "unbound variable"
rule_fault_what (rule.TooLarge place) = codes "too large"
rule_fault_what (rule.BadOption place) = codes "bad condition"
rule_fault_what (rule.Excluded place) = codes "left out"
rule_fault_what (rule.Weight place) = codes "bad weight"
rule_fault_what rule.OutOfMemory = []

-- the place of a syntax fault, else 0
abbrev pub place_of : Status → ℕ
place_of status.Ok = 0
place_of Usage = 0
place_of (ReadFault which) = 0
place_of WriteFault = 0
place_of (RulesSyntax fault) = rule_fault_place fault
place_of (RuleRefused refused) = 0
place_of (ShaderSyntax fault) = fault_place fault
place_of (ShaderInvalid rule item) = 0
place_of (status.TooLong which) = 0
place_of OutOfMemory = 0

-- ---- lines

abbrev pub at_values : List ℕ → List ℕ
at_values [] = []
at_values (value ∷ values) = codes " at " ++ numbers_text (value ∷ values)

abbrev pub size_text : SizeFault → List ℕ
size_text size.Contradiction = codes "no sizes"
size_text (size.Ambiguous node) = codes "node " ++ decimal node ++ codes " has no size"
size_text size.TooMany = codes "too many sizes"
size_text size.OutOfMemory = []

-- a step behind these words, with what is wrong with it
abbrev pub step_text : List ℕ → ℕ → List ℕ → List ℕ
step_text front step what = front ++ decimal step ++ what

abbrev pub derive_text : DeriveFault → List ℕ
derive_text (derive.NoLaw step) = step_text (codes "derivation step ") step (codes ": no law")
derive_text (derive.BadPath step) = step_text (codes "derivation step ") step (codes ": bad path")
derive_text (derive.NoMatch step) = step_text (codes "derivation step ") step (codes ": no match")
derive_text (derive.CondMissing step) = step_text (codes "derivation step ") step (codes ": condition missing")
derive_text derive.WrongEnd = codes "derivation ends elsewhere"
derive_text derive.OutOfMemory = []

abbrev pub log_text : LogFault → List ℕ
log_text log.TooLong = codes "log too long"
log_text (log.BadHint step) = step_text (codes "log step ") step (codes ": bad hint")
log_text (log.NotUnit step) = step_text (codes "log step ") step (codes ": not a unit")
log_text log.NoEmpty = codes "log has no empty clause"
log_text log.OutOfMemory = []

abbrev pub cause_text : RuleCause → List ℕ
cause_text (Size fault) = size_text fault
cause_text NoEvidence = codes "no evidence"
cause_text (Cases values) = codes "cases differ" ++ at_values values
cause_text TooManyCases = codes "too many cases"
cause_text (NoCircuit op) = codes "no circuit for " ++ name_of op
cause_text (Log fault) = log_text fault
cause_text (Derive fault) = derive_text fault

abbrev pub typing_text : Option ℕ → List ℕ
typing_text None = []
typing_text (Some typing) = codes " typing " ++ decimal typing

-- a rule that is not accepted, and why
abbrev pub refusal_text : Refused → List ℕ
refusal_text refused = codes "rule " ++ decimal refused.rule ++ typing_text refused.typing ++ codes ": " ++ cause_text refused.cause

abbrev pub refusal_line : List ℕ → Refused → List ℕ
refusal_line front refused = front ++ refusal_text refused ++ codes "\n"

-- one line for each rule that is left out
abbrev pub skipped_text : List Refused → List ℕ
skipped_text refused = flat_map (refusal_line (codes "skipped ")) refused

abbrev pub rules_line : RuleFault → List ℕ
rules_line fault = codes "rules: byte " ++ decimal (rule_fault_place fault) ++ codes ": " ++ rule_fault_what fault ++ codes "\n"

abbrev pub usage_line : List ℕ
usage_line = codes "usage: nir_opt RULES [--limit=N] [--option=NAME] [--remarks] [--skip]\n"

abbrev pub check_usage_line : List ℕ
check_usage_line = codes "usage: nir_opt check RULES\n"

-- the line of a status, or nothing, where this is told of the words
abbrev pub line_with : List ℕ → Status → List ℕ
line_with usage status.Ok = []
line_with usage Usage = usage
line_with usage (ReadFault which) = codes "read failed: " ++ which_text which ++ codes "\n"
line_with usage WriteFault = codes "write failed\n"
line_with usage (RulesSyntax fault) = rules_line fault
line_with usage (RuleRefused refused) = refusal_line (codes "rules: ") refused
line_with usage (ShaderSyntax fault) = syntax_line fault
line_with usage (ShaderInvalid rule item) = invalid_line rule item
line_with usage (status.TooLong which) = codes "too long: " ++ which_text which ++ codes "\n"
line_with usage OutOfMemory = codes "out of memory\n"

abbrev pub stopped_text : ℕ → List ℕ
stopped_text rewrites = codes "stopped at " ++ decimal rewrites ++ codes " rewrites\n"

-- a status whose line is one of a few
abbrev pub has_plain_line : Status → Bool
has_plain_line status.Ok = true
has_plain_line Usage = true
has_plain_line (ReadFault which) = true
has_plain_line WriteFault = true
has_plain_line (RulesSyntax fault) = false
has_plain_line (RuleRefused refused) = false
has_plain_line (ShaderSyntax fault) = false
has_plain_line (ShaderInvalid rule item) = false
has_plain_line (status.TooLong which) = true
has_plain_line OutOfMemory = true

-- the line of a status: built, or one of a few
abbrev pub IsLine : List ℕ → Option (List ℕ) → Status → Type 0
IsLine usage None status = has_plain_line status ≡ true
IsLine usage (Some line) status = line ≡ line_with usage status

-- the status that is told for one: want of memory for its line takes its place
abbrev pub IsToldAs : Status → Status → Type 0
IsToldAs status answer = (answer ≡ status) ⊎ (answer ≡ OutOfMemory) × (has_plain_line status ≡ false)
