-- What each status is: its number, and the line that it writes.
use Rattle.std.specs.Prelude.{◌≡◌, ◌⊎◌, ℕ, Bool, true, false, ◌++◌, List, [], codes, decimal, Option, Some, None}
use Rattle.nir_ops.specs.declared.op.Op.{Op}
use Rattle.nir_ops.specs.Opcodes.{name_of}
use Rattle.nir_lex.specs.declared.fault.LexFault.TheVariants.{BadByte, BadNumber}
use Rattle.nir_lex.specs.declared.fault.LexFault.TheVariants as lex
use Rattle.size_infer.specs.declared.fault.SizeFault.{SizeFault}
use Rattle.size_infer.specs.declared.fault.SizeFault.TheVariants as size
use Rattle.term_read.specs.declared.fault.RuleFault.{RuleFault}
use Rattle.term_read.specs.declared.fault.RuleFault.TheVariants as rule
use Rattle.rule_clauses.specs.declared.status.Status.{Status}
use Rattle.rule_clauses.specs.declared.status.Status.TheVariants.{Usage, ReadFault, WriteFault, RulesSyntax, NoRule, NoSizes, NoTyping, NoCircuit}
use Rattle.rule_clauses.specs.declared.status.Status.TheVariants as status

abbrev pub number_of : Status → ℕ
number_of status.Ok = 0
number_of Usage = 2
number_of ReadFault = 3
number_of WriteFault = 4
number_of (RulesSyntax fault) = 5
number_of status.TooLong = 9
number_of status.OutOfMemory = 10
number_of (NoRule number) = 20
number_of (NoSizes number fault) = 21
number_of (NoTyping number typing) = 22
number_of (NoCircuit number op) = 23

-- ---- faults of a rule text

-- a fault that the text has, and not a want of memory in reading it
abbrev pub is_of_text : RuleFault → Bool
is_of_text (rule.Lex (BadByte place)) = true
is_of_text (rule.Lex (BadNumber place)) = true
is_of_text (rule.Lex lex.OutOfMemory) = false
is_of_text (rule.Expected place) = true
is_of_text (rule.UnknownOp place) = true
is_of_text (rule.Arity place) = true
is_of_text (rule.Unbound place) = true
is_of_text (rule.TooLarge place) = true
is_of_text (rule.BadOption place) = true
is_of_text (rule.Excluded place) = true
is_of_text (rule.Weight place) = true
is_of_text rule.OutOfMemory = false

-- its place in the text, where it is of the text
abbrev pub fault_place : RuleFault → ℕ
fault_place (rule.Lex (BadByte place)) = place
fault_place (rule.Lex (BadNumber place)) = place
fault_place (rule.Lex lex.OutOfMemory) = 0
fault_place (rule.Expected place) = place
fault_place (rule.UnknownOp place) = place
fault_place (rule.Arity place) = place
fault_place (rule.Unbound place) = place
fault_place (rule.TooLarge place) = place
fault_place (rule.BadOption place) = place
fault_place (rule.Excluded place) = place
fault_place (rule.Weight place) = place
fault_place rule.OutOfMemory = 0

-- what it is called, where it is of the text
abbrev pub fault_what : RuleFault → List ℕ
fault_what (rule.Lex (BadByte place)) = codes "bad byte"
fault_what (rule.Lex (BadNumber place)) = codes "bad number"
fault_what (rule.Lex lex.OutOfMemory) = []
fault_what (rule.Expected place) = codes "unexpected"
fault_what (rule.UnknownOp place) = codes "unknown opcode"
fault_what (rule.Arity place) = codes "wrong number of sources"
fault_what (rule.Unbound place) = codes "unbound variable"
fault_what (rule.TooLarge place) = codes "too large"
fault_what (rule.BadOption place) = codes "bad condition"
fault_what (rule.Excluded place) = codes "left out"
fault_what (rule.Weight place) = codes "bad weight"
fault_what rule.OutOfMemory = []

-- ---- faults of the sizes of a rule

-- a fault that the sizes have, and not a want of memory for them
abbrev pub is_of_sizes : SizeFault → Bool
is_of_sizes size.Contradiction = true
is_of_sizes (size.Ambiguous node) = true
is_of_sizes size.TooMany = true
is_of_sizes size.OutOfMemory = false

abbrev pub size_text : SizeFault → List ℕ
size_text size.Contradiction = codes "no sizes"
size_text (size.Ambiguous node) = codes "node " ++ decimal node ++ codes " has no size"
size_text size.TooMany = codes "too many sizes"
size_text size.OutOfMemory = []

-- ---- lines

abbrev pub syntax_line : RuleFault → List ℕ
syntax_line fault = codes "rules: byte " ++ decimal (fault_place fault) ++ codes ": " ++ fault_what fault ++ codes "\n"

-- the front of a line on a rule
abbrev pub rule_front : ℕ → List ℕ
rule_front number = codes "rules: rule " ++ decimal number

abbrev pub no_rule_line : ℕ → List ℕ
no_rule_line number = rule_front number ++ codes ": no such rule\n"

abbrev pub sizes_line : ℕ → SizeFault → List ℕ
sizes_line number fault = rule_front number ++ codes ": " ++ size_text fault ++ codes "\n"

abbrev pub no_typing_line : ℕ → ℕ → List ℕ
no_typing_line number typing = rule_front number ++ codes " typing " ++ decimal typing ++ codes ": no such typing\n"

abbrev pub no_circuit_line : ℕ → Op → List ℕ
no_circuit_line number op = rule_front number ++ codes ": no circuit for " ++ name_of op ++ codes "\n"

abbrev pub usage_line : List ℕ
usage_line = codes "usage: rule_clauses RULES RULE TYPING\n"

-- the line of a status, or nothing
abbrev pub line_of : Status → List ℕ
line_of status.Ok = []
line_of Usage = usage_line
line_of ReadFault = codes "read failed: rules\n"
line_of WriteFault = codes "write failed\n"
line_of (RulesSyntax fault) = syntax_line fault
line_of status.TooLong = codes "too long: rules\n"
line_of status.OutOfMemory = codes "out of memory\n"
line_of (NoRule number) = no_rule_line number
line_of (NoSizes number fault) = sizes_line number fault
line_of (NoTyping number typing) = no_typing_line number typing
line_of (NoCircuit number op) = no_circuit_line number op

-- a status whose line is one of a few
abbrev pub has_plain_line : Status → Bool
has_plain_line status.Ok = true
has_plain_line Usage = true
has_plain_line ReadFault = true
has_plain_line WriteFault = true
has_plain_line (RulesSyntax fault) = false
has_plain_line status.TooLong = true
has_plain_line status.OutOfMemory = true
has_plain_line (NoRule number) = false
has_plain_line (NoSizes number fault) = false
has_plain_line (NoTyping number typing) = false
has_plain_line (NoCircuit number op) = false

-- the line of a status: built, or one of a few
abbrev pub IsLine : Option (List ℕ) → Status → Type 0
IsLine None ending = has_plain_line ending ≡ true
IsLine (Some line) ending = line ≡ line_of ending

-- the status that is told for one: want of memory for its line takes its place
abbrev pub IsToldAs : Status → Status → Type 0
IsToldAs ending answer = (answer ≡ ending) ⊎ (answer ≡ status.OutOfMemory) × (has_plain_line ending ≡ false)
