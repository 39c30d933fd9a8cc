-- What the words and the text of the rules ask for: the clauses of a rule at a typing, or to stop with a status.
use Rattle.std.specs.Prelude.{◌≡◌, ℕ, Bool, true, false, List, length, Option, Some, None, Result, Ok, Err, slice_get, nat_lt, ⊤, if◌then◌else◌}
use Rattle.nir_ops.specs.declared.op.Op.{Op}
use Rattle.nir_ops.specs.declared.width.Width.{Width}
use Rattle.clause_check.specs.Logs.{Clause}
use Rattle.rule_term.specs.Rule.{Rule}
use Rattle.rule_term.specs.Typings.{typings}
use Rattle.rule_term.specs.declared.when.When.TheVariants.{Always}
use Rattle.circuit_laws.specs.RuleClauses.{first_without, rule_clauses}
use Rattle.size_infer.specs.SizeFaults.{size_fault}
use Rattle.size_infer.specs.declared.fault.SizeFault.{SizeFault}
use Rattle.rule_spelling.specs.Files as said
use Rattle.rule_spelling.specs.Files.{Entry, File}
use Rattle.term_read.specs.declared.fault.RuleFault.{RuleFault}
use Rattle.rule_read.specs.FileText.{rules_of_text}
use Rattle.rule_clauses.specs.declared.words.Choice.{Choice}
use Rattle.rule_clauses.specs.declared.status.Status.{Status}
use Rattle.rule_clauses.specs.declared.status.Status.TheVariants.{Usage, ReadFault, WriteFault, RulesSyntax, NoRule, NoSizes, NoTyping, NoCircuit}
use Rattle.rule_clauses.specs.declared.status.Status.TheVariants as status
use Rattle.rule_clauses.specs.Answers.{is_of_sizes, is_of_text}
use Rattle.rule_clauses.specs.Dimacs.{dimacs_text}
use Rattle.rule_clauses.specs.Words.{choice_of}

-- a rule, and the sizes of its nodes by one of its typings
pub record Chosen : Type 0 where
  pub rule : Rule
  pub widths : List Width

-- a rule that is said, without its options: clauses have no part in them
abbrev pub bare : said.Rule → Rule
bare rule = record { number = rule.number; search = rule.search; replace = rule.replace; when = Always; vars = rule.vars }

-- ---- by what is found: a circuit for each opcode, the typing, the sizes of the rule, the rule, the file

abbrev pub by_circuits : Choice → Chosen → Option Op → Result Chosen Status
by_circuits choice chosen None = Ok chosen
by_circuits choice chosen (Some op) = Err (NoCircuit choice.rule op)

abbrev pub by_typing : Choice → Rule → Option (List Width) → Result Chosen Status
by_typing choice rule None = Err (NoTyping choice.rule choice.typing)
by_typing choice rule (Some widths) = by_circuits choice (record { rule = rule; widths = widths }) (first_without rule)

abbrev pub by_sizes : Choice → Rule → Option SizeFault → Result Chosen Status
by_sizes choice rule (Some fault) = Err (NoSizes choice.rule fault)
by_sizes choice rule None = by_typing choice rule (slice_get (typings rule) choice.typing)

-- the typing of a rule that is chosen, where each of its opcodes has a circuit
unfoldable pub rule_answer : Choice → Rule → Result Chosen Status
rule_answer choice rule = by_sizes choice rule (size_fault rule)

abbrev pub by_entry : Choice → Option Entry → Result Chosen Status
by_entry choice None = Err (NoRule choice.rule)
by_entry choice (Some entry) = rule_answer choice (bare entry.rule)

abbrev pub by_file : Choice → Result File RuleFault → Result Chosen Status
by_file choice (Err fault) = Err (RulesSyntax fault)
by_file choice (Ok file) = by_entry choice (slice_get file.entries choice.rule)

-- what is chosen of a rule text, or the status for every other text
unfoldable pub text_answer : Choice → List ℕ → Result Chosen Status
text_answer choice text = if nat_lt 67108864 (length text) then Err status.TooLong else by_file choice (rules_of_text text)

-- ---- what is asked

abbrev pub by_words : Option Choice → List ℕ → Result Chosen Status
by_words None text = Err Usage
by_words (Some choice) text = text_answer choice text

-- what words and a text choose: its clauses are to be written
unfoldable pub answer_to : List (List ℕ) → List ℕ → Result Chosen Status
answer_to words text = by_words (choice_of words) text

abbrev pub clauses_of : Chosen → List Clause
clauses_of chosen = rule_clauses chosen.rule chosen.widths

-- a status that refuses what is asked; the others are the whole text, a fault of a stream, or want of memory
abbrev pub is_refusal : Status → Bool
is_refusal status.Ok = false
is_refusal Usage = true
is_refusal ReadFault = false
is_refusal WriteFault = false
is_refusal (RulesSyntax fault) = true
is_refusal status.TooLong = true
is_refusal status.OutOfMemory = false
is_refusal (NoRule number) = true
is_refusal (NoSizes number fault) = true
is_refusal (NoTyping number typing) = true
is_refusal (NoCircuit number op) = true

-- a status that refuses is the one that is asked for
abbrev pub IsAsked : Result Chosen Status → Status → Type 0
IsAsked answer ending = is_refusal ending ≡ true → answer ≡ Err ending

-- these clauses are to be written, or the status is as it is to be
abbrev pub ClausesFit : Result (List Clause) Status → Result Chosen Status → Type 0
ClausesFit (Ok clauses) answer = (chosen : Chosen) × (answer ≡ Ok chosen) × (clauses ≡ clauses_of chosen)
ClausesFit (Err ending) answer = IsAsked answer ending

-- this text is to be written, or the status is as it is to be
abbrev pub TextFits : Result (List ℕ) Status → Result Chosen Status → Type 0
TextFits (Ok text) answer = (chosen : Chosen) × (answer ≡ Ok chosen) × (text ≡ dimacs_text (clauses_of chosen))
TextFits (Err ending) answer = IsAsked answer ending

-- ---- with which statuses the work ends

-- The way to the text may end with this status; where that is a fault of the source, this holds. A fault that is told of a text or of sizes is one of them.
abbrev pub EndsWork : Status → Type 0 → Type 0
EndsWork status.Ok fault = ⊥
EndsWork Usage fault = ⊥
EndsWork ReadFault fault = fault
EndsWork WriteFault fault = ⊥
EndsWork (RulesSyntax of_text) fault = is_of_text of_text ≡ true
EndsWork status.TooLong fault = ⊤
EndsWork status.OutOfMemory fault = ⊤
EndsWork (NoRule number) fault = ⊤
EndsWork (NoSizes number of_sizes) fault = is_of_sizes of_sizes ≡ true
EndsWork (NoTyping number typing) fault = ⊤
EndsWork (NoCircuit number op) fault = ⊤

-- how reading a rule text with this fault ends
abbrev pub ends_by : RuleFault → Status
ends_by fault = if is_of_text fault then RulesSyntax fault else status.OutOfMemory

-- and finding the typings of a rule with this one
abbrev pub ends_by_sizes : ℕ → SizeFault → Status
ends_by_sizes number fault = if is_of_sizes fault then NoSizes number fault else status.OutOfMemory
