-- What is left of a text, with the state of its reader; and reading it by a grammar, up to a value or the first fault at its place.
use Rattle.std.specs.Prelude.{ℕ, zero, suc, List, [], ◌∷◌, length, Option, Some, None, Result, Ok, Err, if◌then◌else◌}
use Rattle.rule_term.specs.Terms.{Terms}
use Rattle.grammar.specs.Terminals.{Terminal, Class, starts}
use Rattle.grammar.specs.Lookahead.{Lookahead}
use Rattle.grammar.specs.Grammar.{Grammar, Take, empty, terminal, sequence, choice, repetition, named, widened}
use Rattle.grammar.specs.Reading.{Outcome, takes_first, taken, read_terminal, read_to}
use Rattle.rule_spelling.specs.Files as spelled
use Rattle.rule_spelling.specs.RuleFiles.{rule_files, productions}
use Rattle.rule_spelling.specs.Text.{place_of_last}
use Rattle.rule_spelling.specs.Tokens.{State, Place}
use Rattle.term_read.specs.declared.fault.RuleFault.{RuleFault}
use Rattle.term_read.specs.declared.fault.RuleFault.TheVariants.{Expected, UnknownOp, Arity, Unbound, TooLarge, BadOption, Excluded, Weight}
use Rattle.term_read.specs.Standing.{all_tokens}

-- a text, the state, and the terminals that are left
pub record Source : Type 0 where
  pub text : List ℕ
  pub state : State
  pub rest : List Terminal

-- a fault of the grammar at a place
abbrev pub at_place : spelled.Fault → ℕ → RuleFault
at_place spelled.Expected place = Expected place
at_place spelled.UnknownOp place = UnknownOp place
at_place spelled.Arity place = Arity place
at_place spelled.Unbound place = Unbound place
at_place spelled.TooLarge place = TooLarge place
at_place spelled.BadOption place = BadOption place
at_place spelled.Excluded place = Excluded place
at_place spelled.Weight place = Weight place

-- a fault at the first of the terminals that are left
abbrev pub fault_at : spelled.Fault → List ℕ → List Terminal → RuleFault
fault_at fault text rest = at_place fault (place_of_last (all_tokens text) (length rest))

abbrev pub Answer : Type 0 → Type 0
Answer A = Result (A × Source) RuleFault

-- what a grammar answers, in a text
abbrev pub answer : {A : Type 0} → List ℕ → Outcome rule_files A → Answer A
answer text (Ok found) = Ok (found.value, record { text = text; state = found.state; rest = found.rest })
answer text (Err stop) = Err (fault_at stop.fault text stop.rest)

infixl 10 ◌then◌
abbrev pub ◌then◌ : {A B : Type 0} → Answer A → (A → Source → Answer B) → Answer B
(Ok found) then go = go found.0 found.1
(Err fault) then go = Err fault

-- what the first of the terminals that are left says
abbrev pub takes_of : {A : Type 0} → Take rule_files A → Source → List Terminal → Answer A
takes_of take s [] = Err (fault_at spelled.Expected s.text [])
takes_of take s (first ∷ others) = answer s.text (taken rule_files (first ∷ others) (take s.state first) others)

abbrev pub takes : {A : Type 0} → Take rule_files A → Source → Answer A
takes take s = takes_of take s s.rest

-- a fault that stands at the first of these terminals
abbrev pub told_at : {A : Type 0} → List ℕ → List Terminal → Result A spelled.Fault → Result A RuleFault
told_at text rest (Ok a) = Ok a
told_at text rest (Err fault) = Err (fault_at fault text rest)

-- a nonterminal in this text: no text has more over one another than terminals
unfoldable pub reads_named : Place → Source → Answer Terms
reads_named place s = answer s.text (read_to rule_files productions (suc (length s.rest)) place s.state s.rest)

abbrev pub reads_terminal : {A : Type 0} → Class → Take rule_files A → Source → Answer A
reads_terminal class take s = answer s.text (read_terminal rule_files class take s.state s.rest)

abbrev pub item_then : {A : Type 0} → Option A → Source → (Source → Answer (List A)) → Answer (List A)
item_then None s others = Ok ([], s)
item_then (Some a) s others = others s then λ list s'. Ok (a ∷ list, s')

abbrev pub reads_each : {A : Type 0} → List Class → (Source → Answer (Option A)) → ℕ → Source → Answer (List A)
reads_each firsts item zero s = Ok ([], s)
reads_each firsts item (suc n) s = if starts firsts s.rest then item s then (λ found s'. item_then found s' (reads_each firsts item n)) else Ok ([], s)

-- what a grammar reads of what is left
abbrev pub reads : {p : Lookahead} {A : Type 0} → Grammar rule_files p A → Source → Answer A
reads (empty a) s = Ok (a, s)
reads (terminal class take) s = reads_terminal class take s
reads (sequence g h) s = reads g s then λ b s'. reads (h b) s'
reads (choice {p = p} {q = q} g h) s = if takes_first rule_files p q s.rest then reads g s else reads h s
reads (repetition {p = p} g) s = reads_each p.firsts (reads g) (length s.rest) s
reads (named place) s = reads_named place s
reads (widened q sub g) s = reads g s
