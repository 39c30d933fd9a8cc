-- What is found of a rule, step by step: its options play no part, and a fault of its sizes or of its text is the one that is told.
use Rattle.std.proofs.Common.{◌≡◌, ℕ, ◌<◌, List, ◌++◌, None, refl, ap, sym, ◌∙◌, subst, arith, length, length-append}
use Rattle.std.specs.Prelude.{◌≤◌, Bool, true, false, Result, Ok, Err, OnOk, if◌then◌else◌, slice_get}
use Rattle.std.proofs.lemmas.Bool.{le-ltb, lt-ltb, true≢false}
use Rattle.clause_check.specs.Logs.{Clause}
use Rattle.nir_lex.specs.declared.fault.LexFault.TheVariants.{BadByte, BadNumber}
use Rattle.nir_lex.specs.declared.fault.LexFault.TheVariants as lex
use Rattle.nir_ops.specs.declared.width.Width.{Width}
use Rattle.rule_term.specs.Rule.{Rule}
use Rattle.rule_term.specs.Typings.{is_typing, typings}
use Rattle.circuit_laws.specs.RuleClauses.{rule_clauses}
use Rattle.circuit_laws.specs.Variables.{var_width}
use Rattle.size_laws.specs.Ambiguous.{ambiguous_node}
use Rattle.size_infer.specs.SizeFaults.{size_fault, TellsFault}
use Rattle.size_infer.specs.declared.fault.SizeFault.{SizeFault}
use Rattle.size_infer.specs.declared.fault.SizeFault.TheVariants as size
use Rattle.rule_read.specs.FileText.{rules_of_text}
use Rattle.rule_read.specs.RuleFile.{RuleFile}
use Rattle.rule_read.specs.Says.{file_says, rule_says}
use Rattle.term_read.specs.Gives.{Fails}
use Rattle.term_read.specs.declared.fault.RuleFault.{RuleFault}
use Rattle.term_read.specs.declared.fault.RuleFault.TheVariants as rule
use Rattle.rule_clauses.specs.declared.words.Choice.{Choice}
use Rattle.rule_clauses.specs.declared.status.Status.{Status}
use Rattle.rule_clauses.specs.declared.status.Status.TheVariants.{RulesSyntax, TooLong, OutOfMemory}
use Rattle.rule_clauses.specs.Answers.{is_of_text}
use Rattle.rule_clauses.specs.Asked.{bare, by_file, by_sizes, by_typing, ClausesFit, ends_by, ends_by_sizes, IsAsked, rule_answer, text_answer}

-- ---- a rule

bare_typings : (rule : Rule) → typings (bare (rule_says rule)) ≡ typings rule
unfolding typings is_typing
bare_typings rule = refl

bare_fault : (rule : Rule) → size_fault (bare (rule_says rule)) ≡ size_fault rule
unfolding size_fault ambiguous_node typings is_typing
bare_fault rule = refl

pub bare_clauses : (rule : Rule) (widths : List Width) → rule_clauses (bare (rule_says rule)) widths ≡ rule_clauses rule widths
unfolding rule_clauses var_width
bare_clauses rule widths = refl

answer_among : (choice : Choice) (rule : Rule) (list : List (List Width)) → size_fault rule ≡ None → list ≡ typings rule
    → rule_answer choice (bare (rule_says rule)) ≡ by_typing choice (bare (rule_says rule)) (slice_get list choice.typing)
unfolding rule_answer
answer_among choice rule list none all =
    ap (by_sizes choice (bare (rule_says rule))) (bare_fault rule ∙ none)
    ∙ ap (λ l. by_typing choice (bare (rule_says rule)) (slice_get l choice.typing)) (bare_typings rule ∙ sym all)

-- what is found among all typings of a rule whose sizes are of use
pub found_among : (choice : Choice) (rule : Rule) (list : List (List Width)) (found : Result (List Clause) Status) → size_fault rule ≡ None → list ≡ typings rule
    → ClausesFit found (by_typing choice (bare (rule_says rule)) (slice_get list choice.typing)) → ClausesFit found (rule_answer choice (bare (rule_says rule)))
found_among choice rule list found none all fits = subst (ClausesFit found) (sym (answer_among choice rule list none all)) fits

pub faulty_sizes : (choice : Choice) (rule : Rule) (fault : SizeFault) → TellsFault rule (Err fault)
    → IsAsked (rule_answer choice (bare (rule_says rule))) (ends_by_sizes choice.rule fault)
unfolding rule_answer
faulty_sizes choice rule size.Contradiction tells = λ _. ap (by_sizes choice (bare (rule_says rule))) (bare_fault rule ∙ tells)
faulty_sizes choice rule (size.Ambiguous node) tells = λ _. ap (by_sizes choice (bare (rule_says rule))) (bare_fault rule ∙ tells)
faulty_sizes choice rule size.TooMany tells = λ _. ap (by_sizes choice (bare (rule_says rule))) (bare_fault rule ∙ tells)
faulty_sizes choice rule size.OutOfMemory tells = λ refusal. absurd (true≢false (sym refusal))

-- ---- a text

pub long_answer : (choice : Choice) (text : List ℕ) → 67108864 < length text → text_answer choice text ≡ Err TooLong
unfolding text_answer
long_answer choice text long = rw (lt-ltb 67108864 (length text) long) refl

short_answer : (choice : Choice) (text : List ℕ) → length text ≤ 67108864 → text_answer choice text ≡ by_file choice (rules_of_text text)
unfolding text_answer
short_answer choice text short = rw (le-ltb 67108864 (length text) short) refl

-- what is found in the file of a text
pub found_in_text : (choice : Choice) (text : List ℕ) (file : RuleFile) (found : Result (List Clause) Status) → length text ≤ 67108864
    → rules_of_text text ≡ Ok (file_says file) → ClausesFit found (by_file choice (Ok (file_says file))) → ClausesFit found (text_answer choice text)
found_in_text choice text file found short is fits = subst (ClausesFit found) (sym (short_answer choice text short ∙ ap (by_file choice) is)) fits

-- a fault of the text is the one that is told
fails_so : {A : Type 0} (fault : RuleFault) (read : Result A RuleFault) → is_of_text fault ≡ true → Fails fault read → read ≡ Err fault
fails_so (rule.Lex (BadByte place)) read is fails = fails
fails_so (rule.Lex (BadNumber place)) read is fails = fails
fails_so (rule.Lex lex.OutOfMemory) read is fails = absurd (true≢false (sym is))
fails_so (rule.Expected place) read is fails = fails
fails_so (rule.UnknownOp place) read is fails = fails
fails_so (rule.Arity place) read is fails = fails
fails_so (rule.Unbound place) read is fails = fails
fails_so (rule.TooLarge place) read is fails = fails
fails_so (rule.BadOption place) read is fails = fails
fails_so (rule.Excluded place) read is fails = fails
fails_so (rule.Weight place) read is fails = fails
fails_so rule.OutOfMemory read is fails = absurd (true≢false (sym is))

pub faulty_text : (choice : Choice) (text : List ℕ) (fault : RuleFault) → length text ≤ 67108864 → Fails fault (rules_of_text text)
    → IsAsked (text_answer choice text) (ends_by fault)
faulty_text choice text fault short fails = by_kind (is_of_text fault) refl where
  by_kind : (kind : Bool) → kind ≡ is_of_text fault → IsAsked (text_answer choice text) (if kind then RulesSyntax fault else OutOfMemory)
  by_kind true is = λ _. short_answer choice text short ∙ ap (by_file choice) (fails_so fault (rules_of_text text) (sym is) fails)
  by_kind false is = λ refusal. absurd (true≢false (sym refusal))

-- ---- what was read

-- what was taken is no longer than the whole
pub longer : (text taken rest : List ℕ) (max : ℕ) → text ≡ taken ++ rest → max < length taken → max < length text
longer text taken rest max parts more = omega (arith, ap length parts, length-append taken rest)

-- what holds in any case holds on Ok
pub on_ok : (A B fact : Type 0) (result : Result A B) → fact → OnOk result fact
on_ok A B fact (Ok value) holds = holds
on_ok A B fact (Err fault) holds = tt
