-- How terms are read, by the terminal with which each begins.
use Rattle.std.proofs.Common.{◌≡◌, ℕ, ◌+◌, ◌≤◌, ◌<◌, Bool, true, false, cond, ◌||◌, List, [], ◌∷◌, ◌++◌, length, map, arith, Result, Ok, Err, refl, sym, ap, ◌∙◌}
use Rattle.std.specs.Prelude.{nat_eq}
use Rattle.std.proofs.lemmas.Bool.{eq-eqb}
use Rattle.std.proofs.lemmas.List.{length-map}
use Rattle.nir_ops.specs.Lookup.{op_named}
use Rattle.nir_ops.specs.Opcodes.{op_info}
use Rattle.rule_term.specs.declared.term.Term.{Term}
use Rattle.rule_term.specs.Lists.{then as chained, terms_of-var, terms_of-lit, terms_of-app, terms_of-cons}
use Rattle.rule_term.specs.Terms.{Terms, Nil, AppThen, terms_of}
use Rattle.grammar.specs.Grammar.{terminal}
use Rattle.grammar.specs.Terminals.{Terminal, has, WordBut, AQuoted, TheMark}
use Rattle.grammar.specs.Reading.{Outcome, taken, stopped}
use Rattle.rule_spelling.specs.Annotated.{Annotated, says}
use Rattle.rule_spelling.specs.Files.{Fault, Expected, Arity}
use Rattle.rule_spelling.specs.RuleFiles.{rule_files, app, op}
use Rattle.rule_spelling.specs.Tokens.{State, Place, Head, Taken, chain, and_said, named_op, op_taken, closed}
use Rattle.term_read.specs.declared.fault.RuleFault.{RuleFault}
use Rattle.term_read.specs.declared.fault.RuleFault.TheVariants.{OutOfMemory}
use Rattle.term_read.specs.Gives.{Fails}
use Rattle.term_read.specs.Parts.{leaf}
use Rattle.term_read.specs.Source.{Source, Answer, answer, fault_at, told_at, reads, reads_named, takes}
use Rattle.term_read.specs.Views.{term_says}
use Rattle.grammar.specs.ChoiceLaws.{cond_true, cond_false}
use Rattle.term_read.specs.ReadingLaws.{fails, named_reads}

pub ruleset term_steps = (terms_of-var, terms_of-lit, terms_of-app)

-- a terminal of one of two classes
either : {A : Type 0} (text : List ℕ) (b c : Bool) (u v : Outcome rule_files A)
    → cond ((b || false) || false) (answer text (cond b u v)) (answer text (cond c u v)) ≡ cond (b || c) (answer text u) (answer text v)
either text true c u v = refl
either text false true u v = refl
either text false false u v = refl

pub op_reads : (place : Place) (text : List ℕ) (x : State) (first : Terminal) (others : List Terminal)
    → reads (op place) (record { text = text; state = x; rest = first ∷ others })
    ≡ cond (has (WordBut []) first || has AQuoted first) (takes (op_taken place) (record { text = text; state = x; rest = first ∷ others }))
    (Err (fault_at Expected text (first ∷ others)))
op_reads place text x first others =
    either text (has (WordBut []) first) (has AQuoted first) (taken rule_files (first ∷ others) (op_taken place x first) others)
    (stopped rule_files Expected (first ∷ others))

-- the sources of the code, one after another
pub chain_says : (list : List Term) → chain (map term_says list) ≡ terms_of list
chain_says [] = refl
chain_says (term ∷ list) = ap (chained (term_says term)) (chain_says list) ∙ sym (terms_of-cons term list)

-- ---- steps to the next token

-- a source by its parts
pub moved : {A : Type 0} (read : Source → Answer A) (s : Source) (first : Terminal) (s' : Source) (a : A) → s'.text ≡ s.text → s'.state ≡ s.state → s.rest ≡ first ∷ s'.rest
    → read (record { text = s.text; state = s.state; rest = first ∷ s'.rest }) ≡ Ok (a, record { text = s.text; state = s.state; rest = s'.rest }) → read s ≡ Ok (a, s')
moved read s first s' a text state rest is =
    ap (λ (rest : List Terminal). read (record { text = s.text; state = s.state; rest = rest })) rest
    ∙ is
    ∙ (λ i. Ok (a, record { text = sym text i; state = sym state i; rest = s'.rest }))

closed_here : (head : Head) (args : List Term) (text : List ℕ) (x : State) (first : Terminal) (others : List Terminal) → has (TheMark 41) first ≡ true
    → length args ≡ length (op_info head.op).inputs
    → reads (terminal (TheMark 41) (closed head (map term_says args))) (record { text = text; state = x; rest = first ∷ others })
    ≡ Ok (AppThen head.op head.size head.once (terms_of args) Nil, record { text = text; state = x; rest = others })
unfolding closed
closed_here head args text x first others here counts =
    let many : nat_eq (length (map term_says args)) (length (op_info head.op).inputs) ≡ true = eq-eqb _ _ (length-map args term_says ∙ counts) in
    let term : Terms = AppThen head.op head.size head.once (chain (map term_says args)) Nil in
    ap (λ b. answer text (cond b (taken rule_files (first ∷ others) (closed head (map term_says args) x first) others) (stopped rule_files Expected (first ∷ others)))) here
    ∙ ap (λ b. answer text (taken rule_files (first ∷ others) (cond b (Ok (term, x)) (Err Arity)) others)) many
    ∙ ap (λ (args : Terms). Ok (AppThen head.op head.size head.once args Nil, record { text = text; state = x; rest = others })) (chain_says args)

pub closed_reads : (head : Head) (args : List Term) (s : Source) (first : Terminal) (s' : Source) → has (TheMark 41) first ≡ true
    → length args ≡ length (op_info head.op).inputs → s'.text ≡ s.text → s'.state ≡ s.state → s.rest ≡ first ∷ s'.rest
    → reads (terminal (TheMark 41) (closed head (map term_says args))) s ≡ Ok (AppThen head.op head.size head.once (terms_of args) Nil, s')
closed_reads head args s first s' here counts text state rest =
    moved (reads (terminal (TheMark 41) (closed head (map term_says args)))) s first s' (AppThen head.op head.size head.once (terms_of args) Nil) text state rest
    (closed_here head args s.text s.state first s'.rest here counts)

-- ---- faults at an opcode

-- the same fault of another answer
abbrev refault : {A B : Type 0} → Result (A × B) RuleFault → Answer A
refault (Ok found) = Err OutOfMemory
refault (Err fault) = Err fault

told_ok : (text : List ℕ) (rest : List Terminal) (r : Result Annotated Fault) (word : Annotated) → told_at text rest r ≡ Ok word → r ≡ Ok word
told_ok text rest (Ok other) word is = let same : other ≡ word = cc in ap (λ (w : Annotated). Ok w) same
told_ok text rest (Err fault) word is = absurd cc

told_err : {A : Type 0} (text : List ℕ) (first : Terminal) (others : List Terminal) (r : Taken A) (fault : RuleFault) → told_at text (first ∷ others) r ≡ Err fault
    → answer text (taken rule_files (first ∷ others) r others) ≡ Err fault
told_err text first others (Ok found) fault is = absurd cc
told_err {A} text first others (Err other) fault is = again is
  where
    again : told_at {A = A × State} text (first ∷ others) (Err other) ≡ Err fault → answer {A = A} text (stopped rule_files other (first ∷ others)) ≡ Err fault
    again is = ap (λ (r : Result (A × State) RuleFault). refault r) is

pub op_fails : (place : Place) (text : List ℕ) (x : State) (first : Terminal) (others : List Terminal) (word : Annotated) (fault : RuleFault)
    → (has (WordBut []) first || has AQuoted first) ≡ true → told_at text (first ∷ others) (says first) ≡ Ok word
    → Fails fault (told_at text (first ∷ others) (named_op place x word (op_named word.name)))
    → Fails fault (reads (op place) (record { text = text; state = x; rest = first ∷ others }))
unfolding op_taken
op_fails place text x first others word fault here said failed =
    fails fault (told_at text (first ∷ others) (named_op place x word (op_named word.name))) (reads (op place) (record { text = text; state = x; rest = first ∷ others }))
    (λ fault is.
    op_reads place text x first others
    ∙ ap (λ b. cond b (takes (op_taken place) (record { text = text; state = x; rest = first ∷ others })) (Err (fault_at Expected text (first ∷ others)))) here
    ∙ ap (λ (r : Result Annotated Fault). answer text (taken rule_files (first ∷ others) (and_said r (λ word. named_op place x word (op_named word.name))) others))
    (told_ok text (first ∷ others) (says first) word said)
    ∙ told_err text first others (named_op place x word (op_named word.name)) fault is)
    failed

-- ---- terms by their first terminal

pub or_true : (b : Bool) → b ≡ true → (b || false) ≡ true
or_true true is = refl
or_true false is = absurd cc

pub or_false : (b : Bool) → b ≡ false → (b || false) ≡ false
or_false true is = absurd cc
or_false false is = refl

pub expr_mark : (place : Place) (text : List ℕ) (x : State) (first : Terminal) (others : List Terminal) → has (TheMark 40) first ≡ true
    → reads_named place (record { text = text; state = x; rest = first ∷ others }) ≡ reads (app place) (record { text = text; state = x; rest = first ∷ others })
expr_mark place text x first others here =
    named_reads place (record { text = text; state = x; rest = first ∷ others })
    ∙ cond_true ((has (TheMark 40) first || false) || false) _ _ _ (or_true (has (TheMark 40) first || false) (or_true (has (TheMark 40) first) here)) refl

pub expr_other : (place : Place) (text : List ℕ) (x : State) (first : Terminal) (others : List Terminal) → has (TheMark 40) first ≡ false
    → reads_named place (record { text = text; state = x; rest = first ∷ others }) ≡ reads (leaf place) (record { text = text; state = x; rest = first ∷ others })
expr_other place text x first others here =
    named_reads place (record { text = text; state = x; rest = first ∷ others })
    ∙ cond_false ((has (TheMark 40) first || false) || false) _ _ _ (or_false (has (TheMark 40) first || false) (or_false (has (TheMark 40) first) here)) refl

-- one more term
pub says_append : (list : List Term) (term : Term) → map term_says (list ++ term ∷ []) ≡ map term_says list ++ term_says term ∷ []
says_append [] term = refl
says_append (first ∷ list) term = ap (λ (rest : List Terms). term_says first ∷ rest) (says_append list term)
