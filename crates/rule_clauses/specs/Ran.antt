-- What a call of the program promises of its words, its source and its two sinks, as one fact.
use Rattle.std.specs.Prelude.{◌≡◌, ◌⊎◌, ◌↔◌, ◌≢◌, ℕ, true, List, [], ◌++◌, Option, Some, None, Ok}
use Rattle.nir_host.specs.Faults.{Rose}
use Rattle.nir_host.specs.Told.{Gains}
use Rattle.nir_host.specs.Whole.{TakesFront}
use Rattle.size_infer.specs.declared.fault.SizeFault.{SizeFault}
use Rattle.term_read.specs.declared.fault.RuleFault.{RuleFault}
use Rattle.rule_clauses.specs.declared.status.Status.{Status}
use Rattle.rule_clauses.specs.declared.status.Status.TheVariants.{Usage, ReadFault, WriteFault, RulesSyntax, NoSizes}
use Rattle.rule_clauses.specs.declared.status.Status.TheVariants as status
use Rattle.rule_clauses.specs.Answers.{is_of_sizes, is_of_text, line_of, number_of}
use Rattle.rule_clauses.specs.Asked.{answer_to, Chosen, clauses_of, IsAsked}
use Rattle.rule_clauses.specs.Dimacs.{dimacs_text}
use Rattle.rule_clauses.specs.Words.{choice_of}

-- a source before a call and after it: the bytes that it has left, where it tells them, and its count of faults
pub record Reading : Type 0 where
  pub left_before : Option (List ℕ)
  pub left_after : Option (List ℕ)
  pub faults_before : ℕ
  pub faults_after : ℕ

-- a sink before a call and after it: the bytes that it has taken, where it tells them, and its count of faults
pub record Writing : Type 0 where
  pub taken_before : Option (List ℕ)
  pub taken_after : Option (List ℕ)
  pub faults_before : ℕ
  pub faults_after : ℕ

-- a fault of it was counted
abbrev pub ReadFaults : Reading → Type 0
ReadFaults source = Rose source.faults_before source.faults_after

abbrev pub WriteFaults : Writing → Type 0
WriteFaults sink = Rose sink.faults_before sink.faults_after

-- all bytes that were told were read
abbrev pub ReadsToEnd : Option (List ℕ) → Option (List ℕ) → Type 0
ReadsToEnd before now = (text : List ℕ) → before ≡ Some text → now ≡ Some []

-- a sink that tells what it takes took the line, or a fault of it was counted and it took a front of the line
abbrev pub TakesLine : Option (List ℕ) → Option (List ℕ) → ℕ → ℕ → List ℕ → Type 0
TakesLine before now faults_before faults_now line =
    (taken : List ℕ) → before ≡ Some taken → (now ≡ Some (taken ++ line)) ⊎ (Rose faults_before faults_now × TakesFront taken now line)

-- the clauses of `run_clauses`
pub record Ran (given_words : List (List ℕ)) (rules : Reading) (out lines : Writing) (ending : Status) : Type 0 where
  -- which status it is, as far as the bytes are told; what is not refused is written, but for want of memory and a fault of a stream
  pub words : (ending ≡ Usage) ↔ (choice_of given_words ≡ None)
  pub asks : (text : List ℕ) → rules.left_before ≡ Some text → IsAsked (answer_to given_words text) ending
  pub syntax : (fault : RuleFault) → ending ≡ RulesSyntax fault → is_of_text fault ≡ true
  pub sizes : (number : ℕ) (fault : SizeFault) → ending ≡ NoSizes number fault → is_of_sizes fault ≡ true
  -- a fault has its cause
  pub rules_fault : ending ≡ ReadFault → ReadFaults rules
  pub write_fault : ending ≡ WriteFault → WriteFaults out
  -- what was read
  pub nothing_read : ending ≡ Usage → rules.left_after ≡ rules.left_before
  pub end : ending ≡ status.Ok → ReadsToEnd rules.left_before rules.left_after
  -- what was written
  pub untouched : ending ≢ status.Ok → ending ≢ WriteFault → out.taken_after ≡ out.taken_before
  pub written : ending ≡ status.Ok → (text : List ℕ) → rules.left_before ≡ Some text
      → (chosen : Chosen) × (answer_to given_words text ≡ Ok chosen) × Gains out.taken_before out.taken_after (dimacs_text (clauses_of chosen))
  pub prefix : ending ≡ WriteFault → (text : List ℕ) → rules.left_before ≡ Some text → (before : List ℕ) → out.taken_before ≡ Some before
      → (chosen : Chosen) × (answer_to given_words text ≡ Ok chosen) × TakesFront before out.taken_after (dimacs_text (clauses_of chosen))
  pub notes : TakesLine lines.taken_before lines.taken_after lines.faults_before lines.faults_after (line_of ending)

-- ---- the program

-- a number under these words: that of a status whose call keeps its promises
pub record EndsWith (words : List (List ℕ)) (number : ℕ) : Type 0 where
  pub rules : Reading
  pub out : Writing
  pub lines : Writing
  pub ending : Status
  pub ran : Ran words rules out lines ending
  pub is : number ≡ number_of ending

-- a number under some words
abbrev pub IsNumber : ℕ → Type 0
IsNumber number = (words : List (List ℕ)) × EndsWith words number
