-- The program by its first word: `check` tells which rules are accepted, `eval` runs a shader, every other list of words optimises one. What a run of a shader promises, as one fact.
use Rattle.std.specs.Prelude.{◌≡◌, ◌↔◌, ◌≢◌, ℕ, Bool, true, false, List, [], ◌∷◌, Option, Some, None, codes, drop, length, nat_lt, if◌then◌else◌}
use Rattle.std.specs.Str.{bytes_eq}
use Rattle.nir_host.specs.declared.fault.Which.TheVariants as which
use Rattle.nir_host.specs.Told.{Gains}
use Rattle.nir_host.specs.Whole.{TakesFront}
use Rattle.nir_ir.specs.Shader.{Shader}
use Rattle.nir_text.specs.declared.fault.TextFault.{TextFault}
use Rattle.nir_mean.specs.declared.status.Status as mean
use Rattle.nir_mean.specs.declared.status.Status.TheVariants as eval
use Rattle.eval_words.specs.declared.words.EvalWords.{EvalWords}
use Rattle.nir_mean.specs.EvalAnswers as answers
use Rattle.eval_words.specs.EvalWords.{eval_words}
use Rattle.nir_mean.specs.Faults.{is_of_text}
use Rattle.nir_mean.specs.Outcome.{outcome}
use Rattle.nir_mean.specs.OutcomeText.{outcome_text}
use Rattle.nir_mean.specs.ShaderLines.{TakesLine}
use Rattle.nir_mean.specs.ShaderText.{Sound, answer_of, ReadsToEnd}
use Rattle.nir_opt.specs.declared.program.Ended.{Ended}
use Rattle.nir_opt.specs.declared.program.Ended.TheVariants.{Run, Check, Eval}
use Rattle.nir_opt.specs.declared.program.Command.{Command}
use Rattle.nir_opt.specs.declared.program.Command.TheVariants as command
use Rattle.nir_opt.specs.Answers.{number_of}
use Rattle.nir_opt.specs.Checked.{RanCheck}
use Rattle.nir_opt.specs.Ran.{Ran, ReadFaults, Reading, WriteFaults, Writing}

-- the clauses of `run_shader`
pub record RanShader (given_words : List (List ℕ)) (shader : Reading) (out lines : Writing) (ending : mean.Status) : Type 0 where
  pub words : (ending ≡ eval.Usage) ↔ (eval_words given_words ≡ None)
  pub says : (given : EvalWords) → eval_words given_words ≡ Some given → (text : List ℕ) → shader.left_before ≡ Some text → answers.Says ending given (answer_of text)
  pub syntax : (fault : TextFault) → ending ≡ eval.ShaderSyntax fault → is_of_text fault ≡ true
  pub rules_fault : ending ≢ eval.ReadFault which.Rules
  pub rules_length : ending ≢ eval.TooLong which.Rules
  pub shader_fault : ending ≡ eval.ReadFault which.Shader → ReadFaults shader
  pub write_fault : ending ≡ eval.WriteFault → WriteFaults out
  pub complete : (given : EvalWords) → eval_words given_words ≡ Some given → (text : List ℕ) → shader.left_before ≡ Some text
      → (ReadFaults shader → ⊥) → (WriteFaults out → ⊥) → (s : Shader) → answers.IsGiven given (answer_of text) true s → answers.EndsWell ending
  pub nothing_read : ending ≡ eval.Usage → shader.left_after ≡ shader.left_before
  pub end : ending ≡ eval.Ok → ReadsToEnd shader.left_before shader.left_after
  pub untouched : ending ≢ eval.Ok → ending ≢ eval.WriteFault → out.taken_after ≡ out.taken_before
  pub told : ending ≡ eval.Ok → (given : EvalWords) → eval_words given_words ≡ Some given → (text : List ℕ) → shader.left_before ≡ Some text
      → (s : Shader) → answer_of text ≡ Sound s → Gains out.taken_before out.taken_after (outcome_text (outcome s given.inputs given.buffers given.turns))
  pub prefix : ending ≡ eval.WriteFault → (given : EvalWords) → eval_words given_words ≡ Some given → (text : List ℕ) → shader.left_before ≡ Some text
      → (s : Shader) → answer_of text ≡ Sound s → (before : List ℕ) → out.taken_before ≡ Some before
      → TakesFront before out.taken_after (outcome_text (outcome s given.inputs given.buffers given.turns))
  pub notes : TakesLine lines.taken_before lines.taken_after lines.faults_before lines.faults_after (answers.line_of ending)

-- ---- commands

-- the command that the first word picks
abbrev pub picked : Bool → Bool → Command
picked true eval = command.Check
picked false true = command.Eval
picked false false = command.Run

abbrev pub command_of : List (List ℕ) → Command
command_of [] = command.Run
command_of (first ∷ others) = picked (bytes_eq first (codes "check")) (bytes_eq first (codes "eval"))

-- the call was `run` on all words, and it kept its promises
abbrev pub EndsAsRun : List (List ℕ) → Reading → Reading → Writing → Writing → Ended → Type 0
EndsAsRun words rules shader out notes (Run report) = Ran words rules shader out notes report
EndsAsRun words rules shader out notes (Check ending) = ⊥
EndsAsRun words rules shader out notes (Eval ending) = ⊥

-- the call was `run_check` on the words behind the first, and it kept its promises; the shader was not read
abbrev pub EndsAsCheck : List (List ℕ) → Reading → Reading → Writing → Writing → Ended → Type 0
EndsAsCheck words rules shader out notes (Run report) = ⊥
EndsAsCheck words rules shader out notes (Check ending) = RanCheck (drop 1 words) rules out notes ending × (shader.left_after ≡ shader.left_before)
EndsAsCheck words rules shader out notes (Eval ending) = ⊥

-- the call was `run_shader` on the words behind the first, and it kept its promises; the rules were not read
abbrev pub EndsAsEval : List (List ℕ) → Reading → Reading → Writing → Writing → Ended → Type 0
EndsAsEval words rules shader out notes (Run report) = ⊥
EndsAsEval words rules shader out notes (Check ending) = ⊥
EndsAsEval words rules shader out notes (Eval ending) = RanShader (drop 1 words) shader out notes ending × (rules.left_after ≡ rules.left_before)

-- the number with which the program ends
abbrev pub ended_number : Ended → ℕ
ended_number (Run report) = number_of report.status
ended_number (Check ending) = number_of ending
ended_number (Eval ending) = answers.number_of ending

-- a number under these words: that of an ending that keeps the promises of the call which the first word picks
pub record EndsWith (words : List (List ℕ)) (number : ℕ) : Type 0 where
  pub rules : Reading
  pub shader : Reading
  pub out : Writing
  pub notes : Writing
  pub ended : Ended
  pub run : command_of words ≡ command.Run → EndsAsRun words rules shader out notes ended
  pub check : command_of words ≡ command.Check → EndsAsCheck words rules shader out notes ended
  pub eval : command_of words ≡ command.Eval → EndsAsEval words rules shader out notes ended
  pub is : number ≡ ended_number ended

-- a number under some words
abbrev pub IsNumber : ℕ → Type 0
IsNumber number = (words : List (List ℕ)) × EndsWith words number

-- a place, where there is a word at it
abbrev pub place_in : List (List ℕ) → ℕ → Option ℕ
place_in words place = if nat_lt place (length words) then Some place else None

abbrev pub rules_of_command : Command → List (List ℕ) → Option ℕ
rules_of_command command.Run words = place_in words 0
rules_of_command command.Check words = place_in words 1
rules_of_command command.Eval words = None

-- the place of the word RULES
abbrev pub rules_at : List (List ℕ) → Option ℕ
rules_at words = rules_of_command (command_of words) words
