-- What the words and the texts of a call ask for: to stop with a status, or to go through.
use Rattle.std.specs.Prelude.{◌≡◌, ℕ, Bool, true, false, List, [], ◌∷◌, length, IsOk, Option, Some, None, Result, Ok, Err, nat_lt, if◌then◌else◌}
use Rattle.nir_host.specs.declared.fault.Which.TheVariants.{Rules, Shader}
use Rattle.nir_ir.specs.Shader as ir
use Rattle.rule_spelling.specs.Files.{File}
use Rattle.term_read.specs.declared.fault.RuleFault.{RuleFault}
use Rattle.rule_read.specs.FileText.{rules_of_text}
use Rattle.rule_check.specs.Accepted.{refusals}
use Rattle.rule_check.specs.declared.refused.Refused.{Refused}
use Rattle.run_words.specs.RunWords.{Given, is_rules_alone, run_words}
use Rattle.nir_mean.specs.ShaderText.{Answer, Faulty, Invalid, Sound, answer_of}
use Rattle.nir_mean.specs.ShaderText as answer
use Rattle.nir_opt.specs.declared.status.Status.{Status}
use Rattle.nir_opt.specs.declared.status.Status.TheVariants.{Usage, ReadFault, WriteFault, RulesSyntax, RuleRefused, ShaderSyntax, ShaderInvalid, OutOfMemory}
use Rattle.nir_opt.specs.declared.status.Status.TheVariants as status

-- ---- texts

-- what a file says whose rules are accepted, or of which those that are not are left out
abbrev pub judged : Bool → File → List Refused → Result File Status
judged skip file [] = Ok file
judged true file (refused ∷ others) = Ok file
judged false file (refused ∷ others) = Err (RuleRefused refused)

abbrev pub file_answer : Bool → Result File RuleFault → Result File Status
file_answer skip (Ok file) = judged skip file (refusals file.entries)
file_answer skip (Err fault) = Err (RulesSyntax fault)

-- what a rule text says as a rule file, or the status for every other text
unfoldable pub rules_answer : Bool → List ℕ → Result File Status
rules_answer skip text = if nat_lt 67108864 (length text) then Err (status.TooLong Rules) else file_answer skip (rules_of_text text)

abbrev pub answer_on : Answer → Result ir.Shader Status
answer_on answer.TooLong = Err (status.TooLong Shader)
answer_on (Faulty fault) = Err (ShaderSyntax fault)
answer_on (Invalid rule item) = Err (ShaderInvalid rule item)
answer_on (Sound shader) = Ok shader

-- the valid shader of a shader text, or the status for every other text
unfoldable pub shader_answer : List ℕ → Result ir.Shader Status
shader_answer text = answer_on (answer_of text)

-- ---- what is asked

-- the status of an answer, or what comes behind it
abbrev pub behind : {A : Type 0} → Result A Status → Status → Status
behind (Ok a) next = next
behind (Err ending) next = ending

abbrev pub asked_of : Option Given → List ℕ → List ℕ → Status
asked_of None rules shader = Usage
asked_of (Some given) rules shader = behind (rules_answer given.skip rules) (behind (shader_answer shader) status.Ok)

-- what words and two texts ask of `run`: Ok where a shader is to be printed
abbrev pub asked : List (List ℕ) → List ℕ → List ℕ → Status
asked words rules shader = asked_of (run_words words) rules shader

abbrev pub verdict : List Refused → Status
verdict [] = status.Ok
verdict (refused ∷ others) = RuleRefused refused

abbrev pub verdict_on : Result File Status → Status
verdict_on (Ok file) = verdict (refusals file.entries)
verdict_on (Err ending) = ending

-- what words and a text ask of `check`
abbrev pub asked_to_check : List (List ℕ) → List ℕ → Status
asked_to_check words rules = if is_rules_alone words then verdict_on (rules_answer true rules) else Usage

-- ---- how far a run comes

-- The stage at which a run ends with a status: its words, its rules, its shader, or its end. Want of memory may end it at any and says nothing.
abbrev pub stage_of : Status → ℕ
stage_of status.Ok = 3
stage_of Usage = 0
stage_of (ReadFault Rules) = 1
stage_of (ReadFault Shader) = 2
stage_of WriteFault = 3
stage_of (RulesSyntax fault) = 1
stage_of (RuleRefused refused) = 1
stage_of (ShaderSyntax fault) = 2
stage_of (ShaderInvalid rule item) = 2
stage_of (status.TooLong Rules) = 1
stage_of (status.TooLong Shader) = 2
stage_of OutOfMemory = 0

-- want of memory, or a fault of a stream: such a status is not asked for
abbrev pub is_free : Status → Bool
is_free status.Ok = false
is_free Usage = false
is_free (ReadFault which) = true
is_free WriteFault = true
is_free (RulesSyntax fault) = false
is_free (RuleRefused refused) = false
is_free (ShaderSyntax fault) = false
is_free (ShaderInvalid rule item) = false
is_free (status.TooLong which) = false
is_free OutOfMemory = true

-- A status and what the text of a stage answers: a run that ends at this stage does so as the text asks, and one that ends at a later stage comes there
-- because the text has its answer.
pub record Fits (stage : ℕ) (ending : Status) {A : Type 0} (answer : Result A Status) : Type 0 where
  pub here : stage_of ending ≡ stage → is_free ending ≡ false → answer ≡ Err ending
  pub later : nat_lt stage (stage_of ending) ≡ true → IsOk answer

-- a status that is asked for is this one
abbrev pub IsAsked : Status → Status → Type 0
IsAsked ask ending = is_free ending ≡ false → ending ≡ ask
