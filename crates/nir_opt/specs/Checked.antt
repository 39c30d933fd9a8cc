-- The lines of `check`, one for each rule of a file, and what a call of `run_check` promises, as one fact.
use Rattle.std.specs.Prelude.{◌≡◌, ◌↔◌, ◌≢◌, ◌++◌, ℕ, Bool, true, false, List, [], Option, Some, None, Ok, codes, decimal}
use Rattle.std.specs.List.{flat_map}
use Rattle.nir_host.specs.declared.fault.Which.TheVariants as which
use Rattle.nir_host.specs.Told.{Gains}
use Rattle.nir_host.specs.Whole.{TakesFront}
use Rattle.nir_mean.specs.ShaderLines.{TakesLine}
use Rattle.nir_mean.specs.ShaderText.{ReadsToEnd}
use Rattle.rule_check.specs.Accepted.{refusal_of}
use Rattle.rule_check.specs.declared.refused.Refused.{Refused}
use Rattle.rule_spelling.specs.Files.{Entry, File}
use Rattle.term_read.specs.declared.fault.RuleFault.{RuleFault}
use Rattle.run_words.specs.RunWords.{is_rules_alone}
use Rattle.nir_opt.specs.declared.status.Status.{Status}
use Rattle.nir_opt.specs.declared.status.Status.TheVariants as status
use Rattle.nir_opt.specs.Answers.{check_usage_line, is_of_rule_text, line_with, refusal_line}
use Rattle.nir_opt.specs.Asked.{asked_to_check, IsAsked, rules_answer}
use Rattle.nir_opt.specs.Ran.{Reading, Writing, ReadFaults, WriteFaults}

abbrev pub verdict_line : ℕ → Option Refused → List ℕ
verdict_line number None = codes "rule " ++ decimal number ++ codes " accepted\n"
verdict_line number (Some refused) = refusal_line [] refused

-- whether the rule of an entry that a file says is accepted, or why not
abbrev pub check_line : Entry → List ℕ
check_line entry = verdict_line entry.rule.number (refusal_of entry)

abbrev pub check_text : List Entry → List ℕ
check_text entries = flat_map check_line entries

-- the whole text was taken: the rules are all accepted, or the first that is not is told
abbrev pub is_whole : Status → Bool
is_whole status.Ok = true
is_whole status.Usage = false
is_whole (status.ReadFault which) = false
is_whole status.WriteFault = false
is_whole (status.RulesSyntax fault) = false
is_whole (status.RuleRefused refused) = true
is_whole (status.ShaderSyntax fault) = false
is_whole (status.ShaderInvalid rule item) = false
is_whole (status.TooLong which) = false
is_whole status.OutOfMemory = false

-- a status with which `check` may end
abbrev pub is_of_check : Status → Bool
is_of_check status.Ok = true
is_of_check status.Usage = true
is_of_check (status.ReadFault which.Rules) = true
is_of_check (status.ReadFault which.Shader) = false
is_of_check status.WriteFault = true
is_of_check (status.RulesSyntax fault) = true
is_of_check (status.RuleRefused refused) = true
is_of_check (status.ShaderSyntax fault) = false
is_of_check (status.ShaderInvalid rule item) = false
is_of_check (status.TooLong which.Rules) = true
is_of_check (status.TooLong which.Shader) = false
is_of_check status.OutOfMemory = true

pub record RanCheck (given_words : List (List ℕ)) (rules : Reading) (out lines : Writing) (ending : Status) : Type 0 where
  pub words : (ending ≡ status.Usage) ↔ (is_rules_alone given_words ≡ false)
  pub asks : (text : List ℕ) → rules.left_before ≡ Some text → IsAsked (asked_to_check given_words text) ending
  pub kind : is_of_check ending ≡ true
  pub syntax : (fault : RuleFault) → ending ≡ status.RulesSyntax fault → is_of_rule_text fault ≡ true
  pub rules_fault : ending ≡ status.ReadFault which.Rules → ReadFaults rules
  pub write_fault : ending ≡ status.WriteFault → WriteFaults out
  pub nothing_read : ending ≡ status.Usage → rules.left_after ≡ rules.left_before
  pub end : is_whole ending ≡ true → ReadsToEnd rules.left_before rules.left_after
  pub untouched : is_whole ending ≡ false → ending ≢ status.WriteFault → out.taken_after ≡ out.taken_before
  pub told : is_whole ending ≡ true → (text : List ℕ) → rules.left_before ≡ Some text
      → (file : File) × (rules_answer true text ≡ Ok file) × Gains out.taken_before out.taken_after (check_text file.entries)
  pub prefix : ending ≡ status.WriteFault → (text : List ℕ) → rules.left_before ≡ Some text → (before : List ℕ) → out.taken_before ≡ Some before
      → (file : File) × (rules_answer true text ≡ Ok file) × TakesFront before out.taken_after (check_text file.entries)
  pub notes : TakesLine lines.taken_before lines.taken_after lines.faults_before lines.faults_after (line_with check_usage_line ending)
