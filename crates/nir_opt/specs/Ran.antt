-- What a call of `run` promises of its words, its two sources and its two sinks, as one fact.
use Rattle.std.specs.Prelude.{◌≡◌, ◌↔◌, ◌≢◌, ℕ, Bool, true, false, List, [], ◌++◌, Option, Some, None, Ok, if◌then◌else◌, nat_le, nat_lt}
use Rattle.nir_host.specs.declared.fault.Which.TheVariants as which
use Rattle.nir_host.specs.Faults.{Rose}
use Rattle.nir_host.specs.Told.{Gains}
use Rattle.nir_host.specs.Whole.{TakesFront}
use Rattle.nir_ir.specs.Shader.{Shader}
use Rattle.nir_text.specs.declared.fault.TextFault.{TextFault}
use Rattle.nir_mean.specs.Faults.{is_of_text}
use Rattle.nir_mean.specs.ShaderLines.{TakesLine}
use Rattle.nir_mean.specs.ShaderText.{ReadsToEnd}
use Rattle.rule_check.specs.Accepted.{refusals}
use Rattle.rule_check.specs.declared.refused.Refused.{Refused}
use Rattle.rule_spelling.specs.Files.{File}
use Rattle.term_read.specs.declared.fault.RuleFault.{RuleFault}
use Rattle.run_words.specs.RunWords.{Given, run_words}
use Rattle.nir_opt.specs.declared.status.Report.{Report}
use Rattle.nir_opt.specs.declared.status.Status.{Status}
use Rattle.nir_opt.specs.declared.status.Status.TheVariants as status
use Rattle.nir_opt.specs.Answers.{is_of_rule_text, line_with, place_of, skipped_text, stopped_text, usage_line}
use Rattle.nir_opt.specs.Asked.{asked, Fits, IsAsked, rules_answer, shader_answer, stage_of}
use Rattle.nir_opt.specs.Printed.{IsPrinted, printed_text}

-- a source before a call and after it: the bytes that it has left, where it tells them, and its count of faults
pub record Reading : Type 0 where
  pub left_before : Option (List ℕ)
  pub left_after : Option (List ℕ)
  pub faults_before : ℕ
  pub faults_after : ℕ

-- a sink before a call and after it: the bytes that it has taken, where it tells them, and its count of faults
pub record Writing : Type 0 where
  pub taken_before : Option (List ℕ)
  pub taken_after : Option (List ℕ)
  pub faults_before : ℕ
  pub faults_after : ℕ

-- a fault of it was counted
abbrev pub ReadFaults : Reading → Type 0
ReadFaults source = Rose source.faults_before source.faults_after

abbrev pub WriteFaults : Writing → Type 0
WriteFaults sink = Rose sink.faults_before sink.faults_after

-- ---- the lines that a run writes

-- the line of a report: that of its status, or that the limit stopped it
abbrev pub report_line : Report → List ℕ
report_line report = if report.stopped then stopped_text report.rewrites else line_with usage_line report.status

-- these are the first of those
abbrev pub IsFrontOf : List Refused → List Refused → Type 0
IsFrontOf front whole = (rest : List Refused) × (whole ≡ front ++ rest)

-- The rules that are told to be left out: none where the run did not come behind the rules, and else the refused rules of the file; where there was no
-- memory, the first of them.
pub record AreSkipped (given_words : List (List ℕ)) (rules : Reading) (ending : Status) (skipped : List Refused) : Type 0 where
  pub early : nat_le (stage_of ending) 1 ≡ true → ending ≢ status.OutOfMemory → skipped ≡ []
  pub behind : (given : Given) → run_words given_words ≡ Some given → (text : List ℕ) → rules.left_before ≡ Some text
      → (file : File) → rules_answer given.skip text ≡ Ok file → nat_lt 1 (stage_of ending) ≡ true → skipped ≡ refusals file.entries
  pub no_memory : ending ≡ status.OutOfMemory → (given : Given) → run_words given_words ≡ Some given → (text : List ℕ) → rules.left_before ≡ Some text
      → (file : File) → rules_answer given.skip text ≡ Ok file → IsFrontOf skipped (refusals file.entries)
  pub off : (given : Given) → run_words given_words ≡ Some given → given.skip ≡ false → skipped ≡ []

pub record Notes (given_words : List (List ℕ)) (rules : Reading) (lines : Writing) (report : Report) : Type 0 where
  pub skipped : List Refused
  pub are : AreSkipped given_words rules report.status skipped
  pub taken : TakesLine lines.taken_before lines.taken_after lines.faults_before lines.faults_after (skipped_text skipped ++ report_line report)

-- ---- the clauses of `run`

pub record Ran (given_words : List (List ℕ)) (rules shader : Reading) (out lines : Writing) (report : Report) : Type 0 where
  pub words : (report.status ≡ status.Usage) ↔ (run_words given_words ≡ None)
  pub rules_text : (given : Given) → run_words given_words ≡ Some given → (text : List ℕ) → rules.left_before ≡ Some text
      → Fits 1 report.status (rules_answer given.skip text)
  pub shader_text : (text : List ℕ) → shader.left_before ≡ Some text → Fits 2 report.status (shader_answer text)
  pub asks : (rule_text shader_text : List ℕ) → rules.left_before ≡ Some rule_text → shader.left_before ≡ Some shader_text
      → IsAsked (asked given_words rule_text shader_text) report.status
  pub rules_syntax : (fault : RuleFault) → report.status ≡ status.RulesSyntax fault → is_of_rule_text fault ≡ true
  pub syntax : (fault : TextFault) → report.status ≡ status.ShaderSyntax fault → is_of_text fault ≡ true
  pub rules_fault : report.status ≡ status.ReadFault which.Rules → ReadFaults rules
  pub shader_fault : report.status ≡ status.ReadFault which.Shader → ReadFaults shader
  pub write_fault : report.status ≡ status.WriteFault → WriteFaults out
  pub nothing_read : report.status ≡ status.Usage → (rules.left_after ≡ rules.left_before) × (shader.left_after ≡ shader.left_before)
  pub shader_unread : nat_le (stage_of report.status) 1 ≡ true → report.status ≢ status.OutOfMemory → shader.left_after ≡ shader.left_before
  pub rules_end : report.status ≡ status.Ok → ReadsToEnd rules.left_before rules.left_after
  pub shader_end : report.status ≡ status.Ok → ReadsToEnd shader.left_before shader.left_after
  pub untouched : report.status ≢ status.Ok → report.status ≢ status.WriteFault → out.taken_after ≡ out.taken_before
  pub printed : report.status ≡ status.Ok → (given : Given) → run_words given_words ≡ Some given
      → (rule_text shader_text : List ℕ) → rules.left_before ≡ Some rule_text → shader.left_before ≡ Some shader_text
      → (last : Shader) × IsPrinted given rule_text shader_text report.journal report.rewrites report.limit report.stopped last
      × Gains out.taken_before out.taken_after (printed_text given report.journal last)
  pub prefix : report.status ≡ status.WriteFault → (given : Given) → run_words given_words ≡ Some given
      → (rule_text shader_text : List ℕ) → rules.left_before ≡ Some rule_text → shader.left_before ≡ Some shader_text
      → (before : List ℕ) → out.taken_before ≡ Some before
      → (last : Shader) × (stopped : Bool) × IsPrinted given rule_text shader_text report.journal report.rewrites report.limit stopped last
      × TakesFront before out.taken_after (printed_text given report.journal last)
  pub notes : Notes given_words rules lines report
  pub idle : report.status ≢ status.Ok → report.status ≢ status.WriteFault → (report.journal ≡ []) × (report.rewrites ≡ 0) × (report.limit ≡ 0)
  pub stopped : report.status ≢ status.Ok → report.stopped ≡ false
  pub place : report.place ≡ place_of report.status
