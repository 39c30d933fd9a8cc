-- What a run did that ended with the whole text or a front of it: which rules and which shader it read, and how each step of its journal made the shader that it printed.
use Rattle.std.specs.Prelude.{◌≡◌, ◌≤◌, ◌<◌, ◌+◌, ◌⊎◌, ◌&&◌, ℕ, Bool, true, false, not, List, [], ◌++◌, length, Option, Some, None, Ok, if◌then◌else◌}
use Rattle.nir_host.specs.Faults.{Rose}
use Rattle.nir_host.specs.Told.{Gains}
use Rattle.nir_host.specs.Whole.{TakesFront}
use Rattle.nir_ir.specs.declared.journal.Step.{Step}
use Rattle.nir_ir.specs.Shader.{Shader}
use Rattle.nir_ir.specs.Shaped.{IsShaped}
use Rattle.journal_text.specs.Journal.{journal_text}
use Rattle.rule_term.specs.declared.when.Options.{Options}
use Rattle.rule_term.specs.Descending.{is_descending}
use Rattle.rule_term.specs.Table.{Table, op_weight}
use Rattle.rule_read.specs.RuleFile.{RuleFile}
use Rattle.rule_read.specs.Says.{file_says}
use Rattle.nir_mean.specs.Same.{Same}
use Rattle.nir_print.specs.Renumber.{renumber}
use Rattle.nir_print.specs.RoundTrip.{IsTextOf, printed_names}
use Rattle.nir_print.specs.Text.{text_of}
use Rattle.nir_validate.specs.Valid.{Valid}
use Rattle.nir_search.specs.Steps.{replay, is_settled}
use Rattle.nir_search.specs.Weight.{weight_of}
use Rattle.run_words.specs.RunWords.{Given}
use Rattle.nir_opt.specs.declared.status.Report.{Report}
use Rattle.nir_opt.specs.declared.status.Status.{Status}
use Rattle.nir_opt.specs.declared.status.Status.TheVariants.{WriteFault}
use Rattle.nir_opt.specs.declared.status.Status.TheVariants as status
use Rattle.nir_opt.specs.declared.printed.Printed.{Printed}
use Rattle.nir_opt.specs.Answers.{place_of}
use Rattle.nir_opt.specs.Asked.{rules_answer, shader_answer}
use Rattle.nir_opt.specs.Texts.{IsTableOf}

abbrev pub options_of : Given → Options
options_of given = record { names = given.names }

-- the limit that is said, else the weight of the shader and 4,096
abbrev pub limit_or : Option ℕ → ℕ → ℕ
limit_or None weight = weight + 4096
limit_or (Some limit) weight = limit

-- what is printed: the shader, and behind it the steps where they are asked for
abbrev pub remarks_text : Given → List Step → List ℕ
remarks_text given journal = if given.remarks then journal_text journal else []

abbrev pub printed_text : Given → List Step → Shader → List ℕ
printed_text given journal last = text_of last ++ remarks_text given journal

-- The last shader of a run over these two texts, of which the first says what the file says, with this journal, so many rewrites, this limit on them, and whether the limit stopped it.
pub record IsPrinted (given : Given) (rules shader : List ℕ) (journal : List Step) (rewrites limit : ℕ) (stopped : Bool) (last : Shader) : Type 0 where
  pub file : RuleFile
  pub read : Shader
  pub rules_read : rules_answer given.skip rules ≡ Ok (file_says file)
  pub shader_read : shader_answer shader ≡ Ok read
  -- the rules that are used: those of the file that are accepted, with its weights
  pub table : Table
  pub tabled : IsTableOf file table
  -- each step is the first match at its value, in its turn
  pub replayed : replay (options_of given) table.rules read journal ≡ Some last
  pub counted : rewrites ≡ length journal
  pub limited : limit ≡ limit_or given.limit (weight_of (op_weight table) read)
  pub few : rewrites ≤ limit
  -- nothing is left to do, unless the limit stopped it
  pub settled : stopped ≡ not (is_settled (options_of given) table.rules last)
  pub at_limit : stopped ≡ true → rewrites ≡ limit
  -- by rules that lead to lighter opcodes each step leaves the shader lighter, and a limit of at least its weight stops nothing
  pub lighter : is_descending table ≡ true → weight_of (op_weight table) last + rewrites ≤ weight_of (op_weight table) read
  pub unstopped : is_descending table ≡ true → weight_of (op_weight table) read ≤ limit → stopped ≡ false
  -- it is shaped and valid, and means what the one that was read means
  pub shaped : IsShaped last
  pub valid : Valid last
  pub same : Same read last
  -- its text is in the grammar, and denotes it in text order
  pub denotes : IsTextOf (text_of last) (printed_names last.body) (renumber last)
  -- which is shaped and valid too, and means the same
  pub printed_shaped : IsShaped (renumber last)
  pub printed_valid : Valid (renumber last)
  pub printed_same : Same read (renumber last)

-- the text is that of the last shader of a run over these two texts, with its steps where they are asked for
abbrev pub PrintsLast : Given → List ℕ → List ℕ → Printed → Type 0
PrintsLast given rules shader printed =
    (last : Shader)
    × IsPrinted given rules shader printed.journal printed.rewrites printed.limit printed.stopped last
    × (printed.text ≡ printed_text given printed.journal last)

-- a sink took the text whole, or a front of it and a fault was counted
abbrev pub Writes : Status → List ℕ → Option (List ℕ) → Option (List ℕ) → ℕ → ℕ → Type 0
Writes ending text before now faults_before faults_now =
    ((ending ≡ status.Ok) × Gains before now text)
    ⊎ ((ending ≡ WriteFault) × Rose faults_before faults_now × ((taken : List ℕ) → before ≡ Some taken → TakesFront taken now text))

abbrev pub is_ok : Status → Bool
is_ok status.Ok = true
is_ok _ = false

-- the report of a run that came to its end
abbrev pub reported : Status → Printed → Report
reported status printed = record {
  status = status;
  journal = printed.journal;
  rewrites = printed.rewrites;
  limit = printed.limit;
  stopped = is_ok status && printed.stopped;
  place = 0;
}

-- the report of a run that stopped before
abbrev pub idle : Status → Report
idle status = record { status = status; journal = []; rewrites = 0; limit = 0; stopped = false; place = place_of status }
