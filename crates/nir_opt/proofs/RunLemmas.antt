-- What a run's parts say of what it prints.
use Rattle.std.specs.Prelude.{◌≡◌, ◌⊎◌, ◌+◌, ◌≤◌, ◌<◌, ◌++◌, ℕ, Bool, true, false, not, List, [], length, Option, Ok, None, Some, if◌then◌else◌}
use Rattle.std.proofs.Common.{◌∙◌, ap, arith, inl, inr, subst, sym}
use Rattle.std.specs.Option.{option_map}
use Rattle.nir_ir.specs.declared.journal.Step.{Step}
use Rattle.nir_ir.specs.Shader.{Shader}
use Rattle.nir_ir.specs.Shaped.{IsShaped}
use Rattle.journal_text.specs.Journal.{journal_text}
use Rattle.rule_term.specs.declared.when.Options.{Options}
use Rattle.rule_term.specs.Descending.{is_descending}
use Rattle.rule_term.specs.Table.{Table, op_weight}
use Rattle.rule_read.specs.RuleFile.{RuleFile}
use Rattle.rule_read.specs.Says.{file_says}
use Rattle.nir_mean.specs.Same.{Same, Same-trans}
use Rattle.nir_print.specs.Renumber.{renumber}
use Rattle.nir_print.specs.RoundTrip.{IsTextOf, printed_names}
use Rattle.nir_print.specs.Text.{text_of}
use Rattle.print_meaning.specs.RenumberedLaws.{RenumberedIsSame, RenumberedIsShaped, RenumberedIsValid}
use Rattle.nir_validate.specs.Valid.{Valid}
use Rattle.nir_search.specs.Steps.{replay, is_settled}
use Rattle.nir_search.specs.Weight.{weight_of}
use Rattle.run_words.specs.declared.words.RunWords.{RunWords}
use Rattle.run_words.specs.RunWords.{Given, run_words}
use Rattle.run_words.specs.Views.{given as seen}
use Rattle.nir_opt.specs.Asked.{rules_answer, shader_answer}
use Rattle.nir_opt.specs.Printed.{IsPrinted, limit_or, options_of, printed_text}
use Rattle.nir_opt.specs.Texts.{IsTableOf}

-- what the reading of words says of their reading by definition
pub words_none : (found : Option RunWords) (words : List (List ℕ)) → option_map seen found ≡ run_words words → found ≡ None → run_words words ≡ None
words_none found words says none = sym says ∙ ap (option_map seen) none

pub words_some : (found : Option RunWords) (words : List (List ℕ)) (said : RunWords) → option_map seen found ≡ run_words words → found ≡ Some said → run_words words ≡ Some (seen said)
words_some found words said says some = sym says ∙ ap (option_map seen) some

-- options with these names
pub options_are : (options : Options) (names : List (List ℕ)) → options.names ≡ names → options ≡ record { names = names }
options_are options names same = ap (λ (n : List (List ℕ)). record { names = n }) same

-- what is known of the last shader of a run under these options and by this table
pub record IsDone (options : Options) (said : Option ℕ) (table : Table) (read last : Shader) (journal : List Step) (rewrites limit : ℕ) (stopped : Bool) : Type 0 where
  pub replayed : replay options table.rules read journal ≡ Some last
  pub counted : rewrites ≡ length journal
  pub limited : limit ≡ limit_or said (weight_of (op_weight table) read)
  pub few : rewrites ≤ limit
  pub settled : stopped ≡ not (is_settled options table.rules last)
  pub at_limit : stopped ≡ true → rewrites ≡ limit
  pub lighter : is_descending table ≡ true → weight_of (op_weight table) last + rewrites ≤ weight_of (op_weight table) read
  pub unstopped : is_descending table ≡ true → weight_of (op_weight table) read ≤ limit → stopped ≡ false
  pub shaped : IsShaped last
  pub valid : Valid last
  pub same : Same read last

-- a run by rules that is stopped has reached its limit
pub limit_reached : (settled : Bool) (rewrites limit : ℕ) → (settled ≡ true) ⊎ (rewrites ≡ limit) → not settled ≡ true → rewrites ≡ limit
limit_reached true rewrites limit either stopped = absurd (cc)
limit_reached false rewrites limit either stopped = elim either [
  | inl is ↦ absurd (cc)
  | inr same ↦ same
]

pub printed_is : (given : Given) (options : Options) (rules shader : List ℕ) (table : Table) (file : RuleFile) (read last : Shader) (journal : List Step) (rewrites limit : ℕ) (stopped : Bool) (text whole : List ℕ)
    → options.names ≡ given.names → rules_answer given.skip rules ≡ Ok (file_says file) → IsTableOf file table → shader_answer shader ≡ Ok read
    → IsDone options given.limit table read last journal rewrites limit stopped
    → text ≡ text_of last → IsTextOf text (printed_names last.body) (renumber last) → whole ≡ text ++ (if given.remarks then journal_text journal else [])
    → RenumberedIsShaped → RenumberedIsValid → RenumberedIsSame
    → (last : Shader) × IsPrinted given rules shader journal rewrites limit stopped last × (whole ≡ printed_text given journal last)
printed_is given options rules shader table file read last journal rewrites limit stopped text whole names rules_read tabled shader_read done is denotes made keeps_shape keeps_validity keeps_meaning =
    let same : options ≡ options_of given = options_are options given.names names in
    let printed : IsPrinted given rules shader journal rewrites limit stopped last = record {
      file = file;
      read = read;
      rules_read = rules_read;
      shader_read = shader_read;
      table = table;
      tabled = tabled;
      replayed = subst (λ o. replay o table.rules read journal ≡ Some last) same done.replayed;
      counted = done.counted;
      limited = done.limited;
      few = done.few;
      settled = subst (λ o. stopped ≡ not (is_settled o table.rules last)) same done.settled;
      at_limit = done.at_limit;
      lighter = done.lighter;
      unstopped = done.unstopped;
      shaped = done.shaped;
      valid = done.valid;
      same = done.same;
      denotes = subst (λ t. IsTextOf t (printed_names last.body) (renumber last)) is denotes;
      printed_shaped = keeps_shape last done.shaped;
      printed_valid = keeps_validity last done.shaped done.valid;
      printed_same = Same-trans read last (renumber last) done.same (keeps_meaning last done.shaped);
    } in
    (last, printed, made ∙ ap (λ t. t ++ (if given.remarks then journal_text journal else [])) is)
