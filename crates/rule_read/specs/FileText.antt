-- What a text says as a rule file, or its first fault, as the caller of the reader is told it.
use Rattle.std.specs.Prelude.{ℕ, List, Result, Ok, Err}
use Rattle.rule_spelling.specs.Files.{Item, File, file_of}
use Rattle.rule_spelling.specs.Text.{TextFault, At, read_text}
use Rattle.rule_spelling.specs.Text as spelled
use Rattle.term_read.specs.declared.fault.RuleFault.{RuleFault}
use Rattle.term_read.specs.declared.fault.RuleFault.TheVariants.{Lex}
use Rattle.term_read.specs.Source.{at_place}

abbrev pub told : Result (List Item) TextFault → Result File RuleFault
told (Ok items) = Ok (file_of items)
told (Err (spelled.Lex fault)) = Err (Lex fault)
told (Err (At fault place)) = Err (at_place fault place)

unfoldable pub rules_of_text : List ℕ → Result File RuleFault
rules_of_text text = told (read_text text)
