-- Lists of evidence, with commas between their items, as functions of the code read them: each item is added to those before it.
use Rattle.std.specs.Prelude.{List, [], ◌∷◌, ◌++◌, Ok}
use Rattle.grammar.specs.Grammar.{Grammar}
use Rattle.grammar.specs.Lookahead.{one}
use Rattle.grammar.specs.Terminals.{Class}
use Rattle.grammar.specs.Words.{each_behind_comma, mark, maybe_none, separated}
use Rattle.rule_spelling.specs.RuleFiles.{rule_files}
use Rattle.term_read.specs.Source.{Source, Answer, ◌then◌, reads}

-- these items, and one more
abbrev pub another : {c : Class} {A : Type 0} → Grammar rule_files (one c) A → List A → Source → Answer (List A)
another item front s = reads item s then λ a s'. Ok (front ++ a ∷ [], s')

-- these items, and one more behind a comma
abbrev pub another_behind : {c : Class} {A : Type 0} → Grammar rule_files (one c) A → List A → Source → Answer (List A)
another_behind item front s = reads (mark rule_files 44) s then λ _ s'. another item front s'

-- these items, and those behind them, each behind a comma
abbrev pub with_others : {c : Class} {A : Type 0} → Grammar rule_files (one c) A → List A → Source → Answer (List A)
with_others item front s = reads (each_behind_comma rule_files item) s then λ others s'. Ok (front ++ others, s')

-- what stands between the brackets
abbrev pub inside : {c : Class} {A : Type 0} → Grammar rule_files (one c) A → Source → Answer (List A)
inside item s = reads (maybe_none rule_files (separated rule_files item)) s
