-- Parts of the grammar of evidence that functions of the code read, and what they answer.
use Rattle.std.specs.Prelude.{[], ◌∷◌, Option, Some, None, map, ℕ, codes}
use Rattle.grammar.specs.Grammar.{Grammar, empty}
use Rattle.grammar.specs.Lookahead.{begins}
use Rattle.grammar.specs.Terminals.{ANumber, TheMark, TheWord, WordBut}
use Rattle.grammar.specs.Words.{◌>>=◌, ◌>>◌, ◌or◌, bytes, mark, word}
use Rattle.rule_spelling.specs.Files.{Step}
use Rattle.rule_spelling.specs.RuleFiles.{rule_files, Reading, behind_rev, bound_to, calc, index, law, others_behind}
use Rattle.rule_read.specs.declared.steps.Reading as code
use Rattle.rule_read.specs.Says.{binding_says}

abbrev pub reading_says : code.Reading → Reading
reading_says reading = record { rev = reading.rev; bindings = map binding_says reading.bindings }

-- the word `rev` or the first binding, and what stands behind
abbrev pub rev_or_binding : Grammar rule_files (begins (TheWord (codes "rev") ∷ WordBut (codes "rev" ∷ []) ∷ []) (TheMark 61 ∷ TheMark 44 ∷ TheMark 44 ∷ [])) Reading
rev_or_binding = (word rule_files (codes "rev") >> behind_rev) or (bytes rule_files (WordBut (codes "rev" ∷ [])) >>= bound_to >>= others_behind)

abbrev pub law_or_calc : Grammar rule_files (begins (ANumber ∷ TheWord (codes "calc") ∷ []) (TheMark 61 ∷ TheMark 44 ∷ [])) Step
law_or_calc = law or calc

-- the typing for which a line is: all, or that of a number
abbrev pub typing : Grammar rule_files (begins (TheMark 42 ∷ ANumber ∷ []) []) (Option ℕ)
typing = (mark rule_files 42 >> empty None) or (index >>= λ number. empty (Some number))
