-- Parts of the grammar of rule files that functions of the code read.
use Rattle.std.specs.Prelude.{pos, true, [], ◌∷◌, Option, Ok, codes}
use Rattle.rule_term.specs.Terms.{Terms, Nil, LitThen}
use Rattle.grammar.specs.Terminals.{TheWord, WordBut, TheMark, ANumber, AQuoted}
use Rattle.grammar.specs.Lookahead.{begins, one, nothing, ◌⨟◌, ◌∪◌}
use Rattle.grammar.specs.Grammar.{Grammar, terminal, sequence, named}
use Rattle.grammar.specs.Words.{◌or◌, mark, optional}
use Rattle.rule_spelling.specs.RuleFiles.{rule_files, expr_firsts, truths}
use Rattle.rule_spelling.specs.Tokens.{Place, var_taken, number_taken}

-- a truth value
abbrev pub truth : Grammar rule_files (one (TheWord (codes "True")) ∪ one (TheWord (codes "False"))) Terms
truth =
    terminal (TheWord (codes "True")) (λ x first. Ok (LitThen (pos 1) true Nil, x))
    or terminal (TheWord (codes "False")) (λ x first. Ok (LitThen (pos 0) true Nil, x))

-- a term that is no opcode over others
abbrev pub leaf : Place → Grammar rule_files (begins (WordBut truths ∷ AQuoted ∷ ANumber ∷ TheWord (codes "True") ∷ TheWord (codes "False") ∷ []) []) Terms
leaf place = terminal (WordBut truths) (var_taken place) or terminal AQuoted (var_taken place) or terminal ANumber number_taken or truth

-- a source behind its comma, or none behind the last comma
abbrev pub sought_source : Place → Grammar rule_files (one (TheMark 44) ⨟ ((begins expr_firsts [] ⨟ nothing) ∪ nothing)) (Option Terms)
sought_source place = sequence (mark rule_files 44) (λ _. optional rule_files (named place))
