-- Parts of the grammar of whole files that functions of the code read, and how what they read is added to a file.
use Rattle.std.specs.Prelude.{Bool, List, [], ◌∷◌, Option, codes}
use Rattle.grammar.specs.Grammar.{Grammar, sequence}
use Rattle.grammar.specs.Lookahead.{Lookahead, begins, one, nothing, star, ◌⨟◌, ◌∪◌}
use Rattle.grammar.specs.Terminals.{Class, TheMark, TheWord}
use Rattle.grammar.specs.Words.{each_behind_comma_then_maybe_one, listed, mark, maybe_none, optional}
use Rattle.rule_spelling.specs.Files.{File, Item}
use Rattle.rule_spelling.specs.RuleFiles.{rule_files, item}
use Rattle.term_read.specs.declared.reader.Reader.{Reader}
use Rattle.term_read.specs.FoldLaws.{added, mapped}
use Rattle.term_read.specs.Source.{Source, Answer, reads}
use Rattle.rule_read.specs.Growing.{with_item, with_items}

-- ---- grammars

-- with what an item begins
abbrev pub item_firsts : List Class
item_firsts = TheWord (codes "weight") ∷ TheMark 40 ∷ TheWord (codes "by") ∷ []

-- an item behind its comma, or none behind the last comma
abbrev pub sought_item : Grammar rule_files (one (TheMark 44) ⨟ ((begins item_firsts [] ⨟ nothing) ∪ nothing)) (Option Item)
sought_item = sequence (mark rule_files 44) (λ _. optional rule_files item)

-- items, each behind a comma, and maybe a comma behind them
abbrev pub other_items : Grammar rule_files (star (one (TheMark 44) ⨟ ((begins item_firsts [] ⨟ nothing) ∪ nothing))) (List Item)
other_items = each_behind_comma_then_maybe_one rule_files item

-- the items of a file, or none
abbrev pub all_items : Grammar rule_files
    ((begins item_firsts [] ⨟ star (one (TheMark 44) ⨟ ((begins item_firsts [] ⨟ nothing) ∪ nothing)) ⨟ nothing) ∪ nothing)
    (List Item)
all_items = maybe_none rule_files (listed rule_files item)

-- ---- files that grow

-- a file with the item that is read
abbrev pub adds_item : {p : Lookahead} → File → Grammar rule_files p Item → Source → Answer File
adds_item file g s = mapped (with_item file) (reads g s)

-- whether there was an item, and the file with it
abbrev pub adds_sought : {p : Lookahead} → File → Grammar rule_files p (Option Item) → Source → Answer (Bool × File)
adds_sought file g s = mapped (added with_item file) (reads g s)

-- a file with the items that are read
abbrev pub adds_items : {p : Lookahead} → File → Grammar rule_files p (List Item) → Source → Answer File
adds_items file g s = mapped (with_items file) (reads g s)

-- a reader that read its text to the end
abbrev pub read_up : Reader → Source
read_up reader = record { text = reader.point.text.now; state = reader.state; rest = [] }
