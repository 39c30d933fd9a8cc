-- A rule file that grows item by item, as a reader makes it.
use Rattle.std.specs.Prelude.{List, [], ◌∷◌, ◌++◌, map}
use Rattle.rule_spelling.specs.Files.{Item, AWeight, ARule, ALine, Line, Entry, File}
use Rattle.rule_read.specs.declared.grown.Grown.{Grown}
use Rattle.rule_read.specs.Says.{entry_says, weight_says}

-- lines behind those of the last rule, where there is one
abbrev pub with_lines : List Line → List Entry → List Entry
with_lines lines [] = []
with_lines lines (entry ∷ []) = record { rule = entry.rule; lines = entry.lines ++ lines } ∷ []
with_lines lines (entry ∷ next ∷ others) = entry ∷ with_lines lines (next ∷ others)

-- one more item
abbrev pub with_item : File → Item → File
with_item file (AWeight op weight) = record { entries = file.entries; weights = file.weights ++ record { op = op; weight = weight } ∷ [] }
with_item file (ARule rule) = record { entries = file.entries ++ record { rule = rule; lines = [] } ∷ []; weights = file.weights }
with_item file (ALine line) = record { entries = with_lines (line ∷ []) file.entries; weights = file.weights }

abbrev pub with_items : File → List Item → File
with_items file [] = file
with_items file (item ∷ items) = with_items (with_item file item) items

abbrev pub no_file : File
no_file = record { entries = []; weights = [] }

-- what the code holds so far
abbrev pub grown_says : Grown → File
grown_says grown = record { entries = map entry_says grown.entries; weights = map weight_says grown.weights }
