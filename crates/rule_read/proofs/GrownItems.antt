-- A rule file that grew item by item from nothing is the file of the items.
use Rattle.std.proofs.Common.{◌≡◌, refl, List, [], ◌∷◌, ◌++◌, map, sym, ap, ◌∙◌, append_assoc}
use Rattle.std.proofs.lemmas.List.{append-nil}
use Rattle.rule_spelling.specs.Files.{Item, AWeight, ARule, ALine, Line, Entry, WeightLine, File, gathered, weights_of, file_of}
use Rattle.rule_read.specs.declared.entry.Entry as code_entry
use Rattle.rule_read.specs.declared.entry.Line as code_line
use Rattle.rule_read.specs.declared.entry.WeightLine as code_weight
use Rattle.rule_read.specs.Growing.{with_lines, with_item, with_items, no_file}
use Rattle.rule_read.specs.Says.{entry_says, line_says, weight_says}

with_none : (entries : List Entry) → with_lines [] entries ≡ entries
with_none [] = refl
with_none (entry ∷ []) = ap (λ (lines : List Line). record { rule = entry.rule; lines = lines } ∷ []) (append-nil entry.lines)
with_none (entry ∷ next ∷ others) = ap (λ (rest : List Entry). entry ∷ rest) (with_none (next ∷ others))

with_more : (lines more : List Line) (entries : List Entry) → with_lines more (with_lines lines entries) ≡ with_lines (lines ++ more) entries
with_more lines more [] = refl
with_more lines more (entry ∷ []) = ap (λ (lines : List Line). record { rule = entry.rule; lines = lines } ∷ []) (append_assoc entry.lines lines more)
with_more lines more (entry ∷ next ∷ []) = ap (λ (rest : List Entry). entry ∷ rest) (with_more lines more (next ∷ []))
with_more lines more (entry ∷ next ∷ third ∷ others) = ap (λ (rest : List Entry). entry ∷ rest) (with_more lines more (next ∷ third ∷ others))

pub with_last : (lines : List Line) (entries : List Entry) (entry : Entry)
    → with_lines lines (entries ++ entry ∷ []) ≡ entries ++ record { rule = entry.rule; lines = entry.lines ++ lines } ∷ []
with_last lines [] entry = refl
with_last lines (first ∷ []) entry = refl
with_last lines (first ∷ next ∷ others) entry = ap (λ (rest : List Entry). first ∷ rest) (with_last lines (next ∷ others) entry)

abbrev file_from : List Entry → List WeightLine → File
file_from entries weights = record { entries = entries; weights = weights }

grown : (file : File) (items : List Item)
    → with_items file items ≡ file_from (with_lines (gathered items).0 file.entries ++ (gathered items).1) (file.weights ++ weights_of items)
grown file [] = λ i. file_from ((sym (with_none file.entries) ∙ sym (append-nil (with_lines [] file.entries))) i) (sym (append-nil file.weights) i)
grown file (AWeight op weight ∷ items) =
    grown (with_item file (AWeight op weight)) items
    ∙ ap (file_from (with_lines (gathered items).0 file.entries ++ (gathered items).1)) (append_assoc file.weights (record { op = op; weight = weight } ∷ []) (weights_of items))
grown file (ARule rule ∷ items) =
    grown (with_item file (ARule rule)) items
    ∙ ap (λ (entries : List Entry). file_from (entries ++ (gathered items).1) (file.weights ++ weights_of items))
    (with_last (gathered items).0 file.entries (record { rule = rule; lines = [] }))
    ∙ ap (λ (entries : List Entry). file_from entries (file.weights ++ weights_of items))
    (append_assoc file.entries (record { rule = rule; lines = (gathered items).0 } ∷ []) (gathered items).1
    ∙ ap (λ (entries : List Entry). entries ++ record { rule = rule; lines = (gathered items).0 } ∷ (gathered items).1) (sym (with_none file.entries)))
grown file (ALine line ∷ items) =
    grown (with_item file (ALine line)) items
    ∙ ap (λ (entries : List Entry). file_from (entries ++ (gathered items).1) (file.weights ++ weights_of items)) (with_more (line ∷ []) (gathered items).0 file.entries)

-- the file that grew from nothing is that of the items
pub grown_is_file : (items : List Item) → with_items no_file items ≡ file_of items
grown_is_file items = grown no_file items

-- ---- lists of the code

append_says : {A B : Type 0} (says : A → B) (list : List A) (item : A) → map says (list ++ item ∷ []) ≡ map says list ++ says item ∷ []
append_says says [] item = refl
append_says says (first ∷ list) item = ap (λ rest. says first ∷ rest) (append_says says list item)

pub entries_append : (list : List code_entry.Entry) (entry : code_entry.Entry) → map entry_says (list ++ entry ∷ []) ≡ map entry_says list ++ entry_says entry ∷ []
entries_append list entry = append_says entry_says list entry

pub weights_append : (list : List code_weight.WeightLine) (line : code_weight.WeightLine) → map weight_says (list ++ line ∷ []) ≡ map weight_says list ++ weight_says line ∷ []
weights_append list line = append_says weight_says list line

-- one more line for the last of the entries
pub line_append : (list : List code_entry.Entry) (entry : code_entry.Entry) (line : code_line.Line)
    → map entry_says (list ++ record { rule = entry.rule; lines = entry.lines ++ line ∷ [] } ∷ [])
    ≡ with_lines (line_says line ∷ []) (map entry_says (list ++ entry ∷ []))
line_append list entry line =
    entries_append list (record { rule = entry.rule; lines = entry.lines ++ line ∷ [] })
    ∙ ap (λ (lines : List Line). map entry_says list ++ record { rule = (entry_says entry).rule; lines = lines } ∷ []) (append_says line_says entry.lines line)
    ∙ sym (with_last (line_says line ∷ []) (map entry_says list) (entry_says entry))
    ∙ ap (with_lines (line_says line ∷ [])) (sym (entries_append list entry))
