-- How items are read, by the terminal with which each begins.
use Rattle.std.proofs.Common.{◌≡◌, Bool, true, false, ◌||◌, [], ◌∷◌, codes, refl, sym, ap, ◌∙◌}
use Rattle.grammar.specs.Grammar.{choice}
use Rattle.grammar.specs.Terminals.{starts, TheMark, TheWord}
use Rattle.grammar.specs.Words.{listed}
use Rattle.rule_spelling.specs.Files.{File}
use Rattle.rule_spelling.specs.RuleFiles.{rule_files, evidence, item, rule, weight}
use Rattle.term_read.specs.FoldLaws.{first_reads, second_reads, some_reads, listed_folds, mapped}
use Rattle.term_read.specs.Source.{Source, ◌then◌, reads}
use Rattle.rule_read.specs.Growing.{no_file, with_item, with_items}
use Rattle.rule_read.specs.Items.{adds_item, adds_items, all_items, item_firsts, other_items}

-- one class
pub one_starts : (b here : Bool) → here ≡ b → (here || false) ≡ b
one_starts true true is = refl
one_starts true false is = absurd cc
one_starts false true is = absurd cc
one_starts false false is = refl

pub item_rule : (s : Source) → starts (TheWord (codes "weight") ∷ []) s.rest ≡ false → starts (TheMark 40 ∷ []) s.rest ≡ true → reads item s ≡ reads rule s
item_rule s other here = second_reads s refl weight (choice rule evidence) other ∙ first_reads s refl rule evidence here

pub item_line : (s : Source) → starts (TheWord (codes "weight") ∷ []) s.rest ≡ false → starts (TheMark 40 ∷ []) s.rest ≡ false → reads item s ≡ reads evidence s
item_line s other no_mark = second_reads s refl weight (choice rule evidence) other ∙ second_reads s refl rule evidence no_mark

-- the items of a file: the first, and then the others
pub items_read : (file : File) (s : Source) → file ≡ no_file → starts item_firsts s.rest ≡ true
    → adds_items no_file all_items s
    ≡ (adds_item file item s then λ b s. adds_items b other_items s)
items_read file s none begun =
    ap (mapped (with_items no_file)) (some_reads s refl (listed rule_files item) begun)
    ∙ listed_folds with_items with_item (λ b. refl) (λ b a list. refl) item no_file s
    ∙ ap (λ (f : File). adds_item f item s then λ b s. adds_items b other_items s) (sym none)
