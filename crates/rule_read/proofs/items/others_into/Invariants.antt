use Rattle.std.proofs.Common.{◌≡◌, length}
use Rattle.grammar.specs.Grammar.{repetition}
use Rattle.grammar.specs.Words.{each_behind_comma_then_maybe_one}
use Rattle.rule_spelling.specs.RuleFiles.{rule_files, item}
use Rattle.term_read.specs.FoldLaws.{mapped}
use Rattle.term_read.specs.Source.{reads}
use Rattle.term_read.specs.Views.{source, terminals}
use Rattle.rule_read.specs.Growing.{grown_says, with_items}
use Rattle.rule_read.specs.Items.{sought_item}
use Rattle.rule_read.proofs.items.others_into.Given as goal

-- the items that were added, and then those that are still read, are all
abbrev pub invariant-items : goal.invariant-items
invariant-items l = record {
  so_far : mapped (with_items (grown_says l.grown)) (reads (repetition sought_item) (source l.reader))
      ≡ mapped (with_items (grown_says l.fn.grown)) (reads (each_behind_comma_then_maybe_one rule_files item) (source l.fn.reader));
}

abbrev pub decreases-items : goal.decreases-items
decreases-items l = length (terminals l.reader.point)
