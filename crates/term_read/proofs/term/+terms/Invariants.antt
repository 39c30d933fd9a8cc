use Rattle.std.proofs.Common.{◌≡◌, ◌+◌, ◌*◌, ◌≤◌, length, map}
use Rattle.grammar.specs.Grammar.{named, repetition}
use Rattle.grammar.specs.Words.{each_behind_comma_then_maybe_one}
use Rattle.rule_spelling.specs.RuleFiles.{rule_files}
use Rattle.term_read.specs.Parts.{sought_source}
use Rattle.term_read.specs.Source.{reads}
use Rattle.term_read.specs.Views.{place_of, source, term_says, terminals}
use Rattle.term_read.specs.ReadingLaws.{with_front}
use Rattle.term_read.proofs.term.+terms.Given as goal

abbrev pub decreases-expr : goal.decreases-expr
decreases-expr l = 4 * length (terminals l.reader.now.point) + 3

abbrev pub decreases-app : goal.decreases-app
decreases-app l = 4 * length (terminals l.reader.now.point) + 2

abbrev pub decreases-sources : goal.decreases-sources
decreases-sources l = 4 * length (terminals l.reader.now.point) + 1

abbrev pub decreases-source_at : goal.decreases-source_at
decreases-source_at l = 4 * length (terminals l.reader.now.point)

-- the sources that were read, before those that are still read, are all
abbrev pub invariant-sources-sources : goal.invariant-sources-sources
invariant-sources-sources l = record {
  so_far : with_front (map term_says l.list) (reads (repetition (sought_source (place_of l.place))) (source l.reader))
      ≡ reads (each_behind_comma_then_maybe_one rule_files (named (place_of l.place))) (source l.fn.reader);
  shorter : length (terminals l.reader.point) ≤ length (terminals l.fn.reader.point);
}

abbrev pub decreases-sources-sources : goal.decreases-sources-sources
decreases-sources-sources l = length (terminals l.reader.point)
