use Rattle.std.proofs.Common.{◌≡◌, drop}
use Rattle.std.specs.List.{list_any}
use Rattle.law_derive.specs.Derivations.{is_letter}
use Rattle.law_derive.specs.Views.{side_says}
use Rattle.law_derive.proofs.letters.stands_in.Given as goal

-- whether the letter stands among the parts that are left
abbrev pub invariant-loop-part : goal.invariant-loop-part
invariant-loop-part l = record {
  so_far : list_any (is_letter l.letter) (side_says (drop l.part-index l.side)) ≡ list_any (is_letter l.letter) (side_says l.side);
}
