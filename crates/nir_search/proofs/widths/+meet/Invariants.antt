-- what was met so far, followed by what is met at the terms from the place on
use Rattle.std.proofs.Common.{◌≡◌, ◌≤◌, ◌+◌, ◌++◌, drop, length, map}
use Rattle.rule_term.specs.Terms.{terms_of}
use Rattle.rule_term.specs.Typings.{size_of}
use Rattle.rule_term.specs.Variants.{bits_behind}
use Rattle.nir_search.specs.Match.{child, met, swapped}
use Rattle.nir_search.proofs.widths.+meet.Given as goal

abbrev pub invariant-meet_terms-loop-at : goal.invariant-meet_terms-loop-at
invariant-meet_terms-loop-at l = record {
  met :
      l.widths.items ++ met l.work.shader.body (terms_of (drop l.at l.terms)) l.bits (drop l.at (map (child l.comps) (swapped l.flag l.srcs)))
      ≡ l.fn.widths.items ++ met l.work.shader.body (terms_of l.terms) l.fn.bits (map (child l.comps) (swapped l.flag l.srcs));
  left : bits_behind (terms_of (drop l.at l.terms)) l.bits ≡ bits_behind (terms_of l.terms) l.fn.bits;
  room : length l.widths.items + size_of (terms_of (drop l.at l.terms)) ≤ 49;
}
