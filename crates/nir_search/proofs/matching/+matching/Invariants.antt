-- what was matched, and what is matched behind it, is the whole match
use Rattle.std.proofs.Common.{◌≡◌, drop, map}
use Rattle.rule_term.specs.Terms.{terms_of}
use Rattle.rule_term.specs.Variants.{bits_behind}
use Rattle.nir_search.specs.Match.{matches, child, swapped}
use Rattle.nir_search.proofs.matching.+matching.Given as goal

abbrev pub invariant-match_args-loop-at : goal.invariant-match_args-loop-at
invariant-match_args-loop-at l =
    (matches l.work.shader.body (terms_of (drop l.at l.args)) l.bits (drop l.at (map (child l.comps) (swapped l.flag l.srcs))) l.bound
    ≡ matches l.work.shader.body (terms_of l.args) l.fn.bits (map (child l.comps) (swapped l.flag l.srcs)) l.fn.bound)
    × (bits_behind (terms_of (drop l.at l.args)) l.bits ≡ bits_behind (terms_of l.args) l.fn.bits)
