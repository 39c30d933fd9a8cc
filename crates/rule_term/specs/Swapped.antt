-- Chains of terms of which the first two change places, with the sizes of their nodes.
use Rattle.std.specs.Prelude.{◌+◌, Bool, true, false, List, ◌++◌}
use Rattle.std.proofs.Common.{take, drop}
use Rattle.nir_ops.specs.declared.width.Width.{Width}
use Rattle.rule_term.specs.Lists.{then}
use Rattle.rule_term.specs.Terms.{Terms, Nil, VarThen, LitThen, AppThen}
use Rattle.rule_term.specs.Typings.{size_of}

-- the first term of a chain, and those behind it
abbrev pub first_term : Terms → Terms
first_term Nil = Nil
first_term (VarThen var constant size cond rest) = VarThen var constant size cond Nil
first_term (LitThen value boolean rest) = LitThen value boolean Nil
first_term (AppThen op size once args rest) = AppThen op size once args Nil

abbrev pub behind_first : Terms → Terms
behind_first Nil = Nil
behind_first (VarThen var constant size cond rest) = rest
behind_first (LitThen value boolean rest) = rest
behind_first (AppThen op size once args rest) = rest

-- the first two terms change places, and so do the sizes of their nodes
abbrev pub swapped_terms : Bool → Terms → Terms
swapped_terms false terms = terms
swapped_terms true terms = then (first_term (behind_first terms)) (then (first_term terms) (behind_first (behind_first terms)))

abbrev pub swapped_sizes : Bool → Terms → List Width → List Width
swapped_sizes false terms widths = widths
swapped_sizes true terms widths =
    let first = size_of (first_term terms) in
    let second = size_of (first_term (behind_first terms)) in
    take second (drop first widths) ++ (take first widths ++ drop (first + second) widths)
