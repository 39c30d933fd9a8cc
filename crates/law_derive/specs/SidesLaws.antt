-- The sides of the laws are terms that fit, and each letter stands in them at its own size.
use Rattle.std.proofs.Common.{◌≡◌, ◌+◌, ◌^◌, ℕ, zero, suc, Bool, true, false, List, [], ◌∷◌, refl}
use Rattle.std.specs.Prelude.{◌&&◌, nat_lt}
use Rattle.std.specs.Cmp.Lexicographic.{pointwise}
use Rattle.std.specs.List.{list_all}
use Rattle.nir_ops.specs.declared.width.Width.{Width}
use Rattle.nir_ops.specs.Opcodes.{op_allows, op_info, row_of}
use Rattle.nir_ops.specs.Width.{width_bits}
use Rattle.op_eval.specs.Calls.{result_width, same_width, sizes_fit, source_widths, unsized_width}
use Rattle.op_eval.specs.Views.{shape_of}
use Rattle.op_eval.specs.Word.{residue}
use Rattle.rule_term.specs.Formed.{may_stand}
use Rattle.law_derive.specs.Derivations.{law_sizes, letter_size}
use Rattle.law_derive.specs.Fit.{nodes_fit}
use Rattle.law_derive.specs.LawTable.{Law, laws, left_at, right_at}
use Rattle.law_derive.specs.Nodes.{AreTerms, roots, sources_of}
use Rattle.law_derive.specs.declared.node.Kind.{Kind}
use Rattle.law_derive.specs.declared.node.Kind.TheVariants.{App, Var, Lit}
use Rattle.law_derive.specs.declared.node.Node.{Node}

-- the test for so many terms
abbrev pub are_terms : ℕ → List Node → Bool
are_terms zero [] = true
are_terms zero (node ∷ nodes) = false
are_terms (suc k) [] = false
are_terms (suc k) (node ∷ nodes) = are_terms (sources_of node.kind + k) nodes

pub terms_from_test : (k : ℕ) (nodes : List Node) → are_terms k nodes ≡ true → AreTerms k nodes
terms_from_test zero [] is = tt
terms_from_test zero (node ∷ nodes) is = cc
terms_from_test (suc k) [] is = cc
terms_from_test (suc k) (node ∷ nodes) is = terms_from_test (sources_of node.kind + k) nodes is

-- a letter from x to c of its size, or a word of the size
abbrev pub part_fits : Width → Kind → Width → Bool
part_fits law (Var letter) width = nat_lt letter 5 && same_width width (letter_size law letter)
part_fits law (App op) width = true
part_fits law (Lit word) width = nat_lt word (2 ^ width_bits width)

abbrev pub side_fits : Width → List Node → Bool
side_fits law side = are_terms 1 side && (nodes_fit side && list_all (λ (part : Node). part_fits law part.kind part.width) side)

abbrev pub law_fits_at : Law → Width → Bool
law_fits_at law width =
    side_fits width (left_at law width) && (side_fits width (right_at law width) && pointwise same_width (roots (left_at law width)) (roots (right_at law width)))

-- at each size of the law
abbrev pub law_fits : Law → Bool
law_fits law = list_all (law_fits_at law) (law_sizes law)

pub laws_fit : list_all law_fits laws ≡ true
unfolding may_stand shape_of op_allows op_info row_of sizes_fit result_width source_widths unsized_width residue
laws_fit = refl
