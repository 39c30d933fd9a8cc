-- A variant has the nodes of the search side in another order, so that it is a search side.
use Rattle.std.specs.Prelude.{◌≡◌, refl, ◌≤◌, ℕ, suc, Bool, true, false, List, [], ◌∷◌, ◌++◌, length}
use Rattle.std.proofs.Common.{sym, ◌∙◌, ap, subst, append_assoc, arith}
use Rattle.std.proofs.lemmas.List.Concat.{length-flat_map}
use Rattle.std.proofs.lemmas.List.Sorted.{All-permutation, IsPermutation-append, IsPermutation-append_comm, IsPermutation-append_left, IsPermutation-cons, IsPermutation-refl, IsPermutation-trans, sum_by-IsPermutation}
use Rattle.std.proofs.lemmas.List.Sums.{AllPass-from_list_all, list_all-from_AllPass}
use Rattle.std.specs.List.Sorted.{IsPermutation}
use Rattle.rule_term.specs.Formed.{is_application, search_piece_formed}
use Rattle.rule_term.specs.Lists.{then}
use Rattle.rule_term.specs.Pieces.{Piece, AppPiece, LitPiece, VarPiece, op_of, ops_of, pieces, terms_count}
use Rattle.rule_term.specs.Splits.{pieces-then, terms_count-then}
use Rattle.rule_term.specs.Swapped.{behind_first, first_term, swapped_terms}
use Rattle.rule_term.specs.Terms.{Terms, Nil, VarThen, LitThen, AppThen}
use Rattle.rule_term.specs.Variants.{bits_behind, bits_left, is_swapped, variant_of}
use Rattle.rule_variants.specs.SearchSides.{VariantsAreSides, VariantsKeepNodes}

-- a chain is its first term and those behind it
split : (terms : Terms) → then (first_term terms) (behind_first terms) ≡ terms
split Nil = refl
split (VarThen var constant size cond rest) = refl
split (LitThen value boolean rest) = refl
split (AppThen op size once args rest) = refl

-- three parts, of which the first two change places
parts_swapped : {A : Type 0} (first second rest : List A) → IsPermutation (first ++ (second ++ rest)) (second ++ (first ++ rest))
parts_swapped first second rest =
    subst (λ l. IsPermutation l (second ++ (first ++ rest))) (append_assoc first second rest)
    (subst (λ l. IsPermutation ((first ++ second) ++ rest) l) (append_assoc second first rest)
    (IsPermutation-append_left rest (first ++ second) (second ++ first) (IsPermutation-append_comm first second)))

swapped_nodes : (swap : Bool) (terms : Terms) → IsPermutation (pieces terms) (pieces (swapped_terms swap terms))
swapped_nodes false terms = IsPermutation-refl (pieces terms)
swapped_nodes true terms =
    let first : Terms = first_term terms in
    let second : Terms = first_term (behind_first terms) in
    let rest : Terms = behind_first (behind_first terms) in
    let whole : then first (then second rest) ≡ terms = ap (then first) (split (behind_first terms)) ∙ split terms in
    let by_parts : (a b c : Terms) → pieces (then a (then b c)) ≡ pieces a ++ (pieces b ++ pieces c) =
    λ a b c. pieces-then a (then b c) ∙ ap (λ l. pieces a ++ l) (pieces-then b c) in
    subst (λ l. IsPermutation l (pieces (then second (then first rest)))) (sym (by_parts first second rest) ∙ ap pieces whole)
    (subst (λ l. IsPermutation (pieces first ++ (pieces second ++ pieces rest)) l) (sym (by_parts second first rest)) (parts_swapped (pieces first) (pieces second) (pieces rest)))

swapped_count : (swap : Bool) (terms : Terms) → terms_count (swapped_terms swap terms) ≡ terms_count terms
swapped_count false terms = refl
swapped_count true terms =
    let first : Terms = first_term terms in
    let second : Terms = first_term (behind_first terms) in
    let rest : Terms = behind_first (behind_first terms) in
    let whole : terms_count (then first (then second rest)) ≡ terms_count terms = ap terms_count (ap (then first) (split (behind_first terms)) ∙ split terms) in
    let outer = terms_count-then first (then second rest) in
    let inner = terms_count-then second rest in
    let swapped_outer = terms_count-then second (then first rest) in
    let swapped_inner = terms_count-then first rest in
    omega (arith, whole, outer, inner, swapped_outer, swapped_inner)

variant_count_kept : (terms : Terms) (bits : ℕ) → terms_count (variant_of terms bits) ≡ terms_count terms
variant_count_kept Nil bits = refl
variant_count_kept (VarThen var constant size cond rest) bits = ap suc (variant_count_kept rest bits)
variant_count_kept (LitThen value boolean rest) bits = ap suc (variant_count_kept rest bits)
variant_count_kept (AppThen op size once args rest) bits = ap suc (variant_count_kept rest (bits_behind args (bits_left op bits)))

pub variants_keep_nodes : VariantsKeepNodes
variants_keep_nodes Nil bits = IsPermutation-refl []
variants_keep_nodes (VarThen var constant size cond rest) bits =
    IsPermutation-cons (VarPiece var constant size cond) (pieces rest) (pieces (variant_of rest bits)) (variants_keep_nodes rest bits)
variants_keep_nodes (LitThen value boolean rest) bits = IsPermutation-cons (LitPiece value boolean) (pieces rest) (pieces (variant_of rest bits)) (variants_keep_nodes rest bits)
variants_keep_nodes (AppThen op size once args rest) bits =
    let inner : ℕ = bits_left op bits in
    let swap : Bool = is_swapped op bits in
    let made : Terms = swapped_terms swap (variant_of args inner) in
    let behind : Terms = variant_of rest (bits_behind args inner) in
    let node : ℕ → Piece = AppPiece op size once in
    let sources : terms_count made ≡ terms_count args = swapped_count swap (variant_of args inner) ∙ variant_count_kept args inner in
    let under : IsPermutation (pieces args) (pieces made) =
    IsPermutation-trans (pieces args) (pieces (variant_of args inner)) (pieces made) (variants_keep_nodes args inner) (swapped_nodes swap (variant_of args inner)) in
    subst (λ n. IsPermutation (node (terms_count args) ∷ pieces args ++ pieces rest) (node n ∷ pieces made ++ pieces behind)) (sym sources)
    (IsPermutation-cons (node (terms_count args)) (pieces args ++ pieces rest) (pieces made ++ pieces behind)
    (IsPermutation-append (pieces args) (pieces made) (pieces rest) (pieces behind) under (variants_keep_nodes rest (bits_behind args inner))))

still_application : (terms : Terms) (bits : ℕ) → is_application (variant_of terms bits) ≡ is_application terms
still_application Nil bits = refl
still_application (VarThen var constant size cond rest) bits = refl
still_application (LitThen value boolean rest) bits = refl
still_application (AppThen op size once args rest) bits = refl

pub variants_are_sides : VariantsAreSides
variants_are_sides rule variant formed =
    let side : Terms = variant_of rule.search variant in
    let moved = variants_keep_nodes rule.search variant in
    let opcodes : length (ops_of side) ≡ length (ops_of rule.search) =
    length-flat_map op_of (pieces side) ∙ sum_by-IsPermutation (λ p. length (op_of p)) (pieces rule.search) (pieces side) moved ∙ sym (length-flat_map op_of (pieces rule.search)) in
    record {
      application = still_application rule.search variant ∙ formed.application;
      one = variant_count_kept rule.search variant ∙ formed.one_search;
      nodes =
          list_all-from_AllPass search_piece_formed (pieces side)
          (All-permutation (λ p. search_piece_formed p ≡ true) (pieces rule.search) (pieces side) moved (AllPass-from_list_all search_piece_formed (pieces rule.search) formed.search));
      few = subst (λ n. n ≤ 16) (sym opcodes) formed.few_search;
    }
