-- The nodes of an expression are those that its root tells: exactly one list of sizes obeys where the expression is settled and has one root.
use Rattle.std.proofs.Common.{◌≡◌, ◌≤◌, ◌<◌, refl, ℕ, Bool, true, false, List, [], ◌∷◌, length, filter, Option, Some, None, sym, ap, ◌∙◌, subst, arith, cond}
use Rattle.std.specs.Prelude.{◌&&◌, nat_eq}
use Rattle.std.specs.List.{list_all}
use Rattle.std.specs.Option.{option_map}
use Rattle.std.proofs.lemmas.Bool.{and_from, and_parts, eqb-true}
use Rattle.std.proofs.lemmas.List.{append-nil, take_all}
use Rattle.nir_ops.specs.declared.width.Width.{Width}
use Rattle.nir_ops.specs.Opcodes.{op_info}
use Rattle.rule_term.specs.EightBitLaws.{has_sources, one_root}
use Rattle.rule_term.specs.Formed.{may_stand}
use Rattle.rule_term.specs.Pieces.{Piece, VarPiece, LitPiece, AppPiece, pieces, terms_count}
use Rattle.rule_term.specs.ReplaceLeast.{can, knows, least}
use Rattle.rule_term.specs.Terms.{Terms}
use Rattle.rule_term.specs.Typings.{first_of, obeys, occurrences, roots, size_of, width_lists}
use Rattle.rule_term.proofs.ReplaceExact.{IsPart, least_before, least_first, least_part}
use Rattle.rule_term.proofs.ReplaceRoots.{length-least}
use Rattle.law_derive.specs.Derivations.{Setting, expr_nodes, has_var_size, is_expr, is_expr_typing, is_size, only, piece_formed}
use Rattle.law_derive.specs.declared.node.Node.{Node}
use Rattle.law_derive.specs.ExprSizes.{KnowsSizes, fit_of, nodes_from, root_may, root_of, settled, sole}
use Rattle.law_derive.specs.ExprSizesLaws.{another, same_sizes, sole_none, sole_some}
use Rattle.law_derive.specs.Nodes.{nodes_of}
use Rattle.law_derive.specs.OnlyListLaws.{only_none, only_one}

-- an expression of one term, in which each opcode has its sources
module _ (at : Setting) (size : Option Width) (terms : Terms) (one : terms_count terms ≡ 1) (sourced : list_all has_sources (pieces terms) ≡ true) where
  abbrev fit : ℕ → Width → Bool
  fit = fit_of at

  abbrev obeys_all : List Width → Bool
  obeys_all widths = is_expr_typing at size terms widths

  abbrev may : Width → Bool
  may = root_may fit size terms

  abbrev sizes_at : Width → List Width
  sizes_at width = least fit terms (width ∷ [])

  some_term : 0 < terms_count terms
  some_term = omega (arith, one)

  record IsTyped (widths : List Width) : Type 0 where
    part : IsPart fit terms (first_of widths ∷ []) widths
    ends : is_size size (first_of widths) ≡ true

  typed : (widths : List Width) → obeys_all widths ≡ true → IsTyped widths
  typed widths h =
      let all = and_parts (obeys terms widths && list_all (has_var_size at) (occurrences terms widths)) (is_size size (first_of widths)) h in
      let both = and_parts (obeys terms widths) (list_all (has_var_size at) (occurrences terms widths)) all.0 in
      record {
        part = record { obeyed = both.0; rooted = one_root terms widths one; known = both.1 };
        ends = all.1;
      }

  from_part : (width : Width) (widths : List Width) → IsPart fit terms (width ∷ []) widths → is_size size width ≡ true → obeys_all widths ≡ true
  from_part width widths part ends =
      let first : first_of widths ≡ width = ap first_of (sym (one_root terms widths one) ∙ part.rooted) in
      and_from (obeys terms widths && list_all (has_var_size at) (occurrences terms widths)) (is_size size (first_of widths))
      (and_from (obeys terms widths) (list_all (has_var_size at) (occurrences terms widths)) part.obeyed part.known)
      (ap (is_size size) first ∙ ends)

  -- its root is one that it can have
  typed_root : (widths : List Width) → size_of terms ≤ length widths → obeys_all widths ≡ true → may (first_of widths) ≡ true
  typed_root widths enough h =
      let here = typed widths h in
      let can_be = (least_before fit terms widths enough here.part.obeyed here.part.known).0 in
      and_from (is_size size (first_of widths)) (can fit terms (first_of widths ∷ [])) here.ends (ap (can fit terms) (sym here.part.rooted) ∙ can_be)

  -- and at each of these roots the least sizes obey
  least_obeys : (width : Width) → may width ≡ true → obeys_all (sizes_at width) ≡ true
  least_obeys width h =
      let parts = and_parts (is_size size width) (can fit terms (width ∷ [])) h in
      let part = least_part fit terms (width ∷ []) [] sourced (sym one) parts.1 in
      from_part width (sizes_at width) (subst (IsPart fit terms (width ∷ [])) (append-nil (sizes_at width)) part) parts.0

  abbrev only_left : Option (List Width)
  only_left = only (filter obeys_all (width_lists (size_of terms)))

  some_case : (width : Width) → settled fit terms ≡ true → sole may ≡ Some width → only_left ≡ Some (sizes_at width)
  some_case width is found =
      let root = sole_some may width found in
      let count = length-least fit terms (width ∷ []) in
      let passes = least_obeys width root.0 in
      only_one obeys_all (sizes_at width) (size_of terms) count (
        passes,
        λ other long h.
            let count_other : length other ≡ size_of terms = long ∙ count in
            let here = typed other h in
            let own = typed (sizes_at width) passes in
            let same : first_of other ≡ first_of (sizes_at width) = root.1 (first_of other) (typed_root other (omega arith) h) ∙ sym (least_first fit terms (width ∷ []) some_term) in
            sym (take_all (size_of terms) other (omega arith))
            ∙ same_sizes fit terms (first_of (sizes_at width) ∷ []) other (sizes_at width) is (omega arith) (omega arith) (subst (λ (w : Width). IsPart fit terms (w ∷ []) other) same here.part) own.part
            ∙ take_all (size_of terms) (sizes_at width) (omega arith),
      )

  no_root : sole may ≡ None → only_left ≡ None
  no_root none = only_none obeys_all (size_of terms) (λ list long h.
      let x = sole_none may (first_of list) none (typed_root list (omega arith) h) in
      record {
        other = sizes_at x.0;
        long = length-least fit terms (x.0 ∷ []) ∙ sym long;
        passes = least_obeys x.0 x.1;
        differs = λ e. x.2 (sym (least_first fit terms (x.0 ∷ []) some_term) ∙ sym (ap first_of e));
      })

  unsettled : settled fit terms ≡ false → only_left ≡ None
  unsettled is = only_none obeys_all (size_of terms) (λ list long h.
      let here = typed list h in
      let other = another fit terms (first_of list ∷ []) list sourced (omega arith) here.part is in
      let part = subst (IsPart fit terms (roots terms list)) (append-nil other.front) (other.is.part []) in
      record {
        other = other.front;
        long = other.is.long ∙ sym long;
        passes = from_part (first_of list) other.front (subst (λ (ends : List Width). IsPart fit terms ends other.front) here.part.rooted part) here.ends;
        differs = λ e. other.differs (sym e ∙ sym (take_all (size_of terms) list (omega arith)));
      })

  by_root : (o : Option Width) → settled fit terms ≡ true → sole may ≡ o → only_left ≡ option_map sizes_at o
  by_root None is found = no_root found
  by_root (Some width) is found = some_case width is found

  by_settled : (b : Bool) → settled fit terms ≡ b → only_left ≡ option_map sizes_at (cond b (sole may) None)
  by_settled true is = by_root (sole may) is refl
  by_settled false is = unsettled is

  pub only_sizes : only_left ≡ option_map sizes_at (root_of fit size terms)
  unfolding root_of
  only_sizes = by_settled (settled fit terms) refl

-- where each node of an expression is formed, each opcode has its sources
formed_sourced : (piece : Piece) → piece_formed piece ≡ true → has_sources piece ≡ true
formed_sourced (VarPiece var constant size cond) h = refl
formed_sourced (LitPiece value boolean) h = refl
formed_sourced (AppPiece op size once sources) h = (and_parts (may_stand op) (nat_eq sources (length (op_info op).inputs)) h).1

all_sourced : (list : List Piece) → list_all piece_formed list ≡ true → list_all has_sources list ≡ true
all_sourced [] h = refl
all_sourced (piece ∷ list) h =
    let parts = and_parts (piece_formed piece) (list_all piece_formed list) h in
    and_from (has_sources piece) (list_all has_sources list) (formed_sourced piece parts.0) (all_sourced list parts.1)

map_twice : (f : List Width → List Node) (g : Width → List Width) (o : Option Width) → option_map f (option_map g o) ≡ option_map (λ w. f (g w)) o
map_twice f g None = refl
map_twice f g (Some w) = refl

by_formed : (at : Setting) (size : Option Width) (terms : Terms) (b : Bool) → is_expr terms ≡ b
    → cond b (option_map (nodes_of terms) (only (filter (is_expr_typing at size terms) (width_lists (size_of terms))))) None
    ≡ cond b (option_map (λ width. nodes_of terms (least (fit_of at) terms (width ∷ []))) (root_of (fit_of at) size terms)) None
by_formed at size terms false is = refl
by_formed at size terms true is =
    let parts = and_parts (nat_eq (terms_count terms) 1) (list_all piece_formed (pieces terms)) is in
    ap (option_map (nodes_of terms)) (only_sizes at size terms (eqb-true (terms_count terms) 1 parts.0) (all_sourced (pieces terms) parts.1))
    ∙ map_twice (nodes_of terms) (λ width. least (fit_of at) terms (width ∷ [])) (root_of (fit_of at) size terms)

-- the nodes of an expression are those from its root
pub expr_from_root : (at : Setting) (size : Option Width) (terms : Terms) → expr_nodes at size terms ≡ nodes_from (fit_of at) size terms
unfolding expr_nodes nodes_from
expr_from_root at size terms = by_formed at size terms (is_expr terms) refl

same_fit : (at : Setting) (known : List (Option Width)) → KnowsSizes at known → knows known ≡ fit_of at
same_fit at known is = λ i var width. is var width i

-- and so from the sizes that are known of the variables
pub known_from_root : (at : Setting) (known : List (Option Width)) (size : Option Width) (terms : Terms) → KnowsSizes at known → nodes_from (knows known) size terms ≡ expr_nodes at size terms
known_from_root at known size terms is = ap (λ fit. nodes_from fit size terms) (same_fit at known is) ∙ sym (expr_from_root at size terms)
