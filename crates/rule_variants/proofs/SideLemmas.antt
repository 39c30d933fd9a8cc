-- The sides of a rule's variants, one more at a time.
use Rattle.std.specs.Prelude.{◌≤◌, ◌^◌, length, ◌≡◌, ◌+◌, ℕ, List, [], ◌∷◌, ◌++◌, map}
use Rattle.std.proofs.Common.{arith, ◌∙◌, ap, sym, zero-add}
use Rattle.std.proofs.Math.Nat.{min-le_left}
use Rattle.std.proofs.Math.Pow.{pow_mono}
use Rattle.std.proofs.lemmas.List.{length-map, map_push}
use Rattle.std.proofs.lemmas.List.FromFn.{length-map-range_with_len, map-range_with_len_more}
use Rattle.std.specs.List.{range_with_len}
use Rattle.rule_term.specs.declared.term.Term.{Term}
use Rattle.rule_term.specs.Terms.{Terms, terms_of}
use Rattle.rule_term.specs.Rule.{Rule}
use Rattle.rule_term.specs.Variants.{commutes, variant_count, variant_of}
use Rattle.rule_variants.specs.Sides.{sides_of}

pub sides_on : (search : Terms) (list more : List Term) (side : Term) (variant : ℕ) → more ≡ list ++ side ∷ [] → terms_of (side ∷ []) ≡ variant_of search variant
    → sides_of list ≡ map (variant_of search) (range_with_len 0 variant) → sides_of more ≡ map (variant_of search) (range_with_len 0 (variant + 1))
sides_on search list more side variant grown is so_far =
    ap sides_of grown
    ∙ map_push (λ side. terms_of (side ∷ [])) list side
    ∙ ap (λ l. l ++ terms_of (side ∷ []) ∷ []) so_far
    ∙ ap (λ s. map (variant_of search) (range_with_len 0 variant) ++ s ∷ []) is
    ∙ sym (map-range_with_len_more (variant_of search) 0 variant variant (zero-add variant))

-- at most 8 opcodes count
pub few_sides : (rule : Rule) (list : List Term) (variant : ℕ) → variant ≤ variant_count rule → sides_of list ≡ map (variant_of rule.search) (range_with_len 0 variant) → length list ≤ 256
few_sides rule list variant within so_far =
    let few : variant_count rule ≤ 2 ^ 8 = pow_mono (min-le_left 8 (commutes rule.search)) in
    let count : length list ≡ variant =
    sym (length-map list (λ side. terms_of (side ∷ []))) ∙ ap length so_far ∙ length-map-range_with_len (variant_of rule.search) 0 variant in
    omega (arith, few, count, within)
