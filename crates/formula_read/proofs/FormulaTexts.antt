-- The loop over the terminals of a formula's text, one piece after the other.
use Rattle.std.proofs.Common.{◌≡◌, ℕ, zero, suc, ◌+◌, ◌==◌, Bool, true, false, List, [], ◌∷◌, ◌++◌, drop, take, cond, Option, Some, None, codes, refl, sym, ap, ◌∙◌, append_assoc, subst, arith}
use Rattle.std.specs.Option.{option_map, option_to_list}
use Rattle.grammar.specs.Terminals.{Terminal}
use Rattle.rule_spelling.specs.Formula.{is_option, name_size, option, sign, starts_with, terminals_from}
use Rattle.std.proofs.lemmas.List.{map-append}
use Rattle.formula_read.specs.declared.formula_text.Sign.{Sign}
use Rattle.formula_read.specs.Formulas.{terminal, terminals, Begun, begun_then, piece_of, with_signs}

-- bytes of a terminal before are passed
pub passes : (skip : ℕ) (bytes : List ℕ) → terminals_from skip bytes ≡ terminals_from 0 (drop skip bytes)
passes zero bytes = refl
passes (suc skip) [] = refl
passes (suc skip) (byte ∷ bytes) = passes skip bytes

either_way : (test : Bool) (x y : Option Begun) (text : List ℕ) (u v : Option (List Terminal)) → begun_then x text ≡ u → begun_then y text ≡ v
    → begun_then (cond test x y) text ≡ cond test u v
either_way true x y text u v h k = h
either_way false x y text u v h k = k

no_front : (o : Option (List Terminal)) → with_signs [] o ≡ o
no_front None = refl
no_front (Some ts) = refl

option_is : (byte : ℕ) (rest : List ℕ) (size : ℕ)
    → with_signs (option (take size (drop 9 (byte ∷ rest))) ∷ []) (terminals_from 0 (drop (9 + size) (byte ∷ rest)))
    ≡ option_map (λ ts. option (take size (drop 8 rest)) ∷ ts) (terminals_from (8 + size) rest)
option_is byte rest size =
    let more : 9 + size ≡ suc (8 + size) = omega arith in
    ap (λ n. with_signs (option (take size (drop 8 rest)) ∷ []) (terminals_from 0 (drop n (byte ∷ rest)))) more
    ∙ ap (option_map (λ ts. option (take size (drop 8 rest)) ∷ ts)) (sym (passes (8 + size) rest))

-- what stands at the front, and what stands behind it
pub front_is : (byte : ℕ) (rest : List ℕ) → begun_then (piece_of byte (byte ∷ rest)) (byte ∷ rest) ≡ terminals_from 0 (byte ∷ rest)
unfolding piece_of
front_is byte rest =
    let text = byte ∷ rest in
    either_way (byte == 32) _ _ text _ _ (no_front (terminals_from 0 rest))
    (either_way (byte == 33) _ _ text _ _ refl
    (either_way (byte == 40) _ _ text _ _ refl
    (either_way (byte == 41) _ _ text _ _ refl
    (either_way (starts_with (codes "&&") text) _ _ text _ _ (ap (option_map (λ ts. sign 38 ∷ ts)) (sym (passes 1 rest)))
    (either_way (starts_with (codes "||") text) _ _ text _ _ (ap (option_map (λ ts. sign 124 ∷ ts)) (sym (passes 1 rest)))
    (either_way (is_option text) _ _ text _ _ (option_is byte rest (name_size text)) refl))))))

regrouped : (front first : List Terminal) (o : Option (List Terminal)) → with_signs (front ++ first) o ≡ with_signs front (with_signs first o)
regrouped front first None = refl
regrouped front first (Some ts) = ap (λ (l : List Terminal). Some l) (append_assoc front first ts)

-- a piece joins the front
pub goes_on : (front : List Terminal) (byte : ℕ) (rest : List ℕ) (piece : Begun) (total : Option (List Terminal)) → piece_of byte (byte ∷ rest) ≡ Some piece
    → with_signs front (terminals_from 0 (byte ∷ rest)) ≡ total
    → with_signs (front ++ option_to_list piece.sign) (terminals_from 0 (drop piece.size (byte ∷ rest))) ≡ total
goes_on front byte rest piece total is so_far =
    let others = terminals_from 0 (drop piece.size (byte ∷ rest)) in
    let here = ap (λ piece. begun_then piece (byte ∷ rest)) (sym is) ∙ front_is byte rest in
    regrouped front (option_to_list piece.sign) others ∙ ap (with_signs front) here ∙ so_far

-- a byte that belongs to nothing ends it
pub ends : (front : List Terminal) (byte : ℕ) (rest : List ℕ) (total : Option (List Terminal)) → piece_of byte (byte ∷ rest) ≡ None
    → with_signs front (terminals_from 0 (byte ∷ rest)) ≡ total → total ≡ None
ends front byte rest total is so_far =
    let here = ap (λ piece. begun_then piece (byte ∷ rest)) (sym is) ∙ front_is byte rest in
    sym so_far ∙ ap (with_signs front) (sym here)

-- the same of a text that begins with the byte
pub piece_goes : (front : List Terminal) (byte : ℕ) (after text : List ℕ) (piece : Begun) (total : Option (List Terminal)) → text ≡ byte ∷ after
    → Some piece ≡ piece_of byte text → with_signs front (terminals_from 0 text) ≡ total
    → with_signs (front ++ option_to_list piece.sign) (terminals_from 0 (drop piece.size text)) ≡ total
piece_goes front byte after text piece total split is so_far =
    subst
    (λ text. Some piece ≡ piece_of byte text → with_signs front (terminals_from 0 text) ≡ total
    → with_signs (front ++ option_to_list piece.sign) (terminals_from 0 (drop piece.size text)) ≡ total)
    (sym split) (λ is so_far. goes_on front byte after piece total (sym is) so_far) is so_far

pub piece_ends : (front : List Terminal) (byte : ℕ) (after text : List ℕ) (total : Option (List Terminal)) → text ≡ byte ∷ after
    → None ≡ piece_of byte text → with_signs front (terminals_from 0 text) ≡ total → None ≡ total
piece_ends front byte after text total split is so_far =
    subst (λ text. None ≡ piece_of byte text → with_signs front (terminals_from 0 text) ≡ total → None ≡ total)
    (sym split) (λ is so_far. sym (ends front byte after total (sym is) so_far)) is so_far

pub added : (signs : List Sign) (more : Option Sign) → terminals (signs ++ option_to_list more) ≡ terminals signs ++ option_to_list (option_map terminal more)
added signs None = map-append terminal signs []
added signs (Some one) = map-append terminal signs (one ∷ [])
