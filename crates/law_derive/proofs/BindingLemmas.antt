-- Letters and their expressions, by the first of the bindings that are left.
use Rattle.std.proofs.Common.{◌≡◌, ℕ, ◌+◌, ◌<◌, List, [], ◌∷◌, ◌++◌, length, get_or, drop, map, Option, Some, None, refl, sym, ap, ◌∙◌, append_assoc}
use Rattle.std.proofs.lemmas.List.{drop_more}
use Rattle.nir_ops.specs.declared.width.Width.{Width}
use Rattle.rule_read.specs.declared.derivation.Binding.{Binding}
use Rattle.rule_read.specs.Says.{binding_says}
use Rattle.law_derive.specs.declared.binding.Bound.{Bound}
use Rattle.law_derive.specs.declared.node.Node.{Node}
use Rattle.law_derive.specs.Derivations.{Setting, bound_others, letter_named}
use Rattle.law_derive.specs.LawTable.{Law}
use Rattle.law_derive.specs.Matching.{Filling}
use Rattle.law_derive.specs.Readings.{before, bound_says, expr_of, exprs_of, fill_all, fill_one, onto}
use Rattle.term_read.specs.Views.{term_says}

-- the item at a place, and those behind it
pub rest_from : {X : Type 0} → (list : List X) (i : ℕ) (x : X) → i < length list → x ≡ get_or list i x → drop i list ≡ x ∷ drop (i + 1) list
rest_from list i x within at = drop_more list i x within ∙ ap (λ y. y ∷ drop (i + 1) list) (sym at)

pub fill_step : (law : Law) (list : List Bound) (i : ℕ) (b : Bound) (filling : Filling) → i < length list → b ≡ get_or list i b
    → fill_all law (map bound_says (drop i list)) filling ≡ bound_others (fill_one law b.letter b.nodes filling) (fill_all law (map bound_says (drop (i + 1) list)))
fill_step law list i b filling within at = ap (λ l. fill_all law (map bound_says l) filling) (rest_from list i b within at)

pub expr_step : (at : Setting) (width : Width) (list : List Binding) (i : ℕ) (b : Binding) → i < length list → b ≡ get_or list i b
    → exprs_of at width (map binding_says (drop i list))
    ≡ before (expr_of at width (letter_named b.name) (term_says b.with)) (exprs_of at width (map binding_says (drop (i + 1) list)))
expr_step at width list i b within is = ap (λ l. exprs_of at width (map binding_says l)) (rest_from list i b within is)

says_append : (front : List Bound) (b : Bound) → map bound_says (front ++ b ∷ []) ≡ map bound_says front ++ bound_says b ∷ []
says_append [] b = refl
says_append (one ∷ front) b = ap (λ l. bound_says one ∷ l) (says_append front b)

onto_more : (front : Filling) (one : ℕ × List Node) (rest : Option Filling) → onto front (before (Some one) rest) ≡ onto (front ++ one ∷ []) rest
onto_more front one None = refl
onto_more front one (Some list) = ap (λ l. Some l) (sym (append_assoc front (one ∷ []) list))

pub onto_step : (front : List Bound) (b : Bound) (one : Option (ℕ × List Node)) (rest : Option Filling) → Some (bound_says b) ≡ one
    → onto (map bound_says (front ++ b ∷ [])) rest ≡ onto (map bound_says front) (before one rest)
onto_step front b one rest is =
    ap (λ l. onto l rest) (says_append front b) ∙ sym (onto_more (map bound_says front) (bound_says b) rest) ∙ ap (λ o. onto (map bound_says front) (before o rest)) is
