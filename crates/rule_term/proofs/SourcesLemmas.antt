-- One step of a loop over terms: what was made before the place, with what its term gives, stands before what the rest gives.
use Rattle.std.proofs.Common.{◌≡◌, ℕ, ◌+◌, ◌<◌, List, [], ◌∷◌, ◌++◌, length, map, take, drop, set, get_or, sym, ◌∙◌, ap, append_assoc}
use Rattle.std.proofs.lemmas.List.{drop-drop, map-append, take_more_set}
use Rattle.nir_ops.specs.declared.width.Width.{Width}
use Rattle.op_eval.specs.declared.word.Word.{Word}
use Rattle.rule_term.specs.declared.term.Term.{Term}
use Rattle.rule_term.specs.Terms.{Terms, terms_of}
use Rattle.rule_term.specs.Lists.{then, terms_of-drop}
use Rattle.rule_term.specs.Typings.{size_of}

-- the sizes behind the term
pub behind : (n m : ℕ) (size : ℕ) (widths : List Width) → m ≡ size → drop size (drop n widths) ≡ drop (n + m) widths
behind n m size widths e = drop-drop size n widths ∙ ap (λ k. drop (n + k) widths) (sym e)

pub made_step : {A : Type 0} (gives : Terms → List Width → List A) (part : Word → A) →
    ((a b : Terms) (widths : List Width) → gives (then a b) widths ≡ gives a widths ++ gives b (drop (size_of a) widths)) →
    (list : List Term) (i : ℕ) (t : Term) (widths : List Width) (n m : ℕ) (words : List Word) (word : Word) (whole : List A) →
    i < length list → t ≡ get_or list i t → i < length words → m ≡ size_of (terms_of (t ∷ [])) →
    gives (terms_of (t ∷ [])) (drop n widths) ≡ part word ∷ [] →
    map part (take i words) ++ gives (terms_of (drop i list)) (drop n widths) ≡ whole →
    map part (take (i + 1) (set words i word)) ++ gives (terms_of (drop (i + 1) list)) (drop (n + m) widths) ≡ whole
made_step gives part splits list i t widths n m words word whole within at room size made so_far =
    let rest = terms_of (drop (i + 1) list) in
    let later = gives rest (drop (n + m) widths) in
    ap (λ x. map part x ++ later) (take_more_set words i word room)
    ∙ ap (λ x. x ++ later) (map-append part (take i words) (word ∷ []))
    ∙ append_assoc (map part (take i words)) (part word ∷ []) later
    ∙ ap (λ x. map part (take i words) ++ (x ++ later)) (sym made)
    ∙ ap (λ l. map part (take i words) ++ (gives (terms_of (t ∷ [])) (drop n widths) ++ gives rest l)) (sym (behind n m (size_of (terms_of (t ∷ []))) widths size))
    ∙ ap (λ x. map part (take i words) ++ x) (sym (splits (terms_of (t ∷ [])) rest (drop n widths)))
    ∙ ap (λ x. map part (take i words) ++ gives x (drop n widths)) (sym (terms_of-drop list i t within at))
    ∙ so_far
