-- Values of terms that stand one after another.
use Rattle.std.proofs.Common.{◌≡◌, ◌+◌, ◌≤◌, ℕ, zero, suc, List, [], ◌∷◌, ◌++◌, take, drop, length, refl, ap, ◌∙◌, subst, arith, length-drop}
use Rattle.std.proofs.lemmas.List.{take-append-le, drop-append-le}
use Rattle.std.proofs.Math.Seq.{drop-append_seam, take-append_seam}
use Rattle.nir_ops.specs.declared.width.Width.{Width}
use Rattle.law_derive.specs.declared.node.Kind.{Kind}
use Rattle.law_derive.specs.declared.node.Kind.TheVariants.{App, Var, Lit}
use Rattle.law_derive.specs.declared.node.Node.{Node}
use Rattle.law_derive.specs.Nodes.{arity, sources_of, with_root, with_value, roots, values, AreTerms, extent}

-- ---- how many there are

root_count : (width : Width) (kind : Kind) (k : ℕ) (behind : List Width) → length behind ≡ sources_of kind + k → length (with_root width kind behind) ≡ suc k
root_count width (App op) k behind is = ap suc (length-drop (arity op) behind ∙ omega (arith, is))
root_count width (Var var) k behind is = omega (arith, is)
root_count width (Lit word) k behind is = omega (arith, is)

pub count_roots : (k : ℕ) (t : List Node) → AreTerms k t → length (roots t) ≡ k
count_roots zero [] are = refl
count_roots zero (node ∷ t) are = absurd are
count_roots (suc k) [] are = absurd are
count_roots (suc k) (node ∷ t) are = root_count node.width node.kind k (roots t) (count_roots (sources_of node.kind + k) t are)

value_count : (width : Width) (kind : Kind) (k : ℕ) (sizes : List Width) (words behind : List ℕ) → length behind ≡ sources_of kind + k
    → length (with_value width kind sizes words behind) ≡ suc k
value_count width (App op) k sizes words behind is = ap suc (length-drop (arity op) behind ∙ omega (arith, is))
value_count width (Var var) k sizes words behind is = omega (arith, is)
value_count width (Lit word) k sizes words behind is = omega (arith, is)

pub count_values : (words : List ℕ) (k : ℕ) (t : List Node) → AreTerms k t → length (values t words) ≡ k
count_values words zero [] are = refl
count_values words zero (node ∷ t) are = absurd are
count_values words (suc k) [] are = absurd are
count_values words (suc k) (node ∷ t) are = value_count node.width node.kind k (roots t) words (values t words) (count_values words (sources_of node.kind + k) t are)

-- ---- terms before others

root_before : (width : Width) (kind : Kind) (behind more : List Width) → sources_of kind ≤ length behind
    → with_root width kind (behind ++ more) ≡ with_root width kind behind ++ more
root_before width (App op) behind more l = ap (λ list. width ∷ list) (drop-append-le (arity op) behind more l)
root_before width (Var var) behind more l = refl
root_before width (Lit word) behind more l = refl

pub roots_append : (k : ℕ) (t rest : List Node) → AreTerms k t → roots (t ++ rest) ≡ roots t ++ roots rest
roots_append zero [] rest are = refl
roots_append zero (node ∷ t) rest are = absurd are
roots_append (suc k) [] rest are = absurd are
roots_append (suc k) (node ∷ t) rest are =
    let count = count_roots (sources_of node.kind + k) t are in
    ap (with_root node.width node.kind) (roots_append (sources_of node.kind + k) t rest are)
    ∙ root_before node.width node.kind (roots t) (roots rest) (omega (arith, count))

value_before : (width : Width) (kind : Kind) (sizes more_sizes : List Width) (words behind more : List ℕ) → sources_of kind ≤ length sizes → sources_of kind ≤ length behind
    → with_value width kind (sizes ++ more_sizes) words (behind ++ more) ≡ with_value width kind sizes words behind ++ more
value_before width (App op) sizes more_sizes words behind more l l' =
    rw (take-append-le (arity op) sizes more_sizes l, take-append-le (arity op) behind more l', drop-append-le (arity op) behind more l') refl
value_before width (Var var) sizes more_sizes words behind more l l' = refl
value_before width (Lit word) sizes more_sizes words behind more l l' = refl

pub values_append : (words : List ℕ) (k : ℕ) (t rest : List Node) → AreTerms k t → values (t ++ rest) words ≡ values t words ++ values rest words
values_append words zero [] rest are = refl
values_append words zero (node ∷ t) rest are = absurd are
values_append words (suc k) [] rest are = absurd are
values_append words (suc k) (node ∷ t) rest are =
    let sizes = count_roots (sources_of node.kind + k) t are in
    let count = count_values words (sources_of node.kind + k) t are in
    ap (λ r. with_value node.width node.kind r words (values (t ++ rest) words)) (roots_append (sources_of node.kind + k) t rest are)
    ∙ ap (with_value node.width node.kind (roots t ++ roots rest) words) (values_append words (sources_of node.kind + k) t rest are)
    ∙ value_before node.width node.kind (roots t) (roots rest) words (values t words) (values rest words) (omega (arith, sizes)) (omega (arith, count))

-- ---- terms behind others

pub roots_behind : (front a b : List Node) → roots a ≡ roots b → roots (front ++ a) ≡ roots (front ++ b)
roots_behind [] a b same = same
roots_behind (node ∷ front) a b same = ap (with_root node.width node.kind) (roots_behind front a b same)

-- where terms behind others have the same sizes and values, so have all
pub values_behind : (words : List ℕ) (front a b : List Node) → roots a ≡ roots b → values a words ≡ values b words → values (front ++ a) words ≡ values (front ++ b) words
values_behind words [] a b sizes same = same
values_behind words (node ∷ front) a b sizes same =
    ap (λ r. with_value node.width node.kind r words (values (front ++ a) words)) (roots_behind front a b sizes)
    ∙ ap (with_value node.width node.kind (roots (front ++ b)) words) (values_behind words front a b sizes same)

-- ---- so many terms and so many others

pub terms_append : (j k : ℕ) (a b : List Node) → AreTerms j a → AreTerms k b → AreTerms (j + k) (a ++ b)
terms_append zero k [] b are others = let e : k ≡ 0 + k = omega arith in subst (λ n. AreTerms n b) e others
terms_append zero k (node ∷ a) b are others = absurd are
terms_append (suc j) k [] b are others = absurd are
terms_append (suc j) k (node ∷ a) b are others =
    let e : sources_of node.kind + j + k ≡ sources_of node.kind + (j + k) = omega arith in
    let f : suc (j + k) ≡ suc j + k = omega arith in
    subst (λ n. AreTerms n (node ∷ a ++ b)) f (subst (λ n. AreTerms n (a ++ b)) e (terms_append (sources_of node.kind + j) k a b are others))

-- the first so many terms of a list are as long as they are
pub extent_append : (k : ℕ) (a b : List Node) → AreTerms k a → extent k (a ++ b) ≡ length a
extent_append zero [] b are = refl
extent_append zero (node ∷ a) b are = absurd are
extent_append (suc k) [] b are = absurd are
extent_append (suc k) (node ∷ a) b are = ap suc (extent_append (sources_of node.kind + k) a b are)

pub first_of_append : (k : ℕ) (a b : List Node) → AreTerms k a → take (extent k (a ++ b)) (a ++ b) ≡ a
first_of_append k a b are = ap (λ n. take n (a ++ b)) (extent_append k a b are) ∙ take-append_seam a b

pub behind_append : (k : ℕ) (a b : List Node) → AreTerms k a → drop (extent k (a ++ b)) (a ++ b) ≡ b
behind_append k a b are = ap (λ n. drop n (a ++ b)) (extent_append k a b are) ∙ drop-append_seam a b

-- ---- a list of terms is cut at its terms

pub terms_split : (j k : ℕ) (t : List Node) → AreTerms (j + k) t → AreTerms j (take (extent j t) t) × AreTerms k (drop (extent j t) t)
terms_split zero k t are = let e : 0 + k ≡ k = omega arith in (tt, subst (λ n. AreTerms n t) e are)
terms_split (suc j) k [] are = let f : suc j + k ≡ suc (j + k) = omega arith in absurd (subst (λ n. AreTerms n []) f are)
terms_split (suc j) k (node ∷ t) are =
    let e : sources_of node.kind + (j + k) ≡ sources_of node.kind + j + k = omega arith in
    let f : suc j + k ≡ suc (j + k) = omega arith in
    let parts = terms_split (sources_of node.kind + j) k t (subst (λ n. AreTerms n t) e (subst (λ n. AreTerms n (node ∷ t)) f are)) in
    (parts.0, parts.1)
