-- What is said of two chains of terms, one after another, is what is said of the first and then of the second, whose sizes stand behind those of the first.
use Rattle.std.specs.Prelude.{◌≡◌, refl, ℕ, suc, ◌+◌, ◌&&◌, List, [], ◌∷◌, ◌++◌, length, map}
use Rattle.std.proofs.Common.{sym, ◌∙◌, ap, append_assoc, drop, zero-add, add_assoc}
use Rattle.std.proofs.Math.Nat.{suc-add}
use Rattle.std.proofs.Math.Numerals.{one-add}
use Rattle.std.proofs.Math.Bool.{and_assoc}
use Rattle.std.proofs.lemmas.List.{drop-drop, map-append}
use Rattle.std.proofs.lemmas.Grind.{flat_map-append}
use Rattle.std.specs.List.{slice_index_or}
use Rattle.nir_ops.specs.declared.width.Width.{Width}
use Rattle.nir_ops.specs.Width.{width_bits}
use Rattle.op_eval.specs.Calls.{sizes_fit, unsized_width}
use Rattle.op_eval.specs.Meaning.{op_mean}
use Rattle.op_eval.specs.Word.{residue}
use Rattle.rule_term.specs.declared.term.Term.{Term, Term-F, out-Term, map-Term}
use Rattle.rule_term.specs.declared.term.Term.TheOpen as layer
use Rattle.rule_term.specs.Terms.{Terms, Nil, VarThen, LitThen, AppThen, before, before_layer, before-out, terms_of}
use Rattle.rule_term.specs.Lists.{then}
use Rattle.rule_term.specs.Pieces.{VarPiece, LitPiece, AppPiece, pieces, terms_count, var_of, vars_of}
use Rattle.rule_term.specs.Typings.{size_of, first_of, roots, obeys, has_size, literal_fits, Occurrence, occurrences}
use Rattle.rule_term.specs.Holds.{values_of}

-- the sizes behind a node, and behind those that stand under it
pub drop_one : {A : Type 0} (m : ℕ) (list : List A) → drop m (drop 1 list) ≡ drop (suc m) list
drop_one m list = drop-drop m 1 list ∙ ap (λ k. drop k list) (one-add m)

pub drop_behind : {A : Type 0} (m n : ℕ) (list : List A) → drop m (drop (suc n) list) ≡ drop (suc (n + m)) list
drop_behind m n list = drop-drop m (suc n) list ∙ ap (λ k. drop k list) (suc-add n m)

pub size_of-then : (a b : Terms) → size_of (then a b) ≡ size_of a + size_of b
size_of-then Nil b = sym (zero-add (size_of b))
size_of-then (VarThen var constant size cond rest) b = ap suc (size_of-then rest b) ∙ sym (suc-add (size_of rest) (size_of b))
size_of-then (LitThen value boolean rest) b = ap suc (size_of-then rest b) ∙ sym (suc-add (size_of rest) (size_of b))
size_of-then (AppThen op size once args rest) b =
    ap (λ n. suc (size_of args + n)) (size_of-then rest b)
    ∙ ap suc (sym (add_assoc (size_of args) (size_of rest) (size_of b)))
    ∙ sym (suc-add (size_of args + size_of rest) (size_of b))

pub terms_count-then : (a b : Terms) → terms_count (then a b) ≡ terms_count a + terms_count b
terms_count-then Nil b = sym (zero-add (terms_count b))
terms_count-then (VarThen var constant size cond rest) b = ap suc (terms_count-then rest b) ∙ sym (suc-add (terms_count rest) (terms_count b))
terms_count-then (LitThen value boolean rest) b = ap suc (terms_count-then rest b) ∙ sym (suc-add (terms_count rest) (terms_count b))
terms_count-then (AppThen op size once args rest) b = ap suc (terms_count-then rest b) ∙ sym (suc-add (terms_count rest) (terms_count b))

pub pieces-then : (a b : Terms) → pieces (then a b) ≡ pieces a ++ pieces b
pieces-then Nil b = refl
pieces-then (VarThen var constant size cond rest) b = ap (λ t. VarPiece var constant size cond ∷ t) (pieces-then rest b)
pieces-then (LitThen value boolean rest) b = ap (λ t. LitPiece value boolean ∷ t) (pieces-then rest b)
pieces-then (AppThen op size once args rest) b =
    ap (λ t. AppPiece op size once (terms_count args) ∷ pieces args ++ t) (pieces-then rest b)
    ∙ ap (λ t. AppPiece op size once (terms_count args) ∷ t) (sym (append_assoc (pieces args) (pieces rest) (pieces b)))

pub roots-then : (a b : Terms) (widths : List Width) → roots (then a b) widths ≡ roots a widths ++ roots b (drop (size_of a) widths)
roots-then Nil b widths = refl
roots-then (VarThen var constant size cond rest) b widths =
    ap (λ t. first_of widths ∷ t) (roots-then rest b (drop 1 widths) ∙ ap (λ l. roots rest (drop 1 widths) ++ roots b l) (drop_one (size_of rest) widths))
roots-then (LitThen value boolean rest) b widths =
    ap (λ t. first_of widths ∷ t) (roots-then rest b (drop 1 widths) ∙ ap (λ l. roots rest (drop 1 widths) ++ roots b l) (drop_one (size_of rest) widths))
roots-then (AppThen op size once args rest) b widths =
    let behind = drop (suc (size_of args)) widths in
    ap (λ t. first_of widths ∷ t) (roots-then rest b behind ∙ ap (λ l. roots rest behind ++ roots b l) (drop_behind (size_of rest) (size_of args) widths))

pub values_of-then : (a b : Terms) (widths : List Width) (values : List ℕ) → values_of (then a b) widths values ≡ values_of a widths values ++ values_of b (drop (size_of a) widths) values
values_of-then Nil b widths values = refl
values_of-then (VarThen var constant size cond rest) b widths values =
    ap (λ t. slice_index_or values var 0 ∷ t)
    (values_of-then rest b (drop 1 widths) values ∙ ap (λ l. values_of rest (drop 1 widths) values ++ values_of b l values) (drop_one (size_of rest) widths))
values_of-then (LitThen value boolean rest) b widths values =
    ap (λ t. residue (width_bits (first_of widths)) value ∷ t)
    (values_of-then rest b (drop 1 widths) values ∙ ap (λ l. values_of rest (drop 1 widths) values ++ values_of b l values) (drop_one (size_of rest) widths))
values_of-then (AppThen op size once args rest) b widths values =
    let behind = drop (suc (size_of args)) widths in
    ap (λ t. op_mean op (width_bits (unsized_width op (first_of widths) (roots args (drop 1 widths)))) (width_bits (first_of widths)) (values_of args (drop 1 widths) values) ∷ t)
    (values_of-then rest b behind values ∙ ap (λ l. values_of rest behind values ++ values_of b l values) (drop_behind (size_of rest) (size_of args) widths))

pub obeys-then : (a b : Terms) (widths : List Width) → obeys (then a b) widths ≡ (obeys a widths && obeys b (drop (size_of a) widths))
obeys-then Nil b widths = refl
obeys-then (VarThen var constant size cond rest) b widths =
    ap (λ t. has_size size (first_of widths) && t) (obeys-then rest b (drop 1 widths) ∙ ap (λ l. obeys rest (drop 1 widths) && obeys b l) (drop_one (size_of rest) widths))
    ∙ sym (and_assoc (has_size size (first_of widths)) (obeys rest (drop 1 widths)) (obeys b (drop (suc (size_of rest)) widths)))
obeys-then (LitThen value boolean rest) b widths =
    ap (λ t. literal_fits value boolean (first_of widths) && t) (obeys-then rest b (drop 1 widths) ∙ ap (λ l. obeys rest (drop 1 widths) && obeys b l) (drop_one (size_of rest) widths))
    ∙ sym (and_assoc (literal_fits value boolean (first_of widths)) (obeys rest (drop 1 widths)) (obeys b (drop (suc (size_of rest)) widths)))
obeys-then (AppThen op size once args rest) b widths =
    let behind = drop (suc (size_of args)) widths in
    let here = has_size size (first_of widths) && sizes_fit op (first_of widths) (roots args (drop 1 widths)) && obeys args (drop 1 widths) in
    ap (λ t. here && t) (obeys-then rest b behind ∙ ap (λ l. obeys rest behind && obeys b l) (drop_behind (size_of rest) (size_of args) widths))
    ∙ sym (and_assoc here (obeys rest behind) (obeys b (drop (suc (size_of args + size_of rest)) widths)))

pub occurrences-then : (a b : Terms) (widths : List Width) → occurrences (then a b) widths ≡ occurrences a widths ++ occurrences b (drop (size_of a) widths)
occurrences-then Nil b widths = refl
occurrences-then (VarThen var constant size cond rest) b widths =
    let here : Occurrence = record { var = var; width = first_of widths; cond = cond } in
    ap (λ t. here ∷ t) (occurrences-then rest b (drop 1 widths) ∙ ap (λ l. occurrences rest (drop 1 widths) ++ occurrences b l) (drop_one (size_of rest) widths))
occurrences-then (LitThen value boolean rest) b widths =
    occurrences-then rest b (drop 1 widths) ∙ ap (λ l. occurrences rest (drop 1 widths) ++ occurrences b l) (drop_one (size_of rest) widths)
occurrences-then (AppThen op size once args rest) b widths =
    let behind = drop (suc (size_of args)) widths in
    let under = occurrences args (drop 1 widths) in
    ap (λ t. under ++ t) (occurrences-then rest b behind ∙ ap (λ l. occurrences rest behind ++ occurrences b l) (drop_behind (size_of rest) (size_of args) widths))
    ∙ sym (append_assoc under (occurrences rest behind) (occurrences b (drop (suc (size_of args + size_of rest)) widths)))

-- a chain has as many terms as its list, as many roots, and as many values
terms_count-before_layer : (layer : Term-F (Terms → Terms)) (rest : Terms) → terms_count (before_layer layer rest) ≡ suc (terms_count rest)
terms_count-before_layer (layer.Var var constant size cond) rest = refl
terms_count-before_layer (layer.Lit value boolean) rest = refl
terms_count-before_layer (layer.App op size once args) rest = refl

terms_count-before : (t : Term) (rest : Terms) → terms_count (before t rest) ≡ suc (terms_count rest)
terms_count-before t rest =
    ap (λ f. terms_count (f rest)) (before-out t)
    ∙ terms_count-before_layer (map-Term Term (Terms → Terms) before (out-Term t)) rest

pub terms_count-terms_of : (list : List Term) → terms_count (terms_of list) ≡ length list
terms_count-terms_of [] = refl
terms_count-terms_of (t ∷ rest) = terms_count-before t (terms_of rest) ∙ ap suc (terms_count-terms_of rest)

pub length-roots : (terms : Terms) (widths : List Width) → length (roots terms widths) ≡ terms_count terms
length-roots Nil widths = refl
length-roots (VarThen var constant size cond rest) widths = ap suc (length-roots rest (drop 1 widths))
length-roots (LitThen value boolean rest) widths = ap suc (length-roots rest (drop 1 widths))
length-roots (AppThen op size once args rest) widths = ap suc (length-roots rest (drop (suc (size_of args)) widths))

pub length-values_of : (terms : Terms) (widths : List Width) (values : List ℕ) → length (values_of terms widths values) ≡ terms_count terms
length-values_of Nil widths values = refl
length-values_of (VarThen var constant size cond rest) widths values = ap suc (length-values_of rest (drop 1 widths) values)
length-values_of (LitThen value boolean rest) widths values = ap suc (length-values_of rest (drop 1 widths) values)
length-values_of (AppThen op size once args rest) widths values = ap suc (length-values_of rest (drop (suc (size_of args)) widths) values)

-- the variables of a chain stand in its occurrences
pub vars_of-occurrences : (terms : Terms) (widths : List Width) → map (λ o. o.var) (occurrences terms widths) ≡ vars_of terms
vars_of-occurrences Nil widths = refl
vars_of-occurrences (VarThen var constant size cond rest) widths = ap (λ t. var ∷ t) (vars_of-occurrences rest (drop 1 widths))
vars_of-occurrences (LitThen value boolean rest) widths = vars_of-occurrences rest (drop 1 widths)
vars_of-occurrences (AppThen op size once args rest) widths =
    let behind = drop (suc (size_of args)) widths in
    map-append (λ o. o.var) (occurrences args (drop 1 widths)) (occurrences rest behind)
    ∙ ap (λ t. t ++ map (λ o. o.var) (occurrences rest behind)) (vars_of-occurrences args (drop 1 widths))
    ∙ ap (λ t. vars_of args ++ t) (vars_of-occurrences rest behind)
    ∙ sym (flat_map-append var_of (pieces args) (pieces rest))
