-- The bit sizes that a match meets: one for each node of the search side, and where they are those of a typing.
use Rattle.std.specs.Prelude.{◌≡◌, refl, ◌+◌, ℕ, suc, List, [], ◌∷◌, Bool, true, false, ◌||◌, Option, Some, None, length, drop, is_some, if◌then◌else◌}
use Rattle.std.proofs.Common.{◌∙◌, ap}
use Rattle.std.proofs.lemmas.List.{length-append}
use Rattle.std.specs.List.{find, list_any}
use Rattle.std.specs.Option.{option_map}
use Rattle.nir_ops.specs.declared.width.Width.{Width}
use Rattle.nir_ir.specs.Nodes.{Nodes}
use Rattle.rule_term.specs.Terms.{Terms, Nil, VarThen, LitThen, AppThen}
use Rattle.rule_term.specs.Rule.{Rule}
use Rattle.rule_term.specs.Replaced.{has_search, replace_for}
use Rattle.rule_term.specs.Typings.{replace_part, size_of, typings}
use Rattle.nir_search.specs.declared.hit.Bind.{Bind}
use Rattle.rule_term.specs.Variants.{bits_behind, bits_left, is_swapped}
use Rattle.nir_search.specs.Match.{children, front, is_typed, met}

-- each node is met once
pub length-met : (body : Nodes) (terms : Terms) (bits : ℕ) (views : List Bind) → length (met body terms bits views) ≡ size_of terms
length-met body Nil bits views = refl
length-met body (VarThen var constant size cond rest) bits views = ap suc (length-met body rest bits (drop 1 views))
length-met body (LitThen value boolean rest) bits views = ap suc (length-met body rest bits (drop 1 views))
length-met body (AppThen op size once args rest) bits views =
    ap suc
    (length-append (met body args (bits_left op bits) (children body (is_swapped op bits) (front views))) (met body rest (bits_behind args (bits_left op bits)) (drop 1 views))
    ∙ ap (λ n. n + length (met body rest (bits_behind args (bits_left op bits)) (drop 1 views))) (length-met body args (bits_left op bits) (children body (is_swapped op bits) (front views)))
    ∙ ap (λ n. size_of args + n) (length-met body rest (bits_behind args (bits_left op bits)) (drop 1 views)))

-- they have the sizes of a typing exactly where the first typing with them is found
some_mapped : {A B : Type 0} (f : A → B) (o : Option A) → is_some (option_map f o) ≡ is_some o
some_mapped f None = refl
some_mapped f (Some a) = refl

some_first : {A : Type 0} (a : A) (more : Option A) (any here : Bool) → is_some more ≡ any → is_some (if here then Some a else more) ≡ (here || any)
some_first a more any true same = refl
some_first a more any false same = same

some_found : {A : Type 0} (test : A → Bool) (list : List A) → is_some (find test list) ≡ list_any test list
some_found test [] = refl
some_found test (a ∷ list) = some_first a (find test list) (list_any test list) (test a) (some_found test list)

pub is_typed_found : (rule : Rule) (widths : List Width) → is_some (replace_for rule widths) ≡ is_typed rule widths
unfolding is_typed replace_for
is_typed_found rule widths =
    some_mapped (replace_part rule) (find (has_search rule widths) (typings rule)) ∙ some_found (has_search rule widths) (typings rule)
