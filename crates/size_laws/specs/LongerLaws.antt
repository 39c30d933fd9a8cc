-- The lists of so many sizes, built at their ends.
use Rattle.std.proofs.Common.{◌≡◌, refl, ℕ, zero, suc, List, [], ◌∷◌, ◌++◌, map, flat_map, sym, ◌∙◌, ap}
use Rattle.std.proofs.lemmas.Grind.{flat_map-append}
use Rattle.nir_ops.specs.declared.width.Width.{Width}
use Rattle.rule_term.specs.Typings.{width_lists}
use Rattle.size_laws.specs.Places.{all_widths, longer}

abbrev pub longer_all : List Width → List (List Width)
longer_all list = map (longer list) all_widths

abbrev pub begun : Width → List (List Width) → List (List Width)
begun w lists = map (λ list. w ∷ list) lists

map-longer : (w : Width) (list : List Width) (more : List Width) → map (λ l. w ∷ l) (map (longer list) more) ≡ map (longer (w ∷ list)) more
map-longer w list [] = refl
map-longer w list (x ∷ more) = ap (λ l. longer (w ∷ list) x ∷ l) (map-longer w list more)

map-append2 : (w : Width) (a b : List (List Width)) → begun w (a ++ b) ≡ begun w a ++ begun w b
map-append2 w [] b = refl
map-append2 w (x ∷ a) b = ap (λ l. (w ∷ x) ∷ l) (map-append2 w a b)

begun-flat : (w : Width) (lists : List (List Width)) → begun w (flat_map longer_all lists) ≡ flat_map longer_all (begun w lists)
begun-flat w [] = refl
begun-flat w (list ∷ lists) =
    map-append2 w (longer_all list) (flat_map longer_all lists)
    ∙ ap (λ l. l ++ begun w (flat_map longer_all lists)) (map-longer w list all_widths)
    ∙ ap (λ l. longer_all (w ∷ list) ++ l) (begun-flat w lists)

flat-begun : (lists : List (List Width)) (ws : List Width) → flat_map (λ w. begun w (flat_map longer_all lists)) ws ≡ flat_map longer_all (flat_map (λ w. begun w lists) ws)
flat-begun lists [] = refl
flat-begun lists (w ∷ ws) =
    ap (λ l. l ++ flat_map (λ w. begun w (flat_map longer_all lists)) ws) (begun-flat w lists)
    ∙ ap (λ l. flat_map longer_all (begun w lists) ++ l) (flat-begun lists ws)
    ∙ sym (flat_map-append longer_all (begun w lists) (flat_map (λ w. begun w lists) ws))

pub width_lists-longer : (n : ℕ) → width_lists (suc n) ≡ flat_map longer_all (width_lists n)
unfolding width_lists
width_lists-longer zero = refl
width_lists-longer (suc n) =
    ap (λ lists. flat_map (λ w. begun w lists) all_widths) (width_lists-longer n)
    ∙ flat-begun (width_lists n) all_widths
