-- Laws of lists that are made of lists item by item.
use Rattle.std.specs.Prelude.{◌≡◌, refl, List, [], ◌∷◌, ◌++◌, map}
use Rattle.std.specs.List.{flat_map}
use Rattle.std.proofs.Common.{◌∙◌, ap}
use Rattle.std.proofs.lemmas.Grind.{flat_map-append}

pub map-same : {A : Type 0} (list : List A) → map (λ a. a) list ≡ list
map-same [] = refl
map-same (a ∷ list) = ap (λ t. a ∷ t) (map-same list)

pub flat_map-same : {A B : Type 0} (f g : A → List B) → ((a : A) → f a ≡ g a) → (list : List A) → flat_map f list ≡ flat_map g list
flat_map-same f g h [] = refl
flat_map-same f g h (a ∷ list) = ap (λ t. t ++ flat_map f list) (h a) ∙ ap (λ t. g a ++ t) (flat_map-same f g h list)

pub flat_map-flat_map : {A B C : Type 0} (f : A → List B) (g : B → List C) (list : List A) → flat_map g (flat_map f list) ≡ flat_map (λ a. flat_map g (f a)) list
flat_map-flat_map f g [] = refl
flat_map-flat_map f g (a ∷ list) = flat_map-append g (f a) (flat_map f list) ∙ ap (λ t. flat_map g (f a) ++ t) (flat_map-flat_map f g list)
