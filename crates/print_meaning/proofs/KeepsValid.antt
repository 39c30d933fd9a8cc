-- A renumbered shader is valid where the shader is: no rule is told at an item where none was told before.
use Rattle.std.specs.Prelude.{◌≡◌, refl, false, List, [], ◌∷◌, ◌++◌, map}
use Rattle.std.specs.List.{AllByRecursion}
use Rattle.std.proofs.Common.{sym, ◌∙◌, ap, subst}
use Rattle.nir_ir.specs.Definitions.{kind_at}
use Rattle.nir_ir.specs.Items.{Item, blocks_defined, items, uses, values_defined}
use Rattle.nir_ir.specs.Nodes.{Nodes}
use Rattle.nir_ir.specs.Shaped.{IsOneOf, IsShaped}
use Rattle.nir_ir.specs.Shader.{Shader}
use Rattle.list_laws.specs.AllLaws.{all_of_map, given_by_each}
use Rattle.nir_print.specs.Renumber.{Numbers, new_nodes, numbers_of, renumber}
use Rattle.nir_validate.specs.Kept.{VisitKept, none_told, spot_told, visit_told, visits_kept}
use Rattle.nir_validate.specs.Placing.{order_faults}
use Rattle.nir_validate.specs.Rules.{Spot, all_misplaced, spots}
use Rattle.list_laws.specs.AllLaws.{all_each}
use Rattle.nir_validate.specs.TypedLaws.{SpotKept, all_kept, first_nil, second_nil}
use Rattle.nir_validate.specs.Valid.{at_each, spot_faults, visit_faults}
use Rattle.nir_validate.specs.Walk.{entry, visits_of}
use Rattle.print_meaning.proofs.Apart.{all_apart, nodes_apart}
use Rattle.print_meaning.proofs.Places.{kind_at-renumbered}
use Rattle.print_meaning.proofs.Spots.{SameKind, all_misplaced-renamed, items-spots, spots-renamed, spots_kept}
use Rattle.print_meaning.proofs.Visits.{nodes_kept}
use Rattle.print_meaning.proofs.Walk.{block_renaming, value_renaming}
use Rattle.print_meaning.specs.RenumberedLaws.{RenumberedIsValid}

-- the values that items use have their kinds under their new numbers
module _ (body : Nodes) where
  same_kinds : (list : List Item) → AllByRecursion (λ item. AllByRecursion (IsOneOf (values_defined body)) (map (λ id. id.0) (uses item))) list
      → AllByRecursion (λ item. AllByRecursion (SameKind (numbers_of body) (kind_at body) (kind_at (new_nodes (numbers_of body) body))) (uses item)) list
  same_kinds [] all = tt
  same_kinds (item ∷ list) all = (
    all_each (λ id. IsOneOf (values_defined body) id.0) (SameKind (numbers_of body) (kind_at body) (kind_at (new_nodes (numbers_of body) body)))
        (λ id is. kind_at-renumbered body id is) (uses item) (all_of_map (λ id. id.0) (IsOneOf (values_defined body)) (uses item) all.0),
    same_kinds list all.1,
  )

-- no rule is told of the parts
parts_kept : (s : Shader) → IsShaped s → at_each (spot_faults (kind_at s.body) s) 0 (spots false s.body) ≡ [] → AllByRecursion (SpotKept (kind_at (renumber s).body) (renumber s)) (spots false (renumber s).body)
parts_kept s shaped told =
    let numbers : Numbers = numbers_of s.body in
    let list : List Spot = spots false s.body in
    let known : Item → Type 0 = λ item. AllByRecursion (SameKind numbers (kind_at s.body) (kind_at (renumber s).body)) (uses item) in
    let by_items : AllByRecursion known (items s.body) = same_kinds s.body (items s.body) (given_by_each (IsOneOf (values_defined s.body)) (λ item. map (λ id. id.0) (uses item)) (items s.body) shaped.uses) in
    let by_spots : AllByRecursion (λ spot. known spot.item) list = all_of_map (λ (spot : Spot). spot.item) known list (subst (AllByRecursion known) (sym (items-spots false s.body)) by_items) in
    subst (AllByRecursion (SpotKept (kind_at (renumber s).body) (renumber s))) (sym (spots-renamed numbers false s.body))
    (spots_kept numbers s (renumber s) refl refl refl (kind_at s.body) (kind_at (renumber s).body) list by_spots (all_kept (kind_at s.body) s 0 list told))

-- nor along the paths
paths_kept : (s : Shader) → at_each visit_faults 0 (visits_of s.body) ≡ [] → AllByRecursion VisitKept (visits_of (renumber s).body)
paths_kept s told =
    let numbers : Numbers = numbers_of s.body in
    nodes_kept numbers s.body (entry ∷ []) (entry ∷ []) [] []
    (nodes_apart (value_renaming numbers) (block_renaming numbers) s.body (all_apart (values_defined s.body)) (all_apart (blocks_defined s.body)))
    (record { from = refl; apart = tt; set = λ v. refl }, tt) tt
    (visits_kept 0 (visits_of s.body) told)

pub renumbered_is_valid : RenumberedIsValid
renumbered_is_valid s shaped valid =
    let numbers : Numbers = numbers_of s.body in
    let order = order_faults (all_misplaced s.body) in
    let parts = at_each (spot_faults (kind_at s.body) s) 0 (spots false s.body) in
    let new_parts = at_each (spot_faults (kind_at (renumber s).body) (renumber s)) 0 (spots false (renumber s).body) in
    record {
      parts = ap (λ list. order_faults list ++ new_parts) (all_misplaced-renamed numbers s.body)
          ∙ ap (λ told. told ++ new_parts) (first_nil order parts valid.parts)
          ∙ none_told (spot_faults (kind_at (renumber s).body) (renumber s)) (SpotKept (kind_at (renumber s).body) (renumber s)) (spot_told (kind_at (renumber s).body) (renumber s)) 0
          (spots false (renumber s).body) (parts_kept s shaped (second_nil order parts valid.parts));
      paths = none_told visit_faults VisitKept visit_told 0 (visits_of (renumber s).body) (paths_kept s valid.paths);
    }
