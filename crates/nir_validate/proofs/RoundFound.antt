-- The first round in two passes: over the order of nodes, and over the items.
use Rattle.std.specs.Prelude.{◌≡◌, ◌+◌, ◌-◌, ◌^◌, ◌<◌, false, length, Option}
use Rattle.std.proofs.Common.{sym, ◌∙◌, ap, arith}
use Rattle.nir_ir.specs.Items.{items}
use Rattle.nir_ir.specs.Definitions.{kind_at}
use Rattle.nir_ir.specs.Nodes.{Nodes}
use Rattle.nir_ir.specs.Shader.{Shader}
use Rattle.nir_validate.specs.declared.first.Pass.{Pass}
use Rattle.nir_validate.specs.Least.{sooner, least-append}
use Rattle.nir_validate.proofs.OrderFound.{beginning, order-found, placed-at}
use Rattle.nir_validate.specs.Passing.{passed_in}
use Rattle.nir_validate.proofs.PassLemmas.{passed-least, spots-length}
use Rattle.nir_validate.specs.Placing.{fresh, order_faults, placed_in}
use Rattle.nir_validate.specs.Rules.{Kinds, all_misplaced, spots}
use Rattle.nir_validate.specs.Valid.{Fault, at_each, first_round, least, spot_faults}

-- the pass over the items, which goes on with what the order has
abbrev pub after_order : Option Fault → Pass
after_order found = record { at = 0; found = found }

-- where the count of the items did not come to its end, it is right
pub counted_items : (body : Nodes) → (placed_in 0 beginning body).at < 2 ^ 64 - 1 → length (items body) < 2 ^ 64
counted_items body few =
    let counted = placed-at (fresh 0) beginning body (omega arith) in
    omega (arith, counted)

pub round-found : (s : Shader) (kinds : Kinds) → kinds ≡ kind_at s.body → length (items s.body) < 2 ^ 64 → (passed_in kinds s false (after_order (placed_in 0 beginning s.body).found) s.body).found ≡ least (first_round s)
round-found s kinds right few =
    let as_many = spots-length false s.body in
    let from_zero : 0 + length (spots false s.body) < 2 ^ 64 = omega (arith, as_many) in
    ap (λ k. (passed_in k s false (after_order (placed_in 0 beginning s.body).found) s.body).found) right
    ∙ passed-least (kind_at s.body) s (after_order (placed_in 0 beginning s.body).found) (spots false s.body) from_zero
    ∙ ap (λ found. sooner found (least (at_each (spot_faults (kind_at s.body) s) 0 (spots false s.body)))) (order-found s.body few)
    ∙ sym (least-append (order_faults (all_misplaced s.body)) (at_each (spot_faults (kind_at s.body) s) 0 (spots false s.body)))
