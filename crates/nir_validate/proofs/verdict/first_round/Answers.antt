use Rattle.std.proofs.Common.{◌≡◌, ◌≢◌, ◌∙◌, ◌<◌, ◌-◌, ◌^◌, ℕ, false, length, ap, arith}
use Rattle.nir_ir.specs.Items.{items}
use Rattle.nir_ir.specs.Nodes.{nodes_of}
use Rattle.nir_ir.specs.Definitions.{kind_at}
use Rattle.nir_ir.specs.Shader.{Shader}
use Rattle.nir_validate.proofs.RoundFound.{after_order, counted_items, round-found}
use Rattle.nir_validate.specs.KindTable.{kinds_in}
use Rattle.nir_validate.proofs.OrderFound.{beginning, placed-at}
use Rattle.nir_validate.specs.Passing.{passed_in}
use Rattle.nir_validate.specs.Placing.{fresh, placed_in}
use Rattle.nir_validate.proofs.verdict.first_round.Goals as goal

-- where the order was passed without coming to the end of the numbers, the items are counted
few_items : (s : Shader) (at : ℕ) → at ≡ (placed_in 0 beginning s.body).at → at ≢ 2 ^ 64 - 1 → length (items s.body) < 2 ^ 64
few_items s at same open_end =
    let counted = placed-at (fresh 0) beginning s.body (omega arith) in
    counted_items s.body (omega (arith, same, counted, open_end))

pub returns-clause-items_few : goal.returns-clause-items_few
returns-clause-items_few c =
    let whole : nodes_of c.shader.inside.body ≡ c.args.shader.now.body = ap (λ (v : Shader). v.body) c.shader.view_is in
    let ordered : c.place_list-placed.result ≡ placed_in 0 beginning c.args.shader.now.body = c.place_list-placed.ensures ∙ ap (placed_in 0 beginning) (ap nodes_of c.as_slice.ensures ∙ whole) in
    few_items c.args.shader.now c.place_list-placed.result.at (ap (λ pass. pass.at) ordered) c.if-placed.false

pub returns-clause-found : goal.returns-clause-found
returns-clause-found c =
    let s : Shader = c.args.shader.now in
    let whole : nodes_of c.shader.inside.body ≡ s.body = ap (λ (v : Shader). v.body) c.shader.view_is in
    let ordered : c.place_list-placed.result ≡ placed_in 0 beginning s.body = c.place_list-placed.ensures ∙ ap (placed_in 0 beginning) (ap nodes_of c.as_slice.ensures ∙ whole) in
    let few : length (items s.body) < 2 ^ 64 = few_items s c.place_list-placed.result.at (ap (λ pass. pass.at) ordered) c.if-placed.false in
    let right : kinds_in c.as_slice-2.result.now ≡ kind_at s.body = ap kinds_in c.as_slice-2.ensures.value ∙ c.in_ok-kinds.ensures in
    ap (λ pass. pass.found) c.pass_list-passed.ensures
    ∙ ap (λ body. (passed_in (kinds_in c.as_slice-2.result.now) s false (after_order c.place_list-placed.result.found) body).found) (ap nodes_of c.as_slice-3.ensures ∙ whole)
    ∙ ap (λ found. (passed_in (kinds_in c.as_slice-2.result.now) s false (after_order found) s.body).found) (ap (λ pass. pass.found) ordered)
    ∙ round-found s (kinds_in c.as_slice-2.result.now) right few
