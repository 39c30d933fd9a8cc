-- A list with no loop around it whose jumps stand in loops is left at its end alone.
use Rattle.std.specs.Prelude.{◌≡◌, ◌⊎◌, refl, true, false, List, [], ◌∷◌, ◌++◌, None}
use Rattle.std.proofs.Common.{sym, ◌∙◌, ap, ap₂, inl, inr}
use Rattle.std.proofs.lemmas.Bool.{true≢false}
use Rattle.nir_ir.specs.declared.node.Block.{Block}
use Rattle.nir_ir.specs.Nodes.{Nodes, Nil, BlockThen, IfThen, LoopThen}
use Rattle.nir_ir.specs.Shader.{Shader}
use Rattle.nir_validate.specs.Edges.{Edge, Flow, either, falls_by, out_of_loop}
use Rattle.nir_validate.specs.Valid.{Valid}
use Rattle.nir_validate.specs.Walk.{block_flow, by_jump, entry, out_edges, walk}
use Rattle.nir_validate.specs.Alternates.{JumpsIn}
use Rattle.walk_laws.specs.PartsLaws.{parts-from_valid}

-- no edge by which a loop around would be left or gone on
pub record OnlyFalls (flow : Flow) : Type 0 where
  pub breaks : flow.breaks ≡ []
  pub continues : flow.continues ≡ []

abbrev pub ValidOnlyFalls : Type 0
ValidOnlyFalls = (s : Shader) → Valid s → OnlyFalls (walk s.body (entry ∷ []))

pub no_jump : (b : Block) → (false ≡ true) ⊎ (b.jump ≡ None) → b.jump ≡ None
no_jump b (inl is) = absurd (true≢false (sym is))
no_jump b (inr is) = is

pub only_falls : (nodes : Nodes) (edges : List Edge) → JumpsIn false nodes → OnlyFalls (walk nodes edges)
only_falls Nil edges jumps = record { breaks = refl; continues = refl }
only_falls (BlockThen b rest) edges jumps =
    let is : block_flow b edges ≡ falls_by (out_edges b edges) = ap (λ j. by_jump j (out_edges b edges)) (no_jump b jumps.0) in
    let next = only_falls rest (block_flow b edges).falls jumps.1 in
    record {
      breaks = ap (λ (flow : Flow). flow.breaks ++ (walk rest (block_flow b edges).falls).breaks) is ∙ next.breaks;
      continues = ap (λ (flow : Flow). flow.continues ++ (walk rest (block_flow b edges).falls).continues) is ∙ next.continues;
    }
only_falls (IfThen id condition first second rest) edges jumps =
    let one = only_falls first edges jumps.0 in
    let two = only_falls second edges jumps.1 in
    let end = walk rest (either (walk first edges) (walk second edges)).falls in
    let next = only_falls rest (either (walk first edges) (walk second edges)).falls jumps.2 in
    record {
      breaks = ap₂ (λ a b. (a ++ b) ++ end.breaks) one.breaks two.breaks ∙ next.breaks;
      continues = ap₂ (λ a b. (a ++ b) ++ end.continues) one.continues two.continues ∙ next.continues;
    }
only_falls (LoopThen id body rest) edges jumps = only_falls rest (out_of_loop (walk body edges)).falls jumps.1

pub valid-only_falls : ValidOnlyFalls
valid-only_falls s valid = only_falls s.body (entry ∷ []) (parts-from_valid s valid).whole.jumps
