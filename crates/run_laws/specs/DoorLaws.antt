-- A door into the induction: an if whose condition always chooses one of its lists is followed by that list, and then by what stands behind it.
use Rattle.std.specs.Prelude.{◌≡◌, refl, Bool, true, false, nat_eq, List, [], ◌++◌, Option}
use Rattle.std.proofs.Common.{sym, subst}
use Rattle.nir_ir.specs.declared.ids.BlockId.{BlockId}
use Rattle.nir_ir.specs.declared.ids.IfId.{IfId}
use Rattle.nir_ir.specs.declared.ids.ValueId.{ValueId}
use Rattle.nir_ir.specs.Nodes.{Nodes, IfThen, then}
use Rattle.nir_validate.specs.Each.{IsReached}
use Rattle.nir_validate.specs.Edges.{Edge, either, meet}
use Rattle.nir_validate.specs.Walk.{walk}
use Rattle.nir_mean.specs.Run.{Exit, Setting, after_fall, run_choice, run_list, scalar}
use Rattle.nir_mean.specs.State.{State}
use Rattle.run_laws.specs.Follows.{Between, Follows, IsSimulation, Naming, Related, Through}
use Rattle.run_laws.specs.FollowsLaws.{at_meet, edge_back, edge_front, fall_related, related_more, rest_follows, through_none}
use Rattle.run_laws.specs.ThenLaws.{run_list-then}

-- the condition chooses so in each state in which the first run comes to the if
abbrev pub Chooses : Between → Bool → ValueId → List Edge → Type 0
Chooses I test condition edges = (s t : State) → I (meet edges) s t → nat_eq (scalar s.values condition) 1 ≡ test

-- the list that is chosen
abbrev pub chosen_list : Bool → Nodes → Nodes → Nodes
chosen_list true first second = first
chosen_list false first second = second

module _ (m : Setting) (I : Between) (ρ : Naming) (simulation : IsSimulation I) where
  chosen_related : (test : Bool) (first second taken : Nodes) (edges : List Edge) → Follows m I ρ (chosen_list test first second) taken edges [] → IsReached edges
      → (from : Option BlockId) (s t : State) → Through I from s t (edges ++ [])
      → Related I ρ (either (walk first edges) (walk second edges)) (run_choice test (run_list m first) (run_list m second) from s) (run_list m taken (ρ from) t)
  chosen_related true first second taken edges follows reached from s t through =
      let one = walk first edges in
      let two = walk second edges in
      related_more I ρ one (either one two) (λ edge is. edge_front edge one.falls two.falls is) (λ edge is. edge_front edge one.breaks two.breaks is) (λ edge is. edge_front edge one.continues two.continues is)
      (run_list m first from s) (run_list m taken (ρ from) t) (follows reached from s t through)
  chosen_related false first second taken edges follows reached from s t through =
      let one = walk first edges in
      let two = walk second edges in
      related_more I ρ two (either one two) (λ edge is. edge_back edge one.falls two.falls is) (λ edge is. edge_back edge one.breaks two.breaks is) (λ edge is. edge_back edge one.continues two.continues is)
      (run_list m second from s) (run_list m taken (ρ from) t) (follows reached from s t through)

  pub branch_follows : (test : Bool) (id : IfId) (condition : ValueId) (first second rest taken more : Nodes) (edges : List Edge) → Chooses I test condition edges
      → Follows m I ρ (chosen_list test first second) taken edges [] → Follows m I ρ rest more (either (walk first edges) (walk second edges)).falls []
      → Follows m I ρ (IfThen id condition first second rest) (then taken more) edges []
  branch_follows test id condition first second rest taken more edges chooses inside behind reached from s t through =
      let flow = either (walk first edges) (walk second edges) in
      let here = through_none I from s t edges [] refl through in
      let is = chooses s t (at_meet I ρ simulation edges from s t here) in
      subst (λ (exit : Exit). Related I ρ (walk (IfThen id condition first second rest) edges) (run_list m (IfThen id condition first second rest) from s) exit) (sym (run_list-then m taken more (ρ from) t))
      (subst (λ choice. Related I ρ (walk (IfThen id condition first second rest) edges) (after_fall (run_choice choice (run_list m first) (run_list m second) from s) (run_list m rest)) (after_fall (run_list m taken (ρ from) t) (run_list m more))) (sym is)
      (fall_related I ρ flow (walk rest) (run_list m rest) (run_list m more) (run_choice test (run_list m first) (run_list m second) from s) (run_list m taken (ρ from) t)
      (chosen_related test first second taken edges inside reached from s t through)
      (rest_follows I ρ simulation m rest more flow.falls behind)))
