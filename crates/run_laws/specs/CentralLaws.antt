-- The central fact, since a list follows itself; what leaves a list first, and then what holds inside it.
use Rattle.std.specs.Prelude.{◌≡◌, ◌⊎◌, refl, ℕ, zero, suc, Bool, true, false, nat_eq, List, [], ◌∷◌, ◌++◌, Option, None}
use Rattle.std.proofs.Common.{sym, ap, subst, inl, inr}
use Rattle.std.proofs.lemmas.Bool.{true≢false}
use Rattle.nir_ir.specs.declared.ids.BlockId.{BlockId}
use Rattle.nir_ir.specs.declared.node.Block.{Block}
use Rattle.nir_ir.specs.Definitions.{kind_at}
use Rattle.nir_ir.specs.Items.{items}
use Rattle.nir_ir.specs.Nodes.{Nodes, Nil, BlockThen, IfThen, LoopThen}
use Rattle.nir_validate.specs.Each.{Each, IsReached}
use Rattle.nir_validate.specs.Edges.{Edge, Flow, Set, backs, either, meet, out_of_loop, set_after_instrs, set_after_phis}
use Rattle.nir_validate.specs.Walk.{block_flow, entry, walk}
use Rattle.walk_laws.specs.GrownLaws.{IsBelow}
use Rattle.nir_mean.specs.Outcome.{start}
use Rattle.nir_mean.specs.Run.{Break, Continue, Cut, Exit, Fall, Part, run_block, run_choice, run_list, scalar, turns}
use Rattle.nir_mean.specs.Same.{InputsFit}
use Rattle.nir_mean.specs.State.{State}
use Rattle.run_laws.specs.Agree.{IsItemOf}
use Rattle.run_laws.specs.AgreeLaws.{items_of}
use Rattle.run_laws.specs.Central.{AfterFall, AfterTurn, BlockKnown, Chosen, ConditionKnown, EndsKnown, InTurns, Inside, IsKnownInside, KnownBy, StaysKnown, ValidIsKnown, basis_by}
use Rattle.run_laws.specs.Follows.{Alike, BlocksAlike, Follows, IsSimulation, Related, Through}
use Rattle.run_laws.specs.FollowsLaws.{block_related, choice_related, edge_back, edge_either, edge_front, edge_reached, follows, related_more, turns_related}
use Rattle.run_laws.specs.GoodLaws.{valid-is_good_by_instrs}
use Rattle.run_laws.specs.Known.{Basis, IsEdgeOf, Known, ended, under}
use Rattle.run_laws.specs.KnownLaws.{edge_all, known-block, known-less, meet_under}
use Rattle.run_laws.specs.Simulates.{BlockAt, BlockPlace, ConditionPlace, ListGood, same_names}
use Rattle.run_laws.specs.SimulatesLaws.{closed-none, each_at}

-- one state, of which what is known holds
pub record Once (basis : Basis) (set : Set) (s t : State) : Type 0 where
  pub known : Known basis.kinds basis.makings set s
  pub same : s ≡ t

once : (basis : Basis) → IsSimulation (Once basis)
once basis = record {
  worlds = λ set s t is. ap (λ (state : State). state.world) is.same;
  less = λ a b s t below is. record { known = known-less basis.kinds basis.makings a b s below is.known; same = is.same };
}

known_by : (basis : Basis) (from : Option BlockId) (s t : State) (edges : List Edge) → Through (Once basis) from s t edges → KnownBy basis from s edges
known_by basis from s t edges through = record { edge = through.edge; listed = through.listed; came = through.came; known = through.holds.known }

through_by : (basis : Basis) (from : Option BlockId) (state : State) (edges : List Edge) → KnownBy basis from state edges → Through (Once basis) from state state edges
through_by basis from state edges by = record { edge = by.edge; listed = by.listed; came = by.came; holds = record { known = by.known; same = refl } }

ends_known : (basis : Basis) (flow : Flow) (x y : Exit) → Related (Once basis) same_names flow x y → EndsKnown basis flow x
ends_known basis flow (Fall from s) (Fall other t) is = known_by basis from s t flow.falls is.1
ends_known basis flow (Break from s) (Break other t) is = known_by basis from s t flow.breaks is.1
ends_known basis flow (Continue from s) (Continue other t) is = known_by basis from s t flow.continues is.1
ends_known basis flow (Cut s) y is = tt
ends_known basis flow _ _ is = absurd is

by_front : (basis : Basis) (from : Option BlockId) (state : State) (a b : List Edge) → KnownBy basis from state a → KnownBy basis from state (a ++ b)
by_front basis from state a b by = record { edge = by.edge; listed = edge_front by.edge a b by.listed; came = by.came; known = by.known }

by_back : (basis : Basis) (from : Option BlockId) (state : State) (a b : List Edge) → KnownBy basis from state b → KnownBy basis from state (a ++ b)
by_back basis from state a b by = record { edge = by.edge; listed = edge_back by.edge a b by.listed; came = by.came; known = by.known }

by_none : (basis : Basis) (from : Option BlockId) (state : State) (edges back : List Edge) → back ≡ [] → KnownBy basis from state (edges ++ back) → KnownBy basis from state edges
by_none basis from state edges back none by = record { edge = by.edge; listed = only (edge_either by.edge edges back by.listed); came = by.came; known = by.known } where
  only : IsEdgeOf by.edge edges ⊎ IsEdgeOf by.edge back → IsEdgeOf by.edge edges
  only (inl here) = here
  only (inr there) = absurd (subst (IsEdgeOf by.edge) none there)

at_once : (basis : Basis) (from : Option BlockId) (state : State) (edges : List Edge) → KnownBy basis from state edges → Known basis.kinds basis.makings (meet edges) state
at_once basis from state edges by =
    known-less basis.kinds basis.makings (meet edges) by.edge.set state (edge_all (λ edge. IsBelow (meet edges) edge.set) edges (meet_under edges) by.edge by.listed) by.known

-- what holds behind, where a part is left by an edge that falls
falls_to : (basis : Basis) (flow : Flow) (exit : Exit) (P : Option BlockId → State → Type 0) → EndsKnown basis flow exit
    → ((from : Option BlockId) (state : State) → KnownBy basis from state flow.falls → P from state) → AfterFall exit P
falls_to basis flow (Fall from state) P ends goes = goes from state ends
falls_to basis flow (Break from state) P ends goes = tt
falls_to basis flow (Continue from state) P ends goes = tt
falls_to basis flow (Cut state) P ends goes = tt

turns_to : (basis : Basis) (flow : Flow) (exit : Exit) (P : Option BlockId → State → Type 0) → EndsKnown basis flow exit
    → ((from : Option BlockId) (state : State) → KnownBy basis from state (backs flow) → P from state) → AfterTurn exit P
turns_to basis flow (Fall from state) P ends goes = goes from state (by_front basis from state flow.falls flow.continues ends)
turns_to basis flow (Break from state) P ends goes = tt
turns_to basis flow (Continue from state) P ends goes = goes from state (by_back basis from state flow.falls flow.continues ends)
turns_to basis flow (Cut state) P ends goes = tt

in_turns : (basis : Basis) (flow : Flow) (edges : List Edge) (body : Part) (P : Option BlockId → State → Type 0)
    → ((from : Option BlockId) (state : State) → KnownBy basis from state (edges ++ backs flow) → EndsKnown basis flow (body from state))
    → ((from : Option BlockId) (state : State) → KnownBy basis from state (edges ++ backs flow) → P from state)
    → (n : ℕ) (from : Option BlockId) (state : State) → KnownBy basis from state (edges ++ backs flow) → InTurns n body P from state
in_turns basis flow edges body P ends inside zero from state by = inside from state by
in_turns basis flow edges body P ends inside (suc n) from state by = (
  inside from state by,
  turns_to basis flow (body from state) (InTurns n body P) (ends from state by)
      (λ last end behind. in_turns basis flow edges body P ends inside n last end (by_back basis last end edges (backs flow) behind)),
)

module _ (basis : Basis) (inputs : List (List ℕ)) (repeats : ℕ) (given : InputsFit basis.inputs inputs) where
  block_itself : (b : Block) (edges all : List Edge) → BlockPlace basis b edges all → BlocksAlike (under basis inputs repeats) (Once basis) same_names b b edges all
  block_itself b edges all place = record {
    id = refl;
    jump = refl;
    keeps = λ reached from s t through.
        let at : BlockAt basis b edges all = place reached in
        subst (λ last. Once basis (set_after_instrs b.instrs (set_after_phis b.phis (meet edges))) (ended (under basis inputs repeats) b last s) (ended (under basis inputs repeats) b last t)) through.came
        (record {
          known = known-block basis inputs repeats given b edges all through.edge s at.good at.closed through.listed
              (edge_all (λ edge. IsBelow (meet edges) edge.set) all at.under through.edge through.listed) through.holds.known;
          same = ap (ended (under basis inputs repeats) b through.edge.from) through.holds.same;
        });
  }

  itself : (nodes : Nodes) (edges back : List Edge) → Each (BlockPlace basis) (ConditionPlace basis) nodes edges back → Alike (under basis inputs repeats) (Once basis) same_names nodes nodes edges back
  itself Nil edges back each = inr each
  itself (BlockThen b rest) edges back each = inr (block_itself b edges (edges ++ back) each.0, itself rest (block_flow b edges).falls [] each.1)
  itself (IfThen id condition first second rest) edges back each = inr (
    each.0,
    (λ reached s t is. ap (λ (state : State). nat_eq (scalar state.values condition) 1) is.same),
    itself first edges [] each.2,
    itself second edges [] each.3,
    itself rest (either (walk first edges) (walk second edges)).falls [] each.4,
  )
  itself (LoopThen id body rest) edges back each = inr (each.0, itself body edges (backs (walk body edges)) each.1, itself rest (out_of_loop (walk body edges)).falls [] each.2)

  -- a list follows itself
  list_follows : (nodes : Nodes) (edges back : List Edge) → Each (BlockPlace basis) (ConditionPlace basis) nodes edges back → Follows (under basis inputs repeats) (Once basis) same_names nodes nodes edges back
  list_follows nodes edges back each = follows (Once basis) same_names (once basis) (under basis inputs repeats) nodes nodes edges back (itself nodes edges back each)

  list_ends : (nodes : Nodes) (edges back : List Edge) → Each (BlockPlace basis) (ConditionPlace basis) nodes edges back → IsReached edges → (from : Option BlockId) (state : State) → KnownBy basis from state (edges ++ back)
      → EndsKnown basis (walk nodes edges) (run_list (under basis inputs repeats) nodes from state)
  list_ends nodes edges back each reached from state by =
      let m = under basis inputs repeats in
      ends_known basis (walk nodes edges) (run_list m nodes from state) (run_list m nodes from state) (list_follows nodes edges back each reached from state state (through_by basis from state (edges ++ back) by))

  -- ---- inside

  block_ends : (b : Block) (edges all : List Edge) → BlockPlace basis b edges all → IsReached edges → (from : Option BlockId) (state : State) → KnownBy basis from state all
      → EndsKnown basis (block_flow b edges) (run_block (under basis inputs repeats) b from state)
  block_ends b edges all place reached from state by =
      let m = under basis inputs repeats in
      ends_known basis (block_flow b edges) (run_block m b from state) (run_block m b from state)
      (block_related (Once basis) same_names m b b edges all from state state (block_itself b edges all place) reached (through_by basis from state all by))

  choice_ends : (first second : Nodes) (edges : List Edge) → Each (BlockPlace basis) (ConditionPlace basis) first edges [] → Each (BlockPlace basis) (ConditionPlace basis) second edges []
      → IsReached edges → (test : Bool) (from : Option BlockId) (state : State) → KnownBy basis from state (edges ++ [])
      → EndsKnown basis (either (walk first edges) (walk second edges)) (run_choice test (run_list (under basis inputs repeats) first) (run_list (under basis inputs repeats) second) from state)
  choice_ends first second edges one two reached test from state by =
      let m = under basis inputs repeats in
      let a = walk first edges in
      let b = walk second edges in
      let flow = either a b in
      let through = through_by basis from state (edges ++ []) by in
      ends_known basis flow (run_choice test (run_list m first) (run_list m second) from state) (run_choice test (run_list m first) (run_list m second) from state)
      (choice_related (Once basis) same_names flow test test (run_list m first) (run_list m second) (run_list m first) (run_list m second) from state state refl
      (related_more (Once basis) same_names a flow (λ edge is. edge_front edge a.falls b.falls is) (λ edge is. edge_front edge a.breaks b.breaks is) (λ edge is. edge_front edge a.continues b.continues is)
      (run_list m first from state) (run_list m first from state) (list_follows first edges [] one reached from state state through))
      (related_more (Once basis) same_names b flow (λ edge is. edge_back edge a.falls b.falls is) (λ edge is. edge_back edge a.breaks b.breaks is) (λ edge is. edge_back edge a.continues b.continues is)
      (run_list m second from state) (run_list m second from state) (list_follows second edges [] two reached from state state through)))

  loop_ends : (body : Nodes) (edges : List Edge) → Each (BlockPlace basis) (ConditionPlace basis) body edges (backs (walk body edges)) → IsReached edges
      → (n : ℕ) (from : Option BlockId) (state : State) → KnownBy basis from state (edges ++ backs (walk body edges))
      → EndsKnown basis (out_of_loop (walk body edges)) (turns n (run_list (under basis inputs repeats) body) from state)
  loop_ends body edges each reached n from state by =
      let m = under basis inputs repeats in
      let flow = walk body edges in
      ends_known basis (out_of_loop flow) (turns n (run_list m body) from state) (turns n (run_list m body) from state)
      (turns_related (Once basis) same_names (once basis) flow edges (run_list m body) (run_list m body)
      (λ last s t through. list_follows body edges (backs flow) each reached last s t through) n from state state (through_by basis from state (edges ++ backs flow) by))

  inside : (nodes : Nodes) (edges back : List Edge) → Each (BlockPlace basis) (ConditionPlace basis) nodes edges back → IsReached edges → (from : Option BlockId) (state : State) → KnownBy basis from state (edges ++ back)
      → Inside (under basis inputs repeats) (BlockKnown basis) (ConditionKnown basis) nodes edges back from state
  inside Nil edges back each reached from state by = tt
  inside (BlockThen b rest) edges back each reached from state by =
      let m = under basis inputs repeats in
      let flow = block_flow b edges in (
        (reached, by),
        falls_to basis flow (run_block m b from state) (Inside m (BlockKnown basis) (ConditionKnown basis) rest flow.falls []) (block_ends b edges (edges ++ back) each.0 reached from state by)
            (λ last end behind. inside rest flow.falls [] each.1 (edge_reached behind.edge flow.falls behind.listed) last end (by_front basis last end flow.falls [] behind)),
      )
  inside (IfThen id condition first second rest) edges back each reached from state by =
      let m = under basis inputs repeats in
      let flow = either (walk first edges) (walk second edges) in
      let here = by_none basis from state edges back each.0 by in
      let again = by_front basis from state edges [] here in (
        (reached, at_once basis from state edges here),
        chosen (nat_eq (scalar state.values condition) 1) (Inside m (BlockKnown basis) (ConditionKnown basis) first edges [] from state) (Inside m (BlockKnown basis) (ConditionKnown basis) second edges [] from state)
            (inside first edges [] each.2 reached from state again) (inside second edges [] each.3 reached from state again),
        falls_to basis flow (run_choice (nat_eq (scalar state.values condition) 1) (run_list m first) (run_list m second) from state) (Inside m (BlockKnown basis) (ConditionKnown basis) rest flow.falls [])
            (choice_ends first second edges each.2 each.3 reached (nat_eq (scalar state.values condition) 1) from state again)
            (λ last end behind. inside rest flow.falls [] each.4 (edge_reached behind.edge flow.falls behind.listed) last end (by_front basis last end flow.falls [] behind)),
      )
    where
      chosen : (test : Bool) (A B : Type 0) → A → B → Chosen test A B
      chosen true A B a b = a
      chosen false A B a b = b
  inside (LoopThen id body rest) edges back each reached from state by =
      let m = under basis inputs repeats in
      let looped = walk body edges in
      let flow = out_of_loop looped in
      let again = by_front basis from state edges (backs looped) (by_none basis from state edges back each.0 by) in (
        in_turns basis looped edges (run_list m body) (Inside m (BlockKnown basis) (ConditionKnown basis) body edges (backs looped))
            (λ last end here. list_ends body edges (backs looped) each.1 reached last end here)
            (λ last end here. inside body edges (backs looped) each.1 reached last end here) m.repeats from state again,
        falls_to basis flow (turns m.repeats (run_list m body) from state) (Inside m (BlockKnown basis) (ConditionKnown basis) rest flow.falls [])
            (loop_ends body edges each.1 reached m.repeats from state again)
            (λ last end behind. inside rest flow.falls [] each.2 (edge_reached behind.edge flow.falls behind.listed) last end (by_front basis last end flow.falls [] behind)),
      )

pub stays-known : StaysKnown
stays-known basis inputs repeats given nodes edges back good reached from state by =
    list_ends basis inputs repeats given nodes edges back (each_at basis nodes edges back good) reached from state by

pub is-known_inside : IsKnownInside
is-known_inside basis inputs repeats given nodes edges back good reached from state by =
    inside basis inputs repeats given nodes edges back (each_at basis nodes edges back good) reached from state by

pub valid-is_known : ValidIsKnown
valid-is_known s inputs buffers repeats shaped valid given bytes =
    let basis = basis_by s in
    let good : ListGood basis s.body (entry ∷ []) [] = record {
      parts = valid-is_good_by_instrs s (kind_at s.body) (IsItemOf (items s.body)) shaped valid (λ id kind is. is) (items_of (items s.body));
      closed = closed-none basis;
      again = tt;
      below = tt;
    } in
    let started : KnownBy basis None (start s buffers) (entry ∷ []) = record {
      edge = entry;
      listed = inl refl;
      came = refl;
      known = record {
        equations = λ id making is of. absurd (true≢false (sym is));
        ranges = λ id kind is of. absurd (true≢false (sym is));
        bytes = bytes.bytes;
      };
    } in
    record {
      inside = is-known_inside basis inputs repeats given s.body (entry ∷ []) [] good refl None (start s buffers) started;
      ends = stays-known basis inputs repeats given s.body (entry ∷ []) [] good refl None (start s buffers) started;
    }
