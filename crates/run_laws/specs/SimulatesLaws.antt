-- A change of parts that each do what they did: the changed list follows, the changed shader does the same; and what is known of one run.
use Rattle.std.specs.Prelude.{◌≡◌, refl, ℕ, true, List, [], ◌∷◌, ◌++◌, map, Option, Some, None}
use Rattle.std.specs.List.{AllByRecursion, flat_map}
use Rattle.std.proofs.Common.{sym, ◌∙◌, ap, subst, inl, inr}
use Rattle.std.proofs.lemmas.Bool.{true≢false}
use Rattle.list_laws.specs.AllLaws.{all_append}
use Rattle.nir_ir.specs.declared.instr.Instr.{Instr}
use Rattle.nir_ir.specs.declared.kind.Kind.{Kind}
use Rattle.nir_ir.specs.declared.node.Block.{Block}
use Rattle.nir_ir.specs.declared.node.Jump.{Jump}
use Rattle.nir_ir.specs.declared.node.Jump.TheVariants as jump
use Rattle.nir_ir.specs.Definitions.{kind_at}
use Rattle.nir_ir.specs.Items.{items}
use Rattle.nir_ir.specs.Nodes.{Nodes, Nil, BlockThen, IfThen, LoopThen}
use Rattle.nir_ir.specs.Shader.{Shader}
use Rattle.nir_validate.specs.Each.{Each}
use Rattle.nir_validate.specs.Edges.{Edge, Flow, Set, backs, either, meet, out_of_loop, set_after, set_after_instrs, set_after_phis}
use Rattle.nir_validate.specs.Grow.{walk_keeps}
use Rattle.nir_validate.specs.Walk.{block_flow, by_jump, entry, out_edges, walk}
use Rattle.walk_laws.specs.AlongLaws.{BlocksKeep, each_along}
use Rattle.walk_laws.specs.PairsLaws.{Change, changed, changed_block}
use Rattle.nir_mean.specs.declared.outcome.Ending.TheVariants as ending
use Rattle.nir_mean.specs.Bytes.{BuffersHold}
use Rattle.nir_mean.specs.Outcome.{outcome, outcome_of, setting, start, told}
use Rattle.nir_mean.specs.Reads.{run_instrs-append}
use Rattle.nir_mean.specs.Run.{Break, Continue, Cut, Exit, Fall, run_instr, run_instrs, run_list}
use Rattle.nir_mean.specs.Same.{InputsFit}
use Rattle.nir_mean.specs.State.{State, zeros}
use Rattle.nir_mean.specs.Values.{Values}
use Rattle.run_laws.specs.Follows.{Alike, Between, BlocksAlike, Follows, IsSimulation, Naming, Related, Through}
use Rattle.run_laws.specs.FollowsLaws.{follows}
use Rattle.run_laws.specs.KindsLaws.{UsesAlike, run_list-kinds}
use Rattle.walk_laws.specs.GrownLaws.{IsBelow}
use Rattle.run_laws.specs.Known.{Basis, BlockGood, ConditionGood, InstrsGood, IsEdgeOf, IsUnder, ended, entered, under}
use Rattle.run_laws.specs.KnownLaws.{closed-block, closed-instr, closed-meet, closed-phis, edge_all, known-block, known-instr, known-less, known-phis, meet_under}
use Rattle.run_laws.specs.Makings.{Closed}
use Rattle.run_laws.specs.Simulates.{BlockAt, BlockPlace, ChangedDoSame, ChangedFollow, ConditionPlace, IsClosedEdge, Kept, ListGood, RelatesNone, Relation, Simulates, Tied, same_names}

-- ---- places along the walk

under_all : (set : Set) (edges : List Edge) → ((n : ℕ) → set n ≡ true → AllByRecursion (λ edge. edge.set n ≡ true) edges) → IsUnder set edges
under_all set [] h = tt
under_all set (edge ∷ edges) h = ((λ n is. (h n is).0), under_all set edges (λ n is. (h n is).1))

-- what is defined on every path into a loop is defined along its edges back
pub back_under : (nodes : Nodes) (edges : List Edge) → IsUnder (meet edges) (backs (walk nodes edges))
back_under nodes edges =
    let flow = walk nodes edges in
    all_append (λ edge. IsBelow (meet edges) edge.set) flow.falls flow.continues
    (under_all (meet edges) flow.falls (λ n is. (walk_keeps nodes edges n is).falls)) (under_all (meet edges) flow.continues (λ n is. (walk_keeps nodes edges n is).continues))

falls_all : (P : Edge → Type 0) (next : Option Jump) (edges : List Edge) → AllByRecursion P edges → AllByRecursion P (by_jump next edges).falls
falls_all P None edges all = all
falls_all P (Some jump.Break) edges all = tt
falls_all P (Some jump.Continue) edges all = tt

blocks_close : (basis : Basis) → BlocksKeep (IsClosedEdge basis) (BlockGood basis)
blocks_close basis b [] all good closed = tt
blocks_close basis b (edge ∷ edges) all good closed = (closed-block basis b (edge ∷ edges) all (good refl) (closed-meet basis.makings (edge ∷ edges) closed), tt)

places : (basis : Basis) (nodes : Nodes) (edges back : List Edge) → Each (BlockGood basis) (ConditionGood basis) nodes edges back → AllByRecursion (IsClosedEdge basis) edges
    → AllByRecursion (IsClosedEdge basis) back → IsUnder (meet edges) back → Each (BlockPlace basis) (ConditionPlace basis) nodes edges back
places basis Nil edges back each closed again below = each
places basis (BlockThen b rest) edges back each closed again below = (
  (λ reached. record {
    good = each.0 reached;
    closed = closed-meet basis.makings edges closed;
    along = all_append (IsClosedEdge basis) edges back closed again;
    under = all_append (λ edge. IsBelow (meet edges) edge.set) edges back (meet_under edges) below;
  }),
  places basis rest (block_flow b edges).falls [] each.1 (falls_all (IsClosedEdge basis) b.jump (out_edges b edges) (blocks_close basis b edges (edges ++ back) each.0 closed)) tt tt,
)
places basis (IfThen id condition first second rest) edges back each closed again below =
    let one = each_along (IsClosedEdge basis) (BlockGood basis) (ConditionGood basis) (blocks_close basis) first edges [] each.2 closed in
    let two = each_along (IsClosedEdge basis) (BlockGood basis) (ConditionGood basis) (blocks_close basis) second edges [] each.3 closed in (
      each.0,
      (λ reached. record { good = each.1 reached; closed = closed-meet basis.makings edges closed }),
      places basis first edges [] each.2 closed tt tt,
      places basis second edges [] each.3 closed tt tt,
      places basis rest (either (walk first edges) (walk second edges)).falls [] each.4
          (all_append (IsClosedEdge basis) (walk first edges).falls (walk second edges).falls one.falls two.falls) tt tt,
    )
places basis (LoopThen id body rest) edges back each closed again below =
    let flow = walk body edges in
    let inside = each_along (IsClosedEdge basis) (BlockGood basis) (ConditionGood basis) (blocks_close basis) body edges (backs flow) each.1 closed in (
      each.0,
      places basis body edges (backs flow) each.1 closed (all_append (IsClosedEdge basis) flow.falls flow.continues inside.falls inside.continues) (back_under body edges),
      places basis rest (out_of_loop flow).falls [] each.2 inside.breaks tt tt,
    )

pub each_at : (basis : Basis) (nodes : Nodes) (edges back : List Edge) → ListGood basis nodes edges back → Each (BlockPlace basis) (ConditionPlace basis) nodes edges back
each_at basis nodes edges back good = places basis nodes edges back good.parts good.closed good.again good.below

-- ---- the simulation

pub tied : (basis : Basis) (R : Relation) → ((a b : Set) (f g : Values) → IsBelow a b → R b f g → R a f g) → IsSimulation (Tied basis R)
tied basis R less = record {
  worlds = λ set s t is. is.world;
  less = λ a b s t below is. record {
    known = known-less basis.kinds basis.makings a b s below is.known;
    related = less a b s.values t.values below is.related;
    world = is.world;
  };
}

module _ (basis : Basis) (R : Relation) (inputs : List (List ℕ)) (repeats : ℕ) (c : Change) (given : InputsFit basis.inputs inputs) (simulates : Simulates basis R inputs repeats c) where
  instrs_kept : (instrs : List Instr) (set : Set) → InstrsGood basis set instrs → Closed basis.makings set → (s t : State) → Tied basis R set s t
      → Kept R (set_after_instrs instrs set) (run_instrs (under basis inputs repeats) instrs s) (run_instrs (under basis inputs repeats) (flat_map c.instr instrs) t)
  instrs_kept [] set good closed s t is = record { related = is.related; world = is.world }
  instrs_kept (instr ∷ instrs) set good closed s t is =
      let m = under basis inputs repeats in
      let one = simulates.instr instr set good.0 closed s t is in
      subst (λ (end : State). Kept R (set_after_instrs instrs (set_after instr set)) (run_instrs m instrs (run_instr m instr s)) end)
      (sym (run_instrs-append m (c.instr instr) (flat_map c.instr instrs) t))
      (instrs_kept instrs (set_after instr set) good.1 (closed-instr basis set instr good.0 closed) (run_instr m instr s) (run_instrs m (c.instr instr) t)
      (record { known = known-instr basis inputs repeats given instr set s good.0 closed is.known; related = one.related; world = one.world }))

  -- a block and the changed block, by one of its edges
  block_tied : (b : Block) (edges all : List Edge) → BlockAt basis b edges all → (edge : Edge) → IsEdgeOf edge all → (s t : State) → Tied basis R edge.set s t
      → Tied basis R (set_after_instrs b.instrs (set_after_phis b.phis (meet edges))) (ended (under basis inputs repeats) b edge.from s) (ended (under basis inputs repeats) (changed_block c b) edge.from t)
  block_tied b edges all at edge listed s t is =
      let below = edge_all (λ e. IsBelow (meet edges) e.set) all at.under edge listed in
      let behind_phis = known-phis basis b.phis edges all edge s at.good.phis at.closed listed below is.known in
      let kept = instrs_kept b.instrs (set_after_phis b.phis (meet edges)) at.good.instrs (closed-phis basis b.phis edges all at.good.phis at.closed)
      (entered b edge.from s) (entered (changed_block c b) edge.from t)
      (record { known = behind_phis; related = simulates.phis b edges all at edge listed s t is; world = is.world }) in
      record { known = known-block basis inputs repeats given b edges all edge s at.good at.closed listed below is.known; related = kept.related; world = kept.world }

  block_alike : (b : Block) (edges all : List Edge) → BlockPlace basis b edges all → BlocksAlike (under basis inputs repeats) (Tied basis R) same_names b (changed_block c b) edges all
  block_alike b edges all place = record {
    id = refl;
    jump = refl;
    keeps = λ reached from s t through.
        subst (λ last. Tied basis R (set_after_instrs b.instrs (set_after_phis b.phis (meet edges))) (ended (under basis inputs repeats) b last s) (ended (under basis inputs repeats) (changed_block c b) last t))
        through.came (block_tied b edges all (place reached) through.edge through.listed s t through.holds);
  }

  alike_changed : (nodes : Nodes) (edges back : List Edge) → Each (BlockPlace basis) (ConditionPlace basis) nodes edges back
      → Alike (under basis inputs repeats) (Tied basis R) same_names nodes (changed c nodes) edges back
  alike_changed Nil edges back each = inr each
  alike_changed (BlockThen b rest) edges back each = inr (block_alike b edges (edges ++ back) each.0, alike_changed rest (block_flow b edges).falls [] each.1)
  alike_changed (IfThen id condition first second rest) edges back each = inr (
    each.0,
    (λ reached s t is. simulates.condition id condition edges (each.1 reached) s t is),
    alike_changed first edges [] each.2,
    alike_changed second edges [] each.3,
    alike_changed rest (either (walk first edges) (walk second edges)).falls [] each.4,
  )
  alike_changed (LoopThen id body rest) edges back each =
      inr (each.0, alike_changed body edges (backs (walk body edges)) each.1, alike_changed rest (out_of_loop (walk body edges)).falls [] each.2)

  pub changed_follows : (nodes : Nodes) (edges back : List Edge) → ListGood basis nodes edges back
      → Follows (under basis inputs repeats) (Tied basis R) same_names nodes (changed c nodes) edges back
  changed_follows nodes edges back good =
      follows (Tied basis R) same_names (tied basis R simulates.less) (under basis inputs repeats) nodes (changed c nodes) edges back (alike_changed nodes edges back (each_at basis nodes edges back good))

pub changed-follow : ChangedFollow
changed-follow basis R inputs repeats c given simulates nodes edges back good = changed_follows basis R inputs repeats c given simulates nodes edges back good

-- ---- whole shaders

-- what ends alike does the same
pub related_outcome : (I : Between) (ρ : Naming) → IsSimulation I → (flow : Flow) (x y : Exit) → Related I ρ flow x y → outcome_of x ≡ outcome_of y
related_outcome I ρ simulation flow (Fall from s) (Fall other t) is = ap (told ending.Done) (simulation.worlds is.1.edge.set s t is.1.holds)
related_outcome I ρ simulation flow (Break from s) (Break other t) is = ap (told ending.Done) (simulation.worlds is.1.edge.set s t is.1.holds)
related_outcome I ρ simulation flow (Continue from s) (Continue other t) is = ap (told ending.Done) (simulation.worlds is.1.edge.set s t is.1.holds)
related_outcome I ρ simulation flow (Cut s) (Cut t) is = ap (told ending.Cut) is
related_outcome I ρ simulation flow _ _ is = absurd is

-- at the start nothing is defined
pub closed-none : (basis : Basis) → AllByRecursion (IsClosedEdge basis) (entry ∷ [])
closed-none basis = ((λ id making is of. absurd (true≢false (sym is))), tt)

-- from the start on
starts_tied : (basis : Basis) (R : Relation) (s t : Shader) (buffers : List (List ℕ)) → s.outputs ≡ t.outputs → BuffersHold buffers → RelatesNone R
    → Through (Tied basis R) None (start s buffers) (start t buffers) (entry ∷ [])
starts_tied basis R s t buffers outputs hold none = record {
  edge = entry;
  listed = inl refl;
  came = refl;
  holds = record {
    known = record {
      equations = λ id making is of. absurd (true≢false (sym is));
      ranges = λ id kind is of. absurd (true≢false (sym is));
      bytes = hold;
    };
    related = none (start s buffers).values (start t buffers).values;
    world = ap (λ (slots : List Kind). record { buffers = buffers; outputs = map zeros slots; stores = [] }) outputs;
  };
}

-- a body that follows does the same
pub follow-do_same : (basis : Basis) (R : Relation) (ρ : Naming) (s t : Shader) (inputs buffers : List (List ℕ)) (repeats : ℕ)
    → AllByRecursion (UsesAlike (kind_at s.body) basis.kinds) (items s.body) → AllByRecursion (UsesAlike basis.kinds (kind_at t.body)) (items t.body) → s.outputs ≡ t.outputs
    → BuffersHold buffers → RelatesNone R → IsSimulation (Tied basis R) → ρ None ≡ None → Follows (under basis inputs repeats) (Tied basis R) ρ s.body t.body (entry ∷ []) []
    → outcome s inputs buffers repeats ≡ outcome t inputs buffers repeats
unfolding outcome
follow-do_same basis R ρ s t inputs buffers repeats old_kinds new_kinds outputs hold none simulation named goes =
    let m = under basis inputs repeats in
    let flow = walk s.body (entry ∷ []) in
    let ends = goes refl None (start s buffers) (start t buffers) (starts_tied basis R s t buffers outputs hold none) in
    ap (λ run. outcome_of (run None (start s buffers))) (run_list-kinds s.body (setting s inputs repeats) m refl refl old_kinds)
    ∙ related_outcome (Tied basis R) ρ simulation flow (run_list m s.body None (start s buffers)) (run_list m t.body None (start t buffers))
    (subst (λ from. Related (Tied basis R) ρ flow (run_list m s.body None (start s buffers)) (run_list m t.body from (start t buffers))) named ends)
    ∙ ap (λ run. outcome_of (run None (start t buffers))) (run_list-kinds t.body m (setting t inputs repeats) refl refl new_kinds)

pub changed-do_same : ChangedDoSame
changed-do_same basis R c s t inputs buffers repeats changes given hold none simulates =
    follow-do_same basis R same_names s t inputs buffers repeats changes.old_kinds changes.new_kinds changes.outputs hold none (tied basis R simulates.less) refl
    (subst (λ body. Follows (under basis inputs repeats) (Tied basis R) same_names s.body body (entry ∷ []) []) (sym changes.body)
    (changed_follows basis R inputs repeats c given simulates s.body (entry ∷ []) [] (record { parts = changes.good; closed = closed-none basis; again = tt; below = tt })))
