-- Lists that are alike part by part follow one another: the one induction on lists of nodes and on the turns of loops.
use Rattle.std.specs.Prelude.{◌≡◌, ◌⊎◌, refl, ℕ, zero, suc, Bool, true, false, List, [], ◌∷◌, ◌++◌, Option, Some, None, nat_eq}
use Rattle.std.proofs.Common.{subst, inl, inr}
use Rattle.std.proofs.lemmas.Bool.{true≢false}
use Rattle.nir_ir.specs.declared.ids.BlockId.{BlockId}
use Rattle.nir_ir.specs.declared.node.Block.{Block}
use Rattle.nir_ir.specs.declared.node.Jump.{Jump}
use Rattle.nir_ir.specs.declared.node.Jump.TheVariants as jump
use Rattle.nir_ir.specs.Nodes.{Nodes, Nil, BlockThen, IfThen, LoopThen}
use Rattle.nir_validate.specs.Each.{IsReached}
use Rattle.nir_validate.specs.Edges.{Edge, Flow, Set, backs, behind, either, meet, out_of_loop, set_after_instrs, set_after_phis}
use Rattle.nir_validate.specs.Walk.{block_flow, by_jump, walk}
use Rattle.nir_mean.specs.Run.{Break, Continue, Cut, Exit, Fall, Part, Setting, after_fall, after_turn, jump_exit, run_block, run_choice, run_list, scalar, turns}
use Rattle.nir_mean.specs.State.{State}
use Rattle.run_laws.specs.Follows.{Alike, AlikeFollow, Between, BlocksAlike, Follows, IsSimulation, Naming, Related, Through}
use Rattle.walk_laws.specs.GrownLaws.{IsBelow}
use Rattle.run_laws.specs.Known.{Among, IsEdgeOf, ended}
use Rattle.run_laws.specs.KnownLaws.{edge_all, meet_under}

-- ---- edges of lists

pub edge_front : (edge : Edge) (a b : List Edge) → IsEdgeOf edge a → IsEdgeOf edge (a ++ b)
edge_front edge [] b is = absurd is
edge_front edge (first ∷ a) b (inl same) = inl same
edge_front edge (first ∷ a) b (inr is) = inr (edge_front edge a b is)

pub edge_back : (edge : Edge) (a b : List Edge) → IsEdgeOf edge b → IsEdgeOf edge (a ++ b)
edge_back edge [] b is = is
edge_back edge (first ∷ a) b is = inr (edge_back edge a b is)

pub edge_either : (edge : Edge) (a b : List Edge) → IsEdgeOf edge (a ++ b) → IsEdgeOf edge a ⊎ IsEdgeOf edge b
edge_either edge [] b is = inr is
edge_either edge (first ∷ a) b (inl same) = inl (inl same)
edge_either edge (first ∷ a) b (inr is) = behind_first (edge_either edge a b is) where
  behind_first : IsEdgeOf edge a ⊎ IsEdgeOf edge b → IsEdgeOf edge (first ∷ a) ⊎ IsEdgeOf edge b
  behind_first (inl here) = inl (inr here)
  behind_first (inr there) = inr there

pub edge_reached : (edge : Edge) (edges : List Edge) → IsEdgeOf edge edges → IsReached edges
edge_reached edge [] is = absurd is
edge_reached edge (first ∷ edges) is = refl

pub through_more : (I : Between) (from : Option BlockId) (s t : State) (a b : List Edge) → Among a b → Through I from s t a → Through I from s t b
through_more I from s t a b among through = record { edge = through.edge; listed = among through.edge through.listed; came = through.came; holds = through.holds }

pub through_front : (I : Between) (from : Option BlockId) (s t : State) (a b : List Edge) → Through I from s t a → Through I from s t (a ++ b)
through_front I from s t a b through = through_more I from s t a (a ++ b) (λ edge is. edge_front edge a b is) through

pub through_none : (I : Between) (from : Option BlockId) (s t : State) (edges back : List Edge) → back ≡ [] → Through I from s t (edges ++ back) → Through I from s t edges
through_none I from s t edges back none through = through_more I from s t (edges ++ []) edges only (subst (λ list. Through I from s t (edges ++ list)) none through) where
  only : Among (edges ++ []) edges
  only edge is = in_first (edge_either edge edges [] is) where
    in_first : IsEdgeOf edge edges ⊎ ⊥ → IsEdgeOf edge edges
    in_first (inl here) = here
    in_first (inr never) = absurd never

module _ (I : Between) (ρ : Naming) where
  -- the same ends, by some more edges
  pub related_more : (a b : Flow) → Among a.falls b.falls → Among a.breaks b.breaks → Among a.continues b.continues → (x y : Exit) → Related I ρ a x y → Related I ρ b x y
  related_more a b falls breaks continues (Fall from s) (Fall other t) is = (is.0, through_more I from s t a.falls b.falls falls is.1)
  related_more a b falls breaks continues (Break from s) (Break other t) is = (is.0, through_more I from s t a.breaks b.breaks breaks is.1)
  related_more a b falls breaks continues (Continue from s) (Continue other t) is = (is.0, through_more I from s t a.continues b.continues continues is.1)
  related_more a b falls breaks continues (Cut s) (Cut t) is = is
  related_more a b falls breaks continues _ _ is = absurd is

  -- one part behind another
  pub fall_related : (flow : Flow) (next : List Edge → Flow) (first second : Part) (x y : Exit) → Related I ρ flow x y
      → ((from : Option BlockId) (s t : State) → Through I from s t flow.falls → Related I ρ (next flow.falls) (first from s) (second (ρ from) t))
      → Related I ρ (behind flow next) (after_fall x first) (after_fall y second)
  fall_related flow next first second (Fall from s) (Fall other t) is goes =
      subst (λ last. Related I ρ (behind flow next) (first from s) (second last t)) is.0
      (related_more (next flow.falls) (behind flow next) (λ edge in_next. in_next)
      (λ edge in_next. edge_back edge flow.breaks (next flow.falls).breaks in_next) (λ edge in_next. edge_back edge flow.continues (next flow.falls).continues in_next)
      (first from s) (second (ρ from) t) (goes from s t is.1))
  fall_related flow next first second (Break from s) (Break other t) is goes = (is.0, through_front I from s t flow.breaks (next flow.falls).breaks is.1)
  fall_related flow next first second (Continue from s) (Continue other t) is goes = (is.0, through_front I from s t flow.continues (next flow.falls).continues is.1)
  fall_related flow next first second (Cut s) (Cut t) is goes = is
  fall_related flow next first second _ _ is goes = absurd is

  -- the end of a block
  pub jump_related : (next : Option Jump) (id other : BlockId) (set : Set) (s t : State) → ρ (Some id) ≡ Some other → I set s t
      → Related I ρ (by_jump next (record { from = Some id; set = set } ∷ [])) (jump_exit next (Some id) s) (jump_exit next (Some other) t)
  jump_related None id other set s t named holds = (named, record { edge = record { from = Some id; set = set }; listed = inl refl; came = refl; holds = holds })
  jump_related (Some jump.Break) id other set s t named holds = (named, record { edge = record { from = Some id; set = set }; listed = inl refl; came = refl; holds = holds })
  jump_related (Some jump.Continue) id other set s t named holds = (named, record { edge = record { from = Some id; set = set }; listed = inl refl; came = refl; holds = holds })

  pub block_related : (m : Setting) (b c : Block) (edges all : List Edge) (from : Option BlockId) (s t : State) → BlocksAlike m I ρ b c edges all → IsReached edges → Through I from s t all
      → Related I ρ (block_flow b edges) (run_block m b from s) (run_block m c (ρ from) t)
  block_related m b c [] all from s t alike reached through = absurd (true≢false reached)
  block_related m b c (edge ∷ edges) all from s t alike reached through =
      let set = set_after_instrs b.instrs (set_after_phis b.phis (meet (edge ∷ edges))) in
      subst (λ next. Related I ρ (block_flow b (edge ∷ edges)) (run_block m b from s) (jump_exit next (Some c.id) (ended m c (ρ from) t))) alike.jump
      (jump_related b.jump b.id c.id set (ended m b from s) (ended m c (ρ from) t) alike.id (alike.keeps reached from s t through))

  -- one of two lists
  pub choice_related : (flow : Flow) (test other : Bool) (first second first' second' : Part) (from : Option BlockId) (s t : State) → test ≡ other
      → Related I ρ flow (first from s) (first' (ρ from) t) → Related I ρ flow (second from s) (second' (ρ from) t)
      → Related I ρ flow (run_choice test first second from s) (run_choice other first' second' (ρ from) t)
  choice_related flow test other first second first' second' from s t same one two =
      subst (λ choice. Related I ρ flow (run_choice test first second from s) (run_choice choice first' second' (ρ from) t)) same (by test)
    where
      by : (choice : Bool) → Related I ρ flow (run_choice choice first second from s) (run_choice choice first' second' (ρ from) t)
      by true = one
      by false = two

  -- the turns of a loop
  pub turn_related : (flow : Flow) (edges : List Edge) (x y : Exit) (again again' : Part) → Related I ρ flow x y
      → ((from : Option BlockId) (s t : State) → Through I from s t (edges ++ backs flow) → Related I ρ (out_of_loop flow) (again from s) (again' (ρ from) t))
      → Related I ρ (out_of_loop flow) (after_turn x again) (after_turn y again')
  turn_related flow edges (Fall from s) (Fall other t) again again' is goes =
      subst (λ last. Related I ρ (out_of_loop flow) (again from s) (again' last t)) is.0
      (goes from s t (through_more I from s t flow.falls (edges ++ backs flow) (λ edge here. edge_back edge edges (backs flow) (edge_front edge flow.falls flow.continues here)) is.1))
  turn_related flow edges (Break from s) (Break other t) again again' is goes = is
  turn_related flow edges (Continue from s) (Continue other t) again again' is goes =
      subst (λ last. Related I ρ (out_of_loop flow) (again from s) (again' last t)) is.0
      (goes from s t (through_more I from s t flow.continues (edges ++ backs flow) (λ edge here. edge_back edge edges (backs flow) (edge_back edge flow.falls flow.continues here)) is.1))
  turn_related flow edges (Cut s) (Cut t) again again' is goes = is
  turn_related flow edges _ _ again again' is goes = absurd is

  module _ (simulation : IsSimulation I) where
    pub turns_related : (flow : Flow) (edges : List Edge) (body body' : Part)
        → ((from : Option BlockId) (s t : State) → Through I from s t (edges ++ backs flow) → Related I ρ flow (body from s) (body' (ρ from) t))
        → (n : ℕ) (from : Option BlockId) (s t : State) → Through I from s t (edges ++ backs flow) → Related I ρ (out_of_loop flow) (turns n body from s) (turns n body' (ρ from) t)
    turns_related flow edges body body' goes zero from s t through =
        turn_related flow edges (body from s) (body' (ρ from) t) (λ _ last. Cut last) (λ _ last. Cut last) (goes from s t through)
        (λ last u v end. simulation.worlds end.edge.set u v end.holds)
    turns_related flow edges body body' goes (suc n) from s t through =
        turn_related flow edges (body from s) (body' (ρ from) t) (turns n body) (turns n body') (goes from s t through) (turns_related flow edges body body' goes n)

    pub at_meet : (edges : List Edge) (from : Option BlockId) (s t : State) → Through I from s t edges → I (meet edges) s t
    at_meet edges from s t through =
        simulation.less (meet edges) through.edge.set s t (edge_all (λ edge. IsBelow (meet edges) edge.set) edges (meet_under edges) through.edge through.listed) through.holds

    module _ (m : Setting) where
      -- what is behind a part follows, where the part ends alike
      pub rest_follows : (rest more : Nodes) (edges : List Edge) → Follows m I ρ rest more edges []
          → (from : Option BlockId) (s t : State) → Through I from s t edges → Related I ρ (walk rest edges) (run_list m rest from s) (run_list m more (ρ from) t)
      rest_follows rest more edges follows from s t through = follows (edge_reached through.edge edges through.listed) from s t (through_front I from s t edges [] through)

      pub follows : (first second : Nodes) (edges back : List Edge) → Alike m I ρ first second edges back → Follows m I ρ first second edges back
      follows Nil Nil edges back (inl given) reached from s t through = given reached from s t through
      follows Nil Nil edges back (inr none) reached from s t through = (refl, through_none I from s t edges back none through)
      follows (BlockThen b rest) (BlockThen c more) edges back (inl given) reached from s t through = given reached from s t through
      follows (BlockThen b rest) (BlockThen c more) edges back (inr alike) reached from s t through =
          let flow = block_flow b edges in
          fall_related flow (walk rest) (run_list m rest) (run_list m more) (run_block m b from s) (run_block m c (ρ from) t)
          (block_related m b c edges (edges ++ back) from s t alike.0 reached through)
          (rest_follows rest more flow.falls (follows rest more flow.falls [] alike.1))
      follows (IfThen id condition first second rest) (IfThen id' other first' second' more) edges back (inl given) reached from s t through = given reached from s t through
      follows (IfThen id condition first second rest) (IfThen id' other first' second' more) edges back (inr alike) reached from s t through =
          let one = walk first edges in
          let two = walk second edges in
          let flow = either one two in
          let here = through_none I from s t edges back alike.0 through in
          let again = through_front I from s t edges [] here in
          let test = nat_eq (scalar s.values condition) 1 in
          let choice = nat_eq (scalar t.values other) 1 in
          fall_related flow (walk rest) (run_list m rest) (run_list m more)
          (run_choice test (run_list m first) (run_list m second) from s) (run_choice choice (run_list m first') (run_list m second') (ρ from) t)
          (choice_related flow test choice (run_list m first) (run_list m second) (run_list m first') (run_list m second') from s t
          (alike.1 reached s t (at_meet edges from s t here))
          (related_more one flow (λ edge is. edge_front edge one.falls two.falls is) (λ edge is. edge_front edge one.breaks two.breaks is) (λ edge is. edge_front edge one.continues two.continues is)
          (run_list m first from s) (run_list m first' (ρ from) t) (follows first first' edges [] alike.2 reached from s t again))
          (related_more two flow (λ edge is. edge_back edge one.falls two.falls is) (λ edge is. edge_back edge one.breaks two.breaks is) (λ edge is. edge_back edge one.continues two.continues is)
          (run_list m second from s) (run_list m second' (ρ from) t) (follows second second' edges [] alike.3 reached from s t again)))
          (rest_follows rest more flow.falls (follows rest more flow.falls [] alike.4))
      follows (LoopThen id body rest) (LoopThen id' body' more) edges back (inl given) reached from s t through = given reached from s t through
      follows (LoopThen id body rest) (LoopThen id' body' more) edges back (inr alike) reached from s t through =
          let inside = walk body edges in
          let flow = out_of_loop inside in
          let here = through_none I from s t edges back alike.0 through in
          fall_related flow (walk rest) (run_list m rest) (run_list m more) (turns m.repeats (run_list m body) from s) (turns m.repeats (run_list m body') (ρ from) t)
          (turns_related inside edges (run_list m body) (run_list m body') (follows body body' edges (backs inside) alike.1 reached) m.repeats from s t
          (through_front I from s t edges (backs inside) here))
          (rest_follows rest more flow.falls (follows rest more flow.falls [] alike.2))
      follows _ _ edges back given reached from s t through = given reached from s t through

-- what is shown of two lists as wholes, whatever they begin with
pub alike_whole : (m : Setting) (I : Between) (ρ : Naming) (first second : Nodes) (edges back : List Edge) → Follows m I ρ first second edges back → Alike m I ρ first second edges back
alike_whole m I ρ Nil Nil edges back given = inl given
alike_whole m I ρ (BlockThen b rest) (BlockThen c more) edges back given = inl given
alike_whole m I ρ (IfThen id condition first second rest) (IfThen id' other first' second' more) edges back given = inl given
alike_whole m I ρ (LoopThen id body rest) (LoopThen id' body' more) edges back given = inl given
alike_whole m I ρ _ _ edges back given = given

pub alike-follow : AlikeFollow
alike-follow m I ρ simulation first second edges back alike = follows I ρ simulation m first second edges back alike
