-- Values along the walk are new where they are defined: none of them is in the set there, since each number is defined once.
use Rattle.std.specs.Prelude.{◌≡◌, refl, ℕ, Bool, true, false, ◌&&◌, ◌||◌, nat_eq, List, [], ◌∷◌, ◌++◌, map, Option, Some, None}
use Rattle.std.specs.List.{AllByRecursion, IsDistinct}
use Rattle.std.specs.Option.{option_to_list}
use Rattle.std.proofs.Common.{sym, subst}
use Rattle.std.proofs.Common.{append-nil}
use Rattle.std.proofs.lemmas.Bool.{eqb-true, true≢false}
use Rattle.list_laws.specs.AllLaws.{all_append, all_each}
use Rattle.nir_ir.specs.declared.ids.ValueId.{ValueId}
use Rattle.nir_ir.specs.declared.instr.Instr.{Instr}
use Rattle.nir_ir.specs.declared.node.Block.{Block}
use Rattle.nir_ir.specs.declared.node.Phi.{Phi}
use Rattle.nir_ir.specs.Items.{target, values_defined}
use Rattle.nir_ir.specs.Nodes.{Nodes, Nil, BlockThen, IfThen, LoopThen}
use Rattle.nir_ir.specs.Shaped.{IsOneOf, IsShaped}
use Rattle.nir_ir.specs.Shader.{Shader}
use Rattle.nir_validate.specs.Each.{Each, IsReached}
use Rattle.nir_validate.specs.Edges.{Edge, Set, backs, either, meet, out_of_loop, set_after, set_after_instrs, set_after_phis, with_member}
use Rattle.nir_validate.specs.Walk.{block_flow, entry, walk}
use Rattle.walk_laws.specs.EachLaws.{NoFact}
use Rattle.walk_laws.specs.AlongLaws.{AllFlow, BlocksKeep, each_along}
use Rattle.edit_laws.specs.ItemsLaws.{target_numbers}
use Rattle.edit_laws.specs.NumbersLaws.{Apart, apart-swap, distinct-apart, distinct-back, distinct-front, one_of-back, one_of-front, one_of-here}
use Rattle.walk_laws.specs.DistinctLaws.{block_defines, defined-block, defined-if, defined-loop, instrs_define, phis_define}

apart-front : (a b c : List ℕ) → Apart a (b ++ c) → Apart a b
apart-front a b c apart n in_a in_b = apart n in_a (one_of-front b c n in_b)

apart-back : (a b c : List ℕ) → Apart a (b ++ c) → Apart a c
apart-back a b c apart n in_a in_c = apart n in_a (one_of-back b c n in_c)

-- none of the numbers is in the set
abbrev pub IsOut : List ℕ → Set → Type 0
IsOut numbers set = (n : ℕ) → IsOneOf numbers n → set n ≡ false

abbrev pub EdgeOut : List ℕ → Edge → Type 0
EdgeOut numbers edge = IsOut numbers edge.set

-- what a block defines is new where it is defined
abbrev pub ArePhisNew : Set → List Phi → Type 0
ArePhisNew set [] = Unit {0}
ArePhisNew set (phi ∷ phis) = (set phi.value.0 ≡ false) × ArePhisNew (with_member (Some phi.value) set) phis

abbrev pub IsNew : Set → Instr → Type 0
IsNew set instr = (id : ValueId) → target instr ≡ Some id → set id.0 ≡ false

abbrev pub AreNew : Set → List Instr → Type 0
AreNew set [] = Unit {0}
AreNew set (instr ∷ instrs) = IsNew set instr × AreNew (set_after instr set) instrs

pub record BlockNew (b : Block) (edges : List Edge) : Type 0 where
  pub phis : ArePhisNew (meet edges) b.phis
  pub instrs : AreNew (set_after_phis b.phis (meet edges)) b.instrs
  -- also in the set of each edge by which the block is entered
  pub out : AllByRecursion (EdgeOut (block_defines b)) edges

abbrev pub WithNew : (Block → List Edge → List Edge → Type 0) → Block → List Edge → List Edge → Type 0
WithNew G b edges all = G b edges all × (IsReached edges → BlockNew b edges)

-- ---- numbers that are in no set stay so where they are not defined

not_both : (a b : Bool) → a ≡ false → b ≡ false → (a || b) ≡ false
not_both true b one two = absurd (true≢false one)
not_both false b one two = two

false_is : (test : Bool) → (test ≡ true → ⊥) → test ≡ false
false_is true h = absurd (h refl)
false_is false h = refl

member_out : (numbers : List ℕ) (id : ValueId) (set : Set) → IsOut numbers set → (IsOneOf numbers id.0 → ⊥) → IsOut numbers (with_member (Some id) set)
member_out numbers id set out other n is =
    not_both (nat_eq n id.0) (set n) (false_is (nat_eq n id.0) (λ same. other (subst (IsOneOf numbers) (eqb-true n id.0 same) is))) (out n is)

phis_out : (numbers : List ℕ) (phis : List Phi) (set : Set) → IsOut numbers set → Apart numbers (phis_define phis) → IsOut numbers (set_after_phis phis set)
phis_out numbers [] set out apart = out
phis_out numbers (phi ∷ phis) set out apart =
    phis_out numbers phis (with_member (Some phi.value) set)
    (member_out numbers phi.value set out (λ is. apart phi.value.0 is (one_of-front (phi.value.0 ∷ []) (phis_define phis) phi.value.0 (one_of-here phi.value.0 []))))
    (apart-back numbers (phi.value.0 ∷ []) (phis_define phis) apart)

instr_out : (numbers : List ℕ) (found : Option ValueId) (set : Set) → IsOut numbers set → Apart numbers (map (λ (id : ValueId). id.0) (option_to_list found)) → IsOut numbers (with_member found set)
instr_out numbers None set out apart = out
instr_out numbers (Some id) set out apart = member_out numbers id set out (λ is. apart id.0 is (one_of-here id.0 []))

instrs_out : (numbers : List ℕ) (instrs : List Instr) (set : Set) → IsOut numbers set → Apart numbers (instrs_define instrs) → IsOut numbers (set_after_instrs instrs set)
instrs_out numbers [] set out apart = out
instrs_out numbers (instr ∷ instrs) set out apart =
    instrs_out numbers instrs (set_after instr set)
    (instr_out numbers (target instr) set out (apart-front numbers (target_numbers instr) (instrs_define instrs) apart))
    (apart-back numbers (target_numbers instr) (instrs_define instrs) apart)

meet_out : (numbers : List ℕ) (edges : List Edge) → IsReached edges → AllByRecursion (EdgeOut numbers) edges → IsOut numbers (meet edges)
meet_out numbers [] reached out n is = absurd (true≢false reached)
meet_out numbers (edge ∷ edges) reached out n is = first (edge.set n) (meet edges n) (out.0 n is) where
  first : (a b : Bool) → a ≡ false → (a && b) ≡ false
  first true b h = absurd (true≢false h)
  first false b h = refl

-- a block that defines none of them keeps them out
abbrev pub DefinesNone : List ℕ → Block → List Edge → List Edge → Type 0
DefinesNone numbers b edges all = Apart numbers (block_defines b)

out_keeps : (numbers : List ℕ) → BlocksKeep (EdgeOut numbers) (DefinesNone numbers)
out_keeps numbers b [] all apart out = tt
out_keeps numbers b (edge ∷ edges) all apart out = (
  instrs_out numbers b.instrs (set_after_phis b.phis (meet (edge ∷ edges)))
      (phis_out numbers b.phis (meet (edge ∷ edges)) (meet_out numbers (edge ∷ edges) refl out) (apart-front numbers (phis_define b.phis) (instrs_define b.instrs) apart))
      (apart-back numbers (phis_define b.phis) (instrs_define b.instrs) apart),
  tt,
)

none_each : (numbers : List ℕ) (G : Block → List Edge → List Edge → Type 0) (H : ValueId → List Edge → Type 0) (nodes : Nodes) (edges back : List Edge)
    → Each G H nodes edges back → Apart numbers (values_defined nodes) → Each (DefinesNone numbers) NoFact nodes edges back
none_each numbers G H Nil edges back each apart = each
none_each numbers G H (BlockThen b rest) edges back each apart =
    let parts = subst (Apart numbers) (defined-block b rest) apart in
    (apart-front numbers (block_defines b) (values_defined rest) parts, none_each numbers G H rest (block_flow b edges).falls [] each.1 (apart-back numbers (block_defines b) (values_defined rest) parts))
none_each numbers G H (IfThen id condition first second rest) edges back each apart =
    let both = values_defined first ++ values_defined second in
    let parts = subst (Apart numbers) (defined-if first second rest) apart in
    let lists = apart-front numbers both (values_defined rest) parts in (
      each.0,
      tt,
      none_each numbers G H first edges [] each.2 (apart-front numbers (values_defined first) (values_defined second) lists),
      none_each numbers G H second edges [] each.3 (apart-back numbers (values_defined first) (values_defined second) lists),
      none_each numbers G H rest (either (walk first edges) (walk second edges)).falls [] each.4 (apart-back numbers both (values_defined rest) parts),
    )
none_each numbers G H (LoopThen id body rest) edges back each apart =
    let parts = subst (Apart numbers) (defined-loop body rest) apart in (
      each.0,
      none_each numbers G H body edges (backs (walk body edges)) each.1 (apart-front numbers (values_defined body) (values_defined rest) parts),
      none_each numbers G H rest (out_of_loop (walk body edges)).falls [] each.2 (apart-back numbers (values_defined body) (values_defined rest) parts),
    )

-- what a list does not define is in no set by which it is left, where it is in none by which it is entered
pub walk_out : (numbers : List ℕ) (G : Block → List Edge → List Edge → Type 0) (H : ValueId → List Edge → Type 0) (nodes : Nodes) (edges back : List Edge)
    → Each G H nodes edges back → Apart numbers (values_defined nodes) → AllByRecursion (EdgeOut numbers) edges → AllFlow (EdgeOut numbers) (walk nodes edges)
walk_out numbers G H nodes edges back each apart out = each_along (EdgeOut numbers) (DefinesNone numbers) NoFact (out_keeps numbers) nodes edges back (none_each numbers G H nodes edges back each apart) out

-- ---- and so what is defined is new

out-front : (a b : List ℕ) (set : Set) → IsOut (a ++ b) set → IsOut a set
out-front a b set out n is = out n (one_of-front a b n is)

out-back : (a b : List ℕ) (set : Set) → IsOut (a ++ b) set → IsOut b set
out-back a b set out n is = out n (one_of-back a b n is)

edges-front : (a b : List ℕ) (edges : List Edge) → AllByRecursion (EdgeOut (a ++ b)) edges → AllByRecursion (EdgeOut a) edges
edges-front a b edges out = all_each (EdgeOut (a ++ b)) (EdgeOut a) (λ edge is. out-front a b edge.set is) edges out

edges-back : (a b : List ℕ) (edges : List Edge) → AllByRecursion (EdgeOut (a ++ b)) edges → AllByRecursion (EdgeOut b) edges
edges-back a b edges out = all_each (EdgeOut (a ++ b)) (EdgeOut b) (λ edge is. out-back a b edge.set is) edges out

phis_new : (phis : List Phi) (set : Set) → IsDistinct nat_eq (phis_define phis) → IsOut (phis_define phis) set → ArePhisNew set phis
phis_new [] set distinct out = tt
phis_new (phi ∷ phis) set distinct out = (
  out phi.value.0 (one_of-front (phi.value.0 ∷ []) (phis_define phis) phi.value.0 (one_of-here phi.value.0 [])),
  phis_new phis (with_member (Some phi.value) set) (distinct-back (phi.value.0 ∷ []) (phis_define phis) distinct)
      (member_out (phis_define phis) phi.value set (out-back (phi.value.0 ∷ []) (phis_define phis) set out)
      (λ is. distinct-apart (phi.value.0 ∷ []) (phis_define phis) distinct phi.value.0 (one_of-here phi.value.0 []) is)),
)

target_new : (instr : Instr) (numbers : List ℕ) (set : Set) → IsOut (target_numbers instr ++ numbers) set → IsNew set instr
target_new instr numbers set out id is =
    out id.0 (one_of-front (target_numbers instr) numbers id.0 (subst (λ found. IsOneOf (map (λ (i : ValueId). i.0) (option_to_list found)) id.0) (sym is) (one_of-here id.0 [])))

instrs_new : (instrs : List Instr) (set : Set) → IsDistinct nat_eq (instrs_define instrs) → IsOut (instrs_define instrs) set → AreNew set instrs
instrs_new [] set distinct out = tt
instrs_new (instr ∷ instrs) set distinct out = (
  target_new instr (instrs_define instrs) set out,
  instrs_new instrs (set_after instr set) (distinct-back (target_numbers instr) (instrs_define instrs) distinct)
      (instr_out (instrs_define instrs) (target instr) set (out-back (target_numbers instr) (instrs_define instrs) set out)
      (apart-swap (target_numbers instr) (instrs_define instrs) (distinct-apart (target_numbers instr) (instrs_define instrs) distinct))),
)

block_new : (b : Block) (edges : List Edge) → IsDistinct nat_eq (block_defines b) → IsReached edges → AllByRecursion (EdgeOut (block_defines b)) edges → BlockNew b edges
block_new b edges distinct reached out =
    let phis = phis_define b.phis in
    let instrs = instrs_define b.instrs in
    let all = meet_out (block_defines b) edges reached out in
    record {
      phis = phis_new b.phis (meet edges) (distinct-front phis instrs distinct) (out-front phis instrs (meet edges) all);
      instrs = instrs_new b.instrs (set_after_phis b.phis (meet edges)) (distinct-back phis instrs distinct)
          (phis_out instrs b.phis (meet edges) (out-back phis instrs (meet edges) all) (apart-swap phis instrs (distinct-apart phis instrs distinct)));
      out = out;
    }

pub fresh_each : (G : Block → List Edge → List Edge → Type 0) (H : ValueId → List Edge → Type 0) (nodes : Nodes) (edges back : List Edge)
    → IsDistinct nat_eq (values_defined nodes) → AllByRecursion (EdgeOut (values_defined nodes)) edges → Each G H nodes edges back → Each (WithNew G) H nodes edges back
fresh_each G H Nil edges back distinct out each = each
fresh_each G H (BlockThen b rest) edges back distinct out each =
    let own = block_defines b in
    let behind = values_defined rest in
    let parts = subst (IsDistinct nat_eq) (defined-block b rest) distinct in
    let all = subst (λ numbers. AllByRecursion (EdgeOut numbers) edges) (defined-block b rest) out in
    let kept = walk_out behind (λ x p q. G x p q) H (BlockThen b Nil) edges back (each.0, refl) (subst (Apart behind) (sym (defined-block b Nil)) (apart_alone behind own (apart-swap own behind (distinct-apart own behind parts)))) (edges-back own behind edges all) in (
      (each.0, (λ reached. block_new b edges (distinct-front own behind parts) reached (edges-front own behind edges all))),
      fresh_each G H rest (block_flow b edges).falls [] (distinct-back own behind parts) (falls_kept behind b edges kept) each.1,
    )
  where
    apart_alone : (a own : List ℕ) → Apart a own → Apart a (own ++ [])
    apart_alone a own apart n in_a in_own = apart n in_a (subst (λ list. IsOneOf list n) (append-nil own) in_own)

    falls_kept : (numbers : List ℕ) (b : Block) (edges : List Edge) → AllFlow (EdgeOut numbers) (walk (BlockThen b Nil) edges) → AllByRecursion (EdgeOut numbers) (block_flow b edges).falls
    falls_kept numbers b edges kept = kept.falls
fresh_each G H (IfThen id condition first second rest) edges back distinct out each =
    let one = values_defined first in
    let two = values_defined second in
    let both = one ++ two in
    let behind = values_defined rest in
    let parts = subst (IsDistinct nat_eq) (defined-if first second rest) distinct in
    let all = subst (λ numbers. AllByRecursion (EdgeOut numbers) edges) (defined-if first second rest) out in
    let lists = distinct-front both behind parts in
    let within = edges-front both behind edges all in
    let apart = apart-swap both behind (distinct-apart both behind parts) in
    let from_first = walk_out behind G H first edges [] each.2 (apart-front behind one two apart) (edges-back both behind edges all) in
    let from_second = walk_out behind G H second edges [] each.3 (apart-back behind one two apart) (edges-back both behind edges all) in (
      each.0,
      each.1,
      fresh_each G H first edges [] (distinct-front one two lists) (edges-front one two edges within) each.2,
      fresh_each G H second edges [] (distinct-back one two lists) (edges-back one two edges within) each.3,
      fresh_each G H rest (either (walk first edges) (walk second edges)).falls [] (distinct-back both behind parts)
          (all_append (EdgeOut behind) (walk first edges).falls (walk second edges).falls from_first.falls from_second.falls) each.4,
    )
fresh_each G H (LoopThen id body rest) edges back distinct out each =
    let inside = values_defined body in
    let behind = values_defined rest in
    let parts = subst (IsDistinct nat_eq) (defined-loop body rest) distinct in
    let all = subst (λ numbers. AllByRecursion (EdgeOut numbers) edges) (defined-loop body rest) out in
    let left = walk_out behind G H body edges (backs (walk body edges)) each.1 (apart-swap inside behind (distinct-apart inside behind parts)) (edges-back inside behind edges all) in (
      each.0,
      fresh_each G H body edges (backs (walk body edges)) (distinct-front inside behind parts) (edges-front inside behind edges all) each.1,
      fresh_each G H rest (out_of_loop (walk body edges)).falls [] (distinct-back inside behind parts) left.breaks each.2,
    )

-- in a shaped shader
pub fresh_in : (s : Shader) (G : Block → List Edge → List Edge → Type 0) (H : ValueId → List Edge → Type 0) → IsShaped s → Each G H s.body (entry ∷ []) [] → Each (WithNew G) H s.body (entry ∷ []) []
fresh_in s G H shaped each = fresh_each G H s.body (entry ∷ []) [] shaped.values ((λ n is. refl), tt) each
