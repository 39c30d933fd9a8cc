-- Weights at the start, and after one of them is set.
use Rattle.std.proofs.Common.{◌≡◌, ◌≢◌, ◌<◌, ◌≤◌, ◌∙◌, ℕ, Bool, true, false, cond, List, length, replicate, slice_set, refl, sym, ap, subst, lit≤}
use Rattle.std.proofs.lemmas.List.{length-set, get_or-set_same, get_or-set_other, get_or-replicate}
use Rattle.std.proofs.lemmas.List.Elements.{All-set, All-replicate}
use denote.Enum.Bare.{sameb, tag_one, same_true, same_false}
use denote.Enum.Enum.{tag_below}
use denote.Enum.Declared.{variants}
use Rattle.nir_ops.specs.contracts.op.Op as op
use Rattle.nir_ops.specs.declared.op.Op.{Op}
use Rattle.nir_ops.specs.declared.op.Op.TheVariants.{Mov}
use Rattle.nir_ops.specs.Lookup.{all_ops}
use Rattle.rule_term.specs.Weights.{place_of, weight_at, initial_weight, IsWeighed}

-- an opcode stands at a place of the table, and at that of no other
place_below : (o : Op) → place_of o < length all_ops
unfolding all_ops
place_below o = tag_below (variants op.the_type) (op.the_type.to o)

place_one : (a b : Op) → place_of a ≡ place_of b → a ≡ b
place_one a b e = tag_one op.the_type tt a b e

pub weight_is_few : (weights : List ℕ) (o : Op) → IsWeighed weights → weight_at weights o ≤ 60
weight_is_few weights o weighed = weighed.few (place_of o) 0 (subst (λ n. place_of o < n) (sym weighed.count) (place_below o))

pub set_here : (weights : List ℕ) (o : Op) (weight : ℕ) → IsWeighed weights → weight_at (slice_set weights (place_of o) weight) o ≡ weight
set_here weights o weight weighed = get_or-set_same weights (place_of o) weight 0 (subst (λ n. place_of o < n) (sym weighed.count) (place_below o))

pub set_elsewhere : (weights : List ℕ) (o : Op) (weight : ℕ) (other : Op) → other ≢ o → weight_at (slice_set weights (place_of o) weight) other ≡ weight_at weights other
set_elsewhere weights o weight other differ = get_or-set_other weights (place_of o) (place_of other) weight 0 (λ same. differ (place_one other o same))

pub weighed_set : (weights : List ℕ) (o : Op) (weight : ℕ) → IsWeighed weights → o ≢ Mov → weight ≤ 60 → IsWeighed (slice_set weights (place_of o) weight)
weighed_set weights o weight weighed ordinary few = record {
  count = length-set weights (place_of o) weight ∙ weighed.count;
  few = All-set (λ w. w ≤ 60) weights (place_of o) weight few weighed.few;
  mov = set_elsewhere weights o weight Mov (λ same. ordinary (sym same)) ∙ weighed.mov;
}

-- a weight of 1 for each opcode, and then 0 for a move
abbrev ones : List ℕ
ones = replicate 88 1

at_start : (o : Op) (answer : Bool) → sameb op.the_type o Mov ≡ answer → weight_at (slice_set ones (place_of Mov) 0) o ≡ cond answer 0 1
unfolding all_ops
at_start o true same = ap (weight_at (slice_set ones (place_of Mov) 0)) (same_true op.the_type tt o Mov same) ∙ refl
at_start o false same =
    set_elsewhere ones Mov 0 o (same_false op.the_type o Mov same) ∙ get_or-replicate 88 (place_of o) 1 0 (place_below o)

pub weight_at_start : (o : Op) → weight_at (slice_set (replicate 88 1) (place_of Mov) 0) o ≡ initial_weight o
weight_at_start o = at_start o (sameb op.the_type o Mov) refl

pub weighed_start : IsWeighed (slice_set (replicate 88 1) (place_of Mov) 0)
unfolding all_ops
weighed_start = record {
  count = refl;
  few = All-set (λ w. w ≤ 60) ones (place_of Mov) 0 (lit≤ tt) (All-replicate (λ w. w ≤ 60) 88 1 (lit≤ tt));
  mov = refl;
}
