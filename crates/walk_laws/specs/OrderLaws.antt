-- A list in which no node is out of order is one in which blocks and others take turns, and the other way round.
use Rattle.std.specs.Prelude.{◌≡◌, ◌↔◌, refl, ℕ, suc, ◌+◌, Bool, true, false, [], ◌++◌, length, Option, Some, None}
use Rattle.std.specs.Option.{option_to_list}
use Rattle.std.proofs.Common.{sym, ◌∙◌, ap₂}
use Rattle.std.proofs.lemmas.Option.{none-some}
use Rattle.nir_ir.specs.Items.{block_items, items}
use Rattle.nir_ir.specs.Nodes.{Nodes, Nil, BlockThen, IfThen, LoopThen}
use Rattle.nir_validate.specs.Rules.{all_misplaced, misplaced, misplaced_inside}
use Rattle.nir_validate.specs.TypedLaws.{first_nil, second_nil}
use Rattle.nir_validate.specs.Alternates.{Alternates, Turns}

abbrev pub IsOrder : Type 0
IsOrder = (body : Nodes) → (all_misplaced body ≡ []) ↔ Alternates body

listed_none : (found : Option ℕ) → option_to_list found ≡ [] → found ≡ None
listed_none None h = refl
listed_none (Some n) h = absurd (cc)

turns-from : (block : Bool) (last at : ℕ) (nodes : Nodes) → misplaced block last at nodes ≡ None → misplaced_inside at nodes ≡ [] → Turns block nodes
turns-from true last at Nil h inside = none-some last (sym h)
turns-from false last at Nil h inside = tt
turns-from true last at (BlockThen b rest) h inside = turns-from false at (at + length (block_items b)) rest h inside
turns-from false last at (BlockThen b rest) h inside = none-some at (sym h)
turns-from true last at (IfThen id condition first second rest) h inside = none-some at (sym h)
turns-from false last at (IfThen id condition first second rest) h inside =
    let from = suc (at + length (items first)) in
    let one = option_to_list (misplaced true at (suc at) first) in
    let in_one = misplaced_inside (suc at) first in
    let two = option_to_list (misplaced true at from second) in
    let in_two = misplaced_inside from second in
    let next = misplaced_inside (suc (at + length (items first) + length (items second))) rest in
    let four : one ++ in_one ++ two ++ in_two ≡ [] = first_nil (one ++ in_one ++ two ++ in_two) next inside in
    let three : one ++ in_one ++ two ≡ [] = first_nil (one ++ in_one ++ two) in_two four in
    let front : one ++ in_one ≡ [] = first_nil (one ++ in_one) two three in (
      turns-from true at (suc at) first (listed_none (misplaced true at (suc at) first) (first_nil one in_one front)) (second_nil one in_one front),
      turns-from true at from second (listed_none (misplaced true at from second) (second_nil (one ++ in_one) two three)) (second_nil (one ++ in_one ++ two) in_two four),
      turns-from true at (suc (at + length (items first) + length (items second))) rest h (second_nil (one ++ in_one ++ two ++ in_two) next inside),
    )
turns-from true last at (LoopThen id body rest) h inside = none-some at (sym h)
turns-from false last at (LoopThen id body rest) h inside =
    let one = option_to_list (misplaced true at (suc at) body) in
    let in_one = misplaced_inside (suc at) body in
    let next = misplaced_inside (suc (at + length (items body))) rest in
    let front : one ++ in_one ≡ [] = first_nil (one ++ in_one) next inside in (
      turns-from true at (suc at) body (listed_none (misplaced true at (suc at) body) (first_nil one in_one front)) (second_nil one in_one front),
      turns-from true at (suc (at + length (items body))) rest h (second_nil (one ++ in_one) next inside),
    )

-- and the other way round
placed-from : (block : Bool) (last at : ℕ) (nodes : Nodes) → Turns block nodes → (misplaced block last at nodes ≡ None) × (misplaced_inside at nodes ≡ [])
placed-from true last at Nil turns = absurd turns
placed-from false last at Nil turns = (refl, refl)
placed-from true last at (BlockThen b rest) turns = placed-from false at (at + length (block_items b)) rest turns
placed-from false last at (BlockThen b rest) turns = absurd turns
placed-from true last at (IfThen id condition first second rest) turns = absurd turns
placed-from false last at (IfThen id condition first second rest) turns =
    let from = suc (at + length (items first)) in
    let one = placed-from true at (suc at) first turns.0 in
    let two = placed-from true at from second turns.1 in
    let next = placed-from true at (suc (at + length (items first) + length (items second))) rest turns.2 in (
      next.0,
      ap₂ (λ a b. option_to_list a ++ b ++ option_to_list (misplaced true at from second) ++ misplaced_inside from second ++ misplaced_inside (suc (at + length (items first) + length (items second))) rest) one.0 one.1
          ∙ ap₂ (λ a b. option_to_list a ++ b ++ misplaced_inside (suc (at + length (items first) + length (items second))) rest) two.0 two.1
          ∙ next.1,
    )
placed-from true last at (LoopThen id body rest) turns = absurd turns
placed-from false last at (LoopThen id body rest) turns =
    let one = placed-from true at (suc at) body turns.0 in
    let next = placed-from true at (suc (at + length (items body))) rest turns.1 in (
      next.0,
      ap₂ (λ a b. option_to_list a ++ b ++ misplaced_inside (suc (at + length (items body))) rest) one.0 one.1 ∙ next.1,
    )

pub order : IsOrder
order body = (
  (λ h. let first = option_to_list (misplaced true 0 0 body) in
      turns-from true 0 0 body (listed_none (misplaced true 0 0 body) (first_nil first (misplaced_inside 0 body) h)) (second_nil first (misplaced_inside 0 body) h)),
  (λ turns. let both = placed-from true 0 0 body turns in ap₂ (λ a b. option_to_list a ++ b) both.0 both.1),
)
