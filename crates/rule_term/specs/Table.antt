-- Tables: rules, each of which holds and whose numbers rise, and a weight for each opcode.
use Rattle.std.specs.Prelude.{refl, ◌≡◌, ◌<◌, ◌≤◌, ◌+◌, ◌^◌, ℕ, zero, suc, List, [], ◌∷◌, ◌++◌, length, Some, slice_get}
use Rattle.std.proofs.Common.{subst, arith}
use Rattle.std.proofs.lemmas.List.{length-append}
use Rattle.std.proofs.lemmas.Option.{none-some, same_Some}
use Rattle.std.specs.Coded.{Coded, code_by, coded_list, coded×, coded_ℕ}
use Rattle.std.specs.List.{AllByRecursion}
use Rattle.nir_ops.specs.declared.op.Op.{Op}
use Rattle.rule_term.specs.Rule.{Rule, rule_code}
use Rattle.rule_term.specs.Formed.{IsFormed}
use Rattle.rule_term.specs.Holds.{Holds}
use Rattle.rule_term.specs.Weights.{weight_at}

-- the rules in the order in which they are tried, and the weights in the order of the opcodes
pub record Table : Type 0 where
  pub rules : List Rule
  pub weights : List ℕ

-- a table is stored as the pair of its parts
abbrev pub table_code : Coded Table
table_code = code_by (List Rule × List ℕ) (coded× (coded_list rule_code) (coded_list coded_ℕ)) (λ t. (t.rules, t.weights)) (λ p. record { rules = p.0; weights = p.1 }) (λ _. refl)

-- what an opcode weighs in a table
abbrev pub op_weight : Table → Op → ℕ
op_weight table op = weight_at table.weights op

abbrev pub AllHold : List Rule → Type 0
AllHold [] = Unit {0}
AllHold (rule ∷ rest) = Holds rule × AllHold rest

-- each rule is formed
abbrev pub AllFormed : List Rule → Type 0
AllFormed rules = AllByRecursion IsFormed rules

-- the number of each rule is below this one
abbrev pub AllBelow : ℕ → List Rule → Type 0
AllBelow number [] = Unit {0}
AllBelow number (rule ∷ rest) = (rule.number < number) × AllBelow number rest

-- the number of each rule is above this one
abbrev pub AllAbove : ℕ → List Rule → Type 0
AllAbove number [] = Unit {0}
AllAbove number (rule ∷ rest) = (number < rule.number) × AllAbove number rest

abbrev pub Rising : List Rule → Type 0
Rising [] = Unit {0}
Rising (rule ∷ rest) = AllAbove rule.number rest × Rising rest

pub record IsTable (rules : List Rule) : Type 0 where
  pub hold : AllHold rules
  pub formed : AllFormed rules
  pub rising : Rising rules
  pub few : length rules ≤ 2 ^ 32

-- rising numbers below a number are no more than it
rising_above : (m n : ℕ) (rules : List Rule) → m < n → AllAbove m rules → Rising rules → AllBelow n rules → length rules + suc m ≤ n
rising_above m n [] less above rising below = omega (arith, less)
rising_above m n (rule ∷ rest) less above rising below =
    let inner : length rest + suc rule.number ≤ n = rising_above rule.number n rest below.0 rising.0 rising.1 below.1 in
    let higher : m < rule.number = above.0 in
    omega (arith, inner, higher)

pub rising_few : (n : ℕ) (rules : List Rule) → Rising rules → AllBelow n rules → length rules ≤ n
rising_few n [] rising below = omega arith
rising_few n (rule ∷ rest) rising below =
    let inner : length rest + suc rule.number ≤ n = rising_above rule.number n rest below.0 rising.0 rising.1 below.1 in
    omega (arith, inner)

-- a rule that holds and has a greater number stands at the end
pub AllHold-add : (rules : List Rule) (rule : Rule) → AllHold rules → Holds rule → AllHold (rules ++ rule ∷ [])
AllHold-add [] rule hold here = (here, tt)
AllHold-add (first ∷ rest) rule hold here = (hold.0, AllHold-add rest rule hold.1 here)

AllFormed-add : (rules : List Rule) (rule : Rule) → AllFormed rules → IsFormed rule → AllFormed (rules ++ rule ∷ [])
AllFormed-add [] rule formed here = (here, tt)
AllFormed-add (first ∷ rest) rule formed here = (formed.0, AllFormed-add rest rule formed.1 here)

pub AllBelow-add : (number : ℕ) (rules : List Rule) (rule : Rule) → AllBelow number rules → rule.number < number → AllBelow number (rules ++ rule ∷ [])
AllBelow-add number [] rule below here = (here, tt)
AllBelow-add number (first ∷ rest) rule below here = (below.0, AllBelow-add number rest rule below.1 here)

pub AllAbove-add : (number : ℕ) (rules : List Rule) (rule : Rule) → AllAbove number rules → number < rule.number → AllAbove number (rules ++ rule ∷ [])
AllAbove-add number [] rule above here = (here, tt)
AllAbove-add number (first ∷ rest) rule above here = (above.0, AllAbove-add number rest rule above.1 here)

pub Rising-add : (rules : List Rule) (rule : Rule) → Rising rules → AllBelow rule.number rules → Rising (rules ++ rule ∷ [])
Rising-add [] rule rising below = (tt, tt)
Rising-add (first ∷ rest) rule rising below = (AllAbove-add first.number rest rule rising.0 below.0, Rising-add rest rule rising.1 below.1)

pub IsTable-add : (rules : List Rule) (rule : Rule) → IsTable rules → Holds rule → IsFormed rule → AllBelow rule.number rules → rule.number < 2 ^ 32 → IsTable (rules ++ rule ∷ [])
IsTable-add rules rule table here formed below small =
    let few : length rules ≤ rule.number = rising_few rule.number rules table.rising below in
    let one_more : length (rules ++ rule ∷ []) ≡ length rules + 1 = length-append rules (rule ∷ []) in
    record {
      hold = AllHold-add rules rule table.hold here;
      formed = AllFormed-add rules rule table.formed formed;
      rising = Rising-add rules rule table.rising below;
      few = omega (arith, few, one_more, small);
    }

-- the rule at a place holds
pub hold_at : (rules : List Rule) (place : ℕ) (rule : Rule) → AllHold rules → slice_get rules place ≡ Some rule → Holds rule
hold_at [] place rule hold at = absurd (none-some rule at)
hold_at (first ∷ rest) zero rule hold at = subst Holds (same_Some first rule at) hold.0
hold_at (first ∷ rest) (suc place) rule hold at = hold_at rest place rule hold.1 at
