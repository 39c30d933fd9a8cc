-- Blocks one after another, and a choice behind the gates of a test.
use Rattle.std.proofs.Common.{◌≡◌, ℕ, List, [], ◌++◌, length, subst, arith, Bool, cond}
use Rattle.std.proofs.lemmas.List.{length-append}
use Rattle.circuit_laws.specs.Literals.{Lit, lit, word}
use Rattle.circuit_laws.specs.Gates.{Gate, Mux, AreMade, IsBelow, AreBelow, AreOrdered}
use Rattle.circuit_laws.specs.Blocks.{Block, after, behind, plain, choice}
use Rattle.circuit_laws.specs.Computes.{IsBlock}
use Rattle.circuit_laws.specs.WordLaws.{below_later}
use Rattle.circuit_laws.specs.GateLaws.{made_parts, ordered_joined}
use Rattle.circuit_laws.specs.RowLaws.{choice_is, choice_length, choice_ordered, each_below}

pub behind_both : (n : ℕ) (a b : List Gate) → behind (behind n a) b ≡ behind n (a ++ b)
behind_both n a b = omega (arith, length-append a b)

-- a word without gates
pub plain_block : (n d : ℕ) (ls : List Lit) → length ls ≡ d → AreBelow n ls → IsBlock n d (plain ls)
plain_block n d ls e f = record { long = e; ordered = tt; below = below_later n (behind n []) ls (omega arith) f }

-- a block behind the gates of another
pub after_block : (n d : ℕ) (first second : Block) → AreOrdered n first.gates → IsBlock (behind n first.gates) d second → IsBlock n d (after first second)
after_block n d first second f g = record {
  long = g.long;
  ordered = ordered_joined n first.gates second.gates f g.ordered;
  below = subst (λ m. AreBelow m second.word) (behind_both n first.gates second.gates) g.below;
}

pub choice_block : (n : ℕ) (s : Lit) (xs ys : List Lit) → length xs ≡ length ys → IsBelow n s → AreBelow n xs → AreBelow n ys → IsBlock n (length xs) (choice s xs ys n)
choice_block n s xs ys e h f g = record { long = choice_length s xs ys n e; ordered = choice_ordered s xs ys n h f g; below = each_below (Mux s) xs ys n }

-- a choice behind gates, between words that stand before them or that they make
pub choice_after : (n : ℕ) (first : Block) (s : Lit) (xs ys : List Lit) → length xs ≡ length ys → AreOrdered n first.gates
    → IsBelow (behind n first.gates) s → AreBelow (behind n first.gates) xs → AreBelow (behind n first.gates) ys
    → IsBlock n (length xs) (after first (choice s xs ys (behind n first.gates)))
choice_after n first s xs ys e o h f g = after_block n (length xs) first (choice s xs ys (behind n first.gates)) o (choice_block (behind n first.gates) s xs ys e h f g)

-- what it stands for, with what the gates before it make
pub choice_after_is : (α : ℕ → Bool) (n : ℕ) (first : Block) (s : Lit) (xs ys : List Lit) → length xs ≡ length ys
    → AreMade α n (after first (choice s xs ys (behind n first.gates))).gates
    → AreMade α n first.gates × (word α (choice s xs ys (behind n first.gates)).word ≡ cond (lit α s) (word α xs) (word α ys))
choice_after_is α n first s xs ys e h =
    let parts = made_parts α n first.gates (choice s xs ys (behind n first.gates)).gates h in
    (parts.0, choice_is α s xs ys (behind n first.gates) e parts.1)
