-- The laws of nonterminals to a depth, each by its production.
use Rattle.std.proofs.Common.{◌≡◌, ℕ, zero, suc, true, List, ◌∷◌, ◌++◌, if◌then◌else◌, refl, sym, ap, arith}
use Rattle.grammar.specs.Terminals.{Terminal, starts}
use Rattle.grammar.specs.Grammar.{Vocabulary, Productions}
use Rattle.grammar.specs.Reading.{read_to, stopped}
use Rattle.grammar.specs.Spelling.{SpelledTo}
use Rattle.grammar.specs.SoundLaws.{IsSound, read_is_spelled}
use Rattle.grammar.specs.CompleteLaws.{IsStarting, IsTaking, IsComplete, spelled_starts, read_takes, spelled_is_read}
use Rattle.grammar.specs.OneAheadLaws.{IsKeeping, IsLocal, BothStop, same_start, read_keeps, read_local}

module _ (voc : Vocabulary) (productions : Productions voc) where
  pub depth_sound : (d : ℕ) (n : voc.nonterminal) → IsSound voc (SpelledTo voc productions d n) (read_to voc productions d n)
  depth_sound zero n x ts f e K k = absurd cc
  depth_sound (suc d) n x ts f e K k =
      read_is_spelled voc (SpelledTo voc productions d) (read_to voc productions d) (depth_sound d) (productions n) x ts f e K k

  pub depth_starts : (d : ℕ) (n : voc.nonterminal) → IsStarting voc (voc.ahead n) (SpelledTo voc productions d n)
  depth_starts zero n x a K ts s = absurd s
  depth_starts (suc d) n x a K ts s = spelled_starts voc (SpelledTo voc productions d) (depth_starts d) (productions n) x a K ts s

  pub depth_takes : (d : ℕ) (n : voc.nonterminal) → IsTaking voc (voc.ahead n).nullable (read_to voc productions d n)
  depth_takes zero n x ts f e = absurd cc
  depth_takes (suc d) n x ts f e = read_takes voc (read_to voc productions d) (depth_takes d) (productions n) x ts f e

  module _ (oks : (n : voc.nonterminal) → (voc.ahead n).decides ≡ true) where
    pub depth_complete : (d : ℕ) (n : voc.nonterminal) → IsComplete voc (voc.ahead n) (SpelledTo voc productions d n) (read_to voc productions d n)
    depth_complete zero n x a K ts s ends = absurd s
    depth_complete (suc d) n x a K ts s ends =
        spelled_is_read voc (SpelledTo voc productions d) (read_to voc productions d) (depth_starts d) (depth_takes d) (depth_complete d) (productions n)
        (oks n) x a K ts s ends

  pub depth_keeps : (d : ℕ) (n : voc.nonterminal) → IsKeeping voc (read_to voc productions d n)
  depth_keeps zero n x ts = omega arith
  depth_keeps (suc d) n x ts = read_keeps voc (read_to voc productions d) (depth_keeps d) (productions n) x ts

  module _ (oks : (n : voc.nonterminal) → (voc.ahead n).decides ≡ true) (s : Terminal) (r r' : List Terminal) where
    pub depth_local : (d : ℕ) (n : voc.nonterminal) → IsLocal voc s r r' (read_to voc productions d n)
    depth_local zero n x pre =
        BothStop (if starts (voc.ahead n).firsts (pre ++ s ∷ r) then voc.too_deep else voc.expected) pre refl
        (ap (λ b. stopped voc (if b then voc.too_deep else voc.expected) (pre ++ s ∷ r')) (sym (same_start voc s r r' (voc.ahead n).firsts pre)))
    depth_local (suc d) n x pre =
        read_local voc s r r' (read_to voc productions d) (depth_takes d) (depth_keeps d) (depth_local d) (productions n) (oks n) x pre
