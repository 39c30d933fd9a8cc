-- The laws of every grammar: its reader reads what it spells and nothing else, and stops at the first terminal with which no text goes on.
use Rattle.std.specs.Prelude.{◌≡◌, ℕ, true, List, ◌∷◌, ◌++◌, Ok, Err}
use Rattle.grammar.specs.Terminals.{Terminal}
use Rattle.grammar.specs.Lookahead.{Lookahead}
use Rattle.grammar.specs.Grammar.{Vocabulary, Grammar, Productions, guarded}
use Rattle.grammar.specs.Spelling.{IsText, IsTextOfAnyDepth}
use Rattle.grammar.specs.Reading.{read_text, read_deep}

-- One terminal ahead decides in the grammar and in each production of its nonterminals.
pub record IsDecided (voc : Vocabulary) (p : Lookahead) : Type 0 where
  pub whole : p.decides ≡ true
  pub each : (n : voc.nonterminal) → (voc.ahead n).decides ≡ true

-- ---- nonterminals to a depth

-- what is read of a text is spelled by it
abbrev pub ReadIsSpelled : Type 1
ReadIsSpelled =
    (voc : Vocabulary) (productions : Productions voc) (p : Lookahead) (A : Type 0) (g : Grammar voc p A) (depth : ℕ)
    (x : voc.state) (a : A) (z : voc.state) (ts : List Terminal)
    → read_text voc productions g depth x ts ≡ Ok (a, z) → IsText voc productions g depth x a z ts

-- what a text spells is read of it
abbrev pub SpelledIsRead : Type 1
SpelledIsRead =
    (voc : Vocabulary) (productions : Productions voc) (p : Lookahead) (A : Type 0) (g : Grammar voc p A) (depth : ℕ) → IsDecided voc p
    → (x : voc.state) (a : A) (z : voc.state) (ts : List Terminal)
    → IsText voc productions g depth x a z ts → read_text voc productions g depth x ts ≡ Ok (a, z)

-- no text begins with the terminals up to that at which reading stopped, and with this one
abbrev pub FaultIsFirst : Type 1
FaultIsFirst =
    (voc : Vocabulary) (productions : Productions voc) (p : Lookahead) (A : Type 0) (g : Grammar voc p A) (depth : ℕ) → IsDecided voc p
    → (x : voc.state) (before : List Terminal) (wrong : Terminal) (rest : List Terminal) (fault : voc.fault)
    → read_text voc productions g depth x (before ++ wrong ∷ rest) ≡ Err (record { fault = fault; rest = wrong ∷ rest })
    → (other : List Terminal) (a : A) (z : voc.state) → IsText voc productions g depth x a z (before ++ wrong ∷ other) → ⊥

-- what is left of a text where reading stopped is the end of it: so many terminals stand before the fault
abbrev pub FaultStands : Type 1
FaultStands =
    (voc : Vocabulary) (productions : Productions voc) (p : Lookahead) (A : Type 0) (g : Grammar voc p A) (depth : ℕ)
    (x : voc.state) (ts : List Terminal) (fault : voc.fault) (rest : List Terminal)
    → read_text voc productions g depth x ts ≡ Err (record { fault = fault; rest = rest }) → (before : List Terminal) × (ts ≡ before ++ rest)

-- ---- nonterminals to any depth

abbrev pub DeepReadIsSpelled : Type 1
DeepReadIsSpelled =
    (voc : Vocabulary) (productions : Productions voc) (p : Lookahead) (A : Type 0) (g : Grammar voc p A)
    (x : voc.state) (a : A) (z : voc.state) (ts : List Terminal)
    → read_deep voc productions g x ts ≡ Ok (a, z) → IsTextOfAnyDepth voc productions g x a z ts

-- a terminal stands before each nonterminal in a production
abbrev pub AreGuarded : (voc : Vocabulary) → Productions voc → Type 0
AreGuarded voc productions = (n : voc.nonterminal) → guarded (productions n) ≡ true

abbrev pub DeepSpelledIsRead : Type 1
DeepSpelledIsRead =
    (voc : Vocabulary) (productions : Productions voc) (p : Lookahead) (A : Type 0) (g : Grammar voc p A) → IsDecided voc p → AreGuarded voc productions
    → (x : voc.state) (a : A) (z : voc.state) (ts : List Terminal)
    → IsTextOfAnyDepth voc productions g x a z ts → read_deep voc productions g x ts ≡ Ok (a, z)

abbrev pub DeepFaultIsFirst : Type 1
DeepFaultIsFirst =
    (voc : Vocabulary) (productions : Productions voc) (p : Lookahead) (A : Type 0) (g : Grammar voc p A) → IsDecided voc p → AreGuarded voc productions
    → (x : voc.state) (before : List Terminal) (wrong : Terminal) (rest : List Terminal) (fault : voc.fault)
    → read_deep voc productions g x (before ++ wrong ∷ rest) ≡ Err (record { fault = fault; rest = wrong ∷ rest })
    → (other : List Terminal) (a : A) (z : voc.state) → IsTextOfAnyDepth voc productions g x a z (before ++ wrong ∷ other) → ⊥
