-- What a grammar spells: which texts begin with what denotes a value, from a state (the language of a grammar, by recursion on it).
use Rattle.std.specs.Prelude.{◌≡◌, ℕ, zero, suc, true, List, [], ◌∷◌, Option, Some, None, Ok, ◌⊎◌}
use Rattle.grammar.specs.Terminals.{Terminal, Class, has}
use Rattle.grammar.specs.Lookahead.{Lookahead}
use Rattle.grammar.specs.Grammar.{Vocabulary, Take, Grammar, empty, terminal, sequence, choice, repetition, named, widened, Productions}

module _ (voc : Vocabulary) where
  -- what is asked of the state behind a part, and of the text behind it
  abbrev pub Behind : Type 1
  Behind = voc.state → List Terminal → Type 0

  -- from this state the text begins with what denotes this value, and then stands what is asked behind it
  abbrev pub Spelling : Type 0 → Type 1
  Spelling A = voc.state → A → Behind → List Terminal → Type 0

  abbrev pub SpellsTerminal : {A : Type 0} → Class → Take voc A → Spelling A
  SpellsTerminal class take x a K [] = ⊥
  SpellsTerminal class take x a K (first ∷ rest) = (y : voc.state) × (has class first ≡ true) × (take x first ≡ Ok (a, y)) × K y rest

  -- items one after another, and at their end None or nothing
  abbrev pub SpellsEach : {A : Type 0} → Spelling (Option A) → Spelling (List A)
  SpellsEach item x [] K ts = K x ts ⊎ item x None K ts
  SpellsEach item x (a ∷ others) K ts = item x (Some a) (λ y. SpellsEach item y others K) ts

  -- where each nonterminal spells what it does
  abbrev pub Spells : {p : Lookahead} {A : Type 0} → ((n : voc.nonterminal) → Spelling (voc.denoted n)) → Grammar voc p A → Spelling A
  Spells S (empty b) x a K ts = (b ≡ a) × K x ts
  Spells S (terminal class take) x a K ts = SpellsTerminal class take x a K ts
  Spells S (sequence {A = B} g h) x a K ts = (b : B) × Spells S g x b (λ y. Spells S (h b) y a K) ts
  Spells S (choice g h) x a K ts = Spells S g x a K ts ⊎ Spells S h x a K ts
  Spells S (repetition g) x a K ts = SpellsEach (Spells S g) x a K ts
  Spells S (named n) x a K ts = S n x a K ts
  Spells S (widened q sub g) x a K ts = Spells S g x a K ts

  -- what a nonterminal spells by its production, within no more than so many others
  abbrev pub SpelledTo : Productions voc → ℕ → (n : voc.nonterminal) → Spelling (voc.denoted n)
  SpelledTo productions zero n x a K ts = ⊥
  SpelledTo productions (suc depth) n x a K ts = Spells (SpelledTo productions depth) (productions n) x a K ts

  -- nothing stands behind, and this is the state at the end
  abbrev pub AtEnd : voc.state → Behind
  AtEnd z y rest = (y ≡ z) × (rest ≡ [])

  -- the whole text denotes the value, from a state to another, with nonterminals to this depth
  abbrev pub IsText : Productions voc → {p : Lookahead} {A : Type 0} → Grammar voc p A → ℕ → voc.state → A → voc.state → List Terminal → Type 0
  IsText productions g depth x a z ts = Spells (SpelledTo productions depth) g x a (AtEnd z) ts

  -- with nonterminals to some depth
  abbrev pub IsTextOfAnyDepth : Productions voc → {p : Lookahead} {A : Type 0} → Grammar voc p A → voc.state → A → voc.state → List Terminal → Type 0
  IsTextOfAnyDepth productions g x a z ts = (depth : ℕ) × IsText productions g depth x a z ts
