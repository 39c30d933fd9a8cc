-- What a grammar tells of the values that its texts denote, whatever their terminals: of which parts they are made, from state to state.
use Rattle.std.specs.Prelude.{◌≡◌, true, List, [], ◌∷◌, Option, Some, None, Ok, ◌⊎◌}
use Rattle.grammar.specs.Terminals.{Terminal, has}
use Rattle.grammar.specs.Lookahead.{Lookahead}
use Rattle.grammar.specs.Grammar.{Vocabulary, Grammar, empty, terminal, sequence, choice, repetition, named, widened}

module _ (voc : Vocabulary) where
  -- what may be said of a value, the state before it and the state behind it
  abbrev pub Fact : Type 0 → Type 1
  Fact A = voc.state → A → voc.state → Type 0

  abbrev pub MadeOfEach : {A : Type 0} → Fact (Option A) → Fact (List A)
  MadeOfEach Item x [] y = (x ≡ y) ⊎ Item x None y
  MadeOfEach Item x (a ∷ others) y = (z : voc.state) × Item x (Some a) z × MadeOfEach Item z others y

  -- the value is made as the grammar says, where this is said of the values of nonterminals
  abbrev pub Made : ((n : voc.nonterminal) → Fact (voc.denoted n)) → {p : Lookahead} {A : Type 0} → Grammar voc p A → Fact A
  Made Named (empty b) x a y = (b ≡ a) × (x ≡ y)
  Made Named (terminal class take) x a y = (t : Terminal) × (has class t ≡ true) × (take x t ≡ Ok (a, y))
  Made Named (sequence {A = B} g h) x a y = (b : B) × (z : voc.state) × Made Named g x b z × Made Named (h b) z a y
  Made Named (choice g h) x a y = Made Named g x a y ⊎ Made Named h x a y
  Made Named (repetition g) x a y = MadeOfEach (Made Named g) x a y
  Made Named (named n) x a y = Named n x a y
  Made Named (widened q sub g) x a y = Made Named g x a y
