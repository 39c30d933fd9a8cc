-- What each terminal of a grammar keeps of the state, the grammar keeps.
use Rattle.std.specs.Prelude.{◌≡◌, List, [], ◌∷◌, Option, Some, None, Ok}
use Rattle.std.proofs.Common.{inl, inr, subst}
use Rattle.grammar.specs.Terminals.{Terminal}
use Rattle.grammar.specs.Lookahead.{Lookahead}
use Rattle.grammar.specs.Grammar.{Vocabulary, Grammar, empty, terminal, sequence, choice, repetition, named, widened}
use Rattle.grammar.specs.Made.{Fact, MadeOfEach, Made}

module _ (voc : Vocabulary) (Keeps : voc.state → voc.state → Type 0) where
  -- each of its terminals keeps it
  abbrev pub Respects : {p : Lookahead} {A : Type 0} → Grammar voc p A → Type 0
  Respects (empty a) = Unit {0}
  Respects (terminal {A = A} class take) = (x : voc.state) (t : Terminal) (p : A × voc.state) → take x t ≡ Ok p → Keeps x p.1
  Respects (sequence {A = B} g h) = Respects g × ((b : B) → Respects (h b))
  Respects (choice g h) = Respects g × Respects h
  Respects (repetition g) = Respects g
  Respects (named n) = Unit {0}
  Respects (widened q sub g) = Respects g

  module _ (self : (x : voc.state) → Keeps x x) (on : (x y z : voc.state) → Keeps x y → Keeps y z → Keeps x z)
      (Named : (n : voc.nonterminal) → Fact voc (voc.denoted n))
      (known : (n : voc.nonterminal) (x : voc.state) (a : voc.denoted n) (y : voc.state) → Named n x a y → Keeps x y) where
    each_keeps : {A : Type 0} (F : Fact voc (Option A)) → ((x : voc.state) (o : Option A) (y : voc.state) → F x o y → Keeps x y)
        → (x : voc.state) (all : List A) (y : voc.state) → MadeOfEach voc F x all y → Keeps x y
    each_keeps F keeps x [] y (inl same) = subst (Keeps x) same (self x)
    each_keeps F keeps x [] y (inr made) = keeps x None y made
    each_keeps F keeps x (a ∷ others) y made = on x made.0 y (keeps x (Some a) made.0 made.1) (each_keeps F keeps made.0 others y made.2)

    pub made_keeps : {p : Lookahead} {A : Type 0} (g : Grammar voc p A) → Respects g → (x : voc.state) (a : A) (y : voc.state) → Made voc Named g x a y
        → Keeps x y
    made_keeps (empty b) r x a y made = subst (Keeps x) made.1 (self x)
    made_keeps (terminal class take) r x a y made = r x made.0 (a, y) made.2
    made_keeps (sequence g h) r x a y made = on x made.1 y (made_keeps g r.0 x made.0 made.1 made.2) (made_keeps (h made.0) (r.1 made.0) made.1 a y made.3)
    made_keeps (choice g h) r x a y (inl made) = made_keeps g r.0 x a y made
    made_keeps (choice g h) r x a y (inr made) = made_keeps h r.1 x a y made
    made_keeps (repetition g) r x a y made = each_keeps (Made voc Named g) (made_keeps g r) x a y made
    made_keeps (named n) r x a y made = known n x a y made
    made_keeps (widened q sub g) r x a y made = made_keeps g r x a y made
