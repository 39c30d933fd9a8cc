-- Grammars as data: terminals, sequences, choices, repetitions and nonterminals, each of which denotes a value (L-attributed grammars).
use Rattle.std.specs.Prelude.{◌≡◌, Bool, true, false, not, ◌&&◌, List, Option, Result}
use Rattle.grammar.specs.Terminals.{Terminal, Class}
use Rattle.grammar.specs.Lookahead.{Lookahead, nothing, one, ◌⨟◌, ◌∪◌, star, within}

-- What the grammars of one language share: the state that is carried through a text, its faults, and its nonterminals, with what each denotes and what one
-- terminal ahead tells of it. A terminal that no grammar wants is expected to be another; a nonterminal within too many others is too deep.
pub record Vocabulary : Type 1 where
  pub state : Type 0
  pub fault : Type 0
  pub expected : fault
  pub too_deep : fault
  pub nonterminal : Type 0
  pub denoted : nonterminal → Type 0
  pub ahead : nonterminal → Lookahead

-- what a terminal denotes and the state behind it, or the fault that stands at it
abbrev pub Take : Vocabulary → Type 0 → Type 0
Take voc A = voc.state → Terminal → Result (A × voc.state) voc.fault

-- Grammars whose texts denote values of a type. What follows in a sequence may depend on what its first part denotes; None ends a repetition.
pub data Grammar (voc : Vocabulary) : Lookahead → Type 0 → Type 1 where
  empty : {A : Type 0} → A → Grammar voc nothing A
  terminal : {A : Type 0} → (class : Class) → Take voc A → Grammar voc (one class) A
  sequence : {p q : Lookahead} {A B : Type 0} → Grammar voc p A → (A → Grammar voc q B) → Grammar voc (p ⨟ q) B
  choice : {p q : Lookahead} {A : Type 0} → Grammar voc p A → Grammar voc q A → Grammar voc (p ∪ q) A
  repetition : {p : Lookahead} {A : Type 0} → Grammar voc p (Option A) → Grammar voc (star p) (List A)
  named : (n : voc.nonterminal) → Grammar voc (voc.ahead n) (voc.denoted n)
  widened : {p : Lookahead} {A : Type 0} → (q : Lookahead) → within p q ≡ true → Grammar voc p A → Grammar voc q A

-- what each nonterminal stands for
abbrev pub Productions : Vocabulary → Type 1
Productions voc = (n : voc.nonterminal) → Grammar voc (voc.ahead n) (voc.denoted n)

-- whether a terminal stands before each nonterminal
abbrev pub guarded : {voc : Vocabulary} {p : Lookahead} {A : Type 0} → Grammar voc p A → Bool
guarded (empty a) = true
guarded (terminal class take) = true
guarded (sequence {p = p} g h) = guarded g && not p.nullable
guarded (choice g h) = guarded g && guarded h
guarded (repetition g) = false
guarded (named n) = false
guarded (widened q sub g) = guarded g
