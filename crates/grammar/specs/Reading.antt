-- How texts are read: from left to right, with one terminal ahead, up to the value that they denote or the first fault (predictive parsing).
use Rattle.std.specs.Prelude.{ℕ, zero, suc, Bool, not, ◌&&◌, ◌||◌, List, [], ◌∷◌, length, Option, Some, None, Result, Ok, Err, if◌then◌else◌}
use Rattle.grammar.specs.Terminals.{Terminal, Class, has, starts}
use Rattle.grammar.specs.Lookahead.{Lookahead}
use Rattle.grammar.specs.Grammar.{Vocabulary, Take, Grammar, empty, terminal, sequence, choice, repetition, named, widened, Productions}

module _ (voc : Vocabulary) where
  -- what was read, the state behind it, and what is left of the text
  pub record Reading (A : Type 0) : Type 0 where
    pub value : A
    pub state : voc.state
    pub rest : List Terminal

  -- a fault, and what is left of the text from the terminal on at which it stands
  pub record Stop : Type 0 where
    pub fault : voc.fault
    pub rest : List Terminal

  abbrev pub Outcome : Type 0 → Type 0
  Outcome A = Result (Reading A) Stop

  abbrev pub Reader : Type 0 → Type 0
  Reader A = voc.state → List Terminal → Outcome A

  -- the fault that stands at the front of the text
  abbrev pub stopped : {A : Type 0} → voc.fault → List Terminal → Outcome A
  stopped fault ts = Err (record { fault = fault; rest = ts })

  -- ---- one terminal

  abbrev pub taken : {A : Type 0} → List Terminal → Result (A × voc.state) voc.fault → List Terminal → Outcome A
  taken ts (Ok (a, y)) rest = Ok (record { value = a; state = y; rest = rest })
  taken ts (Err fault) rest = stopped fault ts

  abbrev pub read_terminal : {A : Type 0} → Class → Take voc A → Reader A
  read_terminal class take x [] = stopped voc.expected []
  read_terminal class take x (first ∷ rest) =
      if has class first then taken (first ∷ rest) (take x first) rest else stopped voc.expected (first ∷ rest)

  -- ---- parts

  abbrev pub and_then : {A B : Type 0} → Outcome A → (Reading A → Outcome B) → Outcome B
  and_then (Ok f) k = k f
  and_then (Err e) k = Err e

  -- whether the first of two grammars is read: one of its texts begins here, or it takes none where no text of the other begins
  abbrev pub takes_first : Lookahead → Lookahead → List Terminal → Bool
  takes_first p q ts = starts p.firsts ts || (p.nullable && not (starts q.firsts ts))

  -- an item before others, or the end of the items
  abbrev pub item_then : {A : Type 0} → Option A → Reading (Option A) → Reader (List A) → Outcome (List A)
  item_then None f k = Ok (record { value = []; state = f.state; rest = f.rest })
  item_then (Some a) f k = and_then (k f.state f.rest) (λ g. Ok (record { value = a ∷ g.value; state = g.state; rest = g.rest }))

  -- items as long as one of them begins, so many at most
  abbrev pub read_each : {A : Type 0} → List Class → Reader (Option A) → ℕ → Reader (List A)
  read_each firsts item zero x ts = Ok (record { value = []; state = x; rest = ts })
  read_each firsts item (suc n) x ts =
      if starts firsts ts
      then and_then (item x ts) (λ f. item_then f.value f (read_each firsts item n))
      else Ok (record { value = []; state = x; rest = ts })

  -- a grammar, where each nonterminal is read so
  abbrev pub read : {p : Lookahead} {A : Type 0} → ((n : voc.nonterminal) → Reader (voc.denoted n)) → Grammar voc p A → Reader A
  read R (empty a) x ts = Ok (record { value = a; state = x; rest = ts })
  read R (terminal class take) x ts = read_terminal class take x ts
  read R (sequence g h) x ts = and_then (read R g x ts) (λ f. read R (h f.value) f.state f.rest)
  read R (choice {p = p} {q = q} g h) x ts = if takes_first p q ts then read R g x ts else read R h x ts
  read R (repetition {p = p} g) x ts = read_each p.firsts (read R g) (length ts) x ts
  read R (named n) x ts = R n x ts
  read R (widened q sub g) x ts = read R g x ts

  -- a nonterminal by its production, within no more than so many others
  abbrev pub read_to : Productions voc → ℕ → (n : voc.nonterminal) → Reader (voc.denoted n)
  read_to productions zero n x ts = stopped (if starts (voc.ahead n).firsts ts then voc.too_deep else voc.expected) ts
  read_to productions (suc depth) n x ts = read (read_to productions depth) (productions n) x ts

  -- ---- whole texts

  abbrev pub at_end : {A : Type 0} → A → voc.state → List Terminal → Result (A × voc.state) Stop
  at_end a y [] = Ok (a, y)
  at_end a y (first ∷ rest) = Err (record { fault = voc.expected; rest = first ∷ rest })

  abbrev pub ended : {A : Type 0} → Outcome A → Result (A × voc.state) Stop
  ended (Ok f) = at_end f.value f.state f.rest
  ended (Err e) = Err e

  -- the value of a whole text and the state at its end, with nonterminals to this depth
  abbrev pub read_text : Productions voc → {p : Lookahead} {A : Type 0} → Grammar voc p A → ℕ → voc.state → List Terminal → Result (A × voc.state) Stop
  read_text productions g depth x ts = ended (read (read_to productions depth) g x ts)

  -- with nonterminals to any depth: no text has more over one another than terminals
  abbrev pub read_deep : Productions voc → {p : Lookahead} {A : Type 0} → Grammar voc p A → voc.state → List Terminal → Result (A × voc.state) Stop
  read_deep productions g x ts = read_text productions g (suc (length ts)) x ts
