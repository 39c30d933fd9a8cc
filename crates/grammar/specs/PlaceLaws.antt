-- What is left of a text is the end of it, so a fault has a place: the number of terminals before it.
use Rattle.std.proofs.Common.{◌≡◌, ℕ, zero, suc, Bool, true, false, cond, List, [], ◌∷◌, ◌++◌, length, Option, Some, None, Result, Ok, Err, refl, sym, ap, ◌∙◌, append_assoc}
use Rattle.grammar.specs.Terminals.{Terminal, Class, has, starts}
use Rattle.grammar.specs.Grammar.{Vocabulary, Grammar, empty, terminal, sequence, choice, repetition, named, widened, Productions}
use Rattle.grammar.specs.Lookahead.{Lookahead}
use Rattle.grammar.specs.Reading.{Reading, Stop, Reader, taken, takes_first, and_then, item_then, read_each, read, read_to, read_text, ended, at_end, stopped, Outcome}

-- the end of another list
abbrev pub IsEnd : List Terminal → List Terminal → Type 0
IsEnd ts rest = (pre : List Terminal) × (ts ≡ pre ++ rest)

whole : (ts : List Terminal) → IsEnd ts ts
whole ts = ([], refl)

further : (ts us rest : List Terminal) → IsEnd ts us → IsEnd us rest → IsEnd ts rest
further ts us rest a b = (a.0 ++ b.0, a.1 ∙ ap (λ us. a.0 ++ us) b.1 ∙ sym (append_assoc a.0 b.0 rest))

module _ (voc : Vocabulary) where
  abbrev pub Leaves : {A : Type 0} → List Terminal → Outcome voc A → Type 0
  Leaves ts (Ok f) = IsEnd ts f.rest
  Leaves ts (Err e) = IsEnd ts e.rest

  leaves_of : {A : Type 0} (ts us : List Terminal) (o : Outcome voc A) → IsEnd ts us → Leaves us o → Leaves ts o
  leaves_of ts us (Ok f) e l = further ts us f.rest e l
  leaves_of ts us (Err s) e l = further ts us s.rest e l

  then_leaves : {A B : Type 0} (ts : List Terminal) (o : Outcome voc A) (k : Reading voc A → Outcome voc B) → Leaves ts o
      → ((f : Reading voc A) → Leaves f.rest (k f)) → Leaves ts (and_then voc o k)
  then_leaves ts (Ok f) k l later = leaves_of ts f.rest (k f) l (later f)
  then_leaves ts (Err e) k l later = l

  cond_leaves : {A : Type 0} (ts : List Terminal) (b : Bool) (u v : Outcome voc A) → Leaves ts u → Leaves ts v → Leaves ts (cond b u v)
  cond_leaves ts true u v h k = h
  cond_leaves ts false u v h k = k

  abbrev pub IsLeaving : {A : Type 0} → Reader voc A → Type 0
  IsLeaving R = (x : voc.state) (ts : List Terminal) → Leaves ts (R x ts)

  item_leaves : {A : Type 0} (o : Option A) (f : Reading voc (Option A)) (k : Reader voc (List A)) → IsLeaving k → Leaves f.rest (item_then voc o f k)
  item_leaves None f k h = whole f.rest
  item_leaves (Some a) f k h = then_leaves f.rest (k f.state f.rest) _ (h f.state f.rest) (λ g. whole g.rest)

  each_leaves : {A : Type 0} (firsts : List Class) (R : Reader voc (Option A)) → IsLeaving R → (n : ℕ) → IsLeaving (read_each voc firsts R n)
  each_leaves firsts R h zero x ts = whole ts
  each_leaves firsts R h (suc n) x ts =
      cond_leaves ts (starts firsts ts) (and_then voc (R x ts) (λ f. item_then voc f.value f (read_each voc firsts R n)))
      (Ok (record { value = []; state = x; rest = ts }))
      (then_leaves ts (R x ts) _ (h x ts) (λ f. item_leaves f.value f (read_each voc firsts R n) (each_leaves firsts R h n)))
      (whole ts)

  takes_leaves : {A : Type 0} (s : Terminal) (ts : List Terminal) (r : Result (A × voc.state) voc.fault) → Leaves (s ∷ ts) (taken voc (s ∷ ts) r ts)
  takes_leaves s ts (Ok t) = (s ∷ [], refl)
  takes_leaves s ts (Err e) = whole (s ∷ ts)

  pub read_leaves : (R : (n : voc.nonterminal) → Reader voc (voc.denoted n)) → ((n : voc.nonterminal) → IsLeaving (R n))
      → {p : Lookahead} {A : Type 0} (g : Grammar voc p A) → IsLeaving (read voc R g)
  read_leaves R env (empty a) x ts = whole ts
  read_leaves R env (terminal class take) x [] = whole []
  read_leaves R env (terminal class take) x (s ∷ ts) =
      cond_leaves (s ∷ ts) (has class s) (taken voc (s ∷ ts) (take x s) ts) (stopped voc voc.expected (s ∷ ts)) (takes_leaves s ts (take x s))
      (whole (s ∷ ts))
  read_leaves R env (sequence g h) x ts =
      then_leaves ts (read voc R g x ts) (λ f. read voc R (h f.value) f.state f.rest) (read_leaves R env g x ts)
      (λ f. read_leaves R env (h f.value) f.state f.rest)
  read_leaves R env (choice {p = p} {q = q} g h) x ts =
      cond_leaves ts (takes_first voc p q ts) (read voc R g x ts) (read voc R h x ts) (read_leaves R env g x ts) (read_leaves R env h x ts)
  read_leaves R env (repetition {p = p} g) x ts = each_leaves p.firsts (read voc R g) (read_leaves R env g) (length ts) x ts
  read_leaves R env (named n) x ts = env n x ts
  read_leaves R env (widened q sub g) x ts = read_leaves R env g x ts

  pub depth_leaves : (productions : Productions voc) (d : ℕ) (n : voc.nonterminal) → IsLeaving (read_to voc productions d n)
  depth_leaves productions zero n x ts = whole ts
  depth_leaves productions (suc d) n x ts = read_leaves (read_to voc productions d) (depth_leaves productions d) (productions n) x ts

  rest_or : {A : Type 0} → List Terminal → Result (A × voc.state) (Stop voc) → List Terminal
  rest_or us (Ok t) = us
  rest_or us (Err e) = e.rest

  at_leaves : {A : Type 0} (ts : List Terminal) (b : A) (y : voc.state) (us : List Terminal) (e : Stop voc) → IsEnd ts us → at_end voc b y us ≡ Err e
      → IsEnd ts e.rest
  unfolding rest_or
  at_leaves ts b y [] e l h = absurd cc
  at_leaves ts b y (u ∷ us) e l h = (l.0, l.1 ∙ ap (λ us. l.0 ++ us) (ap (λ o. rest_or (u ∷ us) o) h))

  ended_leaves : {A : Type 0} (ts : List Terminal) (o : Outcome voc A) (e : Stop voc) → Leaves ts o → ended voc o ≡ Err e → IsEnd ts e.rest
  unfolding rest_or
  ended_leaves ts (Ok f) e l h = at_leaves ts f.value f.state f.rest e l h
  ended_leaves {A} ts (Err s) e l h = (l.0, l.1 ∙ ap (λ us. l.0 ++ us) (ap (λ o. rest_or {A = A} s.rest o) h))

  -- a fault stands somewhere in the text
  pub fault_stands : (productions : Productions voc) {p : Lookahead} {A : Type 0} (g : Grammar voc p A) (d : ℕ) (x : voc.state) (ts : List Terminal)
      (e : Stop voc) → read_text voc productions g d x ts ≡ Err e → IsEnd ts e.rest
  fault_stands productions g d x ts e h =
      ended_leaves ts (read voc (read_to voc productions d) g x ts) e (read_leaves (read_to voc productions d) (depth_leaves productions d) g x ts) h
