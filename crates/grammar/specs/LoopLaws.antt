-- Loops over the items of a repetition: the items that were read, before those that are still read, are all of them.
use Rattle.std.specs.Prelude.{◌≡◌, refl, ℕ, suc, ◌+◌, ◌-◌, ◌<◌, ◌≤◌, true, false, List, [], ◌∷◌, ◌++◌, Option, Some, None, Ok, Err}
use Rattle.std.proofs.Common.{sym, ap, ◌∙◌, arith, append_assoc}
use Rattle.std.proofs.lemmas.List.{append-nil}
use Rattle.grammar.specs.Terminals.{Terminal, Class, starts}
use Rattle.grammar.specs.Lookahead.{Lookahead}
use Rattle.grammar.specs.Grammar.{Vocabulary, Grammar, empty, sequence}
use Rattle.grammar.specs.Reading.{Reading, Stop, Outcome, Reader, and_then, item_then, read_each, read}
use Rattle.grammar.specs.ChoiceLaws.{cond_true}
use Rattle.grammar.specs.CompleteLaws.{each_stops}

module _ (voc : Vocabulary) {A : Type 0} where
  -- items before those that are read
  abbrev pub with_front : List A → Outcome voc (List A) → Outcome voc (List A)
  with_front front (Ok f) = Ok (record { value = front ++ f.value; state = f.state; rest = f.rest })
  with_front front (Err e) = Err e

  abbrev before_others : A → Reading voc (List A) → Outcome voc (List A)
  before_others a g = Ok (record { value = a ∷ g.value; state = g.state; rest = g.rest })

  regroup : (front : List A) (a : A) (o : Outcome voc (List A)) → with_front front (and_then voc o (before_others a)) ≡ with_front (front ++ a ∷ []) o
  regroup front a (Ok f) = ap (λ (v : List A). Ok (record { value = v; state = f.state; rest = f.rest })) (sym (append_assoc front (a ∷ []) f.value))
  regroup front a (Err e) = refl

  module _ (item : Reader voc (Option A)) (firsts : List Class) where
    abbrev pub items_at : ℕ → Reader voc (List A)
    items_at = read_each voc firsts item

    abbrev item_step : ℕ → Reading voc (Option A) → Outcome voc (List A)
    item_step k f = item_then voc f.value f (items_at k)

    -- turn i of n, at which an item begins
    one_turn : (i n : ℕ) (x : voc.state) (ts : List Terminal) (o : Outcome voc (Option A)) → i < n → starts firsts ts ≡ true → item x ts ≡ o
        → items_at (n - i) x ts ≡ and_then voc o (item_step (n - (i + 1)))
    one_turn i n x ts o l e h =
        let turns : n - i ≡ suc (n - (i + 1)) = omega arith in
        ap (λ k. items_at k x ts) turns ∙ cond_true (starts firsts ts) _ _ _ e (ap (λ o. and_then voc o (item_step (n - (i + 1)))) h)

    -- an item was read: it stands behind those before it
    pub turn_goes : (i n : ℕ) (front : List A) (x : voc.state) (ts : List Terminal) (a : A) (y : voc.state) (us : List Terminal)
        (total : Outcome voc (List A))
        → i < n → starts firsts ts ≡ true → item x ts ≡ Ok (record { value = Some a; state = y; rest = us })
        → with_front front (items_at (n - i) x ts) ≡ total → with_front (front ++ a ∷ []) (items_at (n - (i + 1)) y us) ≡ total
    turn_goes i n front x ts a y us total l e h so_far =
        sym (regroup front a (items_at (n - (i + 1)) y us)) ∙ ap (with_front front) (sym (one_turn i n x ts _ l e h)) ∙ so_far

    -- the end of the items was read
    pub turn_closes : (i n : ℕ) (front : List A) (x : voc.state) (ts : List Terminal) (y : voc.state) (us : List Terminal) (total : Outcome voc (List A))
        → i < n → starts firsts ts ≡ true → item x ts ≡ Ok (record { value = None; state = y; rest = us })
        → with_front front (items_at (n - i) x ts) ≡ total → total ≡ Ok (record { value = front; state = y; rest = us })
    turn_closes i n front x ts y us total l e h so_far =
        sym so_far ∙ ap (with_front front) (one_turn i n x ts _ l e h)
        ∙ ap (λ (v : List A). Ok (record { value = v; state = y; rest = us })) (append-nil front)

    -- the item is not read, and so the items are not
    pub turn_fails : (i n : ℕ) (front : List A) (x : voc.state) (ts : List Terminal) (e : Stop voc) (total : Outcome voc (List A))
        → i < n → starts firsts ts ≡ true → item x ts ≡ Err e
        → with_front front (items_at (n - i) x ts) ≡ total → total ≡ Err e
    turn_fails i n front x ts e total l s h so_far = sym so_far ∙ ap (with_front front) (one_turn i n x ts _ l s h)

    -- no item begins
    pub turn_ends : (i n : ℕ) (front : List A) (x : voc.state) (ts : List Terminal) (total : Outcome voc (List A)) → starts firsts ts ≡ false
        → with_front front (items_at (n - i) x ts) ≡ total → total ≡ Ok (record { value = front; state = x; rest = ts })
    turn_ends i n front x ts total s so_far =
        sym so_far ∙ ap (with_front front) (each_stops voc firsts item (n - i) x ts s)
        ∙ ap (λ (v : List A). Ok (record { value = v; state = x; rest = ts })) (append-nil front)

    -- no turn is left
    pub turns_end : (i n : ℕ) (front : List A) (x : voc.state) (ts : List Terminal) (total : Outcome voc (List A)) → n ≤ i
        → with_front front (items_at (n - i) x ts) ≡ total → total ≡ Ok (record { value = front; state = x; rest = ts })
    turns_end i n front x ts total l so_far =
        let turns : n - i ≡ 0 = omega arith in
        sym so_far ∙ ap (λ k. with_front front (items_at k x ts)) turns
        ∙ ap (λ (v : List A). Ok (record { value = v; state = x; rest = ts })) (append-nil front)

  -- ---- items that a grammar reads

  module _ (R : (n : voc.nonterminal) → Reader voc (voc.denoted n)) {p : Lookahead} (g : Grammar voc p A) where
    abbrev pub some_item : Reader voc (Option A)
    some_item = read voc R (sequence g (λ a. empty (Some a)))

    pub item_read : (x : voc.state) (ts : List Terminal) (f : Reading voc A) → read voc R g x ts ≡ Ok f
        → some_item x ts ≡ Ok (record { value = Some f.value; state = f.state; rest = f.rest })
    item_read x ts f h = ap (λ o. and_then voc o (λ f. Ok (record { value = Some f.value; state = f.state; rest = f.rest }))) h

    pub item_fails : (x : voc.state) (ts : List Terminal) (e : Stop voc) → read voc R g x ts ≡ Err e → some_item x ts ≡ Err e
    item_fails x ts e h = ap (λ o. and_then voc o (λ f. Ok (record { value = Some f.value; state = f.state; rest = f.rest }))) h
