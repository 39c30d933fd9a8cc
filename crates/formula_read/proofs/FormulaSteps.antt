-- Steps of the reader of formulas: nonterminals by their depth, operators one after another, and the boxes of the code.
use Rattle.std.proofs.Common.{◌≡◌, ◌≢◌, ◌||◌, ⊎_elim, ℕ, suc, ◌+◌, ◌-◌, ◌<◌, ◌≤◌, true, false, cond, nat_le, length, List, [], ◌∷◌, Option, Some, None, Ok, Err, refl, sym, ap, ◌∙◌, subst, arith}
use Rattle.std.specs.Prelude.{Box}
use Rattle.std.proofs.lemmas.List.{length-map}
use Rattle.std.specs.declared.alloc.Global.{Global}
use Rattle.grammar.specs.Terminals.{Terminal, Class, TheMark, has, starts}
use Rattle.grammar.specs.Reading.{Reading, Stop, Outcome, Reader, and_then, at_end, ended, item_then, read, read_deep, read_each, read_to}
use Rattle.grammar.specs.ChoiceLaws.{cond_true}
use Rattle.grammar.specs.Grammar.{Grammar, empty}
use Rattle.grammar.specs.Lookahead.{Lookahead}
use Rattle.grammar.specs.Words.{◌>>=◌, ◌>>◌, mark}
use Rattle.list_laws.specs.BoolLaws.{chosen}
use Rattle.std.specs.Option.{option_map}
use Rattle.grammar.specs.CompleteLaws.{each_stops}
use Rattle.rule_term.specs.declared.when.When.{When, roll-When, fold-roll-When}
use Rattle.rule_term.specs.declared.when.When.TheVariants as when
use Rattle.rule_term.specs.declared.when.When.TheOpen as layer
use Rattle.rule_spelling.specs.Formula.{Formula, Has, Not, Both, Either, Part, Whole, Operand, conjunction, disjunction, operand, formula_of, formula_of_terminals, formulas, option, productions, sign, terminals_from, value_of}
use Rattle.formula_read.specs.declared.parse.Unread.{Unread}
use Rattle.formula_read.specs.declared.parse.Unread.TheVariants.{Malformed, OutOfMemory}
use Rattle.formula_read.specs.Formulas.{Stops, Fails, behind_mark, joined_to, chain_of, layer_says, terminal, terminals, when_says}
use Rattle.formula_read.specs.declared.formula_text.Sign.{Sign}
use Rattle.formula_read.specs.FormulaParts.{closed_to, conjunction_to, disjunction_to, nested_to, not_to, operand_to, part_to, with_and, with_or}

abbrev some_list : List Terminal → Option (List Terminal)
some_list ts = Some ts

same_list : (ts us : List Terminal) → some_list ts ≡ some_list us → ts ≡ us
same_list ts us e = cc

-- ---- depths

pub nested_none : (part : Part) (depth : ℕ) (ts : List Terminal) → depth ≡ 0 → Stops (nested_to part depth ts)
unfolding nested_to
nested_none part depth ts e = subst (λ d. Stops (read_to formulas productions d part tt ts)) (sym e) tt

pub nested_operand : (depth : ℕ) (ts : List Terminal) → depth ≢ 0 → nested_to Operand depth ts ≡ operand_to (depth - 1) ts
unfolding nested_to operand_to
nested_operand depth ts e = let same : depth ≡ suc (depth - 1) = omega arith in ap (λ d. read_to formulas productions d Operand tt ts) same

pub nested_formula : (depth : ℕ) (ts : List Terminal) → depth ≢ 0 → nested_to Whole depth ts ≡ disjunction_to (depth - 1) ts
unfolding nested_to disjunction_to
nested_formula depth ts e = let same : depth ≡ suc (depth - 1) = omega arith in ap (λ d. read_to formulas productions d Whole tt ts) same

-- ---- parts that are not read

stops : (part whole : Outcome formulas Formula) → ((e : Stop formulas) → part ≡ Err e → whole ≡ Err e) → Stops part → Stops whole
stops (Ok f) whole h s = absurd s
stops (Err e) whole h s = subst Stops (sym (h e refl)) tt

pub fails : (unread : Unread) (part whole : Outcome formulas Formula) → ((e : Stop formulas) → part ≡ Err e → whole ≡ Err e) → Fails unread part → Fails unread whole
fails Malformed part whole h s = stops part whole h s
fails OutOfMemory part whole h s = tt

-- ---- operators one after another

module _ (join : Formula → Formula → Formula) (firsts : List Class) (item : Reader formulas (Option Formula)) where
  abbrev before : Formula → Reading formulas (List Formula) → Outcome formulas (List Formula)
  before a g = Ok (record { value = a ∷ g.value; state = g.state; rest = g.rest })

  regroup : (left a : Formula) (o : Outcome formulas (List Formula))
      → and_then formulas (and_then formulas o (before a)) (joined_to join left) ≡ and_then formulas o (joined_to join (join left a))
  regroup left a (Ok f) = refl
  regroup left a (Err e) = refl

  one_turn : (i n : ℕ) (left : Formula) (ts : List Terminal) (o : Outcome formulas (Option Formula)) → i < n → starts firsts ts ≡ true → item tt ts ≡ o
      → chain_of join firsts item (n - i) left ts
      ≡ and_then formulas (and_then formulas o (λ f. item_then formulas f.value f (read_each formulas firsts item (n - (i + 1))))) (joined_to join left)
  one_turn i n left ts o l s h =
      let turns : n - i ≡ suc (n - (i + 1)) = omega arith in
      ap (λ k. chain_of join firsts item k left ts) turns
      ∙ ap (λ o. and_then formulas o (joined_to join left))
      (cond_true (starts firsts ts) _ _ _ s
      (ap (λ o. and_then formulas o (λ f. item_then formulas f.value f (read_each formulas firsts item (n - (i + 1))))) h))

  pub chain_goes : (i n : ℕ) (left : Formula) (ts us : List Terminal) (a : Formula) → i < n → starts firsts ts ≡ true
      → item tt ts ≡ Ok (record { value = Some a; state = tt; rest = us })
      → chain_of join firsts item (n - i) left ts ≡ chain_of join firsts item (n - (i + 1)) (join left a) us
  chain_goes i n left ts us a l s h =
      one_turn i n left ts (Ok (record { value = Some a; state = tt; rest = us })) l s h
      ∙ regroup left a (read_each formulas firsts item (n - (i + 1)) tt us)

  pub chain_fails : (i n : ℕ) (left : Formula) (ts : List Terminal) (e : Stop formulas) → i < n → starts firsts ts ≡ true → item tt ts ≡ Err e
      → chain_of join firsts item (n - i) left ts ≡ Err e
  chain_fails i n left ts e l s h = one_turn i n left ts (Err e) l s h

  pub chain_ends : (turns : ℕ) (left : Formula) (ts : List Terminal) → starts firsts ts ≡ false
      → chain_of join firsts item turns left ts ≡ Ok (record { value = left; state = tt; rest = ts })
  chain_ends turns left ts s = ap (λ o. and_then formulas o (joined_to join left)) (each_stops formulas firsts item turns tt ts s)

  pub turns_end : (i n : ℕ) (left : Formula) (ts : List Terminal) → n ≤ i
      → chain_of join firsts item (n - i) left ts ≡ Ok (record { value = left; state = tt; rest = ts })
  turns_end i n left ts l = let none : n - i ≡ 0 = omega arith in ap (λ k. chain_of join firsts item k left ts) none

-- ---- what stands behind an operator

behind_is : (byte : ℕ) (ts behind : List Terminal) → Some behind ≡ behind_mark byte ts
    → (first : Terminal) × (ts ≡ first ∷ behind) × (has (TheMark byte) first ≡ true)
behind_is byte [] behind e = absurd cc
behind_is byte (first ∷ rest) behind e =
    ⊎_elim
    (λ is. (first, ap (λ rest. first ∷ rest) (same_list rest behind is.1), is.0))
    (λ other. absurd (let never = other.1 in cc))
    (chosen (has (TheMark byte) first) (Some rest) None (Some behind) (sym e))

nothing_behind : (byte : ℕ) (ts : List Terminal) → None ≡ behind_mark byte ts → starts (TheMark byte ∷ []) ts ≡ false
nothing_behind byte [] e = refl
nothing_behind byte (first ∷ rest) e =
    ⊎_elim
    (λ is. absurd (let never = is.1 in cc))
    (λ other. ap (λ b. b || false) other.0)
    (chosen (has (TheMark byte) first) (Some rest) None None (sym e))

module _ (byte : ℕ) (join : Formula → Formula → Formula) {p : Lookahead} (g : Grammar formulas p Formula) (depth : ℕ) where
  abbrev marked : Reader formulas (Option Formula)
  marked x ts = part_to (mark formulas byte >> g >>= λ a. empty (Some a)) depth ts

  abbrev chain : ℕ → Formula → List Terminal → Outcome formulas Formula
  chain turns left ts = chain_of join (TheMark byte ∷ []) marked turns left ts

  marked_is : (first : Terminal) (behind : List Terminal) → has (TheMark byte) first ≡ true
      → marked tt (first ∷ behind) ≡ and_then formulas (part_to g depth behind) (λ f. Ok (record { value = Some f.value; state = f.state; rest = f.rest }))
  marked_is first behind is = rw is refl

  begun_is : (first : Terminal) (behind : List Terminal) → has (TheMark byte) first ≡ true → starts (TheMark byte ∷ []) (first ∷ behind) ≡ true
  begun_is first behind is = ap (λ b. b || false) is

  pub joined_goes : (i n : ℕ) (left : Formula) (ts behind us : List Terminal) (a : Formula) → i < n → Some behind ≡ behind_mark byte ts
      → part_to g depth behind ≡ Ok (record { value = a; state = tt; rest = us }) → chain (n - i) left ts ≡ chain (n - (i + 1)) (join left a) us
  joined_goes i n left ts behind us a l e read =
      let is = behind_is byte ts behind e in
      ap (chain (n - i) left) is.1
      ∙ chain_goes join (TheMark byte ∷ []) marked i n left (is.0 ∷ behind) us a l (begun_is is.0 behind is.2)
      (marked_is is.0 behind is.2 ∙ ap (λ o. and_then formulas o (λ f. Ok (record { value = Some f.value; state = f.state; rest = f.rest }))) read)

  pub joined_fails : (i n : ℕ) (left : Formula) (ts behind : List Terminal) (stop : Stop formulas) → i < n → Some behind ≡ behind_mark byte ts
      → part_to g depth behind ≡ Err stop → chain (n - i) left ts ≡ Err stop
  joined_fails i n left ts behind stop l e read =
      let is = behind_is byte ts behind e in
      ap (chain (n - i) left) is.1
      ∙ chain_fails join (TheMark byte ∷ []) marked i n left (is.0 ∷ behind) stop l (begun_is is.0 behind is.2)
      (marked_is is.0 behind is.2 ∙ ap (λ o. and_then formulas o (λ f. Ok (record { value = Some f.value; state = f.state; rest = f.rest }))) read)

  pub joined_ends : (turns : ℕ) (left : Formula) (ts : List Terminal) → None ≡ behind_mark byte ts
      → chain turns left ts ≡ Ok (record { value = left; state = tt; rest = ts })
  joined_ends turns left ts e = chain_ends join (TheMark byte ∷ []) marked turns left ts (nothing_behind byte ts e)

  pub joined_turns_end : (i n : ℕ) (left : Formula) (ts : List Terminal) → n ≤ i → chain (n - i) left ts ≡ Ok (record { value = left; state = tt; rest = ts })
  joined_turns_end i n left ts l = turns_end join (TheMark byte ∷ []) marked i n left ts l

-- ---- `&&` and `||`

pub and_goes : (depth i n : ℕ) (left : Formula) (ts behind us : List Terminal) (a : Formula) → i < n → Some behind ≡ behind_mark 38 ts
    → operand_to depth behind ≡ Ok (record { value = a; state = tt; rest = us }) → with_and depth (n - i) left ts ≡ with_and depth (n - (i + 1)) (Both left a) us
unfolding with_and operand_to
and_goes depth i n left ts behind us a l e read = joined_goes 38 Both operand depth i n left ts behind us a l e read

pub and_fails : (depth i n : ℕ) (left : Formula) (ts behind : List Terminal) (stop : Stop formulas) → i < n → Some behind ≡ behind_mark 38 ts
    → operand_to depth behind ≡ Err stop → with_and depth (n - i) left ts ≡ Err stop
unfolding with_and operand_to
and_fails depth i n left ts behind stop l e read = joined_fails 38 Both operand depth i n left ts behind stop l e read

pub and_ends : (depth turns : ℕ) (left : Formula) (ts : List Terminal) → None ≡ behind_mark 38 ts
    → with_and depth turns left ts ≡ Ok (record { value = left; state = tt; rest = ts })
unfolding with_and
and_ends depth turns left ts e = joined_ends 38 Both operand depth turns left ts e

pub and_turns_end : (depth i n : ℕ) (left : Formula) (ts : List Terminal) → n ≤ i → with_and depth (n - i) left ts ≡ Ok (record { value = left; state = tt; rest = ts })
unfolding with_and
and_turns_end depth i n left ts l = joined_turns_end 38 Both operand depth i n left ts l

pub or_goes : (depth i n : ℕ) (left : Formula) (ts behind us : List Terminal) (a : Formula) → i < n → Some behind ≡ behind_mark 124 ts
    → conjunction_to depth behind ≡ Ok (record { value = a; state = tt; rest = us }) → with_or depth (n - i) left ts ≡ with_or depth (n - (i + 1)) (Either left a) us
unfolding with_or conjunction_to
or_goes depth i n left ts behind us a l e read = joined_goes 124 Either conjunction depth i n left ts behind us a l e read

pub or_fails : (depth i n : ℕ) (left : Formula) (ts behind : List Terminal) (stop : Stop formulas) → i < n → Some behind ≡ behind_mark 124 ts
    → conjunction_to depth behind ≡ Err stop → with_or depth (n - i) left ts ≡ Err stop
unfolding with_or conjunction_to
or_fails depth i n left ts behind stop l e read = joined_fails 124 Either conjunction depth i n left ts behind stop l e read

pub or_ends : (depth turns : ℕ) (left : Formula) (ts : List Terminal) → None ≡ behind_mark 124 ts
    → with_or depth turns left ts ≡ Ok (record { value = left; state = tt; rest = ts })
unfolding with_or
or_ends depth turns left ts e = joined_ends 124 Either conjunction depth turns left ts e

pub or_turns_end : (depth i n : ℕ) (left : Formula) (ts : List Terminal) → n ≤ i → with_or depth (n - i) left ts ≡ Ok (record { value = left; state = tt; rest = ts })
unfolding with_or
or_turns_end depth i n left ts l = joined_turns_end 124 Either conjunction depth i n left ts l

-- ---- the boxes of the code

pub has_says : (name : List ℕ) → when_says (when.Has name) ≡ Has name
unfolding when_says roll-When denote.Hole.Carrier.roll
has_says name = fold-roll-When Formula layer_says (layer.Has name)

pub not_says : (inner : Box When Global) → when_says (when.Not inner) ≡ Not (when_says inner.value)
unfolding when_says roll-When denote.Hole.Carrier.roll
not_says inner = fold-roll-When Formula layer_says (layer.Not inner)

pub both_says : (left right : Box When Global) → when_says (when.Both left right) ≡ Both (when_says left.value) (when_says right.value)
unfolding when_says roll-When denote.Hole.Carrier.roll
both_says left right = fold-roll-When Formula layer_says (layer.Both left right)

pub either_says : (left right : Box When Global) → when_says (when.Either left right) ≡ Either (when_says left.value) (when_says right.value)
unfolding when_says roll-When denote.Hole.Carrier.roll
either_says left right = fold-roll-When Formula layer_says (layer.Either left right)

-- ---- operands, by their first terminals

pub operand_not : (depth : ℕ) (ts : List Terminal) → operand_to depth (sign 33 ∷ ts) ≡ not_to depth ts
unfolding operand_to not_to nested_to
operand_not depth ts = refl

pub operand_open : (depth : ℕ) (ts : List Terminal) → operand_to depth (sign 40 ∷ ts) ≡ closed_to depth ts
unfolding operand_to closed_to nested_to
operand_open depth ts = refl

pub operand_name : (depth : ℕ) (name : List ℕ) (ts : List Terminal) → operand_to depth (option name ∷ ts) ≡ Ok (record { value = Has name; state = tt; rest = ts })
unfolding operand_to
operand_name depth name ts = refl

pub operand_end : (depth : ℕ) → Stops (operand_to depth [])
unfolding operand_to
operand_end depth = tt

pub operand_close : (depth : ℕ) (ts : List Terminal) → Stops (operand_to depth (sign 41 ∷ ts))
unfolding operand_to
operand_close depth ts = tt

pub operand_and : (depth : ℕ) (ts : List Terminal) → Stops (operand_to depth (sign 38 ∷ ts))
unfolding operand_to
operand_and depth ts = tt

pub operand_or : (depth : ℕ) (ts : List Terminal) → Stops (operand_to depth (sign 124 ∷ ts))
unfolding operand_to
operand_or depth ts = tt

pub ruleset operand_steps = (operand_not, operand_open, operand_name, operand_end, operand_close, operand_and, operand_or)

-- ---- whole texts

abbrev pub whole_value : List Terminal → Option Formula
whole_value ts = value_of (read_deep formulas productions disjunction tt ts)

abbrev read_gave : Formula → List Terminal → Outcome formulas Formula
read_gave a rest = Ok (record { value = a; state = tt; rest = rest })

of_end : (depth : ℕ) (ts : List Terminal) → depth ≡ suc (length ts) → whole_value ts ≡ value_of (ended formulas (disjunction_to depth ts))
unfolding disjunction_to
of_end depth ts e = ap (λ d. value_of (ended formulas (read formulas (read_to formulas productions d) disjunction tt ts))) (sym e)

pub whole_ends : (depth : ℕ) (ts rest : List Terminal) (a : Formula) → depth ≡ suc (length ts) → disjunction_to depth ts ≡ Ok (record { value = a; state = tt; rest = rest })
    → rest ≡ [] → Some a ≡ whole_value ts
whole_ends depth ts rest a e read none =
    sym (of_end depth ts e ∙ ap (λ o. value_of (ended formulas o)) read ∙ ap (λ rest. value_of (at_end formulas a tt rest)) none)

pub whole_goes_on : (depth : ℕ) (ts us : List Terminal) (u : Terminal) (a : Formula) → depth ≡ suc (length ts)
    → disjunction_to depth ts ≡ Ok (record { value = a; state = tt; rest = u ∷ us }) → None ≡ whole_value ts
whole_goes_on depth ts us u a e read = sym (of_end depth ts e ∙ ap (λ o. value_of (ended formulas o)) read)

deep_enough : (signs : List Sign) → length signs + 1 ≡ suc (length (terminals signs))
deep_enough signs = let size = length-map signs terminal in omega (arith, size)

pub nothing_left : (signs : List Sign) (rest : List Terminal) (a : Formula)
    → disjunction_to (length signs + 1) (terminals signs) ≡ Ok (record { value = a; state = tt; rest = rest }) → rest ≡ [] → Some a ≡ whole_value (terminals signs)
nothing_left signs rest a read none = whole_ends (length signs + 1) (terminals signs) rest a (deep_enough signs) read none

pub more_left : (signs : List Sign) (u : Terminal) (rest us : List Terminal) (a : Formula)
    → disjunction_to (length signs + 1) (terminals signs) ≡ Ok (record { value = a; state = tt; rest = rest }) → rest ≡ u ∷ us → None ≡ whole_value (terminals signs)
more_left signs u rest us a read more =
    whole_goes_on (length signs + 1) (terminals signs) us u a (deep_enough signs)
    (read ∙ ap (λ rest. read_gave a rest) more)

nothing_of : (o : Outcome formulas Formula) → Stops o → value_of (ended formulas o) ≡ None
nothing_of (Ok read) s = absurd s
nothing_of (Err stop) s = refl

pub whole_stops : (depth : ℕ) (ts : List Terminal) → depth ≡ suc (length ts) → Stops (disjunction_to depth ts) → None ≡ whole_value ts
whole_stops depth ts e s = sym (of_end depth ts e ∙ nothing_of (disjunction_to depth ts) s)

pub whole_fails : (unread : Unread) (depth : ℕ) (ts : List Terminal) → depth ≡ suc (length ts) → unread ≡ Malformed → Fails unread (disjunction_to depth ts)
    → None ≡ whole_value ts
whole_fails unread depth ts e is s = whole_stops depth ts e (subst (λ unread. Fails unread (disjunction_to depth ts)) is s)

pub signs_are : (o : Option (List Sign)) (signs list : List Sign) (total : Option (List Terminal)) → o ≡ Some signs → list ≡ signs
    → option_map terminals o ≡ total → Some (terminals list) ≡ total
signs_are o signs list total is same all = ap (λ list. Some (terminals list)) same ∙ ap (option_map terminals) (sym is) ∙ all

pub formula_is : (text : List ℕ) (ts : List Terminal) → nat_le (length text) 256 ≡ true → Some ts ≡ terminals_from 0 text → whole_value ts ≡ formula_of text
unfolding formula_of
formula_is text ts few are =
    sym (ap (λ small. cond small (formula_of_terminals (terminals_from 0 text)) None) few ∙ ap formula_of_terminals (sym are))
