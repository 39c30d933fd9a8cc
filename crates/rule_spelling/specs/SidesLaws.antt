-- What the terms of each side keep, from one state to another: opcodes have their sources, and variables are numbered in order or bound.
use Rattle.std.specs.Prelude.{◌≡◌, refl, ℕ, suc, ◌+◌, ◌<◌, ◌≤◌, ℤ, Bool, true, false, not, ◌&&◌, cond, List, [], ◌∷◌, ◌++◌, length, nat_eq, nat_lt, Option, Some, None, Ok, Err, Result, is_none}
use Rattle.std.specs.List.{list_all, flat_map}
use Rattle.std.specs.Option.{option_map}
use Rattle.std.specs.Str.{bytes_eq}
use Rattle.std.proofs.Common.{sym, ap, ◌∙◌, subst, arith, inl, inr, ⊎_elim}
use Rattle.std.proofs.lemmas.Bool.{and_parts, and_from, eqb-true, eq-eqb, ltb-true, lt-ltb}
use Rattle.std.proofs.lemmas.Grind.{flat_map-append}
use Rattle.std.proofs.lemmas.List.{append-nil, length-append}
use Rattle.std.proofs.lemmas.List.Folds.{list_all-append}
use Rattle.list_laws.specs.BoolLaws.{chosen}
use Rattle.nir_ops.specs.declared.op.Op.{Op}
use Rattle.nir_ops.specs.declared.width.Width.{Width}
use Rattle.nir_ops.specs.Lookup.{op_named}
use Rattle.nir_ops.specs.Opcodes.{op_info}
use Rattle.rule_term.specs.declared.cond.Cond.{Cond}
use Rattle.rule_term.specs.Formed.{literal_formed, may_stand, numbered, replace_piece_formed, search_piece_formed}
use Rattle.rule_term.specs.Lists.{then as chained}
use Rattle.rule_term.specs.Pieces.{Piece, pieces, terms_count, var_of, op_of, vars_of, ops_of}
use Rattle.rule_term.specs.Splits.{pieces-then, terms_count-then}
use Rattle.rule_term.specs.Terms.{Terms, Nil, LitThen, AppThen}
use Rattle.grammar.specs.Terminals.{Terminal}
use Rattle.grammar.specs.Grammar.{named}
use Rattle.grammar.specs.Made.{Fact, Made}
use Rattle.grammar.specs.ChoiceLaws.{cond_false, cond_true, refuted}
use Rattle.grammar.specs.Words.{each_behind_comma_then_maybe_one, number_of}
use Rattle.rule_spelling.specs.Annotated.{Annotated, says}
use Rattle.rule_spelling.specs.Files.{Fault}
use Rattle.rule_spelling.specs.RuleFiles.{rule_files}
use Rattle.rule_spelling.specs.Tokens.{State, Place, Search, Replace, Taken, Head, and_said, bound_var, chain, closed, counted_op, is_once, is_plain, may_ask, named_op, named_var, number_taken, numbered_var, op_taken, place_of, var_taken, variable}

-- ---- numbers in order

pub either_way : (t e X Y X' Y' : Bool) → (X ≡ true → X' ≡ true) → (Y ≡ true → Y' ≡ true) → cond t X (e && Y) ≡ true → cond t X' (e && Y') ≡ true
either_way true e X Y X' Y' f g h = f h
either_way false e X Y X' Y' f g h = let parts = and_parts e Y h in and_from e Y' parts.0 (g parts.1)

pub numbered-append : (a b c : ℕ) (l m : List ℕ) → numbered a b l ≡ true → numbered b c m ≡ true → numbered a c (l ++ m) ≡ true
numbered-append a b c [] m h k = subst (λ n. numbered n c m ≡ true) (sym (eqb-true a b h)) k
numbered-append a b c (var ∷ l) m h k =
    either_way (nat_lt var a) (nat_eq var a) (numbered a b l) (numbered (suc a) b l) (numbered a c (l ++ m)) (numbered (suc a) c (l ++ m))
    (λ seen. numbered-append a b c l m seen k)
    (λ new. numbered-append (suc a) b c l m new k)
    h

-- ---- what terms of the search side keep

pub record Seeks (x : State) (terms : Terms) (y : State) : Type 0 where
  pub formed : list_all search_piece_formed (pieces terms) ≡ true
  pub ordered : numbered (length x.names) (length y.names) (vars_of terms) ≡ true
  pub counted : y.ops ≡ x.ops + length (ops_of terms)
  pub few_names : length x.names ≤ 16 → length y.names ≤ 16
  pub few_ops : x.ops ≤ 16 → y.ops ≤ 16

pub vars_of-then : (a b : Terms) → vars_of (chained a b) ≡ vars_of a ++ vars_of b
vars_of-then a b = ap (flat_map var_of) (pieces-then a b) ∙ flat_map-append var_of (pieces a) (pieces b)

pub ops_of-then : (a b : Terms) → ops_of (chained a b) ≡ ops_of a ++ ops_of b
ops_of-then a b = ap (flat_map op_of) (pieces-then a b) ∙ flat_map-append op_of (pieces a) (pieces b)

pub all_pieces : (test : Piece → Bool) (a b : Terms) → list_all test (pieces a) ≡ true → list_all test (pieces b) ≡ true
    → list_all test (pieces (chained a b)) ≡ true
all_pieces test a b h k =
    ap (list_all test) (pieces-then a b) ∙ list_all-append test (pieces a) (pieces b) ∙ and_from (list_all test (pieces a)) (list_all test (pieces b)) h k

pub ops_count : (a b : Terms) → length (ops_of (chained a b)) ≡ length (ops_of a) + length (ops_of b)
ops_count a b = ap length (ops_of-then a b) ∙ length-append (ops_of a) (ops_of b)

pub seeks_none : (x : State) → Seeks x Nil x
seeks_none x = record { formed = refl; ordered = eq-eqb (length x.names) (length x.names) refl; counted = omega arith; few_names = λ l. l; few_ops = λ l. l }

pub seeks_then : (x y z : State) (a b : Terms) → Seeks x a y → Seeks y b z → Seeks x (chained a b) z
seeks_then x y z a b first second =
    record {
      formed = all_pieces search_piece_formed a b first.formed second.formed;
      ordered =
          ap (numbered (length x.names) (length z.names)) (vars_of-then a b)
          ∙ numbered-append (length x.names) (length y.names) (length z.names) (vars_of a) (vars_of b) first.ordered second.ordered;
      counted = let one = first.counted in let two = second.counted in let both = ops_count a b in omega (arith, one, two, both);
      few_names = λ l. second.few_names (first.few_names l);
      few_ops = λ l. second.few_ops (first.few_ops l);
    }

-- ---- what terms of a replacement keep

pub record Puts (x : State) (terms : Terms) (y : State) : Type 0 where
  pub formed : list_all (replace_piece_formed (length x.names)) (pieces terms) ≡ true
  pub same : x.names ≡ y.names
  pub counted : y.ops ≡ x.ops + length (ops_of terms)
  pub few_ops : x.ops ≤ 16 → y.ops ≤ 16

pub puts_none : (x : State) → Puts x Nil x
puts_none x = record { formed = refl; same = refl; counted = omega arith; few_ops = λ l. l }

pub puts_then : (x y z : State) (a b : Terms) → Puts x a y → Puts y b z → Puts x (chained a b) z
puts_then x y z a b first second =
    record {
      formed =
          all_pieces (replace_piece_formed (length x.names)) a b first.formed
          (subst (λ names. list_all (replace_piece_formed (length names)) (pieces b) ≡ true) (sym first.same) second.formed);
      same = first.same ∙ second.same;
      counted = let one = first.counted in let two = second.counted in let both = ops_count a b in omega (arith, one, two, both);
      few_ops = λ l. second.few_ops (first.few_ops l);
    }

-- ---- sources

abbrev pub took_nothing : State → Taken (Unit {0})
took_nothing x = Ok (tt, x)

abbrev pub state_of : State → Taken (Unit {0}) → State
state_of x (Ok p) = p.1
state_of x (Err fault) = x

pub same_state : (x y : State) → took_nothing x ≡ took_nothing y → x ≡ y
same_state x y e = ap (state_of x) e

abbrev pub some_term : Terms → Option Terms
some_term term = Some term

pub same_term : (a b : Terms) → some_term a ≡ some_term b → a ≡ b
same_term a b e = cc

-- what is said of one term, and of several
module _ (place : Place) (Kept : State → Terms → State → Type 0) (none : (x : State) → Kept x Nil x)
    (both : (x y z : State) (a b : Terms) → Kept x a y → Kept y b z → Kept x (chained a b) z) (Named : (place : Place) → Fact rule_files Terms)
    (each : (x : State) (term : Terms) (y : State) → Named place x term y → (terms_count term ≡ 1) × Kept x term y) where
  pub sources_keep : (x : State) (args : List Terms) (y : State) → Made rule_files Named (each_behind_comma_then_maybe_one rule_files (named place)) x args y
      → (terms_count (chain args) ≡ length args) × Kept x (chain args) y
  sources_keep x [] y (inl same) = (refl, subst (Kept x Nil) same (none x))
  sources_keep x [] y (inr (mark, z, (t, is, taken), inl (term, w, made, is_last))) = absurd (let never = is_last.0 in cc)
  sources_keep x [] y (inr (mark, z, (t, is, taken), inr is_last)) = (refl, subst (Kept x Nil) (same_state x z taken ∙ is_last.1) (none x))
  sources_keep x (term ∷ others) y (w, (mark, z, (t, is, taken), inl (first, v, made, is_first)), rest) =
      let kept = each z first v made in
      let left = sources_keep w others y rest in
      let moved : Kept x term w = subst (λ x. Kept x term w) (sym (same_state x z taken))
      (subst (Kept z term) is_first.1 (subst (λ term. Kept z term v) (same_term first term is_first.0) kept.1)) in
      let one = ap terms_count (sym (same_term first term is_first.0)) in (
        terms_count-then term (chain others) ∙ (let alone = kept.0 in let count = left.0 in omega (arith, one, alone, count)),
        both x w y term
            (chain others) moved left.1,
      )
  sources_keep x (term ∷ others) y (w, (mark, z, (t, is, taken), inr is_last), rest) = absurd (let never = is_last.0 in cc)

-- ---- opcodes over sources

pub seeks_app : (x y z : State) (op : Op) (size : Option Width) (once : Bool) (args : Terms) → x.names ≡ y.names → y.ops ≡ suc x.ops → y.ops ≤ 16
    → may_stand op ≡ true → nat_eq (terms_count args) (length (op_info op).inputs) ≡ true → Seeks y args z → Seeks x (AppThen op size once args Nil) z
seeks_app x y z op size once args same next few may counts seeks =
    record {
      formed =
          and_from (may_stand op && nat_eq (terms_count args) (length (op_info op).inputs)) (list_all search_piece_formed (pieces args ++ []))
          (and_from (may_stand op) (nat_eq (terms_count args) (length (op_info op).inputs)) may counts)
          (ap (list_all search_piece_formed) (append-nil (pieces args)) ∙ seeks.formed);
      ordered =
          ap (λ l. numbered (length x.names) (length z.names) (flat_map var_of l)) (append-nil (pieces args))
          ∙ subst (λ names. numbered (length names) (length z.names) (vars_of args) ≡ true) (sym same) seeks.ordered;
      counted =
          let under = seeks.counted in
          let alone = ap (λ l. length (flat_map op_of l)) (append-nil (pieces args)) in
          omega (arith, under, next, alone);
      few_names = subst (λ names. length names ≤ 16 → length z.names ≤ 16) (sym same) seeks.few_names;
      few_ops = λ l. seeks.few_ops few;
    }

pub puts_app : (x y z : State) (op : Op) (size : Option Width) (args : Terms) → x.names ≡ y.names → y.ops ≡ suc x.ops → y.ops ≤ 16
    → may_stand op ≡ true → nat_eq (terms_count args) (length (op_info op).inputs) ≡ true → Puts y args z → Puts x (AppThen op size false args Nil) z
puts_app x y z op size args same next few may counts puts =
    record {
      formed =
          and_from (may_stand op && nat_eq (terms_count args) (length (op_info op).inputs) && true)
          (list_all (replace_piece_formed (length x.names)) (pieces args ++ []))
          (and_from (may_stand op && nat_eq (terms_count args) (length (op_info op).inputs)) true
          (and_from (may_stand op) (nat_eq (terms_count args) (length (op_info op).inputs)) may counts) refl)
          (ap (list_all (replace_piece_formed (length x.names))) (append-nil (pieces args))
          ∙ subst (λ names. list_all (replace_piece_formed (length names)) (pieces args) ≡ true) (sym same) puts.formed);
      same = same ∙ puts.same;
      counted =
          let under = puts.counted in
          let alone = ap (λ l. length (flat_map op_of l)) (append-nil (pieces args)) in
          omega (arith, under, next, alone);
      few_ops = λ l. puts.few_ops few;
    }

-- ---- what terminals say

abbrev pub took : {A : Type 0} → A × State → Taken A
took p = Ok p

pub took_is : {A : Type 0} (p q : A × State) → took p ≡ took q → p ≡ q
took_is p q e = cc

pub said_ok : {A : Type 0} (r : Result Annotated Fault) (k : Annotated → Taken A) (p : A × State) → and_said r k ≡ Ok p → (word : Annotated) × (k word ≡ Ok p)
said_ok (Ok word) k p e = (word, e)
said_ok (Err fault) k p e = absurd cc

-- an opcode of a side
pub record IsOp (x : State) (p : Head × State) : Type 0 where
  pub may : may_stand p.0.op ≡ true
  pub names : x.names ≡ p.1.names
  pub ops : p.1.ops ≡ suc x.ops
  pub few : p.1.ops ≤ 16

abbrev pub op_behind : State → Head → Head × State
op_behind x head = (head, record x { ops = suc x.ops })

pub counted_is : (x : State) (head : Head) (p : Head × State) → may_stand head.op ≡ true → nat_lt x.ops 16 ≡ true → took (op_behind x head) ≡ took p
    → IsOp x p × (p.0.once ≡ head.once)
counted_is x head p may few e =
    subst (λ p. IsOp x p × (p.0.once ≡ head.once)) (took_is (op_behind x head) p e)
    (record { may = may; names = refl; ops = refl; few = ltb-true x.ops 16 few }, refl)

pub counted_op_is : (x : State) (head : Head) (p : Head × State) → may_stand head.op ≡ true → counted_op x head ≡ Ok p → IsOp x p × (p.0.once ≡ head.once)
counted_op_is x head p may e =
    ⊎_elim (λ few. counted_is x head p may few.0 few.1) (λ many. absurd (let never = many.1 in cc)) (chosen (nat_lt x.ops 16) _ _ _ e)

pub named_seek : (x : State) (word : Annotated) (o : Option Op) (p : Head × State) → named_op Search x word o ≡ Ok p → IsOp x p
named_seek x word None p e = ⊎_elim (λ a. absurd (let never = a.1 in cc)) (λ b. absurd (let never = b.1 in cc)) (chosen (may_ask Search word) _ _ _ e)
named_seek x word (Some op) p e =
    ⊎_elim
    (λ stands.
    ⊎_elim
    (λ asks. (counted_op_is x (record { op = op; size = word.size; once = is_once word.cond }) p stands.0 asks.1).0)
    (λ no_more. absurd (let never = no_more.1 in cc))
    (chosen (may_ask Search word) _ _ _ stands.1))
    (λ excluded. absurd (let never = excluded.1 in cc))
    (chosen (may_stand op) _ _ _ e)

pub never_once : (cond : Option Cond) → is_none cond ≡ true → is_once cond ≡ false
never_once None e = refl
never_once (Some cond) e = absurd cc

pub named_put : (x : State) (word : Annotated) (o : Option Op) (p : Head × State) → named_op Replace x word o ≡ Ok p → IsOp x p × (p.0.once ≡ false)
named_put x word None p e = ⊎_elim (λ a. absurd (let never = a.1 in cc)) (λ b. absurd (let never = b.1 in cc)) (chosen (may_ask Replace word) _ _ _ e)
named_put x word (Some op) p e =
    ⊎_elim
    (λ stands.
    ⊎_elim
    (λ asks.
    let is = counted_op_is x (record { op = op; size = word.size; once = is_once word.cond }) p stands.0 asks.1 in
    (is.0, is.1 ∙ never_once word.cond (and_parts (not word.constant) (is_none word.cond) asks.0).1))
    (λ no_more. absurd (let never = no_more.1 in cc))
    (chosen (may_ask Replace word) _ _ _ stands.1))
    (λ excluded. absurd (let never = excluded.1 in cc))
    (chosen (may_stand op) _ _ _ e)

pub op_seek : (x : State) (t : Terminal) (p : Head × State) → op_taken Search x t ≡ Ok p → IsOp x p
unfolding op_taken
op_seek x t p e =
    let word = said_ok (says t) (λ word. named_op Search x word (op_named word.name)) p e in
    named_seek x word.0 (op_named word.0.name) p word.1

pub op_put : (x : State) (t : Terminal) (p : Head × State) → op_taken Replace x t ≡ Ok p → IsOp x p × (p.0.once ≡ false)
unfolding op_taken
op_put x t p e =
    let word = said_ok (says t) (λ word. named_op Replace x word (op_named word.name)) p e in
    named_put x word.0 (op_named word.0.name) p word.1

abbrev pub app_of : Head → List Terms → Terms
app_of head args = AppThen head.op head.size head.once (chain args) Nil

pub closed_is : (head : Head) (args : List Terms) (x : State) (t : Terminal) (p : Terms × State) → closed head args x t ≡ Ok p
    → (nat_eq (length args) (length (op_info head.op).inputs) ≡ true) × ((app_of head args, x) ≡ p)
unfolding closed
closed_is head args x t p e =
    ⊎_elim (λ right. (right.0, took_is (app_of head args, x) p right.1)) (λ wrong. absurd (let never = wrong.1 in cc))
    (chosen (nat_eq (length args) (length (op_info head.op).inputs)) _ _ _ e)

-- a number that a side has
pub number_is : (x : State) (t : Terminal) (p : Terms × State) → number_taken x t ≡ Ok p
    → (literal_formed (number_of t.kind) false ≡ true) × ((LitThen (number_of t.kind) false Nil, x) ≡ p)
unfolding number_taken
number_is x t p e =
    ⊎_elim (λ right. (right.0, took_is (LitThen (number_of t.kind) false Nil, x) p right.1)) (λ wrong. absurd (let never = wrong.1 in cc))
    (chosen (literal_formed (number_of t.kind) false) _ _ _ e)

pub seeks_lit : (x : State) (value : ℤ) (boolean : Bool) → literal_formed value boolean ≡ true → Seeks x (LitThen value boolean Nil) x
seeks_lit x value boolean formed =
    record {
      formed = and_from (literal_formed value boolean) true formed refl;
      ordered = eq-eqb (length x.names) (length x.names) refl;
      counted = omega arith;
      few_names = λ l. l;
      few_ops = λ l. l;
    }

pub puts_lit : (x : State) (value : ℤ) (boolean : Bool) → literal_formed value boolean ≡ true → Puts x (LitThen value boolean Nil) x
puts_lit x value boolean formed =
    record { formed = and_from (literal_formed value boolean) true formed refl; same = refl; counted = omega arith; few_ops = λ l. l }

-- ---- variables

abbrev pub some : ℕ → Option ℕ
some n = Some n

pub some_is : (m n : ℕ) → some m ≡ some n → m ≡ n
some_is m n e = cc

pub below_later : (o : Option ℕ) (size place : ℕ) → ((n : ℕ) → o ≡ Some n → n < size) → option_map suc o ≡ Some place → place < suc size
below_later None size place known e = absurd cc
below_later (Some n) size place known e = let same = some_is (suc n) place e in let below = known n refl in omega (arith, same, below)

pub place_below : (name : List ℕ) (names : List (List ℕ)) (place : ℕ) → place_of name names ≡ Some place → place < length names
place_below name [] place e = absurd cc
place_below name (other ∷ names) place e =
    ⊎_elim
    (λ here. let same = some_is 0 place here.1 in omega (arith, same))
    (λ there. below_later (place_of name names) (length names) place (λ n h. place_below name names n h) there.1)
    (chosen (bytes_eq other name) _ _ _ e)

pub seeks_old : (x : State) (word : Annotated) (var : ℕ) → var < length x.names → Seeks x (variable word var) x
seeks_old x word var below =
    record {
      formed = refl;
      ordered = cond_true (nat_lt var (length x.names)) _ _ _ (lt-ltb var (length x.names) below) (eq-eqb (length x.names) (length x.names) refl);
      counted = omega arith;
      few_names = λ l. l;
      few_ops = λ l. l;
    }

abbrev pub with_name : State → List ℕ → State
with_name x name = record x { names = x.names ++ name ∷ [] }

pub seeks_new : (x : State) (word : Annotated) → nat_lt (length x.names) 16 ≡ true → Seeks x (variable word (length x.names)) (with_name x word.name)
seeks_new x word few =
    let longer : length (x.names ++ word.name ∷ []) ≡ length x.names + 1 = length-append x.names (word.name ∷ []) in
    record {
      formed = refl;
      ordered =
          cond_false (nat_lt (length x.names) (length x.names)) _ _ _
          (refuted (nat_lt (length x.names) (length x.names)) (λ less. let l = ltb-true (length x.names) (length x.names) less in omega (arith, l)))
          (and_from (nat_eq (length x.names) (length x.names)) (nat_eq (suc (length x.names)) (length (x.names ++ word.name ∷ [])))
          (eq-eqb (length x.names) (length x.names) refl)
          (eq-eqb (suc (length x.names)) (length (x.names ++ word.name ∷ [])) (omega (arith, longer))));
      counted = omega arith;
      few_names = λ l. let less = ltb-true (length x.names) 16 few in omega (arith, longer, less);
      few_ops = λ l. l;
    }

pub var_numbered : (x : State) (word : Annotated) (o : Option ℕ) (p : Terms × State) → place_of word.name x.names ≡ o → numbered_var x word o ≡ Ok p
    → (terms_count p.0 ≡ 1) × Seeks x p.0 p.1
var_numbered x word (Some var) p h e =
    subst (λ p. (terms_count p.0 ≡ 1) × Seeks x p.0 p.1) (took_is (variable word var, x) p e)
    (refl, seeks_old x word var (place_below word.name x.names var h))
var_numbered x word None p h e =
    ⊎_elim
    (λ few. subst (λ p. (terms_count p.0 ≡ 1) × Seeks x p.0 p.1) (took_is (variable word (length x.names), with_name x word.name) p few.1)
    (refl, seeks_new x word few.0))
    (λ many. absurd (let never = many.1 in cc))
    (chosen (nat_lt (length x.names) 16) _ _ _ e)

pub var_seek : (x : State) (t : Terminal) (p : Terms × State) → var_taken Search x t ≡ Ok p → (terms_count p.0 ≡ 1) × Seeks x p.0 p.1
unfolding var_taken
var_seek x t p e =
    let word = said_ok (says t) (λ word. named_var Search x word) p e in
    var_numbered x word.0 (place_of word.0.name x.names) p refl word.1

pub plain_formed : (vars var : ℕ) (word : Annotated) → is_plain word ≡ true → var < vars
    → list_all (replace_piece_formed vars) (pieces (variable word var)) ≡ true
plain_formed vars var word plain below =
    let parts = and_parts (not word.constant) (is_none word.size && is_none word.cond) plain in
    let more = and_parts (is_none word.size) (is_none word.cond) parts.1 in
    and_from (nat_lt var vars && not word.constant && is_none word.size && is_none word.cond) true
    (and_from (nat_lt var vars && not word.constant && is_none word.size) (is_none word.cond)
    (and_from (nat_lt var vars && not word.constant) (is_none word.size)
    (and_from (nat_lt var vars) (not word.constant) (lt-ltb var vars below) parts.0)
    more.0)
    more.1)
    refl

pub var_bound : (x : State) (word : Annotated) (o : Option ℕ) (p : Terms × State) → is_plain word ≡ true → place_of word.name x.names ≡ o
    → bound_var x word o ≡ Ok p
    → (terms_count p.0 ≡ 1) × Puts x p.0 p.1
var_bound x word None p plain h e = absurd cc
var_bound x word (Some var) p plain h e =
    subst (λ p. (terms_count p.0 ≡ 1) × Puts x p.0 p.1) (took_is (variable word var, x) p e) (
      refl,
      record {
        formed = plain_formed (length x.names) var word plain
            (place_below word.name x.names var h);
        same = refl;
        counted = omega arith;
        few_ops = λ l. l;
      },
    )

pub var_put : (x : State) (t : Terminal) (p : Terms × State) → var_taken Replace x t ≡ Ok p → (terms_count p.0 ≡ 1) × Puts x p.0 p.1
unfolding var_taken
var_put x t p e =
    let word = said_ok (says t) (λ word. named_var Replace x word) p e in
    ⊎_elim (λ plain. var_bound x word.0 (place_of word.0.name x.names) p plain.0 refl plain.1) (λ not_plain. absurd (let never = not_plain.1 in cc))
    (chosen (is_plain word.0) _ _ _ word.1)
