-- The rules of a text are numbered from 0, and no opcode is weighed twice: what no other terminal changes of the state.
use Rattle.std.specs.Prelude.{◌≡◌, ◌≤◌, ◌<◌, refl, ℕ, suc, ℤ, pos, negsuc, true, false, ◌||◌, List, [], ◌∷◌, ◌++◌, length, nat_eq, nat_le, nat_lt, IfSome, Option, Some, None, Ok, Err, Result, codes, ◌+◌}
use Rattle.std.specs.List.{AllByRecursion}
use Rattle.std.specs.Str.{bytes_eq}
use Rattle.std.proofs.Common.{sym, ap, ◌∙◌, subst, inl, inr, ⊎_elim}
use Rattle.std.proofs.lemmas.Bool.{both_ways, leb-true, ltb-true, or_left, or_parts, or_right}
use Rattle.std.proofs.lemmas.Slice.Eq.{bytes_eq-Decides}
use Rattle.list_laws.specs.AllLaws.{all_each}
use Rattle.list_laws.specs.BoolLaws.{chosen}
use Rattle.nir_ops.specs.declared.op.Op.{Op}
use Rattle.nir_ops.specs.Opcodes.{name_of, op_info}
use Rattle.nir_ops.specs.Lookup.{op_named}
use Rattle.nir_ops.specs.Names.{op_named-named}
use Rattle.rule_term.specs.Formed.{is_mov, literal_formed, may_stand}
use Rattle.rule_term.specs.Terms.{Terms}
use Rattle.grammar.specs.Terminals.{Terminal, TheMark, is_among}
use Rattle.grammar.specs.Lookahead.{Lookahead}
use Rattle.grammar.specs.Grammar.{Grammar, terminal}
use Rattle.grammar.specs.Made.{Fact, Made}
use Rattle.grammar.specs.MadeLaws.{text_made}
use Rattle.grammar.specs.RespectsLaws.{Respects, made_keeps}
use Rattle.grammar.specs.Words.{each_behind_comma_then_maybe_one, given, listed, maybe_none, number_of}
use Rattle.rule_spelling.specs.Annotated.{Annotated, says, unquoted}
use Rattle.rule_spelling.specs.Files.{Binding, Fault, Item, AWeight, ARule, ALine, AreNumbered, AreWeights, IsOther, entries_of, weights_of}
use Rattle.rule_spelling.specs.Formula.{Formula, formula_of}
use Rattle.rule_spelling.specs.Laws.{RulesAreNumbered, WeightsAreGood}
use Rattle.rule_spelling.specs.RuleFiles.{IsFile, app, expr, options, rule, evidence, item, file, in_brackets, index, literal, proof, step, law, calc, log_step, reading, bound_to, binding, bindings, others_behind, behind_rev, productions, rule_files}
use Rattle.rule_spelling.specs.Text.{terminals_of}
use Rattle.rule_spelling.specs.Tokens.{State, none_read, Place, Search, Replace, Evidence, Taken, Head, and_said, bound_var, closed, counted_op, evidence_begun, formula_taken, is_plain, may_ask, named_op, named_var, number_taken, numbered_var, op_taken, or_bad_option, place_of, rule_begun, rule_ended, side_begun, var_taken, variants_of, weighed_op, weighed_taken, weight_of, weight_taken}

-- the rules and the weighed opcodes stay the same
abbrev pub Stays : State → State → Type 0
Stays x y = (x.rules ≡ y.rules) × (x.weighed ≡ y.weighed)

self : (x : State) → Stays x x
self x = (refl, refl)

on : (x y z : State) → Stays x y → Stays y z → Stays x z
on x y z first second = (first.0 ∙ second.0, first.1 ∙ second.1)

abbrev took : {A : Type 0} → A × State → Taken A
took p = Ok p

took_is : {A : Type 0} (p q : A × State) → took p ≡ took q → p ≡ q
took_is p q e = cc

gave : {A : Type 0} (x : State) (q p : A × State) → Stays x q.1 → took q ≡ took p → Stays x p.1
gave x q p stays e = subst (λ p. Stays x p.1) (took_is q p e) stays

-- ---- terminals

any_stays : {A : Type 0} (a : A) (x : State) (p : A × State) → took (a, x) ≡ took p → Stays x p.1
any_stays a x p e = gave x (a, x) p (self x) e

given_stays : {A : Type 0} (fault : Fault) (x : State) (o : Option A) (p : A × State) → given fault x o ≡ Ok p → Stays x p.1
given_stays fault x None p e = absurd cc
given_stays fault x (Some a) p e = any_stays a x p e

said_stays : {A : Type 0} (x : State) (r : Result Annotated Fault) (k : Annotated → Taken A) (p : A × State)
    → ((word : Annotated) → k word ≡ Ok p → Stays x p.1)
    → and_said r k ≡ Ok p → Stays x p.1
said_stays x (Ok word) k p stays e = stays word e
said_stays x (Err fault) k p stays e = absurd cc

counted_stays : (x : State) (head : Head) (p : Head × State) → counted_op x head ≡ Ok p → Stays x p.1
counted_stays x head p e =
    ⊎_elim (λ few. gave x (head, record x { ops = suc x.ops }) p (refl, refl) few.1) (λ many. absurd (let never = many.1 in cc))
    (chosen (nat_lt x.ops 16) _ _ _ e)

named_stays : (place : Place) (x : State) (word : Annotated) (o : Option Op) (p : Head × State) → named_op place x word o ≡ Ok p → Stays x p.1
named_stays place x word None p e = ⊎_elim (λ a. absurd (let never = a.1 in cc)) (λ b. absurd (let never = b.1 in cc)) (chosen (may_ask place word) _ _ _ e)
named_stays place x word (Some op) p e =
    ⊎_elim
    (λ stands. ⊎_elim (λ asks. counted_stays x _ p asks.1) (λ never. absurd (let no_more = never.1 in cc)) (chosen (may_ask place word) _ _ _ stands.1))
    (λ excluded. absurd (let never = excluded.1 in cc))
    (chosen (may_stand op) _ _ _ e)

op_stays : (place : Place) (x : State) (t : Terminal) (p : Head × State) → op_taken place x t ≡ Ok p → Stays x p.1
unfolding op_taken
op_stays place x t p e =
    said_stays x (says t) (λ word. named_op place x word (op_named word.name)) p (λ word. named_stays place x word (op_named word.name) p) e

closed_stays : (head : Head) (args : List Terms) (x : State) (t : Terminal) (p : Terms × State) → closed head args x t ≡ Ok p → Stays x p.1
unfolding closed
closed_stays head args x t p e =
    ⊎_elim (λ right. any_stays _ x p right.1) (λ wrong. absurd (let never = wrong.1 in cc))
    (chosen (nat_eq (length args) (length (op_info head.op).inputs)) _ _ _ e)

number_stays : (x : State) (t : Terminal) (p : Terms × State) → number_taken x t ≡ Ok p → Stays x p.1
unfolding number_taken
number_stays x t p e =
    ⊎_elim (λ right. any_stays _ x p right.1) (λ wrong. absurd (let never = wrong.1 in cc)) (chosen (literal_formed (number_of t.kind) false) _ _ _ e)

numbered_stays : (x : State) (word : Annotated) (o : Option ℕ) (p : Terms × State) → numbered_var x word o ≡ Ok p → Stays x p.1
numbered_stays x word (Some var) p e = any_stays _ x p e
numbered_stays x word None p e =
    ⊎_elim (λ few. gave x (_, record x { names = x.names ++ word.name ∷ [] }) p (refl, refl) few.1) (λ many. absurd (let never = many.1 in cc))
    (chosen (nat_lt (length x.names) 16) _ _ _ e)

bound_stays : (x : State) (word : Annotated) (o : Option ℕ) (p : Terms × State) → bound_var x word o ≡ Ok p → Stays x p.1
bound_stays x word (Some var) p e = any_stays _ x p e
bound_stays x word None p e = absurd cc

named_var_stays : (place : Place) (x : State) (word : Annotated) (p : Terms × State) → named_var place x word ≡ Ok p → Stays x p.1
named_var_stays Search x word p e = numbered_stays x word (place_of word.name x.names) p e
named_var_stays Replace x word p e =
    ⊎_elim (λ plain. bound_stays x word (place_of word.name x.names) p plain.1) (λ other. absurd (let never = other.1 in cc)) (chosen (is_plain word) _ _ _ e)
named_var_stays Evidence x word p e =
    ⊎_elim (λ plain. bound_stays x word (place_of word.name x.names) p plain.1) (λ other. absurd (let never = other.1 in cc)) (chosen (is_plain word) _ _ _ e)

var_stays : (place : Place) (x : State) (t : Terminal) (p : Terms × State) → var_taken place x t ≡ Ok p → Stays x p.1
unfolding var_taken
var_stays place x t p e = said_stays x (says t) (λ word. named_var place x word) p (λ word. named_var_stays place x word p) e

formula_found : (x : State) (o : Option Formula) (p : Formula × State) → or_bad_option x o ≡ Ok p → Stays x p.1
formula_found x None p e = absurd cc
formula_found x (Some formula) p e = any_stays formula x p e

formula_stays : (x : State) (t : Terminal) (p : Formula × State) → formula_taken x t ≡ Ok p → Stays x p.1
unfolding formula_taken
formula_stays x t p e = formula_found x (formula_of (unquoted t.text)) p e

begun_stays : (x : State) (t : Terminal) (p : (Unit {0}) × State) → rule_begun x t ≡ Ok p → Stays x p.1
unfolding rule_begun
begun_stays x t p e =
    ⊎_elim (λ few. gave x (tt, record x { names = []; ops = 0 }) p (refl, refl) few.1) (λ many. absurd (let never = many.1 in cc))
    (chosen (nat_lt x.rules 4096) _ _ _ e)

side_stays : (x : State) (t : Terminal) (p : (Unit {0}) × State) → side_begun x t ≡ Ok p → Stays x p.1
unfolding side_begun
side_stays x t p e = gave x (tt, record x { ops = 0 }) p (refl, refl) e

evidence_stays : (x : State) (t : Terminal) (p : (Unit {0}) × State) → evidence_begun x t ≡ Ok p → Stays x p.1
unfolding evidence_begun
evidence_stays x t p e = ⊎_elim (λ some. any_stays tt x p some.1) (λ none. absurd (let never = none.1 in cc)) (chosen (nat_lt 0 x.rules) _ _ _ e)

-- ---- parts

abbrev Same : {p : Lookahead} {A : Type 0} → Grammar rule_files p A → Type 0
Same g = Respects rule_files Stays g

any_same : (x : State) (t : Terminal) (p : (Unit {0}) × State) → took (tt, x) ≡ took p → Stays x p.1
any_same x t p e = any_stays tt x p e

bytes_same : (x : State) (t : Terminal) (p : List ℕ × State) → took (t.text, x) ≡ took p → Stays x p.1
bytes_same x t p e = any_stays t.text x p e

index_same : Same index
index_same x t p e = given_stays _ x _ p e

literal_same : Same literal
literal_same x t p e = given_stays _ x _ p e

brackets_same : {p : Lookahead} {A : Type 0} (g : Grammar rule_files p A) → Same g → Same (in_brackets g)
brackets_same g r = (any_same, λ _. (((r, λ first. ((any_same, λ _. (r, λ a. tt)), λ others. tt)), tt), λ all. (any_same, λ _. tt)))

app_same : (place : Place) → Same (app place)
app_same place = (any_same, λ _. ((op_stays place, op_stays place), λ head. ((any_same, λ _. ((tt, λ a. tt), tt)), λ args. closed_stays head args)))

expr_same : (place : Place) → Same (expr place)
expr_same place = (app_same place, (var_stays place, (var_stays place, (number_stays, ((λ x t p e. any_stays _ x p e), (λ x t p e. any_stays _ x p e))))))

options_same : Same options
options_same = ((any_same, λ _. ((formula_stays, λ formula. ((any_same, tt), λ _. tt)), tt)), tt)

bound_same : (name : List ℕ) → Same (bound_to name)
bound_same name = ((side_stays, λ _. tt), λ with. tt)

binding_same : Same binding
binding_same = (bytes_same, λ name. bound_same name)

bindings_same : Same bindings
bindings_same = (any_same, λ _. (binding_same, λ a. tt))

others_same : (first : Binding) → Same (others_behind first)
others_same first = (bindings_same, λ others. tt)

behind_rev_same : Same behind_rev
behind_rev_same = ((bound_same (codes "rev"), others_same), (bindings_same, λ all. tt))

reading_same : Same reading
reading_same = ((any_same, λ _. ((any_same, λ _. behind_rev_same), ((bytes_same, λ name. bound_same name), others_same))), tt)

law_same : Same law
law_same = (index_same, λ number. (any_same, λ _. (brackets_same index index_same, λ path. (reading_same, λ taken. tt))))

calc_same : Same calc
calc_same = (any_same, λ _. (any_same, λ _. (brackets_same index index_same, λ path. (side_stays, λ _. (tt, λ with. tt)))))

step_same : Same step
step_same = (any_same, λ _. ((law_same, calc_same), λ a. (any_same, λ _. tt)))

log_step_same : Same log_step
log_step_same = (
  any_same,
  λ _. (
    (brackets_same literal literal_same, λ clause. (any_same, λ _. (brackets_same index index_same, λ hints. tt))),
    λ a. (any_same, λ _. tt),
  ),
)

proof_same : Same proof
proof_same = (
  (any_same, λ _. tt),
  (
    ((any_same, λ _. brackets_same step step_same), λ steps. tt),
    ((any_same, λ _. brackets_same log_step log_step_same), λ steps. tt),
  ),
)

evidence_same : Same evidence
evidence_same = (evidence_stays, λ _. (((any_same, λ _. tt), (index_same, λ number. tt)), λ typing. (proof_same, λ shown. tt)))

-- ---- items

-- each term keeps it
abbrev pub Keeping : (place : Place) → Fact rule_files Terms
Keeping place x term y = Stays x y

keeps : {p : Lookahead} {A : Type 0} (g : Grammar rule_files p A) → Same g → (x : State) (a : A) (y : State) → Made rule_files Keeping g x a y → Stays x y
keeps g same x a y made = made_keeps rule_files Stays self on Keeping (λ place x term y kept. kept) g same x a y made

pub terms_keep : (place : Place) (x : State) (term : Terms) (y : State) → Made rule_files Keeping (productions place) x term y → Keeping place x term y
terms_keep place x term y made = keeps (expr place) (expr_same place) x term y made

-- how many rules there are before an item and behind it, and which opcodes were weighed
abbrev ItemKeeps : State → Item → State → Type 0
ItemKeeps x (AWeight op weight) y =
    (x.rules ≡ y.rules) × (is_mov op ≡ false) × (weight ≤ 60) × (is_among (name_of op) x.weighed ≡ false) × (y.weighed ≡ name_of op ∷ x.weighed)
ItemKeeps x (ARule read) y = (read.number ≡ x.rules) × (y.rules ≡ suc x.rules) × (x.weighed ≡ y.weighed)
ItemKeeps x (ALine line) y = Stays x y

abbrev ItemsKeep : State → List Item → Type 0
ItemsKeep x [] = Unit {0}
ItemsKeep x (item ∷ items) = (y : State) × ItemKeeps x item y × ItemsKeep y items

numbers : (x : State) (items : List Item) → ItemsKeep x items → AreNumbered x.rules (entries_of items)
numbers x [] kept = tt
numbers x (AWeight op weight ∷ items) kept = subst (λ n. AreNumbered n (entries_of items)) (sym kept.1.0) (numbers kept.0 items kept.2)
numbers x (ARule read ∷ items) kept = (kept.1.0, subst (λ n. AreNumbered n (entries_of items)) kept.1.1 (numbers kept.0 items kept.2))
numbers x (ALine line ∷ items) kept = subst (λ n. AreNumbered n (entries_of items)) (sym kept.1.0) (numbers kept.0 items kept.2)

-- no opcode that was weighed is weighed later
not_again : (name : List ℕ) (x : State) (items : List Item) → is_among name x.weighed ≡ true → ItemsKeep x items
    → AllByRecursion (λ line. name_of line.op ≡ name → ⊥) (weights_of items)
not_again name x [] was kept = tt
not_again name x (AWeight op weight ∷ items) was kept = (
  λ same. both_ways (is_among name x.weighed) (subst (λ other. is_among other x.weighed ≡ false) same kept.1.3) was,
  not_again name kept.0 items
      (subst (λ names. is_among name names ≡ true) (sym kept.1.4) (or_right (bytes_eq name (name_of op)) (is_among name x.weighed) was))
      kept.2,
)
not_again name x (ARule read ∷ items) was kept = not_again name kept.0 items (subst (λ names. is_among name names ≡ true) kept.1.2 was) kept.2
not_again name x (ALine line ∷ items) was kept = not_again name kept.0 items (subst (λ names. is_among name names ≡ true) kept.1.1 was) kept.2

weights : (x : State) (items : List Item) → ItemsKeep x items → AreWeights (weights_of items)
weights x [] kept = tt
weights x (AWeight op weight ∷ items) kept =
    let name = name_of op in
    let is_there : is_among name (name ∷ x.weighed) ≡ true =
    or_left (bytes_eq name name) (is_among name x.weighed) ((bytes_eq-Decides name name).1 refl) in (
      kept.1.1,
      kept.1.2,
      all_each (λ line. name_of line.op ≡ name → ⊥) (IsOther (record { op = op; weight = weight })) (λ line apart same. apart (ap name_of same))
          (weights_of items)
          (not_again name kept.0 items (subst (λ names. is_among name names ≡ true) (sym kept.1.4) is_there) kept.2),
      weights kept.0 items kept.2,
    )
weights x (ARule read ∷ items) kept = weights kept.0 items kept.2
weights x (ALine line ∷ items) kept = weights kept.0 items kept.2

-- ---- rules and weights

ended_keeps : (search replace : Terms) (formula : Formula) (x : State) (t : Terminal) (p : Item × State) → rule_ended search replace formula x t ≡ Ok p
    → ItemKeeps x p.0 p.1
unfolding rule_ended
ended_keeps search replace formula x t p e =
    ⊎_elim
    (λ few. subst (λ (p : Item × State). ItemKeeps x p.0 p.1) (took_is _ p few.1) (refl, refl, refl))
    (λ many. absurd (let never = many.1 in cc))
    (chosen (nat_le (x.variants + variants_of search) 65536) _ _ _ e)

-- an item behind other terminals that keep all
behind : (x y z : State) (a : Item) → Stays x y → ItemKeeps y a z → ItemKeeps x a z
behind x y z (AWeight op weight) stays kept = (
  stays.0 ∙ kept.0,
  kept.1,
  kept.2,
  subst (λ names. is_among (name_of op) names ≡ false) (sym stays.1) kept.3,
  kept.4 ∙ ap (λ names. name_of op ∷ names) (sym stays.1),
)
behind x y z (ARule read) stays kept = (kept.0 ∙ sym stays.0, kept.1 ∙ ap suc (sym stays.0), stays.1 ∙ kept.2)
behind x y z (ALine line) stays kept = on x y z stays kept

-- before the end of the rule is read
before_end : (x x1 x2 x3 x4 x5 : State) (search replace : Terms) (formula : Formula)
    → Made rule_files Keeping (terminal (TheMark 40) rule_begun) x tt x1 → Made rule_files Keeping (app Search) x1 search x2
    → Made rule_files Keeping (terminal (TheMark 44) side_begun) x2 tt x3 → Keeping Replace x3 replace x4 → Made rule_files Keeping options x4 formula x5
    → Stays x x5
before_end x x1 x2 x3 x4 x5 search replace formula (t, is, begun) sought (t', is', side) put options_made =
    let start = begun_stays x t (tt, x1) begun in
    let first = keeps (app Search) (app_same Search) x1 search x2 sought in
    let other = side_stays x2 t' (tt, x3) side in
    let last = keeps options options_same x4 formula x5 options_made in
    on x x1 x5 start (on x1 x2 x5 first (on x2 x3 x5 other (on x3 x4 x5 put last)))

begun_few : (x : State) (t : Terminal) (p : (Unit {0}) × State) → rule_begun x t ≡ Ok p → x.rules < 4096
unfolding rule_begun
begun_few x t p e = ⊎_elim (λ few. ltb-true x.rules 4096 few.0) (λ many. absurd (let never = many.1 in cc)) (chosen (nat_lt x.rules 4096) _ _ _ e)

-- there is room for one more rule
pub rules_few : (x x1 x2 x3 x4 x5 : State) (search replace : Terms) (formula : Formula)
    → Made rule_files Keeping (terminal (TheMark 40) rule_begun) x tt x1 → Made rule_files Keeping (app Search) x1 search x2
    → Made rule_files Keeping (terminal (TheMark 44) side_begun) x2 tt x3 → Keeping Replace x3 replace x4 → Made rule_files Keeping options x4 formula x5
    → x5.rules < 4096
rules_few x x1 x2 x3 x4 x5 search replace formula begun sought side put options_made =
    subst (λ n. n < 4096) (before_end x x1 x2 x3 x4 x5 search replace formula begun sought side put options_made).0 (begun_few x begun.0 (tt, x1) begun.2)

rule_keeps : (x : State) (a : Item) (y : State) → Made rule_files Keeping rule x a y → ItemKeeps x a y
rule_keeps x a y (mark, x1, begun, (search, x2, sought, (comma, x3, side, (replace, x4, put, (formula, x5, options_made, (t, is, ended)))))) =
    behind x x5 y a (before_end x x1 x2 x3 x4 x5 search replace formula begun sought side put options_made)
    (ended_keeps search replace formula x5 t (a, y) ended)

-- an opcode that is weighed
abbrev Weighs : State → Op × State → Type 0
Weighs x p = (x.rules ≡ p.1.rules) × (is_mov p.0 ≡ false) × (is_among (name_of p.0) x.weighed ≡ false) × (p.1.weighed ≡ name_of p.0 ∷ x.weighed)

some_op : (name : List ℕ) (o : Option Op) (op : Op) → o ≡ Some op → IfSome o (λ op. name_of op ≡ name) → name_of op ≡ name
some_op name o op e named = subst (λ o. IfSome o (λ op. name_of op ≡ name)) e named

weighed_op_is : (x : State) (name : List ℕ) (o : Option Op) (p : Op × State) → op_named name ≡ o → weighed_op x name o ≡ Ok p → Weighs x p
weighed_op_is x name None p h e = absurd cc
weighed_op_is x name (Some op) p h e =
    let same : name_of op ≡ name = some_op name (op_named name) op h (op_named-named name) in
    ⊎_elim
    (λ bad. absurd (let never = bad.1 in cc))
    (λ good.
    let parts = or_parts (is_mov op) (is_among name x.weighed) good.0 in
    subst (Weighs x) (took_is (op, record x { weighed = name ∷ x.weighed }) p good.1)
    (refl, parts.0, subst (λ other. is_among other x.weighed ≡ false) (sym same) parts.1, ap (λ other. other ∷ x.weighed) (sym same)))
    (chosen (is_mov op || is_among name x.weighed) _ _ _ e)

weighed_is : (x : State) (t : Terminal) (p : Op × State) → weighed_taken x t ≡ Ok p → Weighs x p
unfolding weighed_taken
weighed_is x t p e = weighed_op_is x t.text (op_named t.text) p refl e

weight_of_is : (x : State) (n : ℤ) (p : ℕ × State) → weight_of x n ≡ Ok p → (p.0 ≤ 60) × Stays x p.1
weight_of_is x (pos n) p e =
    ⊎_elim
    (λ few. subst (λ (p : ℕ × State). (p.0 ≤ 60) × Stays x p.1) (took_is (n, x) p few.1) (leb-true n 60 few.0, self x))
    (λ many. absurd (let never = many.1 in cc))
    (chosen (nat_le n 60) _ _ _ e)
weight_of_is x (negsuc n) p e = absurd cc

weight_is : (x : State) (t : Terminal) (p : ℕ × State) → weight_taken x t ≡ Ok p → (p.0 ≤ 60) × Stays x p.1
unfolding weight_taken
weight_is x t p e = weight_of_is x (number_of t.kind) p e

-- ---- items

item_keeps : (x : State) (a : Item) (y : State) → Made rule_files Keeping item x a y → ItemKeeps x a y
item_keeps x a y (inl (word, x1, (t, is, word_made), (op, x2, (t', is', op_made), (number, x3, (t'', is'', number_made), end)))) =
    let weighs = weighed_is x1 t' (op, x2) op_made in
    let weight = weight_is x2 t'' (number, x3) number_made in
    let kept : ItemKeeps x1 (AWeight op number) x3 = (
      weighs.0 ∙ weight.1.0,
      weighs.1,
      weight.0,
      weighs.2,
      sym weight.1.1 ∙ weighs.3,
    ) in
    behind x x1 y a (any_stays tt x (word, x1) word_made) (subst (λ a. ItemKeeps x1 a y) end.0 (subst (ItemKeeps x1 (AWeight op number)) end.1 kept))
item_keeps x a y (inr (inl made)) = rule_keeps x a y made
item_keeps x a y (inr (inr made)) = line_keeps a made
  where
    line_keeps : (a : Item) → Made rule_files Keeping evidence x a y → ItemKeeps x a y
    line_keeps a made =
        let stays = keeps evidence evidence_same x a y made in
        let end = made.3.3.3 in
        subst (λ a. ItemKeeps x a y) end.0 stays

abbrev some_item : Item → Option Item
some_item item = Some item

same_item : (a b : Item) → some_item a ≡ some_item b → a ≡ b
same_item a b e = cc

others_keep : (x : State) (items : List Item) (y : State) → Made rule_files Keeping (each_behind_comma_then_maybe_one rule_files item) x items y
    → ItemsKeep x items
others_keep x [] y made = tt
others_keep x (a ∷ others) y (w, (mark, z, (t, is, taken), inl (first, v, made, is_first)), rest) =
    let here : ItemKeeps z a v = subst (λ a. ItemKeeps z a v) (same_item first a is_first.0) (item_keeps z first v made) in
    (w, subst (ItemKeeps x a) is_first.1 (behind x z v a (any_stays tt x (mark, z) taken) here), others_keep w others y rest)
others_keep x (a ∷ others) y (w, (mark, z, mark_made, inr is_last), rest) = absurd (let never = is_last.0 in cc)

listed_keep : (x : State) (items : List Item) (y : State) → Made rule_files Keeping (maybe_none rule_files (listed rule_files item)) x items y
    → ItemsKeep x items
listed_keep x items y (inl (first, x1, first_made, (others, x2, others_made, end))) =
    subst (ItemsKeep x) end.0 (x1, item_keeps x first x1 first_made, others_keep x1 others x2 others_made)
listed_keep x items y (inr end) = subst (ItemsKeep x) end.0 tt

-- the items of a file follow a state in which nothing was read
file_keeps : (items : List Item) (z : State) (ts : List Terminal) → IsFile items z ts → (x : State) × Stays none_read x × ItemsKeep x items
unfolding IsFile
file_keeps items z ts is = go (text_made rule_files productions Keeping terms_keep file is.0 none_read items z ts is.1)
  where
    go : Made rule_files Keeping file none_read items z → (x : State) × Stays none_read x × ItemsKeep x items
    go (all, x, (opening, x1, (t, is', taken), (inner, x2, inner_made, (closing, x3, closing_made, whole))), (ending, x4, end_made, end)) =
        (x1, any_stays tt none_read (opening, x1) taken, subst (ItemsKeep x1) (whole.0 ∙ end.0) (listed_keep x1 inner x2 inner_made))

pub file_numbered : (items : List Item) (z : State) (ts : List Terminal) → IsFile items z ts → AreNumbered 0 (entries_of items)
file_numbered items z ts is =
    let kept = file_keeps items z ts is in
    subst (λ n. AreNumbered n (entries_of items)) (sym kept.1.0) (numbers kept.0 items kept.2)

pub file_weighed : (items : List Item) (z : State) (ts : List Terminal) → IsFile items z ts → AreWeights (weights_of items)
file_weighed items z ts is = let kept = file_keeps items z ts is in weights kept.0 items kept.2

pub rules_are_numbered : RulesAreNumbered
rules_are_numbered text items says = file_numbered items says.state (terminals_of text says.tokens) says.spelled

pub weights_are_good : WeightsAreGood
weights_are_good text items says = file_weighed items says.state (terminals_of text says.tokens) says.spelled
