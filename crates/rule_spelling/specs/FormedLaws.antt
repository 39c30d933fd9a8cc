-- Each rule that a text says is formed: an opcode is sought, opcodes have their sources, variables are numbered in order, and the replacement has no other.
use Rattle.std.specs.Prelude.{◌≡◌, refl, ℕ, ◌+◌, pos, true, false, ◌&&◌, List, [], ◌∷◌, length, nat_eq, nat_le, nat_lt, Option, Some, None, Ok, is_none}
use Rattle.std.specs.List.{AllByRecursion, list_all}
use Rattle.std.proofs.Common.{sym, ap, ◌∙◌, subst, arith, inl, inr, ⊎_elim}
use Rattle.std.proofs.lemmas.Bool.{and_from, eq-eqb, le-leb}
use Rattle.list_laws.specs.AllLaws.{all_each}
use Rattle.list_laws.specs.BoolLaws.{chosen}
use Rattle.nir_ops.specs.Opcodes.{op_info}
use Rattle.rule_term.specs.Formed.{is_application, numbered, replace_piece_formed, search_piece_formed}
use Rattle.rule_term.specs.FormedTest.{FormedIsTested, replace_formed, search_formed, sides_formed}
use Rattle.rule_term.specs.Pieces.{pieces, terms_count, vars_of, ops_of}
use Rattle.rule_term.specs.Terms.{Terms, Nil, LitThen, AppThen}
use Rattle.grammar.specs.Grammar.{terminal}
use Rattle.grammar.specs.Terminals.{Terminal, TheMark}
use Rattle.grammar.specs.Made.{Fact, Made}
use Rattle.grammar.specs.MadeLaws.{read_made, text_made}
use Rattle.grammar.specs.Reading.{Reading, read, read_to}
use Rattle.grammar.specs.Words.{each_behind_comma_then_maybe_one, listed, maybe_none, number_of}
use Rattle.rule_spelling.specs.Annotated.{says, unquoted}
use Rattle.rule_spelling.specs.Files.{Item, AWeight, ARule, ALine}
use Rattle.rule_spelling.specs.Formula.{Formula, formula_of}
use Rattle.rule_spelling.specs.Laws.{IsFormedItem, RulesAreFormed}
use Rattle.rule_spelling.specs.RuleFiles.{IsFile, app, file, item, maybe_comma, options, productions, rule, rule_files}
use Rattle.rule_spelling.specs.Text.{terminals_of}
use Rattle.rule_spelling.specs.Tokens.{State, none_read, Place, Search, Replace, Evidence, formula_taken, or_bad_option, rule_begun, rule_ended, side_begun, variants_of, chain}
use Rattle.rule_spelling.specs.SidesLaws.{sources_keep, Seeks, seeks_none, seeks_then, Puts, puts_none, puts_then, same_state, seeks_app, puts_app, took_is, IsOp, op_seek, op_put, app_of, closed_is, number_is, seeks_lit, puts_lit, var_seek, var_put}

-- ---- terms

-- what is known of each term, by where it stands
abbrev pub Known : (place : Place) → Fact rule_files Terms
Known Search x term y = (terms_count term ≡ 1) × Seeks x term y
Known Replace x term y = (terms_count term ≡ 1) × Puts x term y
Known Evidence x term y = Unit {0}

abbrev pub IsSought : State → Terms → State → Type 0
IsSought x term y = (is_application term ≡ true) × (terms_count term ≡ 1) × Seeks x term y

app_seeks : (x : State) (term : Terms) (y : State) → Made rule_files Known (app Search) x term y → IsSought x term y
app_seeks x term y (mark, x1, (t, is, taken), (head, x2, op_made, (args, x3, args_made, (t', is', closed_made)))) =
    let op : IsOp x1 (head, x2) = ⊎_elim (λ made. op_seek x1 made.0 (head, x2) made.2) (λ made. op_seek x1 made.0 (head, x2) made.2) op_made in
    let kept = sources_keep Search Seeks seeks_none seeks_then Known (λ x term y known. known) x2 args x3 args_made in
    let end = closed_is head args x3 t' (term, y) closed_made in
    let counts = ap (λ n. nat_eq n (length (op_info head.op).inputs)) kept.0 ∙ end.0 in
    let whole = seeks_app x1 x2 x3 head.op head.size head.once (chain args) op.names op.ops op.few op.may counts kept.1 in
    subst (λ p. IsSought x p.0 p.1) end.1
    (refl, refl, subst (λ x. Seeks x (app_of head args) x3) (sym (same_state x x1 taken)) whole)

app_puts : (x : State) (term : Terms) (y : State) → Made rule_files Known (app Replace) x term y → (terms_count term ≡ 1) × Puts x term y
app_puts x term y (mark, x1, (t, is, taken), (head, x2, op_made, (args, x3, args_made, (t', is', closed_made)))) =
    let found : IsOp x1 (head, x2) × (head.once ≡ false) = ⊎_elim (λ made. op_put x1 made.0 (head, x2) made.2)
    (λ made. op_put x1 made.0 (head, x2) made.2) op_made in
    let op = found.0 in
    let kept = sources_keep Replace Puts puts_none puts_then Known (λ x term y known. known) x2 args x3 args_made in
    let end = closed_is head args x3 t' (term, y) closed_made in
    let counts = ap (λ n. nat_eq n (length (op_info head.op).inputs)) kept.0 ∙ end.0 in
    let whole = puts_app x1 x2 x3 head.op head.size (chain args) op.names op.ops op.few op.may counts kept.1 in
    let marked = subst (λ once. Puts x1 (AppThen head.op head.size once (chain args) Nil) x3) (sym found.1) whole in
    subst (λ p. (terms_count p.0 ≡ 1) × Puts x p.0 p.1) end.1
    (refl, subst (λ x. Puts x (app_of head args) x3) (sym (same_state x x1 taken)) marked)

pub terms_known : (place : Place) (x : State) (term : Terms) (y : State) → Made rule_files Known (productions place) x term y → Known place x term y
terms_known Search x term y (inl made) = let is = app_seeks x term y made in (is.1, is.2)
terms_known Search x term y (inr (inl (t, is, taken))) = var_seek x t (term, y) taken
terms_known Search x term y (inr (inr (inl (t, is, taken)))) = var_seek x t (term, y) taken
terms_known Search x term y (inr (inr (inr (inl (t, is, taken))))) =
    let number = number_is x t (term, y) taken in
    subst (λ p. (terms_count p.0 ≡ 1) × Seeks x p.0 p.1) number.1 (refl, seeks_lit x (number_of t.kind) false number.0)
terms_known Search x term y (inr (inr (inr (inr (inl (t, is, taken)))))) =
    subst (λ p. (terms_count p.0 ≡ 1) × Seeks x p.0 p.1) (took_is (LitThen (pos 1) true Nil, x) (term, y) taken) (refl, seeks_lit x (pos 1) true refl)
terms_known Search x term y (inr (inr (inr (inr (inr (t, is, taken)))))) =
    subst (λ p. (terms_count p.0 ≡ 1) × Seeks x p.0 p.1) (took_is (LitThen (pos 0) true Nil, x) (term, y) taken) (refl, seeks_lit x (pos 0) true refl)
terms_known Replace x term y (inl made) = app_puts x term y made
terms_known Replace x term y (inr (inl (t, is, taken))) = var_put x t (term, y) taken
terms_known Replace x term y (inr (inr (inl (t, is, taken)))) = var_put x t (term, y) taken
terms_known Replace x term y (inr (inr (inr (inl (t, is, taken))))) =
    let number = number_is x t (term, y) taken in
    subst (λ p. (terms_count p.0 ≡ 1) × Puts x p.0 p.1) number.1 (refl, puts_lit x (number_of t.kind) false number.0)
terms_known Replace x term y (inr (inr (inr (inr (inl (t, is, taken)))))) =
    subst (λ p. (terms_count p.0 ≡ 1) × Puts x p.0 p.1) (took_is (LitThen (pos 1) true Nil, x) (term, y) taken) (refl, puts_lit x (pos 1) true refl)
terms_known Replace x term y (inr (inr (inr (inr (inr (t, is, taken)))))) =
    subst (λ p. (terms_count p.0 ≡ 1) × Puts x p.0 p.1) (took_is (LitThen (pos 0) true Nil, x) (term, y) taken) (refl, puts_lit x (pos 0) true refl)
terms_known Evidence x term y made = tt

-- ---- rules

abbrev pub PassesTest : Item → Type 0
PassesTest (AWeight op weight) = Unit {0}
PassesTest (ARule rule) = sides_formed rule.vars rule.search rule.replace ≡ true
PassesTest (ALine line) = Unit {0}

formula_is : (x : State) (o : Option Formula) (p : Formula × State) → or_bad_option x o ≡ Ok p → x ≡ p.1
formula_is x None p e = absurd cc
formula_is x (Some formula) p e = ap (λ (p : Formula × State). p.1) (took_is (formula, x) p e)

formula_keeps : (x : State) (t : Terminal) (p : Formula × State) → formula_taken x t ≡ Ok p → x ≡ p.1
unfolding formula_taken
formula_keeps x t p e = formula_is x (formula_of (unquoted t.text)) p e

comma_keeps : (x : State) (a : Unit {0}) (y : State) → Made rule_files Known maybe_comma x a y → x ≡ y
comma_keeps x a y (inl (t, is, taken)) = ap (λ (p : (Unit {0}) × State). p.1) (took_is (tt, x) (a, y) taken)
comma_keeps x a y (inr is_none) = is_none.1

options_keep : (x : State) (formula : Formula) (y : State) → Made rule_files Known options x formula y → x ≡ y
options_keep x formula y (inl (mark, x1, (t, is, taken), inl (found, x2, (t', is', formula_made), (comma, x3, comma_made, end)))) =
    same_state x x1 taken ∙ formula_keeps x1 t' (found, x2) formula_made ∙ comma_keeps x2 comma x3 comma_made ∙ end.1
options_keep x formula y (inl (mark, x1, (t, is, taken), inr end)) = same_state x x1 taken ∙ end.1
options_keep x formula y (inr end) = end.1

begun_is : (x : State) (t : Terminal) (p : (Unit {0}) × State) → rule_begun x t ≡ Ok p → (length p.1.names ≡ 0) × (p.1.ops ≡ 0)
unfolding rule_begun
begun_is x t p e =
    ⊎_elim
    (λ few. subst (λ (p : (Unit {0}) × State). (length p.1.names ≡ 0) × (p.1.ops ≡ 0)) (took_is (tt, record x { names = []; ops = 0 }) p few.1) (refl, refl))
    (λ many. absurd (let never = many.1 in cc))
    (chosen (nat_lt x.rules 4096) _ _ _ e)

side_is : (x : State) (t : Terminal) (p : (Unit {0}) × State) → side_begun x t ≡ Ok p → (x.names ≡ p.1.names) × (p.1.ops ≡ 0)
unfolding side_begun
side_is x t p e = subst (λ (p : (Unit {0}) × State). (x.names ≡ p.1.names) × (p.1.ops ≡ 0)) (took_is (tt, record x { ops = 0 }) p e) (refl, refl)

ended_is : (search replace : Terms) (formula : Formula) (x : State) (t : Terminal) (p : Item × State) → rule_ended search replace formula x t ≡ Ok p
    → sides_formed (length x.names) search replace ≡ true → PassesTest p.0
unfolding rule_ended
ended_is search replace formula x t p e formed =
    ⊎_elim
    (λ few. subst (λ (p : Item × State). PassesTest p.0) (took_is _ p few.1) formed)
    (λ many. absurd (let never = many.1 in cc))
    (chosen (nat_le (x.variants + variants_of search) 65536) _ _ _ e)

-- both sides, between states
sides_are : (a b c d : State) (search replace : Terms) → length a.names ≡ 0 → a.ops ≡ 0 → IsSought a search b → b.names ≡ c.names → c.ops ≡ 0
    → (terms_count replace ≡ 1) × Puts c replace d → sides_formed (length d.names) search replace ≡ true
unfolding sides_formed
sides_are a b c d search replace none no_ops sought same no_more put =
    let seeks = sought.2 in
    let puts = put.1 in
    let names : length b.names ≡ length d.names = ap length (same ∙ puts.same) in
    let there : length c.names ≡ length d.names = ap length puts.same in
    let few_names = seeks.few_names (omega (arith, none)) in
    let few_search = seeks.few_ops (omega (arith, no_ops)) in
    let few_replace = puts.few_ops (omega (arith, no_more)) in
    let search_count = seeks.counted in
    let replace_count = puts.counted in
    let ordered : numbered 0 (length d.names) (vars_of search) ≡ true =
    subst (λ n. numbered n (length d.names) (vars_of search) ≡ true) none
    (subst (λ n. numbered (length a.names) n (vars_of search) ≡ true) names seeks.ordered) in
    let search_ok : search_formed (length d.names) search ≡ true =
    and_from (list_all search_piece_formed (pieces search) && numbered 0 (length d.names) (vars_of search)) (nat_le (length (ops_of search)) 16)
    (and_from (list_all search_piece_formed (pieces search)) (numbered 0 (length d.names) (vars_of search)) seeks.formed ordered)
    (le-leb (length (ops_of search)) 16 (omega (arith, few_search, search_count, no_ops))) in
    let replace_ok : replace_formed (length d.names) replace ≡ true =
    and_from (list_all (replace_piece_formed (length d.names)) (pieces replace)) (nat_le (length (ops_of replace)) 16)
    (subst (λ n. list_all (replace_piece_formed n) (pieces replace) ≡ true) there puts.formed)
    (le-leb (length (ops_of replace)) 16 (omega (arith, few_replace, replace_count, no_more))) in
    and_from (is_application search && nat_eq (terms_count search) 1 && nat_eq (terms_count replace) 1 && nat_le (length d.names) 16 && search_formed
    (length d.names) search)
    (replace_formed (length d.names) replace)
    (and_from (is_application search && nat_eq (terms_count search) 1 && nat_eq (terms_count replace) 1 && nat_le (length d.names) 16)
    (search_formed (length d.names) search)
    (and_from (is_application search && nat_eq (terms_count search) 1 && nat_eq (terms_count replace) 1) (nat_le (length d.names) 16)
    (and_from (is_application search && nat_eq (terms_count search) 1) (nat_eq (terms_count replace) 1)
    (and_from (is_application search) (nat_eq (terms_count search) 1) sought.0 (eq-eqb (terms_count search) 1 sought.1))
    (eq-eqb (terms_count replace) 1 put.0))
    (le-leb (length d.names) 16 (omega (arith, few_names, names))))
    search_ok)
    replace_ok

-- before the end of the rule is read
pub sides_read : (x x1 x2 x3 x4 x5 : State) (search replace : Terms) (formula : Formula)
    → Made rule_files Known (terminal (TheMark 40) rule_begun) x tt x1 → Made rule_files Known (app Search) x1 search x2
    → Made rule_files Known (terminal (TheMark 44) side_begun) x2 tt x3 → Known Replace x3 replace x4 → Made rule_files Known options x4 formula x5
    → sides_formed (length x5.names) search replace ≡ true
sides_read x x1 x2 x3 x4 x5 search replace formula (t, is, begun) sought (t', is', side) put options_made =
    let start = begun_is x t (tt, x1) begun in
    let other = side_is x2 t' (tt, x3) side in
    let formed = sides_are x1 x2 x3 x4 search replace start.0 start.1 (app_seeks x1 search x2 sought) other.0 other.1 put in
    subst (λ (x : State). sides_formed (length x.names) search replace ≡ true) (options_keep x4 formula x5 options_made) formed

rule_formed : (x : State) (item : Item) (y : State) → Made rule_files Known rule x item y → PassesTest item
rule_formed x item y (mark, x1, begun, (search, x2, sought, (comma, x3, side, (replace, x4, put, (formula, x5, options_made, (t, is, ended)))))) =
    ended_is search replace formula x5 t (item, y) ended (sides_read x x1 x2 x3 x4 x5 search replace formula begun sought side put options_made)

-- a rule that is read is formed, whatever stands behind it
pub read_rule_formed : (depth : ℕ) (x : State) (ts : List Terminal) (f : Reading rule_files Item)
    → read rule_files (read_to rule_files productions depth) rule x ts ≡ Ok f → PassesTest f.value
read_rule_formed depth x ts f e = rule_formed x f.value f.state (read_made rule_files productions Known terms_known rule depth x ts f e)

item_formed : (x : State) (a : Item) (y : State) → Made rule_files Known item x a y → PassesTest a
item_formed x a y (inl (word, x1, word_made, (op, x2, op_made, (number, x3, number_made, end)))) = subst PassesTest end.0 tt
item_formed x a y (inr (inl made)) = rule_formed x a y made
item_formed x a y (inr (inr (word, x1, word_made, (typing, x2, typing_made, (shown, x3, shown_made, end))))) = subst PassesTest end.0 tt

abbrev some_item : Item → Option Item
some_item item = Some item

same_item : (a b : Item) → some_item a ≡ some_item b → a ≡ b
same_item a b e = cc

others_formed : (x : State) (items : List Item) (y : State) → Made rule_files Known (each_behind_comma_then_maybe_one rule_files item) x items y
    → AllByRecursion PassesTest items
others_formed x [] y made = tt
others_formed x (a ∷ others) y (w, (mark, z, mark_made, inl (first, v, made, is_first)), rest) =
    (subst PassesTest (same_item first a is_first.0) (item_formed z first v made), others_formed w others y rest)
others_formed x (a ∷ others) y (w, (mark, z, mark_made, inr is_last), rest) = absurd (let never = is_last.0 in cc)

listed_formed : (x : State) (items : List Item) (y : State) → Made rule_files Known (maybe_none rule_files (listed rule_files item)) x items y
    → AllByRecursion PassesTest items
listed_formed x items y (inl (first, x1, first_made, (others, x2, others_made, end))) =
    subst (AllByRecursion PassesTest) end.0 (item_formed x first x1 first_made, others_formed x1 others x2 others_made)
listed_formed x items y (inr end) = subst (AllByRecursion PassesTest) end.0 tt

pub file_formed : (items : List Item) (z : State) (ts : List Terminal) → IsFile items z ts → AllByRecursion PassesTest items
unfolding IsFile
file_formed items z ts is = go (text_made rule_files productions Known terms_known file is.0 none_read items z ts is.1)
  where
    go : Made rule_files Known file none_read items z → AllByRecursion PassesTest items
    go (all, x, (opening, x1, opening_made, (inner, x2, inner_made, (closing, x3, closing_made, whole))), (ending, x4, end_made, end)) =
        subst (AllByRecursion PassesTest) (whole.0 ∙ end.0) (listed_formed x1 inner x2 inner_made)

item_is_formed : FormedIsTested → (item : Item) → PassesTest item → IsFormedItem item
item_is_formed tested (AWeight op weight) passes = tt
item_is_formed tested (ARule rule) passes =
    λ when. (tested (record { number = rule.number; search = rule.search; replace = rule.replace; when = when; vars = rule.vars })).0 passes
item_is_formed tested (ALine line) passes = tt

pub rules_are_formed : FormedIsTested → RulesAreFormed
rules_are_formed tested text items says =
    all_each PassesTest IsFormedItem (item_is_formed tested) items (file_formed items says.state (terminals_of text says.tokens) says.spelled)
