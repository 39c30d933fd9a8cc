-- A walk along the nodes of a side answers whether the side is formed.
use Rattle.std.proofs.Common.{◌≡◌, ℕ, suc, ◌+◌, ◌<◌, ◌≤◌, ℤ, Bool, true, false, Option, Some, None, List, [], ◌∷◌, ◌++◌, length, get_or, drop, sym, ap, ◌∙◌, refl, arith, inl, inr, zero-add}
use Rattle.std.specs.Prelude.{nat_eq, nat_lt, nat_le, ◌&&◌, is_none, is_some, not}
use Rattle.std.specs.List.{list_all, flat_map}
use Rattle.std.specs.Option.{option_and_then}
use Rattle.std.proofs.lemmas.List.{append-nil}
use Rattle.std.proofs.lemmas.Bool.{cases_lt, cases_eq, and_parts}
use Rattle.std.proofs.lemmas.Bool.Decides.{nat_tests}
use Rattle.std.proofs.Math.Bool.{cond, and-true}
use Rattle.nir_ops.specs.Opcodes.{op_info}
use Rattle.nir_ops.specs.declared.op.Op.{Op}
use Rattle.nir_ops.specs.declared.width.Width.{Width}
use Rattle.rule_term.specs.declared.cond.Cond.{Cond}
use Rattle.rule_term.specs.declared.side.Side.{Side}
use Rattle.rule_term.specs.declared.side.Side.TheVariants.{Search, Replace}
use Rattle.rule_term.specs.declared.formed.Progress.{Progress}
use Rattle.rule_term.specs.declared.term.Term.{Term}
use Rattle.rule_term.specs.declared.term.Term.TheVariants as term
use Rattle.rule_term.specs.Terms.{Terms, terms_of}
use Rattle.rule_term.specs.Lists.{terms_of-var, terms_of-lit, terms_of-app, terms_of-drop}
use Rattle.rule_term.specs.Splits.{pieces-then, terms_count-terms_of}
use Rattle.rule_term.specs.Pieces.{Piece, VarPiece, LitPiece, AppPiece, pieces, terms_count, var_of, op_of, vars_of, ops_of}
use Rattle.rule_term.specs.Formed.{is_application, search_piece_formed, replace_piece_formed, numbered, literal_formed, may_stand, IsFormed}
use Rattle.rule_term.specs.FormedTest.{search_formed, replace_formed, sides_formed, formed, FormedIsTested}
use Rattle.rule_term.specs.Rule.{Rule}
use Rattle.rule_term.specs.FormedWalk.{var_passed, passed, walked}

-- what is known of each step behind a node is known behind it
onwards : (side : Side) (rest second : List Piece) (known : (next : Progress) → walked side next (rest ++ second) ≡ option_and_then (λ end. walked side end second) (walked side next rest)) (o : Option Progress) → option_and_then (λ next. walked side next (rest ++ second)) o ≡ option_and_then (λ end. walked side end second) (option_and_then (λ next. walked side next rest) o)
onwards side rest second known None = refl
onwards side rest second known (Some next) = known next

-- a walk along one list and then another
pub walked-append : (side : Side) (at : Progress) (first second : List Piece) → walked side at (first ++ second) ≡ option_and_then (λ next. walked side next second) (walked side at first)
walked-append side at [] second = refl
walked-append side at (piece ∷ rest) second = onwards side rest second (λ next. walked-append side next rest second) (passed side at piece)

one_step : (o : Option Progress) → option_and_then (λ next. Some next) o ≡ o
one_step None = refl
one_step (Some next) = refl

pub walked-var : (side : Side) (at : Progress) (var : ℕ) (constant : Bool) (size : Option Width) (cond : Option Cond) → walked side at (pieces (terms_of (term.Var var constant size cond ∷ []))) ≡ passed side at (VarPiece var constant size cond)
walked-var side at var constant size cond = ap (λ t. walked side at (pieces t)) (terms_of-var var constant size cond) ∙ one_step (passed side at (VarPiece var constant size cond))

pub walked-lit : (side : Side) (at : Progress) (value : ℤ) (boolean : Bool) → walked side at (pieces (terms_of (term.Lit value boolean ∷ []))) ≡ passed side at (LitPiece value boolean)
walked-lit side at value boolean = ap (λ t. walked side at (pieces t)) (terms_of-lit value boolean) ∙ one_step (passed side at (LitPiece value boolean))

pub walked-app : (side : Side) (at : Progress) (op : Op) (size : Option Width) (once : Bool) (args : List Term) → walked side at (pieces (terms_of (term.App op size once args ∷ []))) ≡ option_and_then (λ next. walked side next (pieces (terms_of args))) (passed side at (AppPiece op None once (length args)))
walked-app side at op size once args =
    ap (λ t. walked side at (pieces t)) (terms_of-app op size once args)
    ∙ ap (λ list. option_and_then (λ next. walked side next list) (passed side at (AppPiece op None once (terms_count (terms_of args))))) (append-nil (pieces (terms_of args)))
    ∙ ap (λ n. option_and_then (λ next. walked side next (pieces (terms_of args))) (passed side at (AppPiece op None once n))) (terms_count-terms_of args)

-- a loop over terms meets the one at its place and then the others
pub walked-drop : (side : Side) (at : Progress) (list : List Term) (i : ℕ) (t : Term) → i < length list → t ≡ get_or list i t → walked side at (pieces (terms_of (drop i list))) ≡ option_and_then (λ next. walked side next (pieces (terms_of (drop (i + 1) list)))) (walked side at (pieces (terms_of (t ∷ []))))
walked-drop side at list i t within is =
    ap (λ t. walked side at (pieces t)) (terms_of-drop list i t within is)
    ∙ ap (walked side at) (pieces-then (terms_of (t ∷ [])) (terms_of (drop (i + 1) list)))
    ∙ walked-append side at (pieces (terms_of (t ∷ []))) (pieces (terms_of (drop (i + 1) list)))

-- the same, where the walk along the one is known
pub walked-on : (side : Side) (at : Progress) (list : List Term) (i : ℕ) (t : Term) (o total : Option Progress) → i < length list → t ≡ get_or list i t → o ≡ walked side at (pieces (terms_of (t ∷ []))) → walked side at (pieces (terms_of (drop i list))) ≡ total → option_and_then (λ next. walked side next (pieces (terms_of (drop (i + 1) list)))) o ≡ total
walked-on side at list i t o total within is known so_far =
    ap (option_and_then (λ next. walked side next (pieces (terms_of (drop (i + 1) list))))) known
    ∙ sym (walked-drop side at list i t within is)
    ∙ so_far

pub ruleset walk_steps = (walked-var, walked-lit, walked-app, walked-drop)

-- the outermost node of a side
pub is_application-var : (var : ℕ) (constant : Bool) (size : Option Width) (cond : Option Cond) → is_application (terms_of (term.Var var constant size cond ∷ [])) ≡ false
is_application-var var constant size cond = ap is_application (terms_of-var var constant size cond)

pub is_application-lit : (value : ℤ) (boolean : Bool) → is_application (terms_of (term.Lit value boolean ∷ [])) ≡ false
is_application-lit value boolean = ap is_application (terms_of-lit value boolean)

pub is_application-app : (op : Op) (size : Option Width) (once : Bool) (args : List Term) → is_application (terms_of (term.App op size once args ∷ [])) ≡ true
is_application-app op size once args = ap is_application (terms_of-app op size once args)

pub ruleset application_steps = (is_application-var, is_application-lit, is_application-app)

-- variables that are numbered past their number are not numbered in order
numbered_past : (next vars : ℕ) (list : List ℕ) → vars < next → numbered next vars list ≡ false
numbered_past next vars [] past = grind (arith, nat_tests)
numbered_past next vars (var ∷ rest) past =
    let same = numbered_past next vars rest past in
    let more = numbered_past (suc next) vars rest (omega arith) in
    elim (cases_lt var next) [
      | inl lt ↦ let e : nat_lt var next ≡ true = grind (arith, nat_tests) in rw e same
      | inr ge ↦ let e : nat_lt var next ≡ false = grind (arith, nat_tests) in rw (e, more) (elim (nat_eq var next) as (λ b. (b && false) ≡ false) [ true ↦ refl | false ↦ refl ])
    ]

-- what the nodes of a search side have to be from a place of the walk on
abbrev sought : ℕ → Progress → List Piece → Bool
sought vars at list = list_all search_piece_formed list && numbered at.next vars (flat_map var_of list) && nat_le (at.ops + length (flat_map op_of list)) 16

-- the walk came to an end with so many variables
abbrev pub ends_at : ℕ → Option Progress → Bool
ends_at vars None = false
ends_at vars (Some end) = nat_eq end.next vars

middle_false : (a b : Bool) → false ≡ (a && false && b)
middle_false true b = refl
middle_false false b = refl

last_false : (a b : Bool) → false ≡ (a && b && false)
last_false true true = refl
last_false true false = refl
last_false false b = refl

search_var : (vars : ℕ) (at : Progress) (var : ℕ) (rest : List Piece) → vars ≤ 16 → ((next : Progress) → next.ops ≡ at.ops → ends_at vars (walked Search next rest) ≡ sought vars next rest)
    → ends_at vars (option_and_then (λ next. walked Search next rest) (var_passed Search var true at)) ≡ (list_all search_piece_formed rest && numbered at.next vars (var ∷ flat_map var_of rest) && nat_le (at.ops + length (flat_map op_of rest)) 16)
search_var vars at var rest small known =
    let ordered = list_all search_piece_formed rest in
    let few = nat_le (at.ops + length (flat_map op_of rest)) 16 in
    elim (cases_lt var at.next) [
      | inl lt ↦ let e : nat_lt var at.next ≡ true = grind (arith, nat_tests) in rw e (known at refl)
      | inr ge ↦ let e : nat_lt var at.next ≡ false = grind (arith, nat_tests) in
          elim (cases_eq var at.next) [
            | inl same ↦ let s : nat_eq var at.next ≡ true = grind (arith, nat_tests) in
                elim (cases_lt at.next 16) [
                  | inl room ↦ let r : nat_lt at.next 16 ≡ true = grind (arith, nat_tests) in let one_more : suc at.next ≡ at.next + 1 = omega arith in rw (e, s, r, one_more) (known (record at { next = at.next + 1 }) refl)
                  | inr full ↦ let r : nat_lt at.next 16 ≡ false = grind (arith, nat_tests) in
                      let past = numbered_past (suc at.next) vars (flat_map var_of rest) (omega arith) in
                      rw (e, s, r, past) (middle_false ordered few)
                ]
            | inr other ↦ let s : nat_eq var at.next ≡ false = grind (arith, nat_tests) in rw (e, s) (middle_false ordered few)
          ]
    ]

search_app : (vars : ℕ) (at : Progress) (allowed : Bool) (rest : List Piece) → at.ops ≤ 16 → ((next : Progress) → next.ops ≤ 16 → ends_at vars (walked Search next rest) ≡ sought vars next rest)
    → ends_at vars (option_and_then (λ next. walked Search next rest) (cond (allowed && nat_lt at.ops 16) (Some (record at { ops = at.ops + 1 })) None)) ≡ (allowed && list_all search_piece_formed rest && numbered at.next vars (flat_map var_of rest) && nat_le (at.ops + suc (length (flat_map op_of rest))) 16)
search_app vars at false rest small known = refl
search_app vars at true rest small known =
    let count = length (flat_map op_of rest) in
    elim (cases_lt at.ops 16) [
      | inl room ↦ let r : nat_lt at.ops 16 ≡ true = grind (arith, nat_tests) in
          let e : at.ops + suc count ≡ at.ops + 1 + count = omega arith in
          rw (r, e) (known (record at { ops = at.ops + 1 }) (omega arith))
      | inr full ↦ let r : nat_lt at.ops 16 ≡ false = grind (arith, nat_tests) in
          let e : nat_le (at.ops + suc count) 16 ≡ false = grind (arith, nat_tests) in
          rw (r, e) (last_false (list_all search_piece_formed rest) (numbered at.next vars (flat_map var_of rest)))
    ]

search_lit : (vars : ℕ) (at : Progress) (allowed : Bool) (rest : List Piece) → ends_at vars (walked Search at rest) ≡ sought vars at rest
    → ends_at vars (option_and_then (λ next. walked Search next rest) (cond allowed (Some at) None)) ≡ (allowed && list_all search_piece_formed rest && numbered at.next vars (flat_map var_of rest) && nat_le (at.ops + length (flat_map op_of rest)) 16)
search_lit vars at false rest known = refl
search_lit vars at true rest known = known

-- the walk along a search side ends well exactly where its nodes are what they have to be
search_walked : (vars : ℕ) (at : Progress) (list : List Piece) → vars ≤ 16 → at.ops ≤ 16 → ends_at vars (walked Search at list) ≡ sought vars at list
search_walked vars at [] small few =
    let e : nat_le (at.ops + 0) 16 ≡ true = grind (arith, nat_tests) in
    rw e (sym (and-true (nat_eq at.next vars)))
search_walked vars at (VarPiece var constant size cond ∷ rest) small few = search_var vars at var rest small (λ next e. search_walked vars next rest small (rw e few))
search_walked vars at (LitPiece value boolean ∷ rest) small few = search_lit vars at (literal_formed value boolean) rest (search_walked vars at rest small few)
search_walked vars at (AppPiece op size once sources ∷ rest) small few =
    rw and-true (search_app vars at (may_stand op && nat_eq sources (length (op_info op).inputs)) rest few (λ next room. search_walked vars next rest small room))

-- what the nodes of a replacement have to be
abbrev replacing : Progress → List Piece → Bool
replacing at list = list_all (replace_piece_formed at.next) list && nat_le (at.ops + length (flat_map op_of list)) 16

replace_allowed : (at : Progress) (allowed : Bool) (rest : List Piece) → is_some (walked Replace at rest) ≡ replacing at rest
    → is_some (option_and_then (λ next. walked Replace next rest) (cond allowed (Some at) None)) ≡ (allowed && list_all (replace_piece_formed at.next) rest && nat_le (at.ops + length (flat_map op_of rest)) 16)
replace_allowed at false rest known = refl
replace_allowed at true rest known = known

replace_app : (at : Progress) (allowed : Bool) (rest : List Piece) → at.ops ≤ 16 → ((next : Progress) → next.ops ≤ 16 → next.next ≡ at.next → is_some (walked Replace next rest) ≡ replacing next rest)
    → is_some (option_and_then (λ next. walked Replace next rest) (cond (allowed && nat_lt at.ops 16) (Some (record at { ops = at.ops + 1 })) None)) ≡ (allowed && list_all (replace_piece_formed at.next) rest && nat_le (at.ops + suc (length (flat_map op_of rest))) 16)
replace_app at false rest small known = refl
replace_app at true rest small known =
    let count = length (flat_map op_of rest) in
    elim (cases_lt at.ops 16) [
      | inl room ↦ let r : nat_lt at.ops 16 ≡ true = grind (arith, nat_tests) in
          let e : at.ops + suc count ≡ at.ops + 1 + count = omega arith in
          rw (r, e) (known (record at { ops = at.ops + 1 }) (omega arith) refl)
      | inr full ↦ let r : nat_lt at.ops 16 ≡ false = grind (arith, nat_tests) in
          let e : nat_le (at.ops + suc count) 16 ≡ false = grind (arith, nat_tests) in
          rw (r, e) (last_false true (list_all (replace_piece_formed at.next) rest))
    ]

var_plain : (b constant : Bool) (size : Option Width) (cond : Option Cond) → (b && (not constant && is_none size && is_none cond)) ≡ (b && not constant && is_none size && is_none cond)
var_plain true constant size cond = refl
var_plain false constant size cond = refl

-- the walk along a replacement ends exactly where its nodes are what they have to be
replace_walked : (at : Progress) (list : List Piece) → at.ops ≤ 16 → is_some (walked Replace at list) ≡ replacing at list
replace_walked at [] few = sym (grind (arith, nat_tests))
replace_walked at (VarPiece var constant size cond ∷ rest) few =
    rw var_plain (replace_allowed at (nat_lt var at.next && not constant && is_none size && is_none cond) rest (replace_walked at rest few))
replace_walked at (LitPiece value boolean ∷ rest) few = replace_allowed at (literal_formed value boolean) rest (replace_walked at rest few)
replace_walked at (AppPiece op size once sources ∷ rest) few =
    replace_app at (may_stand op && nat_eq sources (length (op_info op).inputs) && not once) rest few (λ next room e. replace_walked next rest room)

-- the sides of a rule, as walks answer of them
pub search_is : (vars : ℕ) (side : Terms) → vars ≤ 16 → search_formed vars side ≡ ends_at vars (walked Search (record { ops = 0; next = 0 }) (pieces side))
search_is vars side small =
    ap (λ n. list_all search_piece_formed (pieces side) && numbered 0 vars (vars_of side) && nat_le n 16) (sym (zero-add (length (ops_of side))))
    ∙ sym (search_walked vars (record { ops = 0; next = 0 }) (pieces side) small (omega arith))

pub replace_is : (vars : ℕ) (replace : Terms) → replace_formed vars replace ≡ is_some (walked Replace (record { ops = 0; next = vars }) (pieces replace))
replace_is vars replace =
    ap (λ n. list_all (replace_piece_formed vars) (pieces replace) && nat_le n 16) (sym (zero-add (length (ops_of replace))))
    ∙ sym (replace_walked (record { ops = 0; next = vars }) (pieces replace) (omega arith))

reordered : (application small first second : Bool) → (application && true && true && small && first && second) ≡ (small && application && first && second)
reordered true true first second = refl
reordered true false first second = refl
reordered false true first second = refl
reordered false false first second = refl

pub sides_are : (vars : ℕ) (first second : Term) → sides_formed vars (terms_of (first ∷ [])) (terms_of (second ∷ [])) ≡ (nat_le vars 16 && is_application (terms_of (first ∷ [])) && search_formed vars (terms_of (first ∷ [])) && replace_formed vars (terms_of (second ∷ [])))
unfolding sides_formed
sides_are vars first second =
    rw (terms_count-terms_of (first ∷ []), terms_count-terms_of (second ∷ []))
    (reordered (is_application (terms_of (first ∷ []))) (nat_le vars 16) (search_formed vars (terms_of (first ∷ []))) (replace_formed vars (terms_of (second ∷ []))))

-- the test is that of the predicate
at_most : (n : ℕ) → nat_le n 16 ≡ true → n ≤ 16
at_most n e = grind (arith, nat_tests)

is_at_most : (n : ℕ) → n ≤ 16 → nat_le n 16 ≡ true
is_at_most n le = grind (arith, nat_tests)

one : (n : ℕ) → nat_eq n 1 ≡ true → n ≡ 1
one n e = grind (arith, nat_tests)

is_one : (n : ℕ) → n ≡ 1 → nat_eq n 1 ≡ true
is_one n e = grind (arith, nat_tests)

pub formed_is : (rule : Rule) → formed rule ≡ true → IsFormed rule
unfolding sides_formed
formed_is rule e =
    let f = and_parts _ _ e in
    let g = and_parts _ _ f.0 in
    let h = and_parts _ _ g.0 in
    let k = and_parts _ _ h.0 in
    let m = and_parts _ _ k.0 in
    let s = and_parts _ _ g.1 in
    let n = and_parts _ _ s.0 in
    let r = and_parts _ _ f.1 in
    record {
      application = m.0;
      one_search = one (terms_count rule.search) m.1;
      one_replace = one (terms_count rule.replace) k.1;
      search = n.0;
      replace = r.0;
      numbered = n.1;
      few_vars = at_most rule.vars h.1;
      few_search = at_most (length (ops_of rule.search)) s.1;
      few_replace = at_most (length (ops_of rule.replace)) r.1;
    }

pub is_formed : (rule : Rule) → IsFormed rule → formed rule ≡ true
unfolding sides_formed
is_formed rule f =
    rw (
      f.application,
      is_one (terms_count rule.search) f.one_search,
      is_one (terms_count rule.replace) f.one_replace,
      is_at_most rule.vars f.few_vars,
      f.search,
      f.numbered,
      is_at_most (length (ops_of rule.search)) f.few_search,
      f.replace,
      is_at_most (length (ops_of rule.replace)) f.few_replace,
    ) refl

pub formed_is_tested : FormedIsTested
formed_is_tested rule = (formed_is rule, is_formed rule)
