-- A reader goes from one token of a text to the next, and stands at the place of each.
use Rattle.std.proofs.Common.{◌≡◌, ℕ, suc, ◌+◌, ◌-◌, true, false, List, [], ◌∷◌, length, drop, Some, None, Result, Ok, Err, refl, sym, ap, subst, ◌∙◌, arith, length-drop}
use Rattle.std.specs.Prelude.{IfOk}
use Rattle.std.proofs.lemmas.List.{drop-drop}
use Rattle.nir_lex.specs.declared.fault.LexFault.{LexFault}
use Rattle.nir_lex.specs.declared.token.Token.{Token}
use Rattle.nir_lex.specs.From.{tokens_at, tokens_behind, IsFirstFrom, fault_of}
use Rattle.nir_lex.specs.Kinds.{is_end}
use Rattle.nir_lex.specs.Reading.{with_first, read_tokens}
use Rattle.rule_spelling.specs.Text.{terminals_of, start_of, place_of_last}
use Rattle.term_read.specs.Standing.{has_tokens, tokens_or_none, all_tokens, tokens_from, Stands}

abbrev Read : Type 0
Read = Result (List Token) LexFault

whole_has : (read : Read) → fault_of read ≡ None → has_tokens read ≡ true
whole_has (Ok tokens) is = refl
whole_has (Err fault) is = absurd cc

if_has : (P : List Token → Type 0) (read : Read) → has_tokens read ≡ true → IfOk read P → P (tokens_or_none read)
if_has P (Ok tokens) is p = p
if_has P (Err fault) is p = absurd cc

has_behind : (first : Token) (read : Read) → has_tokens (with_first (Some first) read) ≡ true → has_tokens read ≡ true
has_behind first (Ok tokens) is = refl
has_behind first (Err fault) is = absurd cc

split : (first : Token) (read : Read) → has_tokens read ≡ true → tokens_or_none (with_first (Some first) read) ≡ first ∷ tokens_or_none read
split first (Ok tokens) is = refl
split first (Err fault) is = absurd cc

-- the first token stands
first_from : (text : List ℕ) (first : Token) → fault_of (read_tokens text) ≡ None → IfOk (tokens_at text 0) (λ _tokens. IsFirstFrom text 0 first)
    → IsFirstFrom text 0 first × (has_tokens (tokens_behind text first) ≡ true) × (all_tokens text ≡ tokens_from text first)
unfolding read_tokens
first_from text first is given =
    let has = whole_has (tokens_at text 0) is in
    let from = if_has (λ _tokens. IsFirstFrom text 0 first) (tokens_at text 0) has given in
    let behind = has_behind first (tokens_behind text first) (sym (ap has_tokens from.first) ∙ has) in
    (from, behind, ap tokens_or_none from.first ∙ split first (tokens_behind text first) behind)

pub all_from_first : (text : List ℕ) (first : Token) → fault_of (read_tokens text) ≡ None → IfOk (tokens_at text 0) (λ _tokens. IsFirstFrom text 0 first)
    → terminals_of text (all_tokens text) ≡ terminals_of text (tokens_from text first)
all_from_first text first is given = ap (terminals_of text) (first_from text first is given).2

pub first_stands : (text : List ℕ) (first : Token) → fault_of (read_tokens text) ≡ None → IfOk (tokens_at text 0) (λ _tokens. IsFirstFrom text 0 first) → Stands text first
first_stands text first is given =
    let all = first_from text first is given in
    let same = ap (λ (tokens : List Token). length tokens) all.2 in
    let none : length (all_tokens text) - length (tokens_from text first) ≡ 0 = omega (arith, same) in
    record {
      ordered = omega (arith, all.0.within.size);
      inside = all.0.within.end;
      read = all.1;
      last = ap (λ n. drop n (all_tokens text)) none ∙ all.2;
    }

behind_is : (text : List ℕ) (first : Token) → is_end first.kind ≡ false → tokens_behind text first ≡ tokens_at text first.end
behind_is text first is = rw is refl

-- the next one stands
next_of : (text : List ℕ) (first next : Token) → Stands text first → is_end first.kind ≡ false → IfOk (tokens_at text first.end) (λ _tokens. IsFirstFrom text first.end next)
    → IsFirstFrom text first.end next × (has_tokens (tokens_behind text next) ≡ true) × (tokens_or_none (tokens_behind text first) ≡ tokens_from text next)
next_of text first next stands is given =
    let has = sym (ap has_tokens (behind_is text first is)) ∙ stands.read in
    let from = if_has (λ _tokens. IsFirstFrom text first.end next) (tokens_at text first.end) has given in
    let behind = has_behind next (tokens_behind text next) (sym (ap has_tokens from.first) ∙ has) in
    (from, behind, ap tokens_or_none (behind_is text first is ∙ from.first) ∙ split next (tokens_behind text next) behind)

pub next_from : (text : List ℕ) (first next : Token) → Stands text first → is_end first.kind ≡ false → IfOk (tokens_at text first.end) (λ _tokens. IsFirstFrom text first.end next)
    → terminals_of text (tokens_from text first) ≡ terminals_of text (first ∷ tokens_from text next)
next_from text first next stands is given = ap (λ (tokens : List Token). terminals_of text (first ∷ tokens)) (next_of text first next stands is given).2

one_less : (all tokens : List Token) (first : Token) → drop (length all - length (first ∷ tokens)) all ≡ first ∷ tokens → drop (length all - length tokens) all ≡ tokens
one_less all tokens first is =
    let size : length all - (length all - suc (length tokens)) ≡ suc (length tokens) = sym (length-drop (length all - suc (length tokens)) all) ∙ ap (λ (l : List Token). length l) is in
    let later : length all - length tokens ≡ length all - suc (length tokens) + 1 = omega (arith, size) in
    ap (λ n. drop n all) later ∙ sym (drop-drop 1 (length all - suc (length tokens)) all) ∙ ap (λ (l : List Token). drop 1 l) is

pub next_stands : (text : List ℕ) (first next : Token) → Stands text first → is_end first.kind ≡ false → IfOk (tokens_at text first.end) (λ _tokens. IsFirstFrom text first.end next) → Stands text next
next_stands text first next stands is given =
    let all = next_of text first next stands is given in
    let last = subst (λ (tokens : List Token). drop (length (all_tokens text) - length (first ∷ tokens)) (all_tokens text) ≡ first ∷ tokens) all.2 stands.last in
    record {
      ordered = omega (arith, all.0.within.size);
      inside = all.0.within.end;
      read = all.1;
      last = one_less (all_tokens text) (tokens_from text next) first last;
    }

-- none stands behind the end
pub end_is_last : (text : List ℕ) (first : Token) → is_end first.kind ≡ true → terminals_of text (tokens_from text first) ≡ terminals_of text (first ∷ [])
end_is_last text first is = rw is refl

length_of_terminals : (text : List ℕ) (tokens : List Token) → length (terminals_of text tokens) ≡ length tokens
length_of_terminals text [] = refl
length_of_terminals text (token ∷ tokens) = ap suc (length_of_terminals text tokens)

-- where it stands
pub stands_at : (text : List ℕ) (first : Token) → Stands text first → place_of_last (all_tokens text) (length (terminals_of text (tokens_from text first))) ≡ first.start
stands_at text first stands =
    ap (place_of_last (all_tokens text)) (length_of_terminals text (tokens_from text first)) ∙ ap start_of stands.last
