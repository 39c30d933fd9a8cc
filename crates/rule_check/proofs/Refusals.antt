-- What a loop over the entries of a file has met, entry by entry.
use Rattle.std.proofs.Common.{◌≡◌, ◌+◌, ◌<◌, ℕ, zero, suc, cond, Option, Some, None, List, [], ◌∷◌, ◌++◌, length, drop, take, get_or, filter, is_none, option_to_list, sym, ◌∙◌, ap, subst, arith}
use Rattle.std.specs.List.{AllByRecursion}
use Rattle.std.proofs.lemmas.List.{at_drop_more, take_more, take-append-drop}
use Rattle.rule_term.specs.Rule.{Rule}
use Rattle.rule_term.specs.Table.{AllBelow}
use Rattle.rule_read.specs.declared.entry.Entry.{Entry}
use Rattle.rule_read.specs.Says.{entry_says}
use Rattle.rule_read.specs.RuleFile.{AreNumbered}
use Rattle.rule_check.specs.declared.refused.Refused.{Refused}
use Rattle.rule_check.specs.Accepted.{accepted, accepts, entries_say, refusal_of, refusals, rules_of}

-- the entry at a place of a list
abbrev pub IsAt : List Entry → ℕ → Entry → Type 0
IsAt entries k entry = (k < length entries) × (entry ≡ get_or entries k entry)

pub number-at : (entries : List Entry) (from k : ℕ) (entry : Entry) → IsAt entries k entry → AreNumbered from entries → entry.rule.number ≡ from + k
number-at [] from k entry at numbered = absurd (omega (arith, at.0))
number-at (first ∷ rest) from zero entry at numbered =
    let here : entry.rule.number ≡ from = ap (λ (e : Entry). e.rule.number) at.1 ∙ numbered.0 in
    omega (arith, here)
number-at (first ∷ rest) from (suc k) entry at numbered =
    let behind : entry.rule.number ≡ suc from + k = number-at rest (suc from) k entry (omega (arith, at.0), at.1) numbered.1 in
    omega (arith, behind)

pub below-more : (table : List Rule) (rule : Rule) (k : ℕ) → AllBelow k table → rule.number ≡ k → AllBelow (k + 1) (table ++ rule ∷ [])
below-more [] rule k below number = (omega (arith, number), tt)
below-more (first ∷ rest) rule k below number = (omega (arith, below.0), below-more rest rule k below.1 number)

pub below-next : (table : List Rule) (k : ℕ) → AllBelow k table → AllBelow (k + 1) table
below-next [] k below = tt
below-next (first ∷ rest) k below = (omega (arith, below.0), below-next rest k below.1)

-- the refusals, the accepted rules and all rules from a place on
pub refusals-at : (entries : List Entry) (k : ℕ) (entry : Entry) → IsAt entries k entry → refusals (entries_say (drop k entries)) ≡ option_to_list (refusal_of (entry_says entry)) ++ refusals (entries_say (drop (k + 1) entries))
refusals-at entries k entry at = at_drop_more (λ l. refusals (entries_say l)) entries k entry at.0 ∙ ap (λ e. option_to_list (refusal_of (entry_says e)) ++ refusals (entries_say (drop (k + 1) entries))) (sym at.1)

pub refusals-past : (entries : List Entry) (k : ℕ) (entry : Entry) → IsAt entries k entry → refusal_of (entry_says entry) ≡ None → refusals (entries_say (drop k entries)) ≡ refusals (entries_say (drop (k + 1) entries))
refusals-past entries k entry at none = refusals-at entries k entry at ∙ ap (λ r. option_to_list r ++ refusals (entries_say (drop (k + 1) entries))) none

pub refusals-here : (entries : List Entry) (k : ℕ) (entry : Entry) (refused : Refused) → IsAt entries k entry → refusal_of (entry_says entry) ≡ Some refused → refusals (entries_say (drop k entries)) ≡ refused ∷ refusals (entries_say (drop (k + 1) entries))
refusals-here entries k entry refused at some = refusals-at entries k entry at ∙ ap (λ r. option_to_list r ++ refusals (entries_say (drop (k + 1) entries))) some

accepted-at : (entries : List Entry) (k : ℕ) (entry : Entry) (refusal : Option Refused) → IsAt entries k entry → refusal_of (entry_says entry) ≡ refusal
    → accepted (drop k entries) ≡ rules_of (cond (is_none refusal) (entry ∷ filter accepts (drop (k + 1) entries)) (filter accepts (drop (k + 1) entries)))
accepted-at entries k entry refusal at is =
    at_drop_more accepted entries k entry at.0
    ∙ ap (λ e. accepted (e ∷ drop (k + 1) entries)) (sym at.1)
    ∙ ap (λ r. rules_of (cond (is_none r) (entry ∷ filter accepts (drop (k + 1) entries)) (filter accepts (drop (k + 1) entries)))) is

pub accepted-here : (entries : List Entry) (k : ℕ) (entry : Entry) → IsAt entries k entry → refusal_of (entry_says entry) ≡ None → accepted (drop k entries) ≡ entry.rule ∷ accepted (drop (k + 1) entries)
accepted-here entries k entry at none = accepted-at entries k entry None at none

pub accepted-past : (entries : List Entry) (k : ℕ) (entry : Entry) (refused : Refused) → IsAt entries k entry → refusal_of (entry_says entry) ≡ Some refused → accepted (drop k entries) ≡ accepted (drop (k + 1) entries)
accepted-past entries k entry refused at some = accepted-at entries k entry (Some refused) at some

pub rules-at : (entries : List Entry) (k : ℕ) (entry : Entry) → IsAt entries k entry → rules_of (drop k entries) ≡ entry.rule ∷ rules_of (drop (k + 1) entries)
rules-at entries k entry at = at_drop_more rules_of entries k entry at.0 ∙ ap (λ (e : Entry). e.rule ∷ rules_of (drop (k + 1) entries)) (sym at.1)

-- what is so of the entries before a place and of the one there is so of those before the next
all-last : (P : Entry → Type 0) (entries : List Entry) (entry : Entry) → AllByRecursion P entries → P entry → AllByRecursion P (entries ++ entry ∷ [])
all-last P [] entry all last = (last, tt)
all-last P (first ∷ rest) entry all last = (all.0, all-last P rest entry all.1 last)

pub all-more : (P : Entry → Type 0) (entries : List Entry) (k : ℕ) (entry : Entry) → IsAt entries k entry → P entry → AllByRecursion P (take k entries) → AllByRecursion P (take (k + 1) entries)
all-more P entries k entry at here all =
    subst (AllByRecursion P) (sym (take_more entries k entry at.0 ∙ ap (λ e. take k entries ++ e ∷ []) (sym at.1))) (all-last P (take k entries) entry all here)

-- an entry stands between those before it and those behind it
pub placed-at : (entries : List Entry) (k : ℕ) (entry : Entry) → IsAt entries k entry → entries ≡ take k entries ++ entry ∷ drop (k + 1) entries
placed-at entries k entry at =
    sym (take-append-drop k entries) ∙ ap (λ l. take k entries ++ l) (at_drop_more (λ l. l) entries k entry at.0 ∙ ap (λ e. e ∷ drop (k + 1) entries) (sym at.1))
