-- The parts of the grammar of formulas, as readers of so many nonterminals in one another.
use Rattle.std.specs.Prelude.{ℕ, List, [], ◌∷◌, Ok, Option, Some}
use Rattle.grammar.specs.Terminals.{Terminal, TheMark}
use Rattle.grammar.specs.Lookahead.{Lookahead}
use Rattle.grammar.specs.Grammar.{Grammar, empty}
use Rattle.grammar.specs.Reading.{Outcome, Reader, and_then, read, read_to}
use Rattle.grammar.specs.Words.{◌>>=◌, ◌>>◌, mark}
use Rattle.rule_spelling.specs.Formula.{Formula, Not, Both, Either, Part, Whole, Operand, formulas, productions, operand, conjunction, disjunction}
use Rattle.formula_read.specs.Formulas.{chain_of}

abbrev pub part_to : {p : Lookahead} {A : Type 0} → Grammar formulas p A → ℕ → List Terminal → Outcome formulas A
part_to g depth ts = read formulas (read_to formulas productions depth) g tt ts

unfoldable pub operand_to : ℕ → List Terminal → Outcome formulas Formula
operand_to = part_to operand

unfoldable pub conjunction_to : ℕ → List Terminal → Outcome formulas Formula
conjunction_to = part_to conjunction

unfoldable pub disjunction_to : ℕ → List Terminal → Outcome formulas Formula
disjunction_to = part_to disjunction

unfoldable pub nested_to : Part → ℕ → List Terminal → Outcome formulas Formula
nested_to part depth ts = read_to formulas productions depth part tt ts

-- what stands behind `!`
unfoldable pub not_to : ℕ → List Terminal → Outcome formulas Formula
not_to depth ts = and_then formulas (nested_to Operand depth ts) (λ f. Ok (record { value = Not f.value; state = f.state; rest = f.rest }))

-- what stands behind `(`
unfoldable pub closed_to : ℕ → List Terminal → Outcome formulas Formula
closed_to depth ts = and_then formulas (nested_to Whole depth ts) (λ f. part_to (mark formulas 41 >>= λ _. empty f.value) depth f.rest)

-- what stands behind `&&` or `||`
abbrev pub and_item : ℕ → Reader formulas (Option Formula)
and_item depth x ts = part_to (mark formulas 38 >> operand >>= λ a. empty (Some a)) depth ts

abbrev pub or_item : ℕ → Reader formulas (Option Formula)
or_item depth x ts = part_to (mark formulas 124 >> conjunction >>= λ a. empty (Some a)) depth ts

-- what was read, joined with so many others behind it at most
unfoldable pub with_and : ℕ → ℕ → Formula → List Terminal → Outcome formulas Formula
with_and depth turns = chain_of Both (TheMark 38 ∷ []) (and_item depth) turns

unfoldable pub with_or : ℕ → ℕ → Formula → List Terminal → Outcome formulas Formula
with_or depth turns = chain_of Either (TheMark 124 ∷ []) (or_item depth) turns
