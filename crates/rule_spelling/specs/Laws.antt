-- The laws of rule files: a text is read as what it says, the first fault is the first, and each rule is formed.
use Rattle.std.specs.Prelude.{◌≡◌, ℕ, true, List, length, nat_le, Some, Ok, Err}
use Rattle.std.specs.List.{AllByRecursion}
use Rattle.grammar.specs.Spelling.{IsTextOfAnyDepth}
use Rattle.grammar.specs.Terminals.{Terminal}
use Rattle.rule_term.specs.declared.when.When.{When}
use Rattle.rule_term.specs.Formed.{IsFormed}
use Rattle.rule_spelling.specs.Files.{Item, AWeight, ARule, ALine, AreNumbered, AreWeights, Fault, entries_of, weights_of}
use Rattle.rule_spelling.specs.Formula.{Formula, formulas, productions, disjunction, formula_of, terminals_from}
use Rattle.rule_spelling.specs.Text.{At, Says, StandsAt, read_text}

abbrev pub ReadIsSpelled : Type 0
ReadIsSpelled = (text : List ℕ) (items : List Item) → read_text text ≡ Ok items → Says text items

abbrev pub SpelledIsRead : Type 0
SpelledIsRead = (text : List ℕ) (items : List Item) → Says text items → read_text text ≡ Ok items

abbrev pub FaultIsFirst : Type 0
FaultIsFirst = (text : List ℕ) (fault : Fault) (place : ℕ) → read_text text ≡ Err (At fault place) → StandsAt text place

-- ---- rules

-- the rule of an item is formed, whatever its options
abbrev pub IsFormedItem : Item → Type 0
IsFormedItem (AWeight op weight) = Unit {0}
IsFormedItem (ARule rule) =
    (when : When) → IsFormed (record { number = rule.number; search = rule.search; replace = rule.replace; when = when; vars = rule.vars })
IsFormedItem (ALine line) = Unit {0}

abbrev pub RulesAreFormed : Type 0
RulesAreFormed = (text : List ℕ) (items : List Item) → Says text items → AllByRecursion IsFormedItem items

-- they have the numbers from 0 on
abbrev pub RulesAreNumbered : Type 0
RulesAreNumbered = (text : List ℕ) (items : List Item) → Says text items → AreNumbered 0 (entries_of items)

-- ---- weights

-- each opcode is weighed at most once, never mov, and at most 60
abbrev pub WeightsAreGood : Type 0
WeightsAreGood = (text : List ℕ) (items : List Item) → Says text items → AreWeights (weights_of items)

-- ---- formulas over options

-- a text of at most 256 bytes has terminals, and they spell the formula
pub record IsFormula (text : List ℕ) (formula : Formula) : Type 0 where
  pub size : nat_le (length text) 256 ≡ true
  pub terminals : List Terminal
  pub are : terminals_from 0 text ≡ Some terminals
  pub spelled : IsTextOfAnyDepth formulas productions disjunction tt formula tt terminals

abbrev pub FormulaIsSpelled : Type 0
FormulaIsSpelled = (text : List ℕ) (formula : Formula) → formula_of text ≡ Some formula → IsFormula text formula

abbrev pub FormulaIsRead : Type 0
FormulaIsRead = (text : List ℕ) (formula : Formula) → IsFormula text formula → formula_of text ≡ Some formula
