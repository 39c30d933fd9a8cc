-- What a rule file says: rules, the evidence for each, and weights; and why a text says nothing.
use Rattle.std.specs.Prelude.{◌≡◌, ◌≤◌, ℕ, suc, ℤ, Bool, false, Option, List, [], ◌∷◌}
use Rattle.std.specs.List.{AllByRecursion}
use Rattle.nir_ops.specs.declared.op.Op.{Op}
use Rattle.rule_term.specs.Formed.{is_mov}
use Rattle.rule_term.specs.Terms.{Terms}
use Rattle.rule_spelling.specs.Formula.{Formula}

-- a search side over so many variables, and what may stand in its place under the options of the formula; each side is one term
pub record Rule : Type 0 where
  pub number : ℕ
  pub search : Terms
  pub replace : Terms
  pub formula : Formula
  pub vars : ℕ

-- ---- evidence

-- what a variable of a law stands for
pub record Binding : Type 0 where
  pub name : List ℕ
  pub with : Terms

-- A law at the part of the term at the end of a path, read from right to left or not; or a term of the same value in the place of that part.
pub data Step : Type 0 where
  Apply : (law : ℕ) (path : List ℕ) (rev : Bool) (bindings : List Binding) → Step
  Calc : (path : List ℕ) (with : Terms) → Step

-- a clause, and the numbers of those from which it follows
pub record LogStep : Type 0 where
  pub clause : List ℤ
  pub hints : List ℕ

pub data Proof : Type 0 where
  Cases : Proof
  Derive : List Step → Proof
  Logged : List LogStep → Proof

-- evidence for the typing of this number, or for all
pub record Line : Type 0 where
  pub typing : Option ℕ
  pub proof : Proof

-- ---- files

pub data Item : Type 0 where
  AWeight : Op → ℕ → Item
  ARule : Rule → Item
  ALine : Line → Item

-- a rule and its evidence
pub record Entry : Type 0 where
  pub rule : Rule
  pub lines : List Line

pub record WeightLine : Type 0 where
  pub op : Op
  pub weight : ℕ

-- the lines before every rule of these items, and the rules, each with the lines up to the next
abbrev pub gathered : List Item → List Line × List Entry
gathered [] = ([], [])
gathered (AWeight op weight ∷ items) = gathered items
gathered (ARule rule ∷ items) = ([], record { rule = rule; lines = (gathered items).0 } ∷ (gathered items).1)
gathered (ALine line ∷ items) = (line ∷ (gathered items).0, (gathered items).1)

abbrev pub entries_of : List Item → List Entry
entries_of items = (gathered items).1

-- the rules have the numbers from this one on
abbrev pub AreNumbered : ℕ → List Entry → Type 0
AreNumbered number [] = Unit {0}
AreNumbered number (entry ∷ entries) = (entry.rule.number ≡ number) × AreNumbered (suc number) entries

abbrev pub weights_of : List Item → List WeightLine
weights_of [] = []
weights_of (AWeight op weight ∷ items) = record { op = op; weight = weight } ∷ weights_of items
weights_of (ARule rule ∷ items) = weights_of items
weights_of (ALine line ∷ items) = weights_of items

-- another opcode is weighed
abbrev pub IsOther : WeightLine → WeightLine → Type 0
IsOther line other = other.op ≡ line.op → ⊥

-- each opcode at most once, never mov, and at most 60
abbrev pub AreWeights : List WeightLine → Type 0
AreWeights [] = Unit {0}
AreWeights (line ∷ others) = (is_mov line.op ≡ false) × (line.weight ≤ 60) × AllByRecursion (IsOther line) others × AreWeights others

-- what a whole file says
pub record File : Type 0 where
  pub entries : List Entry
  pub weights : List WeightLine

abbrev pub file_of : List Item → File
file_of items = record { entries = entries_of items; weights = weights_of items }

-- ---- faults

-- another terminal has to stand there; no opcode has the name; not as many sources as the opcode takes; no variable of the search side;
-- too many rules, opcodes, variables or variants; no formula over options; what Mesa's rules may have and these not; no weight, or a second one
pub data Fault : Type 0 where
  Expected : Fault
  UnknownOp : Fault
  Arity : Fault
  Unbound : Fault
  TooLarge : Fault
  BadOption : Fault
  Excluded : Fault
  Weight : Fault
