-- The clauses of a rule at a typing: they are all true exactly where the variables have values that meet the conditions and the sides differ.
use Rattle.std.specs.Prelude.{ℕ, suc, ◌+◌, ◌-◌, ◌/◌, not, Option, Some, None, List, [], ◌∷◌, ◌++◌, map, length, take, drop, sum, find, nat_eq, if◌then◌else◌}
use Rattle.nir_ops.specs.declared.op.Op.{Op}
use Rattle.nir_ops.specs.declared.width.Width.{Width}
use Rattle.nir_ops.specs.Width.{width_bits}
use Rattle.op_eval.specs.Word.{residue}
use Rattle.rule_term.specs.declared.cond.Cond.{Cond}
use Rattle.rule_term.specs.declared.cond.Cond.TheVariants.{PosPow2, NegPow2, MultipleOf4, UpperHalfZero, LowerHalfZero, NotConst, UsedOnce}
use Rattle.rule_term.specs.Terms.{Terms, Nil, VarThen, LitThen, AppThen}
use Rattle.rule_term.specs.Pieces.{ops_of}
use Rattle.rule_term.specs.Rule.{Rule}
use Rattle.rule_term.specs.Typings.{size_of, first_of, Occurrence, occurrences, search_part, replace_part}
use Rattle.clause_check.specs.Logs.{Clause}
use Rattle.circuit_laws.specs.Literals.{Lit, negated, yes, variables, constant, all_numbers_of}
use Rattle.circuit_laws.specs.Gates.{Gate, clauses_of}
use Rattle.circuit_laws.specs.Blocks.{Block, Sum, behind, and_word, xor_word, subtracter, negation, top}
use Rattle.circuit_laws.specs.Opcodes.{has_circuit, word_at, op_circuit}
use Rattle.circuit_laws.specs.Variables.{var_bits}

-- the first opcode without a circuit, in preorder, search side first
abbrev pub first_without : Rule → Option Op
first_without rule = find (λ op. not (has_circuit op)) (ops_of rule.search ++ ops_of rule.replace)

-- ---- variables

-- a word of fresh variables for each of these numbers of bits
abbrev pub words_from : ℕ → List ℕ → List (List Lit)
words_from n [] = []
words_from n (count ∷ counts) = variables n count ∷ words_from (n + count) counts

-- ---- conditions

-- gates, and clauses that ask for more than what the gates make
pub record Part : Type 0 where
  pub gates : List Gate
  pub demands : List (List Lit)

abbrev pub part_clauses : ℕ → Part → List (List Lit)
part_clauses n part = clauses_of n part.gates ++ part.demands

-- each literal is false
abbrev pub all_false : List Lit → List (List Lit)
all_false ls = map (λ l. negated l ∷ []) ls

-- all but the top literal
abbrev pub below_top : List Lit → List Lit
below_top ls = take (length ls - 1) ls

-- the word is a power of two, where it has no bit in common with the word before it: this sum
abbrev pub power_part : List Gate → List Lit → Sum → ℕ → List (List Lit) → Part
power_part gates xs before n more = record {
  gates = gates ++ before.gates ++ (and_word xs before.word (behind n before.gates)).gates;
  demands = all_false (and_word xs before.word (behind n before.gates)).word ++ more;
}

-- the upper and the lower half of a word; one bit has no half
abbrev pub upper_half : List Lit → List (List Lit)
upper_half xs = if nat_eq (length xs) 1 then [] ∷ [] else all_false (drop (length xs / 2) xs)

abbrev pub lower_half : List Lit → List (List Lit)
lower_half xs = if nat_eq (length xs) 1 then [] ∷ [] else all_false (take (length xs / 2) xs)

unfoldable pub cond_part : Cond → List Lit → ℕ → Part
cond_part PosPow2 xs n = power_part [] xs (subtracter xs (constant (length xs) 1) n) n (below_top xs ∷ (negated (top xs) ∷ []) ∷ [])
cond_part NegPow2 xs n =
    let minus : Sum = negation xs n in
    let from : ℕ = behind n minus.gates in
    power_part minus.gates minus.word (subtracter minus.word (constant (length xs) 1) from) from (minus.word ∷ [])
cond_part MultipleOf4 xs n = record { gates = []; demands = all_false (take 2 xs) }
cond_part UpperHalfZero xs n = record { gates = []; demands = upper_half xs }
cond_part LowerHalfZero xs n = record { gates = []; demands = lower_half xs }
cond_part NotConst xs n = record { gates = []; demands = [] }
cond_part UsedOnce xs n = record { gates = []; demands = [] }

abbrev pub part_of : Option Cond → List Lit → ℕ → Part
part_of None xs n = record { gates = []; demands = [] }
part_of (Some cond) xs n = cond_part cond xs n

-- the parts of all occurrences, where the variables have these words
abbrev pub parts_of : List (List Lit) → List Occurrence → ℕ → List Part
parts_of vars [] n = []
parts_of vars (o ∷ os) n =
    let part : Part = part_of o.cond (word_at vars o.var) n in
    part ∷ parts_of vars os (behind n part.gates)

abbrev pub parts_gates : List Part → List Gate
parts_gates [] = []
parts_gates (part ∷ parts) = part.gates ++ parts_gates parts

abbrev pub parts_clauses : ℕ → List Part → List (List Lit)
parts_clauses n [] = []
parts_clauses n (part ∷ parts) = part_clauses n part ++ parts_clauses (behind n part.gates) parts

-- ---- terms

-- the words of terms one after another, and their gates
pub record Built : Type 0 where
  pub words : List (List Lit)
  pub gates : List Gate

abbrev pub leaf : List Lit → Built → Built
leaf ls rest = record { words = ls ∷ rest.words; gates = rest.gates }

-- the gates of an opcode's sources, its own, and those of the terms behind it
abbrev pub node : List Gate → Block → Built → Built
node sources own rest = record { words = own.word ∷ rest.words; gates = sources ++ (own.gates ++ rest.gates) }

abbrev pub terms_circuit : Terms → List Width → List (List Lit) → ℕ → Built
terms_circuit Nil widths vars n = record { words = []; gates = [] }
terms_circuit (VarThen var constant size cond rest) widths vars n = leaf (word_at vars var) (terms_circuit rest (drop 1 widths) vars n)
terms_circuit (LitThen value boolean rest) widths vars n =
    leaf (constant (width_bits (first_of widths)) (residue (width_bits (first_of widths)) value)) (terms_circuit rest (drop 1 widths) vars n)
terms_circuit (AppThen op size once args rest) widths vars n =
    let sources : Built = terms_circuit args (drop 1 widths) vars n in
    let own : Block = op_circuit op (width_bits (first_of widths)) sources.words (behind n sources.gates) in
    node sources.gates own (terms_circuit rest (drop (suc (size_of args)) widths) vars (behind (behind n sources.gates) own.gates))

-- ---- a rule

abbrev pub rule_words : Rule → List Width → List (List Lit)
rule_words rule widths = words_from 1 (var_bits rule widths)

-- the first variable behind those of the rule's variables
abbrev pub first_free : Rule → List Width → ℕ
first_free rule widths = 1 + sum (var_bits rule widths)

abbrev pub rule_parts : Rule → List Width → List Part
rule_parts rule widths = parts_of (rule_words rule widths) (occurrences rule.search (search_part rule widths)) (first_free rule widths)

-- the first variable behind the conditions
abbrev pub sides_from : Rule → List Width → ℕ
sides_from rule widths = behind (first_free rule widths) (parts_gates (rule_parts rule widths))

abbrev pub search_circuit : Rule → List Width → Built
search_circuit rule widths = terms_circuit rule.search (search_part rule widths) (rule_words rule widths) (sides_from rule widths)

abbrev pub replace_from : Rule → List Width → ℕ
replace_from rule widths = behind (sides_from rule widths) (search_circuit rule widths).gates

abbrev pub replace_circuit : Rule → List Width → Built
replace_circuit rule widths = terms_circuit rule.replace (replace_part rule widths) (rule_words rule widths) (replace_from rule widths)

-- the bits at which the sides differ
abbrev pub difference : Rule → List Width → Block
difference rule widths =
    xor_word (word_at (search_circuit rule widths).words 0) (word_at (replace_circuit rule widths).words 0)
    (behind (replace_from rule widths) (replace_circuit rule widths).gates)

abbrev pub sides_gates : Rule → List Width → List Gate
sides_gates rule widths = (search_circuit rule widths).gates ++ ((replace_circuit rule widths).gates ++ (difference rule widths).gates)

-- variable 0 is true, the conditions hold, the gates make what they are to make, and the sides differ at some bit
abbrev pub rule_lits : Rule → List Width → List (List Lit)
rule_lits rule widths =
    (yes ∷ []) ∷ parts_clauses (first_free rule widths) (rule_parts rule widths)
    ++ (clauses_of (sides_from rule widths) (sides_gates rule widths) ++ (difference rule widths).word ∷ [])

unfoldable pub rule_clauses : Rule → List Width → List Clause
rule_clauses rule widths = all_numbers_of (rule_lits rule widths)
