-- The laws of rule files and of their formulas, as Laws.antt states them.
use Rattle.std.specs.Prelude.{◌≡◌, refl, ℕ, suc, true, List, [], ◌∷◌, ◌++◌, length, nat_le, Option, Some, None, Result, Ok, Err, cond}
use Rattle.std.proofs.Common.{sym, ◌∙◌, ap, ⊎_elim}
use Rattle.list_laws.specs.BoolLaws.{chosen}
use Rattle.nir_lex.specs.declared.fault.LexFault.{LexFault}
use Rattle.nir_lex.specs.declared.token.Token.{Token}
use Rattle.nir_lex.specs.Reading.{read_tokens}
use Rattle.grammar.specs.Grammar.{guarded}
use Rattle.grammar.specs.EveryLaws.{deep_read_is_spelled, deep_spelled_is_read, deep_first_fault, fault_has_place}
use Rattle.grammar.specs.Laws.{IsDecided}
use Rattle.grammar.specs.Lookahead.{begins, one}
use Rattle.grammar.specs.Reading.{Stop, read_deep}
use Rattle.grammar.specs.Terminals.{Terminal, TheMark}
use Rattle.rule_spelling.specs.Files.{Item, Fault}
use Rattle.rule_spelling.specs.Formula.{Formula, formulas, operand_firsts, Part, Whole, Operand, disjunction, formula_of, formula_of_terminals, terminals_from, value_of}
use Rattle.rule_spelling.specs.Formula as formula_grammar
use Rattle.rule_spelling.specs.Laws.{ReadIsSpelled, SpelledIsRead, FaultIsFirst, IsFormula, FormulaIsSpelled, FormulaIsRead}
use Rattle.rule_spelling.specs.RuleFiles.{rule_files, productions, file, read_file, IsFile}
use Rattle.rule_spelling.specs.Text.{TextFault, At, Says, StandsAt, placed, of_tokens, place_of_last, read_text, terminals_of}
use Rattle.rule_spelling.specs.Tokens.{State, none_read}

-- ---- terminals of files

files_decided : IsDecided rule_files (one (TheMark 91))
files_decided = record { whole = refl; each = λ place. refl }

pub file_is_spelled : (items : List Item) (z : State) (ts : List Terminal) → read_file ts ≡ Ok (items, z) → IsFile items z ts
unfolding read_file IsFile
file_is_spelled = deep_read_is_spelled rule_files productions _ _ file none_read

pub file_is_read : (items : List Item) (z : State) (ts : List Terminal) → IsFile items z ts → read_file ts ≡ Ok (items, z)
unfolding read_file IsFile
file_is_read = deep_spelled_is_read rule_files productions _ _ file files_decided (λ place. refl) none_read

pub file_fault : (before : List Terminal) (wrong : Terminal) (behind : List Terminal) (fault : Fault)
    → read_file (before ++ wrong ∷ behind) ≡ Err (record { fault = fault; rest = wrong ∷ behind })
    → (other : List Terminal) (items : List Item) (z : State) → IsFile items z (before ++ wrong ∷ other) → ⊥
unfolding read_file IsFile
file_fault = deep_first_fault rule_files productions _ _ file files_decided (λ place. refl) none_read

pub file_fault_stands : (ts : List Terminal) (stop : Stop rule_files) → read_file ts ≡ Err stop → (before : List Terminal) × (ts ≡ before ++ stop.rest)
unfolding read_file
file_fault_stands ts stop = fault_has_place rule_files productions _ _ file (suc (length ts)) none_read ts stop.fault stop.rest

-- ---- texts

abbrev gave : List Item → Result (List Item) TextFault
gave items = Ok items

gave_is : (a b : List Item) → gave a ≡ gave b → a ≡ b
gave_is a b e = cc

abbrev stood : Fault → ℕ → Result (List Item) TextFault
stood fault place = Err (At fault place)

stood_is : (fault other : Fault) (place there : ℕ) → stood fault place ≡ stood other there → place ≡ there
stood_is fault other place there e = cc

abbrev file_gave : List Item → State → Result (List Item × State) (Stop rule_files)
file_gave items z = Ok (items, z)

abbrev file_stopped : Fault → List Terminal → Result (List Item × State) (Stop rule_files)
file_stopped fault rest = Err (record { fault = fault; rest = rest })

placed_ok : (tokens : List Token) (r : Result (List Item × State) (Stop rule_files)) (items : List Item) → placed tokens r ≡ Ok items
    → (z : State) × (r ≡ Ok (items, z))
placed_ok tokens (Ok read) items e = (read.1, ap (λ items. file_gave items read.1) (gave_is read.0 items e))
placed_ok tokens (Err stop) items e = absurd cc

placed_err : (tokens : List Token) (r : Result (List Item × State) (Stop rule_files)) (fault : Fault) (place : ℕ) → placed tokens r ≡ Err (At fault place)
    → (stop : Stop rule_files) × (r ≡ Err stop) × (place_of_last tokens (length stop.rest) ≡ place)
placed_err tokens (Ok read) fault place e = absurd cc
placed_err tokens (Err stop) fault place e = (stop, refl, stood_is stop.fault fault (place_of_last tokens (length stop.rest)) place e)

pub read_is_spelled : ReadIsSpelled
unfolding read_text
read_is_spelled text items e = go (read_tokens text) refl e
  where
    go : (r : Result (List Token) LexFault) → read_tokens text ≡ r → of_tokens text r ≡ Ok items → Says text items
    go (Ok tokens) h e =
        let read = placed_ok tokens (read_file (terminals_of text tokens)) items e in
        record { tokens = tokens; are = h; state = read.0; spelled = file_is_spelled items read.0 (terminals_of text tokens) read.1 }
    go (Err fault) h e = absurd cc

pub spelled_is_read : SpelledIsRead
unfolding read_text
spelled_is_read text items says =
    ap (of_tokens text) says.are ∙ ap (placed says.tokens) (file_is_read items says.state (terminals_of text says.tokens) says.spelled)

pub fault_is_first : FaultIsFirst
unfolding read_text
fault_is_first text fault place e = go (read_tokens text) refl e
  where
    go : (r : Result (List Token) LexFault) → read_tokens text ≡ r → of_tokens text r ≡ Err (At fault place) → StandsAt text place
    go (Ok tokens) h e =
        let found = placed_err tokens (read_file (terminals_of text tokens)) fault place e in
        let stands = file_fault_stands (terminals_of text tokens) found.0 found.1 in
        record {
          tokens = tokens;
          are = h;
          before = stands.0;
          rest = found.0.rest;
          whole = stands.1;
          at = sym found.2;
          first = λ wrong behind same.
              file_fault stands.0 wrong behind found.0.fault
              (ap read_file (sym (stands.1 ∙ ap (λ rest. stands.0 ++ rest) same)) ∙ found.1 ∙ ap (file_stopped found.0.fault) same);
        }
    go (Err lexed) h e = absurd cc

-- ---- formulas

formulas_decided : IsDecided formulas (begins operand_firsts (TheMark 124 ∷ TheMark 38 ∷ []))
formulas_decided = record { whole = refl; each = decided }
  where
    decided : (part : Part) → (formulas.ahead part).decides ≡ true
    decided Whole = refl
    decided Operand = refl

abbrev formula_gave : Formula → Option Formula
formula_gave formula = Some formula

formula_is : (a b : Formula) → formula_gave a ≡ formula_gave b → a ≡ b
formula_is a b e = cc

abbrev formula_read : Formula → Result (Formula × Unit {0}) (Stop formulas)
formula_read formula = Ok (formula, tt)

value_gave : (r : Result (Formula × Unit {0}) (Stop formulas)) (formula : Formula) → value_of r ≡ Some formula → r ≡ formula_read formula
value_gave (Ok read) formula e = ap formula_read (formula_is read.0 formula e)
value_gave (Err stop) formula e = absurd cc

pub formula_is_spelled : FormulaIsSpelled
unfolding formula_of
formula_is_spelled text formula e =
    ⊎_elim
    (λ small. go (terminals_from 0 text) refl small.0 small.1)
    (λ large. absurd (let never = large.1 in cc))
    (chosen (nat_le (length text) 256) (formula_of_terminals (terminals_from 0 text)) None (Some formula) e)
  where
    go : (r : Option (List Terminal)) → terminals_from 0 text ≡ r → nat_le (length text) 256 ≡ true → formula_of_terminals r ≡ Some formula
        → IsFormula text formula
    go None h small e = absurd cc
    go (Some ts) h small e =
        record {
          size = small;
          terminals = ts;
          are = h;
          spelled =
              deep_read_is_spelled formulas formula_grammar.productions _ _ disjunction tt formula tt ts
              (value_gave (read_deep formulas formula_grammar.productions disjunction tt ts) formula e);
        }

pub formula_is_read : FormulaIsRead
unfolding formula_of
formula_is_read text formula is =
    ap (λ small. cond small (formula_of_terminals (terminals_from 0 text)) None) is.size
    ∙ ap formula_of_terminals is.are
    ∙ ap value_of
    (deep_spelled_is_read formulas formula_grammar.productions _ _ disjunction formulas_decided guarded_each tt formula tt is.terminals is.spelled)
  where
    guarded_each : (part : Part) → guarded (formula_grammar.productions part) ≡ true
    guarded_each Whole = refl
    guarded_each Operand = refl
