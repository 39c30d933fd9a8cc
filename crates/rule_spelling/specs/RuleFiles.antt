-- The grammar of rule files: rules as the tuples of Mesa's nir_opt_algebraic.py, with the evidence of this project's own.
use Rattle.std.specs.Prelude.{ℕ, ℤ, pos, Bool, true, false, List, [], ◌∷◌, Some, None, Result, Ok, codes, refl}
use Rattle.rule_term.specs.Terms.{Terms, Nil, LitThen}
use Rattle.grammar.specs.Terminals.{Terminal, Class, TheWord, WordBut, TheMark, ANumber, AQuoted}
use Rattle.grammar.specs.Lookahead.{Lookahead, one, star, begins, maybe_begins, nothing, ◌⨟◌, ◌∪◌}
use Rattle.grammar.specs.Grammar.{Vocabulary, Grammar, empty, terminal, named, widened, Productions}
use Rattle.grammar.specs.Reading.{Stop, read_deep}
use Rattle.grammar.specs.Spelling.{IsTextOfAnyDepth}
use Rattle.grammar.specs.Words.{◌>>=◌, ◌>>◌, ◌or◌, bytes, word, mark, end, number_as, each_behind_comma, each_behind_comma_then_maybe_one, separated, listed, maybe_none, between}
use Rattle.rule_spelling.specs.Files.{Binding, Step, Apply, Calc, LogStep, Proof, Cases, Derive, Logged, Item, AWeight, ALine, Fault, Expected}
use Rattle.rule_spelling.specs.Formula.{Formula, Always}
use Rattle.rule_spelling.specs.Tokens.{State, none_read, Place, Search, Replace, Evidence, Head, op_taken, closed, var_taken, rule_begun, side_begun, rule_ended, formula_taken, number_taken, evidence_begun, index_of, literal_of, weighed_taken, weight_taken}

abbrev pub truths : List (List ℕ)
truths = codes "True" ∷ codes "False" ∷ []

abbrev pub expr_firsts : List Class
expr_firsts = TheMark 40 ∷ WordBut truths ∷ AQuoted ∷ ANumber ∷ TheWord (codes "True") ∷ TheWord (codes "False") ∷ []

-- the nonterminals are terms, wherever they stand
abbrev pub rule_files : Vocabulary
rule_files = record {
  state = State;
  fault = Fault;
  expected = Expected;
  too_deep = Expected;
  nonterminal = Place;
  denoted = λ place. Terms;
  ahead = λ place. begins expr_firsts [];
}

-- ---- terms: app = "(" op { "," expr } [ "," ] ")", expr = app | var | NUMBER | "True" | "False"

abbrev pub op : Place → Grammar rule_files (begins (WordBut [] ∷ AQuoted ∷ []) []) Head
op place = terminal (WordBut []) (op_taken place) or terminal AQuoted (op_taken place)

abbrev pub app : Place → Grammar rule_files (one (TheMark 40)) Terms
app place = do
  mark rule_files 40
  head ← op place
  args ← each_behind_comma_then_maybe_one rule_files (named place)
  terminal (TheMark 41) (closed head args)

abbrev pub expr : Place → Grammar rule_files (begins expr_firsts []) Terms
expr place =
    app place
    or terminal (WordBut truths) (var_taken place)
    or terminal AQuoted (var_taken place)
    or terminal ANumber number_taken
    or terminal (TheWord (codes "True")) (λ x first. Ok (LitThen (pos 1) true Nil, x))
    or terminal (TheWord (codes "False")) (λ x first. Ok (LitThen (pos 0) true Nil, x))

abbrev pub productions : Productions rule_files
productions place = expr place

-- ---- rule = "(" app "," expr [ "," QUOTED ] [ "," ] ")"

abbrev pub maybe_comma : Grammar rule_files (maybe_begins (TheMark 44 ∷ []) (TheMark 44 ∷ [])) (Unit {0})
maybe_comma = mark rule_files 44 or empty tt

abbrev pub options : Grammar rule_files (maybe_begins (TheMark 44 ∷ []) (AQuoted ∷ TheMark 44 ∷ [])) Formula
options =
    widened (maybe_begins (TheMark 44 ∷ []) (AQuoted ∷ TheMark 44 ∷ [])) refl
    (mark rule_files 44 >> ((terminal AQuoted formula_taken >>= λ formula. maybe_comma >> empty formula) or empty Always) or empty Always)

abbrev pub rule : Grammar rule_files (one (TheMark 40)) Item
rule = do
  terminal (TheMark 40) rule_begun
  search ← app Search
  terminal (TheMark 44) side_begun
  replace ← named Replace
  formula ← options
  terminal (TheMark 41) (rule_ended search replace formula)

-- ---- evidence

abbrev pub index : Grammar rule_files (one ANumber) ℕ
index = number_as rule_files index_of

abbrev pub literal : Grammar rule_files (one ANumber) ℤ
literal = number_as rule_files literal_of

-- "[" [ item { "," item } ] "]"
abbrev pub in_brackets : {A : Type 0} {p : Lookahead} → Grammar rule_files p A
    → Grammar rule_files (one (TheMark 91) ⨟ ((p ⨟ star (one (TheMark 44) ⨟ p ⨟ nothing) ⨟ nothing) ∪ nothing) ⨟ one (TheMark 93) ⨟ nothing) (List A)
in_brackets item = between rule_files 91 93 (maybe_none rule_files (separated rule_files item))

abbrev pub indices : Grammar rule_files (one (TheMark 91)) (List ℕ)
indices = in_brackets index

abbrev pub literals : Grammar rule_files (one (TheMark 91)) (List ℤ)
literals = in_brackets literal

-- the WORD of a binding, which is not `rev`, or is
abbrev pub bound_to : List ℕ → Grammar rule_files (one (TheMark 61)) Binding
bound_to name = terminal (TheMark 61) side_begun >> named Evidence >>= λ with. empty (record { name = name; with = with })

abbrev pub binding : Grammar rule_files (one (WordBut [])) Binding
binding = bytes rule_files (WordBut []) >>= bound_to

abbrev pub bindings : Grammar rule_files (star (one (TheMark 44))) (List Binding)
bindings = each_behind_comma rule_files binding

-- what stands behind the path of a law: whether it is read from right to left, and bindings
pub record Reading : Type 0 where
  pub rev : Bool
  pub bindings : List Binding

abbrev pub others_behind : Binding → Grammar rule_files (star (one (TheMark 44))) Reading
others_behind first = bindings >>= λ others. empty (record { rev = false; bindings = first ∷ others })

-- behind `rev`: the `=` of a binding of that name, or all bindings
abbrev pub behind_rev : Grammar rule_files (maybe_begins (TheMark 61 ∷ TheMark 44 ∷ []) (TheMark 61 ∷ TheMark 44 ∷ [])) Reading
behind_rev =
    widened (maybe_begins (TheMark 61 ∷ TheMark 44 ∷ []) (TheMark 61 ∷ TheMark 44 ∷ [])) refl
    ((bound_to (codes "rev") >>= others_behind) or (bindings >>= λ all. empty (record { rev = true; bindings = all })))

abbrev pub reading : Grammar rule_files (maybe_begins (TheMark 44 ∷ []) (TheMark 61 ∷ TheMark 44 ∷ [])) Reading
reading =
    widened (maybe_begins (TheMark 44 ∷ []) (TheMark 61 ∷ TheMark 44 ∷ [])) refl
    (mark rule_files 44
    >> ((word rule_files (codes "rev") >> behind_rev) or (bytes rule_files (WordBut (codes "rev" ∷ [])) >>= bound_to >>= others_behind))
    or empty (record { rev = false; bindings = [] }))

-- step = "(" NUMBER "," path [ "," "rev" ] { "," WORD "=" expr } ")" | "(" "calc" "," path "," expr ")"
abbrev pub law : Grammar rule_files (begins (ANumber ∷ []) (TheMark 61 ∷ TheMark 44 ∷ [])) Step
law = do
  number ← index
  mark rule_files 44
  path ← indices
  taken ← reading
  empty (Apply number path taken.rev taken.bindings)

abbrev pub calc : Grammar rule_files (one (TheWord (codes "calc"))) Step
calc = do
  word rule_files (codes "calc")
  mark rule_files 44
  path ← indices
  terminal (TheMark 44) side_begun
  with ← named Evidence
  empty (Calc path with)

abbrev pub step : Grammar rule_files (one (TheMark 40)) Step
step = between rule_files 40 41 (law or calc)

-- lstep = "(" ints "," ints ")"
abbrev pub log_step : Grammar rule_files (one (TheMark 40)) LogStep
log_step =
    between rule_files 40 41 (do
      clause ← literals
      mark rule_files 44
      hints ← indices
      empty (record { clause = clause; hints = hints }))

-- proof = "cases" | "derive" "[" [ step { "," step } ] "]" | "log" "[" [ lstep { "," lstep } ] "]"
abbrev pub proof_firsts : List Class
proof_firsts = TheWord (codes "cases") ∷ TheWord (codes "derive") ∷ TheWord (codes "log") ∷ []

abbrev pub proof : Grammar rule_files (begins proof_firsts []) Proof
proof =
    (word rule_files (codes "cases") >> empty Cases)
    or (word rule_files (codes "derive") >> in_brackets step >>= λ steps. empty (Derive steps))
    or (word rule_files (codes "log") >> in_brackets log_step >>= λ steps. empty (Logged steps))

-- "by" ( "*" | NUMBER ) proof
abbrev pub evidence : Grammar rule_files (one (TheWord (codes "by"))) Item
evidence = do
  terminal (TheWord (codes "by")) evidence_begun
  typing ← (mark rule_files 42 >> empty None) or (index >>= λ number. empty (Some number))
  shown ← proof
  empty (ALine (record { typing = typing; proof = shown }))

-- ---- file = "[" [ item { "," item } [ "," ] ] "]" END

-- "weight" WORD NUMBER
abbrev pub weight : Grammar rule_files (one (TheWord (codes "weight"))) Item
weight = do
  word rule_files (codes "weight")
  weighed ← terminal (WordBut []) weighed_taken
  weight ← terminal ANumber weight_taken
  empty (AWeight weighed weight)

abbrev pub item : Grammar rule_files (begins (TheWord (codes "weight") ∷ TheMark 40 ∷ TheWord (codes "by") ∷ []) []) Item
item = weight or rule or evidence

abbrev pub file : Grammar rule_files (one (TheMark 91)) (List Item)
file = between rule_files 91 93 (maybe_none rule_files (listed rule_files item)) >>= λ items. end rule_files >> empty items

-- what the terminals of a text say, and what was read, or the first fault
unfoldable pub read_file : List Terminal → Result (List Item × State) (Stop rule_files)
read_file = read_deep rule_files productions file none_read

-- the terminals spell these items
unfoldable pub IsFile : List Item → State → List Terminal → Type 0
IsFile = IsTextOfAnyDepth rule_files productions file none_read
