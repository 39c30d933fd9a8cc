-- A worked example: lists of numbers in brackets, one in the other to any depth, with three numbers at most; and some of its texts.
use Rattle.std.specs.Prelude.{◌≡◌, refl, ℕ, suc, ℤ, pos, List, [], ◌∷◌, ◌++◌, Result, Ok, Err, nat_lt, if◌then◌else◌}
use Rattle.nir_lex.specs.declared.token.TokenKind.TheVariants as kind
use Rattle.grammar.specs.Terminals.{Terminal, TheMark, ANumber}
use Rattle.grammar.specs.Lookahead.{one, begins}
use Rattle.grammar.specs.Grammar.{Vocabulary, Grammar, empty, terminal, named, Productions}
use Rattle.grammar.specs.Spelling.{IsTextOfAnyDepth}
use Rattle.grammar.specs.Reading.{Stop, read_deep}
use Rattle.grammar.specs.Words.{◌>>=◌, ◌or◌, number_of, between, maybe_none, listed}

-- numbers and lists, each before the rest of its list
pub data Items : Type 0 where
  Nil : Items
  NumberThen : ℤ → Items → Items
  ListThen : Items → Items → Items

pub data Item : Type 0 where
  ANumberItem : ℤ → Item
  AList : Items → Item

abbrev pub chain : List Item → Items
chain [] = Nil
chain (ANumberItem value ∷ others) = NumberThen value (chain others)
chain (AList inner ∷ others) = ListThen inner (chain others)

pub data Fault : Type 0 where
  Expected : Fault
  TooMany : Fault

-- the state is how many numbers were read
abbrev pub lists : Vocabulary
lists = record {
  state = ℕ;
  fault = Fault;
  expected = Expected;
  too_deep = Expected;
  nonterminal = Unit {0};
  denoted = λ n. Items;
  ahead = λ n. one (TheMark 91);
}

abbrev pub number : Grammar lists (one ANumber) Item
number = terminal ANumber (λ count first. if nat_lt count 3 then Ok (ANumberItem (number_of first.kind), suc count) else Err TooMany)

abbrev pub item : Grammar lists (begins (ANumber ∷ TheMark 91 ∷ []) []) Item
item = number or (named tt >>= λ inner. empty (AList inner))

-- items in brackets, with commas between them, or none
abbrev pub list : Grammar lists (one (TheMark 91)) Items
list = between lists 91 93 (maybe_none lists (listed lists item)) >>= λ items. empty (chain items)

abbrev pub productions : Productions lists
productions n = list

abbrev pub read_list : List Terminal → Result (Items × ℕ) (Stop lists)
read_list = read_deep lists productions list 0

-- the text denotes the list, which has so many numbers
abbrev pub IsList : Items → ℕ → List Terminal → Type 0
IsList = IsTextOfAnyDepth lists productions list 0

-- ---- the laws of its texts

abbrev pub ListsAreRead : Type 0
ListsAreRead = (items : Items) (count : ℕ) (ts : List Terminal) → IsList items count ts → read_list ts ≡ Ok (items, count)

abbrev pub ReadAreLists : Type 0
ReadAreLists = (items : Items) (count : ℕ) (ts : List Terminal) → read_list ts ≡ Ok (items, count) → IsList items count ts

abbrev pub FaultIsFirst : Type 0
FaultIsFirst =
    (before : List Terminal) (wrong : Terminal) (rest : List Terminal) (fault : Fault)
    → read_list (before ++ wrong ∷ rest) ≡ Err (record { fault = fault; rest = wrong ∷ rest })
    → (other : List Terminal) (items : Items) (count : ℕ) → IsList items count (before ++ wrong ∷ other) → ⊥

-- ---- texts

abbrev m : ℕ → Terminal
m byte = record { kind = kind.Punct byte; text = byte ∷ [] }

abbrev n : ℕ → Terminal
n value = record { kind = kind.Number (pos value); text = [] }

-- [1, [2, [],], 3]
a_list : read_list (m 91 ∷ n 1 ∷ m 44 ∷ m 91 ∷ n 2 ∷ m 44 ∷ m 91 ∷ m 93 ∷ m 44 ∷ m 93 ∷ m 44 ∷ n 3 ∷ m 93 ∷ [])
    ≡ Ok (NumberThen (pos 1) (ListThen (NumberThen (pos 2) (ListThen Nil Nil)) (NumberThen (pos 3) Nil)), 3)
a_list = refl

-- [1 2] stops at the 2, [1, 2, 3, 4] at the 4, and [1, 2 at its end
no_comma : read_list (m 91 ∷ n 1 ∷ n 2 ∷ m 93 ∷ []) ≡ Err (record { fault = Expected; rest = n 2 ∷ m 93 ∷ [] })
no_comma = refl

fourth_number : read_list (m 91 ∷ n 1 ∷ m 44 ∷ n 2 ∷ m 44 ∷ n 3 ∷ m 44 ∷ n 4 ∷ m 93 ∷ []) ≡ Err (record { fault = TooMany; rest = n 4 ∷ m 93 ∷ [] })
fourth_number = refl

no_end : read_list (m 91 ∷ n 1 ∷ m 44 ∷ n 2 ∷ []) ≡ Err (record { fault = Expected; rest = [] })
no_end = refl
