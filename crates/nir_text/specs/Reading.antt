-- Reading from left to right: a reader goes from a point of the text to a value and the next point, or stops at the first fault.
use Rattle.std.specs.Prelude.{◌≡◌, ℕ, zero, suc, ◌+◌, ◌^◌, List, [], ◌∷◌, length, drop, ℤ, pos, negsuc, Option, Some, None, Result, Ok, Err, nat_lt, if◌then◌else◌}
use Rattle.std.specs.Option.{unwrap_or, option_and_then}
use Rattle.nir_ir.specs.declared.ids.BlockId.{BlockId}
use Rattle.nir_ir.specs.declared.ids.ValueId.{ValueId}
use Rattle.nir_ir.specs.declared.kind.Kind.{Kind}
use Rattle.nir_text.specs.declared.counts.Counts.{Counts}
use Rattle.nir_text.specs.declared.fault.TextFault.{TextFault}
use Rattle.nir_text.specs.declared.fault.TextFault.TheVariants.{Lex, Expected, UnknownOp, UnknownName, Twice, TooDeep, TooMany, OutOfMemory}
use Rattle.nir_text.specs.Signs.{Sign, word_of, name_of, number_of_kind, is_mark, is_word, first_of}
use Rattle.nir_text.specs.Kinds.{kind_named}
use Rattle.nir_text.specs.Naming.{Naming, place_of, is_among_first}

infixl 10 ◌>>=◌
abbrev pub ◌>>=◌ : {A B : Type 0} → Result A TextFault → (A → Result B TextFault) → Result B TextFault
(Ok x) >>= f = f x
(Err e) >>= f = Err e

-- What a function returned, seen by view, is what reading gives, unless memory ran out.
abbrev pub Fails : {Y : Type 0} → TextFault → Result Y TextFault → Type 0
Fails (Lex fault) read = read ≡ Err (Lex fault)
Fails (Expected place) read = read ≡ Err (Expected place)
Fails (UnknownOp place) read = read ≡ Err (UnknownOp place)
Fails (UnknownName place) read = read ≡ Err (UnknownName place)
Fails (Twice place) read = read ≡ Err (Twice place)
Fails (TooDeep place) read = read ≡ Err (TooDeep place)
Fails (TooMany place) read = read ≡ Err (TooMany place)
Fails OutOfMemory read = Unit {0}

abbrev pub Gives : {X Y : Type 0} → (X → Y) → Result X TextFault → Result Y TextFault → Type 0
Gives view (Ok x) read = read ≡ Ok (view x)
Gives view (Err e) read = Fails e read

-- what is left of the text, and how much was named before it
pub record Point : Type 0 where
  pub rest : List Sign
  pub counts : Counts

abbrev pub here : Point → Sign
here p = first_of p.rest

-- behind the token that stands here
abbrev pub next : Point → Point
next p = record { rest = drop 1 p.rest; counts = p.counts }

-- behind a name that defines a value, and behind a word that defines a block
abbrev pub value_begun : Point → Point
value_begun p = record { rest = drop 1 p.rest; counts = record p.counts { values = p.counts.values + 1 } }

abbrev pub block_begun : Point → Point
block_begun p = record { rest = drop 1 p.rest; counts = record p.counts { blocks = p.counts.blocks + 1 } }

-- a token that has to be this mark of punctuation
unfoldable pub mark_at : ℕ → Point → Result Point TextFault
mark_at mark p = if is_mark mark (here p) then Ok (next p) else Err (Expected (here p).place)

-- a token that has to be this word
unfoldable pub word_at : List ℕ → Point → Result Point TextFault
word_at word p = if is_word word (here p) then Ok (next p) else Err (Expected (here p).place)

-- a token that has to have something
abbrev pub wanted : {A : Type 0} → Option A → Point → Result (A × Point) TextFault
wanted None p = Err (Expected (here p).place)
wanted (Some x) p = Ok (x, next p)

unfoldable pub kind_at : Point → Result (Kind × Point) TextFault
kind_at p = wanted (option_and_then kind_named (word_of (here p))) p

-- a number from 0 to 2^32 - 1
abbrev pub index_of : ℤ → Option ℕ
index_of (pos n) = if nat_lt n (2 ^ 32) then Some n else None
index_of (negsuc n) = None

unfoldable pub index_at : Point → Result (ℕ × Point) TextFault
index_at p = wanted (option_and_then index_of (number_of_kind (here p).kind)) p

-- the name of a value where it is defined: its number is that of the values before it
unfoldable pub value_defined_at : Naming → Point → Result (ValueId × Point) TextFault
value_defined_at names p = do
  name ← wanted (name_of (here p)) p
  if is_among_first p.counts.values (place_of name.0 names.values) then Err (Twice (here p).place)
      else (if nat_lt p.counts.values 16384
      then Ok (record { 0 = p.counts.values }, value_begun p)
      else Err (TooMany (here p).place))

-- the name of a value where it is used
unfoldable pub value_used_at : Naming → Point → Result (ValueId × Point) TextFault
value_used_at names p = do
  name ← wanted (name_of (here p)) p
  Ok (record { 0 = unwrap_or (place_of name.0 names.values) 0 }, name.1)

-- the word of a block where it is defined
unfoldable pub block_defined_at : Naming → Point → Result (BlockId × Point) TextFault
block_defined_at names p = do
  word ← wanted (word_of (here p)) p
  if is_among_first p.counts.blocks (place_of word.0 names.blocks) then Err (Twice (here p).place)
      else Ok (record { 0 = p.counts.blocks }, block_begun p)

-- the word of a block where it is used
unfoldable pub block_used_at : Naming → Point → Result (BlockId × Point) TextFault
block_used_at names p = do
  word ← wanted (word_of (here p)) p
  Ok (record { 0 = unwrap_or (place_of word.0 names.blocks) 0 }, word.1)

-- one item and then others
abbrev pub first_and : {A : Type 0} → A → Result (List A × Point) TextFault → Result (List A × Point) TextFault
first_and item read = read >>= λ others. Ok (item ∷ others.0, others.1)

module _ {A : Type 0} (read : ℕ → Point → Result (A × Point) TextFault) where
  -- so many more items, each behind a comma; k items stand before them
  unfoldable pub commas_at : ℕ → ℕ → Point → Result (List A × Point) TextFault
  commas_at k zero p = Ok ([], p)
  commas_at k (suc n) p = do
    comma ← mark_at 44 p
    first ← read k comma
    others ← commas_at (k + 1) n first.1
    Ok (first.0 ∷ others.0, others.1)

  -- so many items with commas between them
  unfoldable pub separated_at : ℕ → Point → Result (List A × Point) TextFault
  separated_at zero p = Ok ([], p)
  separated_at (suc n) p = do
    first ← read 0 p
    others ← commas_at 1 n first.1
    Ok (first.0 ∷ others.0, others.1)

  -- more items, each behind a comma, up to a closing bracket; there are at most as many as tokens
  unfoldable pub more_at : ℕ → ℕ → Point → Result (List A × Point) TextFault
  more_at k zero p = Err (Expected (here p).place)
  more_at k (suc fuel) p =
      if is_mark 44 (here p)
      then (do
        first ← read k (next p)
        others ← more_at (k + 1) fuel first.1
        Ok (first.0 ∷ others.0, others.1))
      else (do
        close ← mark_at 93 p
        Ok ([], close))

  -- items in brackets with commas between them, or none
  unfoldable pub bracketed_at : Point → Result (List A × Point) TextFault
  bracketed_at p = do
    begun ← mark_at 91 p
    if is_mark 93 (here begun) then Ok ([], next begun)
        else (do
          first ← read 0 begun
          others ← more_at 1 (length first.1.rest) first.1
          Ok (first.0 ∷ others.0, others.1))
