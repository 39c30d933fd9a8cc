-- Blocks, ifs, loops and their lists as texts, and whole shaders.
use Rattle.std.specs.Prelude.{◌≡◌, ℕ, zero, suc, ◌+◌, List, length, drop, ℤ, pos, negsuc, Option, Some, None, Result, Ok, Err, nat_lt, codes, if◌then◌else◌}
use Rattle.nir_lex.specs.declared.fault.LexFault.{LexFault}
use Rattle.nir_lex.specs.declared.token.Token.{Token}
use Rattle.nir_lex.specs.Kinds.{is_end}
use Rattle.nir_lex.specs.Reading.{read_tokens}
use Rattle.nir_ir.specs.declared.kind.Kind.{Kind}
use Rattle.nir_ir.specs.declared.node.Block as block
use Rattle.nir_ir.specs.Nodes.{Nodes, Nil, BlockThen, IfThen, LoopThen, then as chained}
use Rattle.nir_ir.specs.Shader.{Shader}
use Rattle.nir_text.specs.declared.counts.Counts.{Counts}
use Rattle.nir_text.specs.declared.fault.TextFault.{TextFault}
use Rattle.nir_text.specs.declared.fault.TextFault.TheVariants.{Lex, Expected, UnknownName, TooDeep, TooMany}
use Rattle.nir_text.specs.Signs.{Sign, signs_of, number_of_kind, is_mark, is_word}
use Rattle.nir_text.specs.Naming.{Naming, naming_of, first_unknown}
use Rattle.nir_text.specs.Reading.{Point, here, next, ◌>>=◌, mark_at, word_at, kind_at, value_used_at, block_defined_at, bracketed_at}
use Rattle.nir_text.specs.Instrs.{instrs_at, phis_at, jump_at}

-- a block behind the word `block`
unfoldable pub block_at : Naming → Point → Result (block.Block × Point) TextFault
block_at names p = do
  id ← block_defined_at names p
  begun ← mark_at 123 id.1
  phis ← phis_at names (length begun.rest) begun
  instrs ← instrs_at names (length phis.1.rest) phis.1
  jump ← jump_at instrs.1
  close ← mark_at 125 jump.1
  Ok (record { id = id.0; phis = phis.0; instrs = instrs.0; jump = jump.0 }, close)

-- behind the word that begins an if or a loop, which takes the next number
abbrev pub if_begun : Point → Point
if_begun p = record { rest = drop 1 p.rest; counts = record p.counts { ifs = p.counts.ifs + 1 } }

abbrev pub loop_begun : Point → Point
loop_begun p = record { rest = drop 1 p.rest; counts = record p.counts { loops = p.counts.loops + 1 } }

module _ (inner : Point → Result (Nodes × Point) TextFault) where
  -- an if
  unfoldable pub if_at : Naming → Point → Result (Nodes × Point) TextFault
  if_at names p = do
    cond ← value_used_at names (if_begun p)
    first ← inner cond.1
    word ← word_at (codes "else") first.1
    second ← inner word
    Ok (IfThen (record { 0 = p.counts.ifs }) cond.0 first.0 second.0 Nil, second.1)

  -- a loop
  unfoldable pub loop_at : Point → Result (Nodes × Point) TextFault
  loop_at p = do
    body ← inner (loop_begun p)
    Ok (LoopThen (record { 0 = p.counts.loops }) body.0 Nil, body.1)

  -- one node
  unfoldable pub node_at : Naming → Point → Result (Nodes × Point) TextFault
  node_at names p =
      if is_word (codes "block") (here p)
      then (do
        b ← block_at names (next p)
        Ok (BlockThen b.0 Nil, b.1))
      else (if is_word (codes "if") (here p) then if_at names p
      else (if is_word (codes "loop") (here p) then loop_at p
      else Err (Expected (here p).place)))

  -- the nodes up to the closing brace; there are at most as many as tokens
  unfoldable pub nodes_at : Naming → ℕ → Point → Result (Nodes × Point) TextFault
  nodes_at names zero p = Err (Expected (here p).place)
  nodes_at names (suc fuel) p =
      if is_mark 125 (here p) then Ok (Nil, next p)
      else (do
        one ← node_at names p
        others ← nodes_at names fuel one.1
        Ok (chained one.0 others.0, others.1))

-- a list that may hold so many lists inside one another, itself among them
unfoldable pub list_at : Naming → ℕ → Point → Result (Nodes × Point) TextFault
list_at names zero p = if is_mark 123 (here p) then Err (TooDeep (here p).place) else Err (Expected (here p).place)
list_at names (suc depth) p = do
  begun ← mark_at 123 p
  nodes_at (list_at names depth) names (length begun.rest) begun

-- a kind of a declaration, of which there may be 64
unfoldable pub declared_kind_at : ℕ → Point → Result (Kind × Point) TextFault
declared_kind_at k p = do
  kind ← kind_at p
  if nat_lt k 64 then Ok kind else Err (TooMany (here p).place)

-- the number of buffers, which is at most 16
abbrev pub buffers_of : Option ℤ → Point → Result (ℕ × Point) TextFault
buffers_of None p = Err (Expected (here p).place)
buffers_of (Some (negsuc n)) p = Err (Expected (here p).place)
buffers_of (Some (pos n)) p = if nat_lt n 17 then Ok (n, next p) else Err (TooMany (here p).place)

unfoldable pub buffers_at : Point → Result (ℕ × Point) TextFault
buffers_at p = buffers_of (number_of_kind (here p).kind) p

unfoldable pub end_at : Point → Result Point TextFault
end_at p = if is_end (here p).kind then Ok p else Err (Expected (here p).place)

-- a shader, to the end of its text
unfoldable pub shader_at : Naming → Point → Result (Shader × Point) TextFault
shader_at names p = do
  shader ← word_at (codes "shader") p
  inputs_word ← word_at (codes "inputs") shader
  inputs ← bracketed_at declared_kind_at inputs_word
  outputs_word ← word_at (codes "outputs") inputs.1
  outputs ← bracketed_at declared_kind_at outputs_word
  buffers_word ← word_at (codes "buffers") outputs.1
  buffers ← buffers_at buffers_word
  body ← list_at names 64 buffers.1
  end ← end_at body.1
  Ok (record { inputs = inputs.0; outputs = outputs.0; buffers = buffers.0; body = body.0; next_value = end.counts.values }, end)

abbrev pub no_counts : Counts
no_counts = record { values = 0; blocks = 0; effects = 0; ifs = 0; loops = 0 }

-- a name that nothing defines comes after all else
abbrev pub all_known : Option ℕ → Shader → Result Shader TextFault
all_known None shader = Ok shader
all_known (Some place) shader = Err (UnknownName place)

unfoldable pub read_signs : List Sign → Result Shader TextFault
read_signs signs = do
  read ← shader_at (naming_of signs) (record { rest = signs; counts = no_counts })
  all_known (first_unknown (naming_of signs) read.1.counts signs) read.0

-- the tokens come first
abbrev pub lexed : Result (List Token) LexFault → Result (List Token) TextFault
lexed (Ok tokens) = Ok tokens
lexed (Err fault) = Err (Lex fault)

-- the shader of a text, or the first fault
unfoldable pub read_text : List ℕ → Result Shader TextFault
read_text text = do
  tokens ← lexed (read_tokens text)
  read_signs (signs_of text tokens)

-- The text is that of the shader.
abbrev pub Reads : List ℕ → Shader → Type 0
Reads text shader = read_text text ≡ Ok shader
