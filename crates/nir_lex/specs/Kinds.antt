-- Tests of what a token is, as every grammar over the tokens of a text asks them.
use Rattle.std.specs.Prelude.{ℕ, Bool, true, false, ◌==◌}
use Rattle.nir_lex.specs.declared.token.TokenKind.{TokenKind}
use Rattle.nir_lex.specs.declared.token.TokenKind.TheVariants.{Word, Number, Name, Quoted, Punct, End}

-- whether it is this mark of punctuation
abbrev pub is_mark : ℕ → TokenKind → Bool
is_mark mark Word = false
is_mark mark (Number value) = false
is_mark mark Name = false
is_mark mark Quoted = false
is_mark mark (Punct byte) = byte == mark
is_mark mark End = false

-- whether it is the end of the text
abbrev pub is_end : TokenKind → Bool
is_end Word = false
is_end (Number value) = false
is_end Name = false
is_end Quoted = false
is_end (Punct byte) = false
is_end End = true
