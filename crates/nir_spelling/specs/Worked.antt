-- A small shader that is spelled, as a worked example of the grammar: one block with a const, whose number is negative, and an output.
use Rattle.std.specs.Prelude.{◌≡◌, ◌++◌, Result, Ok, Err, refl, ℕ, List, [], ◌∷◌, negsuc, pos, None, codes}
use Rattle.std.proofs.Common.{arith, subst, sym}
use Rattle.std.specs.Fmt.{digits}
use Rattle.std.specs.List.{IsDistinct}
use Rattle.nir_ops.specs.declared.width.Width.TheVariants.{W8}
use Rattle.nir_ir.specs.declared.instr.Instr.TheVariants.{Const, Output}
use Rattle.nir_ir.specs.declared.kind.Kind.{Kind}
use Rattle.nir_ir.specs.Nodes.{Nil, BlockThen}
use Rattle.nir_ir.specs.Shader.{Shader}
use Rattle.nir_lex.specs.Classes.{starts_word, is_in_word, is_blank, is_quote, is_punctuation}
use Rattle.nir_lex.specs.Numbers.{limited}
use Rattle.nir_lex.specs.Pieces.{number_piece, decimal, hexadecimal, negative, unsigned, name as name_piece, piece_at}
use Rattle.nir_lex.specs.Reading.{read_tokens}
use Rattle.nir_lex.specs.declared.fault.LexFault.{LexFault}
use Rattle.nir_lex.specs.declared.token.Token.{Token}
use Rattle.nir_lex.specs.declared.token.TokenKind.{TokenKind}
use Rattle.nir_lex.specs.declared.token.TokenKind.TheVariants.{Word, Number, Name, Punct, End}
use Rattle.nir_text.specs.Naming.{Naming}
use Rattle.nir_text.specs.Signs.{signs_of}
use Rattle.nir_spelling.specs.Lexemes.{Lexeme, lexemes_of}
use Rattle.nir_spelling.specs.Spelling.{Spells}
use Rattle.nir_spelling.specs.Resolving.{Resolves, IsWithinLimits, Denotes}

abbrev byte : Kind
byte = record { width = W8; count = 1 }

abbrev pub small : Shader
small =
    record {
      inputs = [];
      outputs = byte ∷ [];
      buffers = 0;
      body =
          BlockThen (record { id = record { 0 = 0 }; phis = []; instrs = Const (record { 0 = 0 }) byte (255 ∷ []) ∷ Output (record { 0 = 0 }) 0 (record { 0 = 0 }) ∷ []; jump = None }) Nil;
      next_value = 1;
    }

abbrev pub small_names : Naming
small_names = record { values = codes "%a" ∷ []; counts = 1 ∷ []; blocks = codes "start" ∷ [] }

abbrev word : List ℕ → Lexeme
word text = record { kind = Word; text = text }

abbrev mark : ℕ → Lexeme
mark byte = record { kind = Punct byte; text = byte ∷ [] }

abbrev number : TokenKind → List ℕ → Lexeme
number kind text = record { kind = kind; text = text }

abbrev name : List ℕ → Lexeme
name text = record { kind = Name; text = text }

-- shader inputs [] outputs [w8x1] buffers 0 { block start { %a = const w8x1 (-1) output @0x0, %a } }
abbrev pub small_lexemes : List Lexeme
small_lexemes =
    word (codes "shader") ∷ word (codes "inputs") ∷ mark 91 ∷ mark 93 ∷ word (codes "outputs") ∷ mark 91 ∷ word (codes "w8x1") ∷ mark 93
    ∷ word (codes "buffers") ∷ number (Number (pos 0)) (codes "0") ∷ mark 123
    ∷ word (codes "block") ∷ word (codes "start") ∷ mark 123
    ∷ name (codes "%a") ∷ mark 61 ∷ word (codes "const") ∷ word (codes "w8x1") ∷ mark 40 ∷ number (Number (negsuc 0)) (codes "-1") ∷ mark 41
    ∷ word (codes "output") ∷ mark 64 ∷ number (Number (pos 0)) (codes "0x0") ∷ mark 44 ∷ name (codes "%a")
    ∷ mark 125 ∷ mark 125 ∷ record { kind = End; text = [] } ∷ []

pub small-spelled : Spells small_names small small_lexemes
unfolding digits
small-spelled = ((refl, refl), ((refl, refl), (refl, (refl, ((refl, refl), (refl, (((refl, refl), refl), (refl, ((refl, refl), ((refl, omega arith), (refl, ((refl, refl), ((refl, refl), (refl, (refl, ((refl, refl), (refl, ((refl, refl), (((refl, refl), refl), (refl, ((negsuc 0, refl, (refl, omega arith)), (refl, ((refl, refl), (refl, ((refl, omega arith), (refl, ((refl, refl), (refl, (refl, (refl, refl))))))))))))))))))))))))))))))

-- the text that these are the tokens of
abbrev pub small_text : List ℕ
small_text =
    codes "shader inputs [] outputs [w8x1] buffers 0\n"
    ++ codes "{ block start { # the one block\n"
    ++ codes "    %a = const w8x1 (-1)\n"
    ++ codes "    output @0x0, %a\n"
    ++ codes "} }\n"

abbrev tokens_in : Result (List Token) LexFault → List Token
tokens_in (Ok tokens) = tokens
tokens_in (Err fault) = []

abbrev small_tokens : List Token
small_tokens = tokens_in (read_tokens small_text)

pub small-tokens : lexemes_of (signs_of small_text small_tokens) ≡ small_lexemes
unfolding read_tokens piece_at is_blank starts_word is_in_word is_quote is_punctuation number_piece limited decimal hexadecimal negative unsigned name_piece
small-tokens = refl

small-read : read_tokens small_text ≡ Ok small_tokens
unfolding read_tokens piece_at is_blank starts_word is_in_word is_quote is_punctuation number_piece limited decimal hexadecimal negative unsigned name_piece
small-read = refl

small-resolves : Resolves small_names small
unfolding IsDistinct
small-resolves = record {
  values = refl;
  blocks = refl;
  effects = refl;
  ifs = refl;
  loops = refl;
  next_value = refl;
  value_names = refl;
  block_words = refl;
  distinct_names = (tt, tt);
  distinct_words = (tt, tt);
  counts = refl;
}

small-within : IsWithinLimits small
small-within = record { values = omega arith; inputs = omega arith; outputs = omega arith; buffers = omega arith; depth = omega arith }

pub small-denoted : Denotes small_text small
small-denoted = (small_tokens, small_names, small-read, record { spelled = subst (Spells small_names small) (sym small-tokens) small-spelled; resolves = small-resolves; within = small-within })
