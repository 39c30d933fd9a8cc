-- What a word or a quoted text says of an opcode or a variable: [#]NAME[@SIZE][(CONDITION)], as in Mesa's nir_opt_algebraic.py.
use Rattle.std.specs.Prelude.{ℕ, ◌-◌, Bool, true, false, not, ◌&&◌, ◌||◌, ◌==◌, List, [], ◌∷◌, length, take, drop, Option, Some, None, Result, Ok, Err, codes, find, if◌then◌else◌}
use Rattle.std.specs.Char.{is_ascii_alphabetic}
use Rattle.std.specs.List.{prefix_len}
use Rattle.std.specs.Option.{option_map}
use Rattle.std.specs.Str.{bytes_eq}
use Rattle.nir_lex.specs.Classes.{begins, is_word}
use Rattle.nir_lex.specs.declared.token.TokenKind.{TokenKind}
use Rattle.nir_lex.specs.declared.token.TokenKind.TheVariants.{Word, Number, Name, Quoted, Punct, End}
use Rattle.nir_ops.specs.declared.width.Width.{Width}
use Rattle.nir_ops.specs.declared.width.Width.TheVariants.{W1, W8, W16, W32, W64}
use Rattle.rule_term.specs.declared.cond.Cond.{Cond}
use Rattle.rule_term.specs.declared.cond.Cond.TheVariants.{PosPow2, NegPow2, MultipleOf4, UpperHalfZero, LowerHalfZero, NotConst, UsedOnce}
use Rattle.grammar.specs.Terminals.{Terminal}
use Rattle.rule_spelling.specs.Files.{Fault, Expected, Excluded}

-- a name with what is asked of what it stands for
pub record Annotated : Type 0 where
  pub constant : Bool
  pub name : List ℕ
  pub size : Option Width
  pub cond : Option Cond

abbrev pub plain : List ℕ → Annotated
plain name = record { constant = false; name = name; size = None; cond = None }

-- ---- sizes and conditions

-- what is written for a size, or for none
pub record SizeText : Type 0 where
  pub text : List ℕ
  pub size : Option Width

abbrev pub size_texts : List SizeText
size_texts =
    record { text = codes ""; size = None } ∷
    record { text = codes "@1"; size = Some W1 } ∷
    record { text = codes "@8"; size = Some W8 } ∷
    record { text = codes "@16"; size = Some W16 } ∷
    record { text = codes "@32"; size = Some W32 } ∷
    record { text = codes "@64"; size = Some W64 } ∷ []

unfoldable pub size_written : List ℕ → Option (Option Width)
size_written text = option_map (λ entry. entry.size) (find (λ entry. bytes_eq entry.text text) size_texts)

-- what is written for a condition, or for none
pub record CondText : Type 0 where
  pub text : List ℕ
  pub cond : Option Cond

abbrev pub cond_texts : List CondText
cond_texts =
    record { text = codes ""; cond = None } ∷
    record { text = codes "(is_pos_power_of_two)"; cond = Some PosPow2 } ∷
    record { text = codes "(is_neg_power_of_two)"; cond = Some NegPow2 } ∷
    record { text = codes "(is_unsigned_multiple_of_4)"; cond = Some MultipleOf4 } ∷
    record { text = codes "(is_upper_half_zero)"; cond = Some UpperHalfZero } ∷
    record { text = codes "(is_lower_half_zero)"; cond = Some LowerHalfZero } ∷
    record { text = codes "(is_not_const)"; cond = Some NotConst } ∷
    record { text = codes "(is_used_once)"; cond = Some UsedOnce } ∷ []

unfoldable pub cond_written : List ℕ → Option (Option Cond)
cond_written text = option_map (λ entry. entry.cond) (find (λ entry. bytes_eq entry.text text) cond_texts)

-- ---- quoted texts

-- a name ends before `@` or `(`, and a size before `(`
abbrev pub is_before_cond : ℕ → Bool
is_before_cond byte = not (byte == 40)

abbrev pub is_before_size : ℕ → Bool
is_before_size byte = not (byte == 64 || byte == 40)

-- the parts, where each of them is one
abbrev pub assembled : Bool → List ℕ → Option (Option Width) → Option (Option Cond) → Option Annotated
assembled constant name None cond = None
assembled constant name (Some size) None = None
assembled constant name (Some size) (Some cond) = if is_word name then Some (record { constant = constant; name = name; size = size; cond = cond }) else None

-- a name, a size and a condition
unfoldable pub name_and_rest : Bool → List ℕ → Option Annotated
name_and_rest constant text =
    let name = prefix_len is_before_size text in
    let tail = drop name text in
    let size = prefix_len is_before_cond tail in
    assembled constant (take name text) (size_written (take size tail)) (cond_written (drop size tail))

-- without the quotes
abbrev pub unquoted : List ℕ → List ℕ
unquoted text = take (length (drop 1 text) - 1) (drop 1 text)

-- `#` asks for a constant
unfoldable pub quoted_annotated : List ℕ → Option Annotated
quoted_annotated text = if begins (λ byte. byte == 35) text then name_and_rest true (drop 1 text) else name_and_rest false text

-- what Mesa's rules may have and these not: `~`, `!`, and the word of a type behind `@`
abbrev pub is_excluded : List ℕ → Bool
is_excluded [] = false
is_excluded (byte ∷ bytes) = byte == 126 || byte == 33 || (byte == 64 && begins is_ascii_alphabetic bytes) || is_excluded bytes

-- ---- terminals

abbrev pub or_expected : Option Annotated → Result Annotated Fault
or_expected None = Err Expected
or_expected (Some word) = Ok word

abbrev pub quoted_says : List ℕ → Result Annotated Fault
quoted_says text = if is_excluded text then Err Excluded else or_expected (quoted_annotated text)

-- what a terminal says in the place of an opcode or a variable
abbrev pub kind_says : TokenKind → List ℕ → Result Annotated Fault
kind_says Word text = Ok (plain text)
kind_says (Number value) text = Err Expected
kind_says Name text = Err Expected
kind_says Quoted text = quoted_says (unquoted text)
kind_says (Punct byte) text = Err Expected
kind_says End text = Err Expected

unfoldable pub says : Terminal → Result Annotated Fault
says terminal = kind_says terminal.kind terminal.text
