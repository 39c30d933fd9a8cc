-- What each terminal of a rule file says, by what was read before it, or the fault that stands at it.
use Rattle.std.specs.Prelude.{ℕ, suc, ◌+◌, ◌^◌, ℤ, pos, negsuc, Bool, true, false, not, ◌&&◌, ◌||◌, List, [], ◌∷◌, ◌++◌, length, min, Option, Some, None, Result, Ok, Err, is_none, nat_eq, nat_le, nat_lt, if◌then◌else◌}
use Rattle.std.specs.Option.{option_map}
use Rattle.std.specs.Str.{bytes_eq}
use Rattle.nir_ops.specs.declared.op.Op.{Op}
use Rattle.nir_ops.specs.declared.width.Width.{Width}
use Rattle.nir_ops.specs.Lookup.{op_named}
use Rattle.nir_ops.specs.Opcodes.{op_info}
use Rattle.rule_term.specs.declared.cond.Cond.{Cond}
use Rattle.rule_term.specs.declared.cond.Cond.TheVariants.{PosPow2, NegPow2, MultipleOf4, UpperHalfZero, LowerHalfZero, NotConst, UsedOnce}
use Rattle.rule_term.specs.Formed.{is_mov, literal_formed, may_stand}
use Rattle.rule_term.specs.Terms.{Terms, Nil, VarThen, LitThen, AppThen}
use Rattle.rule_term.specs.Lists.{then as chained}
use Rattle.rule_term.specs.Variants.{commutes}
use Rattle.grammar.specs.Terminals.{Terminal, is_among}
use Rattle.grammar.specs.Words.{number_of}
use Rattle.rule_spelling.specs.Annotated.{Annotated, says, unquoted}
use Rattle.rule_spelling.specs.Files.{Item, ARule, Fault, Expected, UnknownOp, Arity, Unbound, TooLarge, BadOption, Excluded, Weight}
use Rattle.rule_spelling.specs.Formula.{Formula, formula_of}

-- What was read before: how many rules, and how many variants they have together; which opcodes were weighed, by their names; the variables of the last
-- rule in the order in which they first stand; and how many opcodes the side or the expression has so far.
pub record State : Type 0 where
  pub rules : ℕ
  pub variants : ℕ
  pub weighed : List (List ℕ)
  pub names : List (List ℕ)
  pub ops : ℕ

abbrev pub none_read : State
none_read = record { rules = 0; variants = 0; weighed = []; names = []; ops = 0 }

-- where a term stands
pub data Place : Type 0 where
  Search : Place
  Replace : Place
  Evidence : Place

abbrev pub Taken : Type 0 → Type 0
Taken A = Result (A × State) Fault

-- what a terminal says decides
abbrev pub and_said : {A : Type 0} → Result Annotated Fault → (Annotated → Taken A) → Taken A
and_said (Ok word) k = k word
and_said (Err fault) k = Err fault

-- ---- opcodes

-- an opcode with what is asked of it
pub record Head : Type 0 where
  pub op : Op
  pub size : Option Width
  pub once : Bool

abbrev pub is_once : Option Cond → Bool
is_once None = false
is_once (Some PosPow2) = false
is_once (Some NegPow2) = false
is_once (Some MultipleOf4) = false
is_once (Some UpperHalfZero) = false
is_once (Some LowerHalfZero) = false
is_once (Some NotConst) = false
is_once (Some UsedOnce) = true

-- of the conditions an opcode may have that of one use, on the search side, and no constant is asked for
abbrev pub may_ask : Place → Annotated → Bool
may_ask Search word = not word.constant && (is_none word.cond || is_once word.cond)
may_ask Replace word = not word.constant && is_none word.cond
may_ask Evidence word = not word.constant && is_none word.cond

-- a side has at most 16 opcodes, and so has each expression of evidence
abbrev pub counted_op : State → Head → Taken Head
counted_op x head = if nat_lt x.ops 16 then Ok (head, record x { ops = suc x.ops }) else Err TooLarge

-- no rule has mov, an opcode that gathers components, or a reduction
abbrev pub named_op : Place → State → Annotated → Option Op → Taken Head
named_op place x word None = if may_ask place word then Err UnknownOp else Err Expected
named_op place x word (Some op) =
    if may_stand op
    then (if may_ask place word then counted_op x (record { op = op; size = word.size; once = is_once word.cond }) else Err Expected)
    else Err Excluded

unfoldable pub op_taken : Place → State → Terminal → Taken Head
op_taken place x terminal = and_said (says terminal) (λ word. named_op place x word (op_named word.name))

-- one term after another
abbrev pub chain : List Terms → Terms
chain [] = Nil
chain (term ∷ others) = chained term (chain others)

-- as many sources as the opcode takes
unfoldable pub closed : Head → List Terms → State → Terminal → Taken Terms
closed head args x terminal =
    if nat_eq (length args) (length (op_info head.op).inputs) then Ok (AppThen head.op head.size head.once (chain args) Nil, x) else Err Arity

-- ---- variables

-- where a name stands among others
abbrev pub place_of : List ℕ → List (List ℕ) → Option ℕ
place_of name [] = None
place_of name (other ∷ others) = if bytes_eq other name then Some 0 else option_map suc (place_of name others)

abbrev pub variable : Annotated → ℕ → Terms
variable word var = VarThen var word.constant word.size word.cond Nil

-- a variable of the search side takes the next number where it first stands; there are at most 16
abbrev pub numbered_var : State → Annotated → Option ℕ → Taken Terms
numbered_var x word (Some var) = Ok (variable word var, x)
numbered_var x word None =
    if nat_lt (length x.names) 16 then Ok (variable word (length x.names), record x { names = x.names ++ word.name ∷ [] }) else Err TooLarge

-- elsewhere it has one, and nothing is asked of it
abbrev pub bound_var : State → Annotated → Option ℕ → Taken Terms
bound_var x word (Some var) = Ok (variable word var, x)
bound_var x word None = Err Unbound

abbrev pub is_plain : Annotated → Bool
is_plain word = not word.constant && (is_none word.size && is_none word.cond)

abbrev pub named_var : Place → State → Annotated → Taken Terms
named_var Search x word = numbered_var x word (place_of word.name x.names)
named_var Replace x word = if is_plain word then bound_var x word (place_of word.name x.names) else Err Expected
named_var Evidence x word = if is_plain word then bound_var x word (place_of word.name x.names) else Err Expected

unfoldable pub var_taken : Place → State → Terminal → Taken Terms
var_taken place x terminal = and_said (says terminal) (λ word. named_var place x word)

-- a number from -2^63 to 2^64 - 1, as all of a text are
unfoldable pub number_taken : State → Terminal → Taken Terms
number_taken x terminal = if literal_formed (number_of terminal.kind) false then Ok (LitThen (number_of terminal.kind) false Nil, x) else Err Expected

-- ---- rules

-- a rule begins, of which there are at most 4,096: no variables and no opcodes yet
unfoldable pub rule_begun : State → Terminal → Taken (Unit {0})
rule_begun x terminal = if nat_lt x.rules 4096 then Ok (tt, record x { names = []; ops = 0 }) else Err TooLarge

-- the other side begins, or an expression of evidence: no opcodes yet
unfoldable pub side_begun : State → Terminal → Taken (Unit {0})
side_begun x terminal = Ok (tt, record x { ops = 0 })

abbrev pub variants_of : Terms → ℕ
variants_of search = 2 ^ min 8 (commutes search)

-- a rule ends; all rules have at most 65,536 variants together
unfoldable pub rule_ended : Terms → Terms → Formula → State → Terminal → Taken Item
rule_ended search replace formula x terminal =
    if nat_le (x.variants + variants_of search) 65536
    then Ok (
      ARule (record { number = x.rules; search = search; replace = replace; formula = formula; vars = length x.names }),
      record x { rules = suc x.rules; variants = x.variants + variants_of search },
    )
    else Err TooLarge

abbrev pub or_bad_option : State → Option Formula → Taken Formula
or_bad_option x None = Err BadOption
or_bad_option x (Some formula) = Ok (formula, x)

unfoldable pub formula_taken : State → Terminal → Taken Formula
formula_taken x terminal = or_bad_option x (formula_of (unquoted terminal.text))

-- ---- evidence

-- evidence belongs to the rule before it
unfoldable pub evidence_begun : State → Terminal → Taken (Unit {0})
evidence_begun x terminal = if nat_lt 0 x.rules then Ok (tt, x) else Err Expected

-- a number of 32 bits
abbrev pub index_of : ℤ → Option ℕ
index_of (pos n) = if nat_lt n (2 ^ 32) then Some n else None
index_of (negsuc n) = None

-- a literal of a clause: a number of 32 bits with a sign, and not 0
abbrev pub literal_of : ℤ → Option ℤ
literal_of (pos n) = if nat_lt 0 n && nat_lt n (2 ^ 31) then Some (pos n) else None
literal_of (negsuc n) = if nat_lt n (2 ^ 31) then Some (negsuc n) else None

-- ---- weights

-- an opcode is weighed once, and mov is not
abbrev pub weighed_op : State → List ℕ → Option Op → Taken Op
weighed_op x name None = Err UnknownOp
weighed_op x name (Some op) = if is_mov op || is_among name x.weighed then Err Weight else Ok (op, record x { weighed = name ∷ x.weighed })

unfoldable pub weighed_taken : State → Terminal → Taken Op
weighed_taken x terminal = weighed_op x terminal.text (op_named terminal.text)

-- from 0 to 60
abbrev pub weight_of : State → ℤ → Taken ℕ
weight_of x (pos n) = if nat_le n 60 then Ok (n, x) else Err Weight
weight_of x (negsuc n) = Err Weight

unfoldable pub weight_taken : State → Terminal → Taken ℕ
weight_taken x terminal = weight_of x (number_of terminal.kind)
