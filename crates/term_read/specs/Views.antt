-- What readers hold, as the grammar sees it.
use Rattle.std.specs.Prelude.{ℕ, [], ◌∷◌, List, Option, map}
use Rattle.std.specs.Borrow.{Bor}
use Rattle.nir_ops.specs.declared.width.Width.{Width}
use Rattle.rule_term.specs.declared.cond.Cond.{Cond}
use Rattle.rule_term.specs.declared.term.Term.{Term}
use Rattle.rule_term.specs.Terms.{Terms, terms_of}
use Rattle.grammar.specs.Terminals.{Terminal}
use Rattle.rule_spelling.specs.Annotated.{Annotated, SizeText, CondText}
use Rattle.rule_spelling.specs.Tokens.{Head, Place, Search, Replace, Evidence}
use Rattle.rule_spelling.specs.Text.{terminal_of, terminals_of}
use Rattle.term_read.specs.declared.point.Point.{Point}
use Rattle.term_read.specs.declared.reader.Reader.{Reader}
use Rattle.term_read.specs.declared.annotated.Annotated as code
use Rattle.term_read.specs.declared.term.Head as code_head
use Rattle.term_read.specs.declared.term.Place as code_place
use Rattle.term_read.specs.declared.term.Place.TheVariants as at
use Rattle.term_read.specs.Source.{Source}
use Rattle.term_read.specs.Standing.{tokens_from}

-- the terminal that stands here
abbrev pub here : Point → Terminal
here p = terminal_of p.text.now p.token

-- the terminals from here on
abbrev pub terminals : Point → List Terminal
terminals p = terminals_of p.text.now (tokens_from p.text.now p.token)

abbrev pub source : Reader → Source
source reader = record { text = reader.point.text.now; state = reader.state; rest = terminals reader.point }

abbrev pub annotated : code.Annotated → Annotated
annotated word = record { constant = word.constant; name = word.name.now; size = word.size; cond = word.cond }

abbrev pub term_says : Term → Terms
term_says term = terms_of (term ∷ [])

abbrev pub head_says : code_head.Head → Head
head_says head = record { op = head.op; size = head.size; once = head.once }

abbrev pub place_of : code_place.Place → Place
place_of at.Search = Search
place_of at.Replace = Replace
place_of at.Evidence = Evidence

abbrev pub size_entries : List (Bor (List ℕ) × Option Width) → List SizeText
size_entries entries = map (λ entry. record { text = entry.0.now; size = entry.1 }) entries

abbrev pub cond_entries : List (Bor (List ℕ) × Option Cond) → List CondText
cond_entries entries = map (λ entry. record { text = entry.0.now; cond = entry.1 }) entries
