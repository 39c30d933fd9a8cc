-- A whole file is read between brackets up to the end of its text; and what is read of a text, and its first fault, are those of its rules.
use Rattle.std.proofs.Common.{◌≡◌, ℕ, true, false, List, [], ◌∷◌, Option, Some, None, Result, Ok, Err, refl, sym, ap, ◌∙◌}
use Rattle.nir_lex.specs.declared.fault.LexFault.{LexFault}
use Rattle.nir_lex.specs.declared.token.Token.{Token}
use Rattle.nir_lex.specs.From.{fault_of}
use Rattle.nir_lex.specs.Reading.{read_tokens}
use Rattle.grammar.specs.AnyDepthLaws.{deep_is_any}
use Rattle.grammar.specs.Grammar.{Grammar, empty, sequence}
use Rattle.grammar.specs.Lookahead.{Lookahead, nothing, one, ◌⨟◌}
use Rattle.grammar.specs.Reading.{Outcome, at_end, ended, read}
use Rattle.grammar.specs.Terminals.{Terminal, has, TheEnd, TheMark}
use Rattle.grammar.specs.Words.{between, end, mark}
use Rattle.rule_spelling.specs.Files.{Item, File, Expected, file_of}
use Rattle.rule_spelling.specs.NumberedLaws.{rules_are_numbered, weights_are_good}
use Rattle.rule_spelling.specs.RuleFiles.{rule_files, productions, file, read_file}
use Rattle.rule_spelling.specs.Text.{TextFault, of_tokens, placed, read_text, terminals_of}
use Rattle.rule_spelling.specs.TextLaws.{read_is_spelled}
use Rattle.rule_spelling.specs.Tokens.{State, none_read}
use Rattle.term_read.specs.declared.fault.RuleFault.{RuleFault}
use Rattle.term_read.specs.declared.fault.RuleFault.TheVariants.{OutOfMemory, Lex}
use Rattle.term_read.specs.FoldLaws.{mapped, mapped_ok}
use Rattle.term_read.specs.ReadingLaws.{any, guarded_all, reads_is}
use Rattle.term_read.specs.Source.{Source, Answer, answer, fault_at, ◌then◌, reads}
use Rattle.term_read.specs.Standing.{all_tokens, tokens_or_none}
use Rattle.rule_read.specs.FileText.{told, rules_of_text}
use Rattle.rule_read.specs.Growing.{no_file, with_items}
use Rattle.rule_read.specs.Items.{adds_items}
use Rattle.rule_read.specs.RuleFile as code
use Rattle.rule_read.specs.Says.{file_says, file_is_good}
use Rattle.rule_read.proofs.GrownItems.{grown_is_file}

-- ---- between brackets, up to the end

-- behind the closing bracket, and before it
abbrev pub at_close : {B : Type 0} → B → Source → Answer B
at_close b s = reads (end rule_files) s then λ _ s. Ok (b, s)

abbrev pub behind_items : {B : Type 0} → B → Source → Answer B
behind_items b s = reads (mark rule_files 93) s then λ _ s. at_close b s

-- between brackets, and then the end
abbrev whole : {p : Lookahead} {A : Type 0} → Grammar rule_files p (List A)
    → Grammar rule_files ((one (TheMark 91) ⨟ p ⨟ one (TheMark 93) ⨟ nothing) ⨟ one TheEnd ⨟ nothing) (List A)
whole inner = sequence (between rule_files 91 93 inner) (λ list. sequence (end rule_files) (λ _. empty list))

module _ {A B : Type 0} (f : List A → B) where
  at_last : (a : List A) (o : Answer (Unit {0})) → mapped f (o then λ _ s. Ok (a, s)) ≡ (o then λ _ s. Ok (f a, s))
  at_last a (Ok found) = refl
  at_last a (Err fault) = refl

  closes : (a : List A) (o : Answer (Unit {0}))
      → mapped f ((o then λ _ s. Ok (a, s)) then λ list s. reads (end rule_files) s then λ _ s. Ok (list, s)) ≡ (o then λ _ s. at_close (f a) s)
  closes a (Ok found) = at_last a (reads (end rule_files) found.1)
  closes a (Err fault) = refl

  has_inside : (o : Answer (List A))
      → mapped f ((o then λ a s. reads (mark rule_files 93) s then λ _ s. Ok (a, s)) then λ list s. reads (end rule_files) s then λ _ s. Ok (list, s))
      ≡ (mapped f o then λ b s. behind_items b s)
  has_inside (Ok found) = closes found.0 (reads (mark rule_files 93) found.1)
  has_inside (Err fault) = refl

  module _ {p : Lookahead} (inner : Grammar rule_files p (List A)) (s t : Source) (opening : reads (mark rule_files 91) s ≡ Ok (tt, t)) where
    pub whole_opens : mapped f (reads (whole inner) s) ≡ (mapped f (reads inner t) then λ b s. behind_items b s)
    whole_opens =
        ap (λ (o : Answer (Unit {0})). mapped f ((o then λ _ s. reads inner s then λ a s. reads (mark rule_files 93) s then λ _ s. Ok (a, s))
        then λ list s. reads (end rule_files) s then λ _ s. Ok (list, s))) opening
        ∙ has_inside (reads inner t)

    module _ (b : B) (u : Source) (items : mapped f (reads inner t) ≡ Ok (b, u)) where
      pub whole_closes : mapped f (reads (whole inner) s) ≡ behind_items b u
      whole_closes = whole_opens ∙ ap (λ (o : Answer B). o then λ b s. behind_items b s) items

      pub whole_ends : (v : Source) → reads (mark rule_files 93) u ≡ Ok (tt, v)
          → mapped f (reads (whole inner) s) ≡ at_close b v
      whole_ends v closing = whole_closes ∙ ap (λ (o : Answer (Unit {0})). o then λ _ s. at_close b s) closing

pub end_reads : (s : Source) (first : Terminal) → s.rest ≡ first ∷ [] → has TheEnd first ≡ true
    → reads (end rule_files) s ≡ Ok (tt, record { text = s.text; state = s.state; rest = [] })
end_reads s first is here =
    ap (λ (rest : List Terminal). reads (end rule_files) (record { text = s.text; state = s.state; rest = rest })) is ∙ (rw here refl)

abbrev stopped_at : List ℕ → List Terminal → Answer (Unit {0})
stopped_at text rest = Err (fault_at Expected text rest)

pub end_stops : (s : Source) (first : Terminal) (others : List Terminal) → s.rest ≡ first ∷ others → has TheEnd first ≡ false
    → reads (end rule_files) s ≡ Err (fault_at Expected s.text s.rest)
end_stops s first others is other =
    ap (λ (rest : List Terminal). reads (end rule_files) (record { text = s.text; state = s.state; rest = rest })) is
    ∙ (rw other refl)
    ∙ ap (stopped_at s.text) (sym is)

-- ---- texts

abbrev pub end_of : List ℕ → State → Source
end_of text z = record { text = text; state = z; rest = [] }

abbrev pub start : List ℕ → Source
start text = record { text = text; state = none_read; rest = terminals_of text (all_tokens text) }

tokens_are : (r : Result (List Token) LexFault) → fault_of r ≡ None → r ≡ Ok (tokens_or_none r)
tokens_are (Ok tokens) is = refl
tokens_are (Err fault) is = absurd cc

-- what is read of a text that has tokens
abbrev outcome_of : List ℕ → Outcome rule_files (List Item)
outcome_of text = read rule_files any file none_read (terminals_of text (all_tokens text))

text_is : (text : List ℕ) → fault_of (read_tokens text) ≡ None → read_text text ≡ placed (all_tokens text) (ended rule_files (outcome_of text))
unfolding read_text read_file
text_is text is =
    ap (of_tokens text) (tokens_are (read_tokens text) is)
    ∙ ap (placed (all_tokens text)) (deep_is_any rule_files productions guarded_all file none_read (terminals_of text (all_tokens text)))

abbrev read_as : List Item → Result (List Item) TextFault
read_as items = Ok items

abbrev same_fault : Answer File → Result File RuleFault
same_fault (Ok found) = Err OutOfMemory
same_fault (Err fault) = Err fault

abbrev read_pair : List Item × Source → Answer (List Item)
read_pair p = Ok p

pair_same : (p q : List Item × Source) → read_pair p ≡ read_pair q → p ≡ q
pair_same p q e = cc

-- all was read
all_read : (text : List ℕ) (o : Outcome rule_files (List Item)) (items : List Item) (other : List ℕ) (z : State)
    → answer text o ≡ Ok (items, end_of other z) → placed (all_tokens text) (ended rule_files o) ≡ Ok items
all_read text (Ok found) items other z e =
    let same = pair_same (found.value, record { text = text; state = found.state; rest = found.rest }) (items, end_of other z) e in
    ap (λ (rest : List Terminal). placed (all_tokens text) (at_end rule_files found.value found.state rest)) (ap (λ (p : List Item × Source). p.1.rest) same)
    ∙ ap (λ (p : List Item × Source). read_as p.0) same
all_read text (Err stop) items other z e = absurd cc

fault_told : (text : List ℕ) (o : Outcome rule_files (List Item)) (fault : RuleFault) → mapped (with_items no_file) (answer text o) ≡ Err fault
    → told (placed (all_tokens text) (ended rule_files o)) ≡ Err fault
fault_told text (Ok found) fault e = absurd cc
fault_told text (Err stop) fault e = ap same_fault e

abbrev the_file : File → Result File RuleFault
the_file f = Ok f

abbrev some_fault : LexFault → Option LexFault
some_fault fault = Some fault

abbrev no_tokens : LexFault → Result (List Token) LexFault
no_tokens fault = Err fault

module _ (text : List ℕ) (has_tokens : fault_of (read_tokens text) ≡ None) (s : Source) (is : s ≡ start text) where
  outcome : adds_items no_file file s ≡ mapped (with_items no_file) (answer text (outcome_of text))
  outcome = ap (λ (s : Source). adds_items no_file file s) is ∙ ap (mapped (with_items no_file)) (reads_is file (start text))

  items_told : (found : File) (other : List ℕ) (z : State) → adds_items no_file file s ≡ Ok (found, end_of other z)
      → (items : List Item) × (read_text text ≡ Ok items) × (file_of items ≡ found)
  items_told found other z e =
      let o = outcome_of text in
      let all = mapped_ok (with_items no_file) (answer text o) found (end_of other z) (sym outcome ∙ e) in
      (all.0, text_is text has_tokens ∙ all_read text o all.0 other z all.1, sym (grown_is_file all.0) ∙ all.2)

  pub rules_told : (found : File) (other : List ℕ) (z : State) → adds_items no_file file s ≡ Ok (found, end_of other z)
      → rules_of_text text ≡ Ok found
  unfolding rules_of_text
  rules_told found other z e = let all = items_told found other z e in ap told all.1 ∙ ap the_file all.2

  pub rules_fail : (fault : RuleFault) → adds_items no_file file s ≡ Err fault → rules_of_text text ≡ Err fault
  unfolding rules_of_text
  rules_fail fault e =
      ap told (text_is text has_tokens) ∙ fault_told text (outcome_of text) fault (sym outcome ∙ e)

  pub file_good : (whole : code.RuleFile) (other : List ℕ) (z : State)
      → adds_items no_file file s ≡ Ok (file_says whole, end_of other z)
      → code.IsRuleFile whole
  file_good whole other z e =
      let all = items_told (file_says whole) other z e in
      let says = read_is_spelled text all.0 all.1 in
      file_is_good whole all.0 (sym all.2) (rules_are_numbered text all.0 says) (weights_are_good text all.0 says)

-- no tokens
pub lex_told : (text : List ℕ) (fault : LexFault) → fault_of (read_tokens text) ≡ Some fault → rules_of_text text ≡ Err (Lex fault)
unfolding read_text rules_of_text
lex_told text fault is = ap (λ (r : Result (List Token) LexFault). told (of_tokens text r)) (fault_is (read_tokens text) is)
  where
    some_same : (a b : LexFault) → some_fault a ≡ some_fault b → a ≡ b
    some_same a b e = cc

    fault_is : (r : Result (List Token) LexFault) → fault_of r ≡ Some fault → r ≡ Err fault
    fault_is (Ok tokens) is = absurd cc
    fault_is (Err other) is = ap no_tokens (some_same other fault is)
