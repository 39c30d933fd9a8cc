-- What is known of a rule before its `)` is read: its sides are formed, and there is room for one more.
use Rattle.std.proofs.Common.{◌≡◌, ◌<◌, suc, true, List, length, Ok, Err, refl, sym, ◌∙◌, subst}
use Rattle.rule_term.specs.FormedTest.{sides_formed}
use Rattle.rule_term.specs.Terms.{Terms}
use Rattle.grammar.specs.Grammar.{Grammar, named, terminal}
use Rattle.grammar.specs.Lookahead.{Lookahead}
use Rattle.grammar.specs.Made.{Fact, Made}
use Rattle.grammar.specs.MadeLaws.{Gives, read_made, spelled_made}
use Rattle.grammar.specs.Reading.{Outcome, Reading, read}
use Rattle.grammar.specs.SoundLaws.{IsSound, read_is_spelled}
use Rattle.grammar.specs.Spelling.{Spelling}
use Rattle.grammar.specs.Terminals.{Terminal, TheMark}
use Rattle.rule_spelling.specs.FormedLaws.{Known, sides_read, terms_known}
use Rattle.rule_spelling.specs.Formula.{Formula}
use Rattle.rule_spelling.specs.NumberedLaws.{Keeping, rules_few, terms_keep}
use Rattle.rule_spelling.specs.RuleFiles.{rule_files, app, options, productions}
use Rattle.rule_spelling.specs.Tokens.{State, Place, Search, Replace, rule_begun, side_begun}
use Rattle.term_read.specs.ReadingLaws.{any, reads_is}
use Rattle.term_read.specs.Source.{Source, Answer, answer, reads}

-- ---- what is read is made of its parts

abbrev found : {A : Type 0} → A × Source → Answer A
found p = Ok p

found_same : {A : Type 0} (p q : A × Source) → found p ≡ found q → p ≡ q
found_same p q e = cc

module _ (Named : (place : Place) → Fact rule_files Terms)
    (kept : (place : Place) (x : State) (term : Terms) (y : State) → Made rule_files Named (productions place) x term y → Named place x term y) where
  -- a term of which this is said, and what is asked behind it
  abbrev Said : (place : Place) → Spelling rule_files Terms
  Said place x term K ts = (y : State) × (rest : List Terminal) × Named place x term y × K y rest

  sound : (place : Place) → IsSound rule_files (Said place) (any place)
  sound place x ts f e K k = (f.state, f.rest, read_made rule_files productions Named kept (named place) (suc (length ts)) x ts f e, k)

  said : (place : Place) → Gives rule_files (Said place) (Named place)
  said place x term K ts s = record { state = s.0; rest = s.1; made = s.2; behind = s.3 }

  read_parts : {p : Lookahead} {A : Type 0} (g : Grammar rule_files p A) (x : State) (ts : List Terminal) (f : Reading rule_files A)
      → read rule_files any g x ts ≡ Ok f
      → Made rule_files Named g x f.value f.state
  read_parts g x ts f e =
      let spelled = read_is_spelled rule_files Said any sound g x ts f e (λ y rest. y ≡ f.state) refl in
      let whole = spelled_made rule_files Said Named said g x f.value (λ y rest. y ≡ f.state) ts spelled in
      subst (Made rule_files Named g x f.value) whole.behind whole.made

  answered : {p : Lookahead} {A : Type 0} (g : Grammar rule_files p A) (s : Source) (a : A) (s' : Source) (o : Outcome rule_files A)
      → read rule_files any g s.state s.rest ≡ o → answer s.text o ≡ Ok (a, s') → Made rule_files Named g s.state a s'.state
  answered {A = A} g s a s' (Ok f) e is =
      subst (λ (p : A × Source). Made rule_files Named g s.state p.0 p.1.state)
      (found_same (f.value, record { text = s.text; state = f.state; rest = f.rest }) (a, s') is) (read_parts g s.state s.rest f e)
  answered g s a s' (Err stop) e is = absurd cc

  pub reads_made : {p : Lookahead} {A : Type 0} (g : Grammar rule_files p A) (s : Source) (a : A) (s' : Source) → reads g s ≡ Ok (a, s')
      → Made rule_files Named g s.state a s'.state
  reads_made g s a s' e = answered g s a s' (read rule_files any g s.state s.rest) refl (sym (reads_is g s) ∙ e)

-- ---- the parts of a rule

module _ (s s1 s2 s3 s4 s5 : Source) (search replace : Terms) (formula : Formula) (begun : reads (terminal (TheMark 40) rule_begun) s ≡ Ok (tt, s1))
    (sought : reads (app Search) s1 ≡ Ok (search, s2)) (side : reads (terminal (TheMark 44) side_begun) s2 ≡ Ok (tt, s3))
    (put : reads (named Replace) s3 ≡ Ok (replace, s4)) (asked : reads options s4 ≡ Ok (formula, s5)) where
  pub sides_are_formed : sides_formed (length s5.state.names) search replace ≡ true
  sides_are_formed =
      sides_read s.state s1.state s2.state s3.state s4.state s5.state search replace formula
      (reads_made Known terms_known (terminal (TheMark 40) rule_begun) s tt s1 begun) (reads_made Known terms_known (app Search) s1 search s2 sought)
      (reads_made Known terms_known (terminal (TheMark 44) side_begun) s2 tt s3 side) (reads_made Known terms_known (named Replace) s3 replace s4 put)
      (reads_made Known terms_known options s4 formula s5 asked)

  pub rules_are_few : s5.state.rules < 4096
  rules_are_few =
      rules_few s.state s1.state s2.state s3.state s4.state s5.state search replace formula
      (reads_made Keeping terms_keep (terminal (TheMark 40) rule_begun) s tt s1 begun) (reads_made Keeping terms_keep (app Search) s1 search s2 sought)
      (reads_made Keeping terms_keep (terminal (TheMark 44) side_begun) s2 tt s3 side) (reads_made Keeping terms_keep (named Replace) s3 replace s4 put)
      (reads_made Keeping terms_keep options s4 formula s5 asked)
