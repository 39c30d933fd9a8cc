-- What contracts see of a rule: its place in its file, its two sides, its options, and the number of its variables.
use Rattle.std.specs.Prelude.{ℕ, List, refl}
use Rattle.std.specs.Coded.{Coded, code_by, coded_list, coded×, coded_ℕ}
use Rattle.rule_term.specs.declared.term.Term.{Term}
use Rattle.rule_term.specs.contracts.term.Term as term
use Rattle.rule_term.specs.declared.when.When.{When}
use Rattle.rule_term.specs.contracts.when.When as when
use Rattle.rule_term.specs.Terms.{Terms, terms_of, list_of, terms_of-list_of}

pub record Rule : Type 0 where
  pub number : ℕ
  pub search : Terms
  pub replace : Terms
  pub when : When
  pub vars : ℕ

-- a chain is stored as its list
abbrev pub terms_code : Coded Terms
terms_code = code_by (List Term) (coded_list term.the_row.coded) list_of terms_of terms_of-list_of

-- a rule is stored as the tuple of its parts
abbrev pub rule_code : Coded Rule
rule_code =
    code_by (ℕ × (Terms × (Terms × (When × ℕ))))
    (coded× coded_ℕ (coded× terms_code (coded× terms_code (coded× when.the_row.coded coded_ℕ))))
    (λ r. (r.number, (r.search, (r.replace, (r.when, r.vars)))))
    (λ p. record { number = p.0; search = p.1.0; replace = p.1.1.0; when = p.1.1.1.0; vars = p.1.1.1.1 })
    (λ _. refl)
