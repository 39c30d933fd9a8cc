-- A test of whether a rule is formed. Its number and its options play no part.
use Rattle.std.specs.Prelude.{◌≡◌, ℕ, Bool, true, ◌&&◌, length, nat_eq, nat_le}
use Rattle.std.specs.List.{list_all}
use Rattle.rule_term.specs.Terms.{Terms}
use Rattle.rule_term.specs.Pieces.{terms_count, pieces, vars_of, ops_of}
use Rattle.rule_term.specs.Formed.{is_application, search_piece_formed, replace_piece_formed, numbered, IsFormed}
use Rattle.rule_term.specs.Rule.{Rule}

-- the sides of a rule with so many variables
abbrev pub search_formed : ℕ → Terms → Bool
search_formed vars search =
    list_all search_piece_formed (pieces search) && numbered 0 vars (vars_of search) && nat_le (length (ops_of search)) 16

abbrev pub replace_formed : ℕ → Terms → Bool
replace_formed vars replace = list_all (replace_piece_formed vars) (pieces replace) && nat_le (length (ops_of replace)) 16

unfoldable pub sides_formed : ℕ → Terms → Terms → Bool
sides_formed vars search replace =
    is_application search
    && nat_eq (terms_count search) 1
    && nat_eq (terms_count replace) 1
    && nat_le vars 16
    && search_formed vars search
    && replace_formed vars replace

abbrev pub formed : Rule → Bool
formed rule = sides_formed rule.vars rule.search rule.replace

-- the test is that of the predicate
abbrev pub FormedIsTested : Type 0
FormedIsTested = (rule : Rule) → (formed rule ≡ true → IsFormed rule) × (IsFormed rule → formed rule ≡ true)
