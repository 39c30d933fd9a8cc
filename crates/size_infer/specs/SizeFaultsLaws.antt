-- Each fault of the sizes of a rule, and what it says of the typings.
use Rattle.std.specs.Prelude.{◌≡◌, refl, ◌<◌, ◌≤◌, ℕ, Bool, true, false, cond, Option, Some, None, List, [], ◌∷◌, length, nat_lt}
use Rattle.std.proofs.Common.{sym, ◌∙◌, ap, subst, arith}
use Rattle.std.specs.List.{AllByRecursion}
use Rattle.std.specs.Option.{option_map, option_or}
use Rattle.std.proofs.lemmas.Bool.{lt-ltb, le-ltb, ltb-true, ltb-false}
use Rattle.nir_ops.specs.declared.width.Width.{Width}
use Rattle.rule_term.specs.Rule.{Rule}
use Rattle.rule_term.specs.Typings.{is_typing, typings}
use Rattle.size_laws.specs.Ambiguous.{IsDefinite, IsFirstAmbiguous, ambiguous_node}
use Rattle.size_laws.specs.AmbiguousNodeLaws.{first_is_ambiguous, ambiguous_is_first, definite_is_none, none_is_definite}
use Rattle.size_laws.specs.MembersLaws.{each_typing}
use Rattle.size_infer.specs.SizeFaults.{IsSizeFault, fault_of, size_fault, too_many}
use Rattle.size_infer.specs.declared.fault.SizeFault.{SizeFault}
use Rattle.size_infer.specs.declared.fault.SizeFault.TheVariants.{Contradiction, Ambiguous, TooMany, OutOfMemory}

-- how each fault comes
pub contradiction_is : (rule : Rule) → typings rule ≡ [] → size_fault rule ≡ Some Contradiction
unfolding size_fault
contradiction_is rule none = ap (λ list. fault_of list (ambiguous_node rule)) none

some_first : (list : List (List Width)) (node : ℕ) → (list ≡ [] → ⊥) → fault_of list (Some node) ≡ Some (Ambiguous node)
some_first [] node some = absurd (some refl)
some_first (one ∷ others) node some = refl

pub ambiguous_is : (rule : Rule) (node : ℕ) → IsFirstAmbiguous rule node → size_fault rule ≡ Some (Ambiguous node)
unfolding size_fault
ambiguous_is rule node first =
    let some : typings rule ≡ [] → ⊥ = λ none. each_typing rule (λ _. ⊥) (subst (AllByRecursion (λ _. ⊥)) (sym none) tt) first.ambiguous.one first.ambiguous.one_typing in
    ap (fault_of (typings rule)) (ambiguous_is_first rule node first) ∙ some_first (typings rule) node some

none_first : (list : List (List Width)) → 1 ≤ length list → fault_of list None ≡ too_many list
none_first [] some = absurd (omega (arith, some))
none_first (one ∷ others) some = refl

pub too_many_is : (rule : Rule) → 64 < length (typings rule) → IsDefinite rule → size_fault rule ≡ Some TooMany
unfolding size_fault
too_many_is rule many definite =
    ap (fault_of (typings rule)) (definite_is_none rule definite)
    ∙ none_first (typings rule) (omega (arith, many))
    ∙ ap (λ b. cond b (Some TooMany) None) (lt-ltb 64 (length (typings rule)) many)

pub none_is : (rule : Rule) → 1 ≤ length (typings rule) → length (typings rule) ≤ 64 → IsDefinite rule → size_fault rule ≡ None
unfolding size_fault
none_is rule some few definite =
    ap (fault_of (typings rule)) (definite_is_none rule definite)
    ∙ none_first (typings rule) some
    ∙ ap (λ b. cond b (Some TooMany) None) (le-ltb 64 (length (typings rule)) few)

-- what each fault says
many_case : (many : Bool) (fault : SizeFault) → cond many (Some TooMany) None ≡ Some fault → (many ≡ true) × (fault ≡ TooMany)
many_case true fault told = (refl, let same : TooMany ≡ fault = cc in sym same)
many_case false fault told = cc

few_case : (many : Bool) → cond many (Some TooMany) None ≡ None → many ≡ false
few_case true none = cc
few_case false none = refl

-- the fault by the list of typings and the first node that is left open
abbrev pub Says : List (List Width) → Option ℕ → SizeFault → Type 0
Says list found Contradiction = list ≡ []
Says list found (Ambiguous node) = found ≡ Some node
Says list found TooMany = (found ≡ None) × (64 < length list)
Says list found OutOfMemory = ⊥

says : (list : List (List Width)) (found : Option ℕ) (fault : SizeFault) → fault_of list found ≡ Some fault → Says list found fault
says [] found fault told = let same : Contradiction ≡ fault = cc in subst (Says [] found) same refl
says (one ∷ others) (Some node) fault told = let same : Ambiguous node ≡ fault = cc in subst (Says (one ∷ others) (Some node)) same refl
says (one ∷ others) None fault told =
    let case = many_case (nat_lt 64 (length (one ∷ others))) fault told in
    subst (Says (one ∷ others) None) (sym case.1) (refl, ltb-true 64 (length (one ∷ others)) case.0)

means : (rule : Rule) (fault : SizeFault) → Says (typings rule) (ambiguous_node rule) fault → IsSizeFault rule fault
means rule Contradiction said = said
means rule (Ambiguous node) said = first_is_ambiguous rule node said
means rule TooMany said = (none_is_definite rule said.0, said.1)
means rule OutOfMemory said = said

pub fault_means : (rule : Rule) (fault : SizeFault) → size_fault rule ≡ Some fault → IsSizeFault rule fault
unfolding size_fault
fault_means rule fault told = means rule fault (says (typings rule) (ambiguous_node rule) fault told)

none_says : (list : List (List Width)) (found : Option ℕ) → fault_of list found ≡ None → found ≡ None
none_says [] found none = cc
none_says (one ∷ others) None none = refl
none_says (one ∷ others) (Some node) none = cc

pub none_means : (rule : Rule) → size_fault rule ≡ None → IsDefinite rule
unfolding size_fault
none_means rule none = none_is_definite rule (none_says (typings rule) (ambiguous_node rule) none)
