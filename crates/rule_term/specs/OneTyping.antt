-- Where exactly one list of sizes passes a test, it is all that is left of the lists of its length.
use Rattle.std.specs.Prelude.{◌≡◌, refl, ℕ, zero, suc, Bool, true, false, List, [], ◌∷◌, ◌++◌, map, filter, length, cond, drop}
use Rattle.std.proofs.Common.{◌∙◌, ap, arith}
use Rattle.std.specs.List.{AllByRecursion, slice_index_or}
use Rattle.std.proofs.lemmas.List.Elements.{filter-append}
use Rattle.nir_ops.specs.declared.width.Width.{Width}
use Rattle.nir_ops.specs.declared.width.Width.TheVariants.{W1, W8, W16, W32, W64}
use Rattle.nir_ops.specs.Width.{width_bits}
use Rattle.rule_term.specs.Typings.{width_lists}

-- the lists that begin with a size
abbrev pub begun : Width → List (List Width) → List (List Width)
begun width lists = map (λ list. width ∷ list) lists

head_kept : (width : Width) (list : List Width) (kept : List (List Width)) (lists : List (List Width)) (test : Bool) → lists ≡ begun width kept
    → cond test ((width ∷ list) ∷ lists) lists ≡ begun width (cond test (list ∷ kept) kept)
head_kept width list kept lists true e = ap (λ l. (width ∷ list) ∷ l) e
head_kept width list kept lists false e = e

filter-begun : (p : List Width → Bool) (width : Width) (lists : List (List Width)) → filter p (begun width lists) ≡ begun width (filter (λ list. p (width ∷ list)) lists)
filter-begun p width [] = refl
filter-begun p width (list ∷ lists) = head_kept width list (filter (λ list. p (width ∷ list)) lists) (filter p (begun width lists)) (p (width ∷ list)) (filter-begun p width lists)

-- all are of the length that they are to have
AllByRecursion-begun : (n : ℕ) (width : Width) (lists more : List (List Width)) → AllByRecursion (λ list. length list ≡ n) lists → AllByRecursion (λ list. length list ≡ suc n) more → AllByRecursion (λ list. length list ≡ suc n) (begun width lists ++ more)
AllByRecursion-begun n width [] more all others = others
AllByRecursion-begun n width (list ∷ lists) more all others = (ap suc all.0, AllByRecursion-begun n width lists more all.1 others)

pub width_lists-length : (n : ℕ) → AllByRecursion (λ list. length list ≡ n) (width_lists n)
unfolding width_lists
width_lists-length zero = (refl, tt)
width_lists-length (suc n) =
    let inner = width_lists-length n in
    AllByRecursion-begun n W1 (width_lists n) _ inner
    (AllByRecursion-begun n W8 (width_lists n) _ inner
    (AllByRecursion-begun n W16 (width_lists n) _ inner
    (AllByRecursion-begun n W32 (width_lists n) _ inner
    (AllByRecursion-begun n W64 (width_lists n) _ inner tt))))

-- nothing is left where nothing passes
head_dropped : {A : Type 0} (a : A) (kept : List A) (test : Bool) → (test ≡ true → ⊥) → kept ≡ [] → cond test (a ∷ kept) kept ≡ []
head_dropped a kept true never e = absurd (never refl)
head_dropped a kept false never e = e

filter-none : (n : ℕ) (p : List Width → Bool) → ((list : List Width) → length list ≡ n → p list ≡ true → ⊥) → (lists : List (List Width)) → AllByRecursion (λ list. length list ≡ n) lists → filter p lists ≡ []
filter-none n p never [] all = refl
filter-none n p never (list ∷ lists) all = head_dropped list (filter p lists) (p list) (never list all.0) (filter-none n p never lists all.1)

-- the bits of the first size
abbrev first_bits : List Width → ℕ
first_bits list = width_bits (slice_index_or list 0 W1)

abbrev rest_of : List Width → List Width
rest_of list = drop 1 list

-- one passes, and no other of its length
abbrev pub IsOnly : (List Width → Bool) → List Width → Type 0
IsOnly p list = (p list ≡ true) × ((other : List Width) → length other ≡ length list → p other ≡ true → other ≡ list)

module _ (p : List Width → Bool) (width : Width) (list : List Width) (only : IsOnly p (width ∷ list)) where
  other_block : (other : Width) → (width_bits other ≡ width_bits width → ⊥) → filter p (begun other (width_lists (length list))) ≡ []
  other_block other differs =
      filter-begun p other (width_lists (length list))
      ∙ ap (begun other) (filter-none (length list) (λ l. p (other ∷ l)) (λ l e passes. differs (ap first_bits (only.1 (other ∷ l) (ap suc e) passes))) (width_lists (length list)) (width_lists-length (length list)))

  inner_only : IsOnly (λ l. p (width ∷ l)) list
  inner_only = (only.0, λ other e passes. ap rest_of (only.1 (width ∷ other) (ap suc e) passes))

  own_block : filter (λ l. p (width ∷ l)) (width_lists (length list)) ≡ list ∷ [] → filter p (begun width (width_lists (length list))) ≡ (width ∷ list) ∷ []
  own_block e = filter-begun p width (width_lists (length list)) ∙ ap (begun width) e

two : (p : List Width → Bool) (a more kept others : List (List Width)) → filter p a ≡ kept → filter p more ≡ others → filter p (a ++ more) ≡ kept ++ others
two p a more kept others ea em = filter-append p a more ∙ ap (λ l. l ++ filter p more) ea ∙ ap (λ l. kept ++ l) em

-- of all lists of its length the one that passes is left
pub only_typing : (p : List Width → Bool) (list : List Width) → IsOnly p list → filter p (width_lists (length list)) ≡ list ∷ []
unfolding width_lists
only_typing p [] only = ap (λ test. cond test ([] ∷ []) []) only.0
only_typing p (W1 ∷ list) only =
    let own = own_block p W1 list only (only_typing (λ l. p (W1 ∷ l)) list (inner_only p W1 list only)) in
    two p (begun W1 (width_lists (length list))) _ ((W1 ∷ list) ∷ []) _ own
    (two p (begun W8 (width_lists (length list))) _ ([]) _ (other_block p W1 list only W8 (λ e. absurd (omega (arith, e))))
    (two p (begun W16 (width_lists (length list))) _ ([]) _ (other_block p W1 list only W16 (λ e. absurd (omega (arith, e))))
    (two p (begun W32 (width_lists (length list))) _ ([]) _ (other_block p W1 list only W32 (λ e. absurd (omega (arith, e))))
    (two p (begun W64 (width_lists (length list))) [] ([]) [] (other_block p W1 list only W64 (λ e. absurd (omega (arith, e)))) refl))))
only_typing p (W8 ∷ list) only =
    let own = own_block p W8 list only (only_typing (λ l. p (W8 ∷ l)) list (inner_only p W8 list only)) in
    two p (begun W1 (width_lists (length list))) _ ([]) _ (other_block p W8 list only W1 (λ e. absurd (omega (arith, e))))
    (two p (begun W8 (width_lists (length list))) _ ((W8 ∷ list) ∷ []) _ own
    (two p (begun W16 (width_lists (length list))) _ ([]) _ (other_block p W8 list only W16 (λ e. absurd (omega (arith, e))))
    (two p (begun W32 (width_lists (length list))) _ ([]) _ (other_block p W8 list only W32 (λ e. absurd (omega (arith, e))))
    (two p (begun W64 (width_lists (length list))) [] ([]) [] (other_block p W8 list only W64 (λ e. absurd (omega (arith, e)))) refl))))
only_typing p (W16 ∷ list) only =
    let own = own_block p W16 list only (only_typing (λ l. p (W16 ∷ l)) list (inner_only p W16 list only)) in
    two p (begun W1 (width_lists (length list))) _ ([]) _ (other_block p W16 list only W1 (λ e. absurd (omega (arith, e))))
    (two p (begun W8 (width_lists (length list))) _ ([]) _ (other_block p W16 list only W8 (λ e. absurd (omega (arith, e))))
    (two p (begun W16 (width_lists (length list))) _ ((W16 ∷ list) ∷ []) _ own
    (two p (begun W32 (width_lists (length list))) _ ([]) _ (other_block p W16 list only W32 (λ e. absurd (omega (arith, e))))
    (two p (begun W64 (width_lists (length list))) [] ([]) [] (other_block p W16 list only W64 (λ e. absurd (omega (arith, e)))) refl))))
only_typing p (W32 ∷ list) only =
    let own = own_block p W32 list only (only_typing (λ l. p (W32 ∷ l)) list (inner_only p W32 list only)) in
    two p (begun W1 (width_lists (length list))) _ ([]) _ (other_block p W32 list only W1 (λ e. absurd (omega (arith, e))))
    (two p (begun W8 (width_lists (length list))) _ ([]) _ (other_block p W32 list only W8 (λ e. absurd (omega (arith, e))))
    (two p (begun W16 (width_lists (length list))) _ ([]) _ (other_block p W32 list only W16 (λ e. absurd (omega (arith, e))))
    (two p (begun W32 (width_lists (length list))) _ ((W32 ∷ list) ∷ []) _ own
    (two p (begun W64 (width_lists (length list))) [] ([]) [] (other_block p W32 list only W64 (λ e. absurd (omega (arith, e)))) refl))))
only_typing p (W64 ∷ list) only =
    let own = own_block p W64 list only (only_typing (λ l. p (W64 ∷ l)) list (inner_only p W64 list only)) in
    two p (begun W1 (width_lists (length list))) _ ([]) _ (other_block p W64 list only W1 (λ e. absurd (omega (arith, e))))
    (two p (begun W8 (width_lists (length list))) _ ([]) _ (other_block p W64 list only W8 (λ e. absurd (omega (arith, e))))
    (two p (begun W16 (width_lists (length list))) _ ([]) _ (other_block p W64 list only W16 (λ e. absurd (omega (arith, e))))
    (two p (begun W32 (width_lists (length list))) _ ([]) _ (other_block p W64 list only W32 (λ e. absurd (omega (arith, e))))
    (two p (begun W64 (width_lists (length list))) [] ((W64 ∷ list) ∷ []) [] own refl))))
