-- Items that were read before, and those that are still read, as a loop does it.
use Rattle.std.proofs.Common.{◌≡◌, List, [], ◌∷◌, ◌++◌, Result, Ok, Err, refl, sym, ap, ◌∙◌, append_assoc}
use Rattle.std.proofs.lemmas.List.{append-nil}
use Rattle.nir_text.specs.declared.fault.TextFault.{TextFault}
use Rattle.nir_text.specs.declared.fault.TextFault.TheVariants.{Lex, Expected, UnknownOp, UnknownName, Twice, TooDeep, TooMany, OutOfMemory}
use Rattle.nir_text.specs.Reading.{Point, ◌>>=◌, Fails}

-- what was read before, and what is still read
abbrev pub with_front : {A : Type 0} → List A → Result (List A × Point) TextFault → Result (List A × Point) TextFault
with_front front (Ok x) = Ok (front ++ x.0, x.1)
with_front front (Err fault) = Err fault

-- a fault of a part is that of the whole
pub fails : {B C : Type 0} (fault : TextFault) (part : Result B TextFault) (total : Result C TextFault) → ((f : TextFault) → part ≡ Err f → total ≡ Err f) → Fails fault part → Fails fault total
fails (Lex f) part total h e = h (Lex f) e
fails (Expected place) part total h e = h (Expected place) e
fails (UnknownOp place) part total h e = h (UnknownOp place) e
fails (UnknownName place) part total h e = h (UnknownName place) e
fails (Twice place) part total h e = h (Twice place) e
fails (TooDeep place) part total h e = h (TooDeep place) e
fails (TooMany place) part total h e = h (TooMany place) e
fails OutOfMemory part total h e = tt

module _ {A : Type 0} where
  -- one item and then others
  pub one_and : (item : A) (read : Result (List A × Point) TextFault) → (read >>= λ x. Ok (item ∷ x.0, x.1)) ≡ with_front (item ∷ []) read
  one_and item (Ok x) = refl
  one_and item (Err fault) = refl

  regroup : (front : List A) (item : A) (read : Result (List A × Point) TextFault) → with_front front (with_front (item ∷ []) read) ≡ with_front (front ++ item ∷ []) read
  regroup front item (Ok x) = ap (λ (items : List A). Ok (items, x.1)) (sym (append_assoc front (item ∷ []) x.0))
  regroup front item (Err fault) = refl

  -- an item moves to the front
  pub goes_on : (front : List A) (item : A) (read rest total : Result (List A × Point) TextFault) → with_front front read ≡ total → read ≡ with_front (item ∷ []) rest → with_front (front ++ item ∷ []) rest ≡ total
  goes_on front item read rest total so_far e = sym (regroup front item rest) ∙ ap (with_front front) (sym e) ∙ so_far

  -- a fault of a part that comes after a front is that of the whole
  pub ends : {B : Type 0} (fault : TextFault) (front : List A) (part : Result B TextFault) (read total : Result (List A × Point) TextFault) → with_front front read ≡ total → ((f : TextFault) → part ≡ Err f → read ≡ Err f) → Fails fault part → Fails fault total
  ends fault front part read total so_far h = fails fault part total (λ f e. sym so_far ∙ ap (with_front front) (h f e))

  -- what follows the front stops at a fault
  pub stops : (front : List A) (read total : Result (List A × Point) TextFault) (fault : TextFault) → with_front front read ≡ total → read ≡ Err fault → total ≡ Err fault
  stops front read total fault so_far e = sym so_far ∙ ap (with_front front) e

  -- nothing is left to read
  pub is_done : (front : List A) (p : Point) (read total : Result (List A × Point) TextFault) → with_front front read ≡ total → read ≡ Ok ([], p) → total ≡ Ok (front, p)
  is_done front p read total so_far e = sym so_far ∙ ap (with_front front) e ∙ ap (λ (items : List A). Ok (items, p)) (append-nil front)
