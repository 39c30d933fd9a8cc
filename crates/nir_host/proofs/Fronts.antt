-- Bytes that go over front by front: off a source, and to a sink.
use Rattle.std.proofs.Common.{◌≡◌, ℕ, ◌+◌, ◌-◌, ◌<◌, List, ◌++◌, length, take, drop, Option, Some, sym, ap, ◌∙◌, arith, append_assoc, take-append-drop, length-drop}
use Rattle.std.proofs.Math.Seq.{take-add}
use Rattle.std.proofs.lemmas.List.{take_rest, drop-drop}
use Rattle.nir_host.specs.Told.{Gains}
use Rattle.nir_host.specs.Whole.{TakesFront}

-- what a read took from place `read` on, and what it left
pub parts-read : (all : List ℕ) (read n : ℕ) (into left : List ℕ) → take n into ≡ take n (take (length all - read) (drop read all)) → drop read all ≡ left → left ≡ take n into ++ drop (read + n) all
parts-read all read n into left copied here =
    sym here ∙ sym (take-append-drop n (drop read all))
    ∙ ap (λ l. l ++ drop n (drop read all)) (ap (take n) (sym (take_rest all read)) ∙ sym copied)
    ∙ ap (λ l. take n into ++ l) (drop-drop n read all)

-- a sink that took the first `done` bytes, and then n of the rest
pub Gains-front : (before mid now : Option (List ℕ)) (bytes : List ℕ) (done n : ℕ) → Gains before mid (take done bytes) → Gains mid now (take n (take (length bytes - done) (drop done bytes))) → Gains before now (take (done + n) bytes)
Gains-front before mid now bytes done n first then = λ taken told.
    then _ (first taken told)
    ∙ ap Some (append_assoc taken (take done bytes) _
    ∙ ap (λ l. taken ++ l) (ap (λ l. take done bytes ++ take n l) (take_rest bytes done) ∙ sym (take-add done n bytes)))

-- a sink that took the first k of the bytes, and not all
pub front_taken : (before : List ℕ) (now : Option (List ℕ)) (bytes : List ℕ) (k : ℕ) → k < length bytes → now ≡ Some (before ++ take k bytes) → TakesFront before now bytes
front_taken before now bytes k less told =
    record { front = take k bytes; rest = drop k bytes; parts = sym (take-append-drop k bytes); more = omega (arith, length-drop k bytes); now_taken = told }
