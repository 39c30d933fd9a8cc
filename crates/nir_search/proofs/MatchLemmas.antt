-- Facts on views and on what variables are bound to.
use Rattle.std.specs.Prelude.{◌≡◌, refl, ◌+◌, ℕ, zero, suc, List, [], ◌∷◌, ◌++◌, length, map, drop, slice_get}
use Rattle.std.proofs.Common.{sym, ◌∙◌, ap, take, arith}
use Rattle.std.specs.Option.{option_map, unwrap_or}
use Rattle.std.specs.List.{range_with_len, refill}
use Rattle.std.proofs.Math.Seq.{take-append_seam}
use Rattle.std.proofs.lemmas.Option.{slice_get-map}
use Rattle.nir_ir.specs.declared.instr.Src.{Src}
use Rattle.nir_search.specs.declared.hit.Bind.{Bind}
use Rattle.nir_search.specs.Match.{front}

-- a view of nothing
abbrev pub nowhere : Bind
nowhere = record { value = record { 0 = 0 }; comps = [] }

pub front_at : (views : List Bind) (at : ℕ) → front (drop at views) ≡ unwrap_or (slice_get views at) nowhere
front_at [] zero = refl
front_at [] (suc at) = refl
front_at (view ∷ views) zero = refl
front_at (view ∷ views) (suc at) = front_at views at

-- the view that stands at a place of a list of views of sources
pub viewed_at : (f : Src → Bind) (srcs : List Src) (at : ℕ) → front (drop at (map f srcs)) ≡ unwrap_or (option_map f (slice_get srcs at)) nowhere
viewed_at f srcs at = front_at (map f srcs) at ∙ ap (λ o. unwrap_or o nowhere) (slice_get-map f srcs at)

-- as many items, put back whole
pub refill_whole : {X : Type 0} (xs ws : List X) → length ws ≡ length xs → refill (length xs) xs ws ≡ ws
refill_whole xs ws e =
    ap (λ n. take n (ws ++ drop (length ws) xs)) (sym e) ∙ take-append_seam ws (drop (length ws) xs)

-- one more component at the end
range_more : (a n m : ℕ) → m ≡ a + n → range_with_len a n ++ m ∷ [] ≡ range_with_len a (suc n)
range_more a zero m e = ap (λ k. k ∷ []) (e ∙ omega arith)
range_more a (suc n) m e = ap (λ t. a ∷ t) (range_more (a + 1) n m (e ∙ omega arith))

pub range_next : (n : ℕ) → range_with_len 0 n ++ n ∷ [] ≡ range_with_len 0 (n + 1)
range_next n = range_more 0 n n (omega arith) ∙ ap (range_with_len 0) {x = suc n} {y = n + 1} (omega arith)
