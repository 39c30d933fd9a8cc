-- A search among names, from a place on.
use Rattle.std.proofs.Common.{◌≡◌, ℕ, suc, ◌+◌, ◌<◌, List, ◌∷◌, length, get_or, drop, map, Option, None, Some, true, false, sym, ap, ◌∙◌, refl, arith}
use Rattle.std.specs.Option.{option_map}
use Rattle.std.specs.Str.{bytes_eq}
use Rattle.std.proofs.lemmas.List.{drop_more, drop-map}
use Rattle.std.specs.Borrow.{Bor}
use Rattle.rule_spelling.specs.Tokens.{place_of}

-- so many places stand before the names
abbrev pub behind : ℕ → Option ℕ → Option ℕ
behind i None = None
behind i (Some place) = Some (i + place)

one_more : (i : ℕ) (place : Option ℕ) → behind i (option_map suc place) ≡ behind (i + 1) place
one_more i None = refl
one_more i (Some place) = ap Some (omega arith)

-- what is left of the names, by its first
front : (list : List (Bor (List ℕ))) (i : ℕ) (other : Bor (List ℕ)) → i < length list → drop i (map (λ one. one.now) list) ≡ (get_or list i other).now ∷ drop (i + 1) (map (λ one. one.now) list)
front list i other within =
    drop-map (λ one. one.now) i list
    ∙ ap (map (λ one. one.now)) (drop_more list i other within)
    ∙ ap (λ rest. (get_or list i other).now ∷ rest) (sym (drop-map (λ one. one.now) (i + 1) list))

pub place-here : (name : List ℕ) (list : List (Bor (List ℕ))) (i : ℕ) (other : Bor (List ℕ)) → i < length list → bytes_eq (get_or list i other).now name ≡ true → behind i (place_of name (drop i (map (λ one. one.now) list))) ≡ Some i
place-here name list i other within same = ap (λ names. behind i (place_of name names)) (front list i other within) ∙ rw same (ap Some (omega arith))

pub place-passed : (name : List ℕ) (list : List (Bor (List ℕ))) (i : ℕ) (other : Bor (List ℕ)) → i < length list → bytes_eq (get_or list i other).now name ≡ false → behind i (place_of name (drop i (map (λ one. one.now) list))) ≡ behind (i + 1) (place_of name (drop (i + 1) (map (λ one. one.now) list)))
place-passed name list i other within differs =
    ap (λ names. behind i (place_of name names)) (front list i other within)
    ∙ rw differs (one_more i (place_of name (drop (i + 1) (map (λ one. one.now) list))))
