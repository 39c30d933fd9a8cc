-- A variant has the value of the rule's search side, at all sizes that fit.
use Rattle.std.specs.Prelude.{◌≡◌, refl, ◌+◌, ◌-◌, ◌%◌, ◌≤◌, ◌&&◌, ℕ, suc, Bool, true, false, List, [], ◌∷◌, ◌++◌, length, nat_eq}
use Rattle.std.proofs.Common.{sym, ◌∙◌, ap, arith, take, drop}
use Rattle.std.proofs.Math.Seq.{drop-append_seam}
use Rattle.std.proofs.lemmas.Bool.{and_parts}
use Rattle.std.proofs.lemmas.List.{drop-append-le, drop-drop, length-append, length-drop, length-take, take-append-drop}
use Rattle.std.specs.List.{slice_index_or}
use Rattle.nir_ops.specs.declared.op.Op.{Op}
use Rattle.nir_ops.specs.declared.width.Width.{Width}
use Rattle.nir_ops.specs.Width.{width_bits}
use Rattle.op_eval.specs.Calls.{sizes_fit, unsized_width}
use Rattle.op_eval.specs.Meaning.{op_mean}
use Rattle.op_eval.specs.Word.{residue}
use Rattle.rule_term.specs.Holds.{values_of}
use Rattle.rule_term.specs.Lists.{then}
use Rattle.rule_term.specs.Pieces.{terms_count}
use Rattle.rule_term.specs.Splits.{length-roots, length-values_of, roots-then, size_of-then, values_of-then}
use Rattle.rule_term.specs.SwapLaws.{op_mean_swapped, same_sizes}
use Rattle.rule_term.specs.Terms.{Terms, Nil, VarThen, LitThen, AppThen}
use Rattle.rule_term.specs.Typings.{first_of, has_size, literal_fits, obeys, roots, size_of}
use Rattle.rule_term.specs.Swapped.{behind_first, first_term, swapped_sizes, swapped_terms}
use Rattle.rule_term.specs.Variants.{VariantsKeepValues, bits_behind, bits_left, is_commutative, is_swapped, variant_of, variant_sizes}

-- a chain is its first term and those behind it
split : (terms : Terms) → then (first_term terms) (behind_first terms) ≡ terms
split Nil = refl
split (VarThen var constant size cond rest) = refl
split (LitThen value boolean rest) = refl
split (AppThen op size once args rest) = refl

count_first : (terms : Terms) → terms_count (first_term terms) ≤ 1
count_first Nil = omega arith
count_first (VarThen var constant size cond rest) = omega arith
count_first (LitThen value boolean rest) = omega arith
count_first (AppThen op size once args rest) = omega arith

abbrev second_of_two : Terms → Terms
second_of_two terms = first_term (behind_first terms)

abbrev behind_two : Terms → Terms
behind_two terms = behind_first (behind_first terms)

split_two : (terms : Terms) → then (first_term terms) (then (second_of_two terms) (behind_two terms)) ≡ terms
split_two terms = ap (then (first_term terms)) (split (behind_first terms)) ∙ split terms

size_of-two : (terms : Terms) → size_of terms ≡ size_of (first_term terms) + (size_of (second_of_two terms) + size_of (behind_two terms))
size_of-two terms =
    ap size_of (sym (split_two terms)) ∙ size_of-then (first_term terms) (then (second_of_two terms) (behind_two terms))
    ∙ ap (λ n. size_of (first_term terms) + n) (size_of-then (second_of_two terms) (behind_two terms))

-- what is read along terms reads as many sizes as there are nodes
pub roots-front : (terms : Terms) (front behind : List Width) → size_of terms ≤ length front → roots terms (front ++ behind) ≡ roots terms front
roots-front Nil front behind enough = refl
roots-front (VarThen var constant size cond rest) [] behind enough = absurd (omega (arith, enough))
roots-front (VarThen var constant size cond rest) (w ∷ front) behind enough = ap (λ t. w ∷ t) (roots-front rest front behind (omega (arith, enough)))
roots-front (LitThen value boolean rest) [] behind enough = absurd (omega (arith, enough))
roots-front (LitThen value boolean rest) (w ∷ front) behind enough = ap (λ t. w ∷ t) (roots-front rest front behind (omega (arith, enough)))
roots-front (AppThen op size once args rest) [] behind enough = absurd (omega (arith, enough))
roots-front (AppThen op size once args rest) (w ∷ front) behind enough =
    let long : length (drop (size_of args) front) ≡ length front - size_of args = length-drop (size_of args) front in
    ap (λ t. w ∷ t)
    (ap (roots rest) (drop-append-le (size_of args) front behind (omega (arith, enough)))
    ∙ roots-front rest (drop (size_of args) front) behind (omega (arith, enough, long)))

pub values_of-front : (values : List ℕ) (terms : Terms) (front behind : List Width) → size_of terms ≤ length front → values_of terms (front ++ behind) values ≡ values_of terms front values
values_of-front values Nil front behind enough = refl
values_of-front values (VarThen var constant size cond rest) [] behind enough = absurd (omega (arith, enough))
values_of-front values (VarThen var constant size cond rest) (w ∷ front) behind enough =
    ap (λ t. slice_index_or values var 0 ∷ t) (values_of-front values rest front behind (omega (arith, enough)))
values_of-front values (LitThen value boolean rest) [] behind enough = absurd (omega (arith, enough))
values_of-front values (LitThen value boolean rest) (w ∷ front) behind enough =
    ap (λ t. residue (width_bits w) value ∷ t) (values_of-front values rest front behind (omega (arith, enough)))
values_of-front values (AppThen op size once args rest) [] behind enough = absurd (omega (arith, enough))
values_of-front values (AppThen op size once args rest) (w ∷ front) behind enough =
    let long : length (drop (size_of args) front) ≡ length front - size_of args = length-drop (size_of args) front in
    ap (λ list. op_mean op (width_bits (unsized_width op w list)) (width_bits w) (values_of args (front ++ behind) values) ∷ values_of rest (drop (size_of args) (front ++ behind)) values) (roots-front args front behind (omega (arith, enough)))
    ∙ ap (λ list. op_mean op (width_bits (unsized_width op w (roots args front))) (width_bits w) list ∷ values_of rest (drop (size_of args) (front ++ behind)) values) (values_of-front values args front behind (omega (arith, enough)))
    ∙ ap (λ t. op_mean op (width_bits (unsized_width op w (roots args front))) (width_bits w) (values_of args front values) ∷ t)
    (ap (λ l. values_of rest l values) (drop-append-le (size_of args) front behind (omega (arith, enough)))
    ∙ values_of-front values rest (drop (size_of args) front) behind (omega (arith, enough, long)))

-- the sizes of the first two terms, and of those behind them
abbrev sizes_one : Terms → List Width → List Width
sizes_one terms sizes = take (size_of (first_term terms)) sizes

abbrev sizes_two : Terms → List Width → List Width
sizes_two terms sizes = take (size_of (second_of_two terms)) (drop (size_of (first_term terms)) sizes)

abbrev sizes_behind : Terms → List Width → List Width
sizes_behind terms sizes = drop (size_of (first_term terms) + size_of (second_of_two terms)) sizes

sizes_split : (terms : Terms) (sizes : List Width) → sizes_one terms sizes ++ (sizes_two terms sizes ++ sizes_behind terms sizes) ≡ sizes
sizes_split terms sizes =
    let first = size_of (first_term terms) in
    let second = size_of (second_of_two terms) in
    ap (λ l. take first sizes ++ (take second (drop first sizes) ++ l)) (sym (drop-drop second first sizes ∙ ap (λ n. drop n sizes) (omega arith)))
    ∙ ap (λ l. take first sizes ++ l) (take-append-drop second (drop first sizes))
    ∙ take-append-drop first sizes

long_one : (terms : Terms) (sizes : List Width) → length sizes ≡ size_of terms → length (sizes_one terms sizes) ≡ size_of (first_term terms)
long_one terms sizes long =
    let whole = size_of-two terms in
    let have = length-take (size_of (first_term terms)) sizes in
    omega (arith, long, whole, have)

long_two : (terms : Terms) (sizes : List Width) → length sizes ≡ size_of terms → length (sizes_two terms sizes) ≡ size_of (second_of_two terms)
long_two terms sizes long =
    let whole = size_of-two terms in
    let left = length-drop (size_of (first_term terms)) sizes in
    let have = length-take (size_of (second_of_two terms)) (drop (size_of (first_term terms)) sizes) in
    omega (arith, long, whole, left, have)

size_of-swapped : (flag : Bool) (terms : Terms) → size_of (swapped_terms flag terms) ≡ size_of terms
size_of-swapped false terms = refl
size_of-swapped true terms =
    let whole = size_of-two terms in
    let outer = size_of-then (second_of_two terms) (then (first_term terms) (behind_two terms)) in
    let inner = size_of-then (first_term terms) (behind_two terms) in
    omega (arith, whole, outer, inner)

length-swapped : (flag : Bool) (terms : Terms) (sizes : List Width) → length sizes ≡ size_of terms → length (swapped_sizes flag terms sizes) ≡ size_of terms
length-swapped false terms sizes long = long
length-swapped true terms sizes long =
    let whole = size_of-two terms in
    let one = long_one terms sizes long in
    let two = long_two terms sizes long in
    let rest = length-drop (size_of (first_term terms) + size_of (second_of_two terms)) sizes in
    let outer = length-append (sizes_two terms sizes) (sizes_one terms sizes ++ sizes_behind terms sizes) in
    let inner = length-append (sizes_one terms sizes) (sizes_behind terms sizes) in
    omega (arith, long, whole, one, two, rest, outer, inner)

abbrev IsReadThen : {X : Type 0} → (Terms → List Width → List X) → Type 0
IsReadThen read = (a b : Terms) (widths : List Width) → read (then a b) widths ≡ read a widths ++ read b (drop (size_of a) widths)

abbrev IsReadFront : {X : Type 0} → (Terms → List Width → List X) → Type 0
IsReadFront read = (terms : Terms) (front behind : List Width) → size_of terms ≤ length front → read terms (front ++ behind) ≡ read terms front

-- What is read along a chain is what is read along its parts; so it is of roots and of values.
module _ {X : Type 0} (read : Terms → List Width → List X) (read-then : IsReadThen read) (read-front : IsReadFront read) where
  read-two : (a b : Terms) (front behind : List Width) → length front ≡ size_of a → read (then a b) (front ++ behind) ≡ read a front ++ read b behind
  read-two a b front behind long =
      read-then a b (front ++ behind)
      ∙ ap (λ l. l ++ read b (drop (size_of a) (front ++ behind))) (read-front a front behind (omega (arith, long)))
      ∙ ap (λ n. read a front ++ read b (drop n (front ++ behind))) (sym long)
      ∙ ap (λ l. read a front ++ read b l) (drop-append_seam front behind)

  read-three : (a b c : Terms) (one two behind : List Width) → length one ≡ size_of a → length two ≡ size_of b → read (then a (then b c)) (one ++ (two ++ behind)) ≡ read a one ++ (read b two ++ read c behind)
  read-three a b c one two behind first second = read-two a (then b c) one (two ++ behind) first ∙ ap (λ l. read a one ++ l) (read-two b c two behind second)

  read-swapped : (terms : Terms) (sizes : List Width) → length sizes ≡ size_of terms
      → read (swapped_terms true terms) (swapped_sizes true terms sizes)
      ≡ read (second_of_two terms) (sizes_two terms sizes) ++ (read (first_term terms) (sizes_one terms sizes) ++ read (behind_two terms) (sizes_behind terms sizes))
  read-swapped terms sizes long =
      read-three (second_of_two terms) (first_term terms) (behind_two terms) (sizes_two terms sizes) (sizes_one terms sizes) (sizes_behind terms sizes) (long_two terms sizes long) (long_one terms sizes long)

  read-whole : (terms : Terms) (sizes : List Width) → length sizes ≡ size_of terms
      → read terms sizes
      ≡ read (first_term terms) (sizes_one terms sizes) ++ (read (second_of_two terms) (sizes_two terms sizes) ++ read (behind_two terms) (sizes_behind terms sizes))
  read-whole terms sizes long =
      ap (λ t. read t sizes) (sym (split_two terms))
      ∙ ap (read (then (first_term terms) (then (second_of_two terms) (behind_two terms)))) (sym (sizes_split terms sizes))
      ∙ read-three (first_term terms) (second_of_two terms) (behind_two terms) (sizes_one terms sizes) (sizes_two terms sizes) (sizes_behind terms sizes) (long_one terms sizes long) (long_two terms sizes long)

-- at most one item each
mean-apart : (op : Op) (w d : ℕ) (one two rest : List ℕ) → is_commutative op ≡ true → length one ≤ 1 → length two ≤ 1 → op_mean op w d (two ++ (one ++ rest)) ≡ op_mean op w d (one ++ (two ++ rest))
mean-apart op w d [] [] rest h few few_two = refl
mean-apart op w d [] (b ∷ []) rest h few few_two = refl
mean-apart op w d [] (b ∷ c ∷ more) rest h few few_two = absurd (omega (arith, few_two))
mean-apart op w d (a ∷ []) [] rest h few few_two = refl
mean-apart op w d (a ∷ []) (b ∷ []) rest h few few_two = op_mean_swapped op w d a b rest h
mean-apart op w d (a ∷ []) (b ∷ c ∷ more) rest h few few_two = absurd (omega (arith, few_two))
mean-apart op w d (a ∷ c ∷ more) two rest h few few_two = absurd (omega (arith, few))

size-apart : (op : Op) (dst : Width) (one two rest : List Width) → is_commutative op ≡ true → sizes_fit op dst (one ++ (two ++ rest)) ≡ true → length one ≤ 1 → length two ≤ 1
    → unsized_width op dst (two ++ (one ++ rest)) ≡ unsized_width op dst (one ++ (two ++ rest))
size-apart op dst [] [] rest h fit few few_two = refl
size-apart op dst [] (b ∷ []) rest h fit few few_two = refl
size-apart op dst [] (b ∷ c ∷ more) rest h fit few few_two = absurd (omega (arith, few_two))
size-apart op dst (a ∷ []) [] rest h fit few few_two = refl
size-apart op dst (a ∷ []) (b ∷ []) rest h fit few few_two =
    let same : a ≡ b = same_sizes op dst a b rest h fit in
    ap (λ x. unsized_width op dst (b ∷ x ∷ rest)) same ∙ ap (λ x. unsized_width op dst (x ∷ b ∷ rest)) (sym same)
size-apart op dst (a ∷ []) (b ∷ c ∷ more) rest h fit few few_two = absurd (omega (arith, few_two))
size-apart op dst (a ∷ c ∷ more) two rest h fit few few_two = absurd (omega (arith, few))

-- what an opcode makes of its sources, where they stand swapped and where they do not
mean-swapped : (op : Op) (dst : Width) (flag : Bool) (terms : Terms) (sizes : List Width) (values : List ℕ) → (flag ≡ true → is_commutative op ≡ true) → sizes_fit op dst (roots terms sizes) ≡ true → length sizes ≡ size_of terms
    → op_mean op (width_bits (unsized_width op dst (roots (swapped_terms flag terms) (swapped_sizes flag terms sizes)))) (width_bits dst) (values_of (swapped_terms flag terms) (swapped_sizes flag terms sizes) values)
    ≡ op_mean op (width_bits (unsized_width op dst (roots terms sizes))) (width_bits dst) (values_of terms sizes values)
mean-swapped op dst false terms sizes values commutes fit long = refl
mean-swapped op dst true terms sizes values commutes fit long =
    let a = first_term terms in
    let b = second_of_two terms in
    let c = behind_two terms in
    let one = sizes_one terms sizes in
    let two = sizes_two terms sizes in
    let rest = sizes_behind terms sizes in
    let read : Terms → List Width → List ℕ = λ t l. values_of t l values in
    let read-then = λ (x y : Terms) (widths : List Width). values_of-then x y widths values in
    let roots_swapped = read-swapped roots roots-then roots-front terms sizes long in
    let roots_whole = read-whole roots roots-then roots-front terms sizes long in
    let values_swapped = read-swapped read read-then (values_of-front values) terms sizes long in
    let values_whole = read-whole read read-then (values_of-front values) terms sizes long in
    let few_a : terms_count a ≤ 1 = count_first terms in
    let few_b : terms_count b ≤ 1 = count_first (behind_first terms) in
    let width : unsized_width op dst (roots (swapped_terms true terms) (swapped_sizes true terms sizes)) ≡ unsized_width op dst (roots terms sizes) =
    ap (unsized_width op dst) roots_swapped
    ∙ size-apart op dst (roots a one) (roots b two) (roots c rest) (commutes refl) (sym (ap (sizes_fit op dst) roots_whole) ∙ fit)
    (let n = length-roots a one in omega (arith, n, few_a)) (let n = length-roots b two in omega (arith, n, few_b))
    ∙ sym (ap (unsized_width op dst) roots_whole) in
    ap (λ w. op_mean op (width_bits w) (width_bits dst) (values_of (swapped_terms true terms) (swapped_sizes true terms sizes) values)) width
    ∙ ap (op_mean op (width_bits (unsized_width op dst (roots terms sizes))) (width_bits dst)) values_swapped
    ∙ mean-apart op (width_bits (unsized_width op dst (roots terms sizes))) (width_bits dst) (values_of a one values) (values_of b two values) (values_of c rest values) (commutes refl)
    (let n = length-values_of a one values in omega (arith, n, few_a)) (let n = length-values_of b two values in omega (arith, n, few_b))
    ∙ sym (ap (op_mean op (width_bits (unsized_width op dst (roots terms sizes))) (width_bits dst)) values_whole)

-- a variant has as many nodes, and a size for each
size_of-variant : (terms : Terms) (bits : ℕ) → size_of (variant_of terms bits) ≡ size_of terms
size_of-variant Nil bits = refl
size_of-variant (VarThen var constant size cond rest) bits = ap suc (size_of-variant rest bits)
size_of-variant (LitThen value boolean rest) bits = ap suc (size_of-variant rest bits)
size_of-variant (AppThen op size once args rest) bits =
    ap (λ n. suc (n + size_of (variant_of rest (bits_behind args (bits_left op bits))))) (size_of-swapped (is_swapped op bits) (variant_of args (bits_left op bits)) ∙ size_of-variant args (bits_left op bits))
    ∙ ap (λ n. suc (size_of args + n)) (size_of-variant rest (bits_behind args (bits_left op bits)))

length-variant : (terms : Terms) (bits : ℕ) (widths : List Width) → length (variant_sizes terms bits widths) ≡ size_of terms
length-variant Nil bits widths = refl
length-variant (VarThen var constant size cond rest) bits widths = ap suc (length-variant rest bits (drop 1 widths))
length-variant (LitThen value boolean rest) bits widths = ap suc (length-variant rest bits (drop 1 widths))
length-variant (AppThen op size once args rest) bits widths =
    let inner = bits_left op bits in
    let sizes = variant_sizes args inner (drop 1 widths) in
    let behind = variant_sizes rest (bits_behind args inner) (drop (suc (size_of args)) widths) in
    ap suc (
    length-append (swapped_sizes (is_swapped op bits) (variant_of args inner) sizes) behind
    ∙ ap (λ n. n + length behind) (length-swapped (is_swapped op bits) (variant_of args inner) sizes (length-variant args inner (drop 1 widths) ∙ sym (size_of-variant args inner)) ∙ size_of-variant args inner)
    ∙ ap (λ n. size_of args + n) (length-variant rest (bits_behind args inner) (drop (suc (size_of args)) widths)))

pub record IsSame (terms : Terms) (bits : ℕ) (widths : List Width) (values : List ℕ) : Type 0 where
  pub values_are : values_of (variant_of terms bits) (variant_sizes terms bits widths) values ≡ values_of terms widths values
  pub roots_are : roots (variant_of terms bits) (variant_sizes terms bits widths) ≡ roots terms widths

variant_same : (terms : Terms) (bits : ℕ) (widths : List Width) (values : List ℕ) → obeys terms widths ≡ true → IsSame terms bits widths values
variant_same Nil bits widths values fit = record { values_are = refl; roots_are = refl }
variant_same (VarThen var constant size cond rest) bits widths values fit =
    let more = variant_same rest bits (drop 1 widths) values (and_parts (has_size size (first_of widths)) (obeys rest (drop 1 widths)) fit).1 in
    record { values_are = ap (λ t. slice_index_or values var 0 ∷ t) more.values_are; roots_are = ap (λ t. first_of widths ∷ t) more.roots_are }
variant_same (LitThen value boolean rest) bits widths values fit =
    let more = variant_same rest bits (drop 1 widths) values (and_parts (literal_fits value boolean (first_of widths)) (obeys rest (drop 1 widths)) fit).1 in
    record { values_are = ap (λ t. residue (width_bits (first_of widths)) value ∷ t) more.values_are; roots_are = ap (λ t. first_of widths ∷ t) more.roots_are }
variant_same (AppThen op size once args rest) bits widths values fit =
    let all = and_parts (has_size size (first_of widths) && sizes_fit op (first_of widths) (roots args (drop 1 widths)) && obeys args (drop 1 widths)) (obeys rest (drop (suc (size_of args)) widths)) fit in
    let here = and_parts (has_size size (first_of widths) && sizes_fit op (first_of widths) (roots args (drop 1 widths))) (obeys args (drop 1 widths)) all.0 in
    let fits = and_parts (has_size size (first_of widths)) (sizes_fit op (first_of widths) (roots args (drop 1 widths))) here.0 in
    let inner = bits_left op bits in
    let behind = bits_behind args inner in
    let flag = is_swapped op bits in
    let terms = variant_of args inner in
    let sizes = variant_sizes args inner (drop 1 widths) in
    let more_terms = variant_of rest behind in
    let more = variant_sizes rest behind (drop (suc (size_of args)) widths) in
    let under = variant_same args inner (drop 1 widths) values here.1 in
    let later = variant_same rest behind (drop (suc (size_of args)) widths) values all.1 in
    let long : length sizes ≡ size_of terms = length-variant args inner (drop 1 widths) ∙ sym (size_of-variant args inner) in
    let swapped = swapped_terms flag terms in
    let swaps = swapped_sizes flag terms sizes in
    let long_swaps : length swaps ≡ size_of swapped = length-swapped flag terms sizes long ∙ sym (size_of-swapped flag terms) in
    let left : drop (size_of swapped) (swaps ++ more) ≡ more = ap (λ n. drop n (swaps ++ more)) (sym long_swaps) ∙ drop-append_seam swaps more in
    let enough : size_of swapped ≤ length swaps = omega (arith, long_swaps) in
    let w = first_of widths in
    let mean : Width → List ℕ → ℕ = λ u list. op_mean op (width_bits u) (width_bits w) list in
    record {
      values_are =
          ap (λ list. mean (unsized_width op w list) (values_of swapped (swaps ++ more) values) ∷ values_of more_terms (drop (size_of swapped) (swaps ++ more)) values) (roots-front swapped swaps more enough)
          ∙ ap (λ list. mean (unsized_width op w (roots swapped swaps)) list ∷ values_of more_terms (drop (size_of swapped) (swaps ++ more)) values) (values_of-front values swapped swaps more enough)
          ∙ ap (λ x. x ∷ values_of more_terms (drop (size_of swapped) (swaps ++ more)) values)
          (mean-swapped op w flag terms sizes values (λ e. (and_parts (is_commutative op) (nat_eq (bits % 2) 1) e).0) (ap (sizes_fit op w) under.roots_are ∙ fits.1) long
          ∙ ap (λ list. mean (unsized_width op w list) (values_of terms sizes values)) under.roots_are
          ∙ ap (mean (unsized_width op w (roots args (drop 1 widths)))) under.values_are)
          ∙ ap (λ l. mean (unsized_width op w (roots args (drop 1 widths))) (values_of args (drop 1 widths) values) ∷ values_of more_terms l values) left
          ∙ ap (λ t. mean (unsized_width op w (roots args (drop 1 widths))) (values_of args (drop 1 widths) values) ∷ t) later.values_are;
      roots_are = ap (λ l. w ∷ roots more_terms l) left ∙ ap (λ t. w ∷ t) later.roots_are;
    }

pub variants_keep_values : VariantsKeepValues
variants_keep_values terms variant widths values fit = (variant_same terms variant widths values fit).values_are
