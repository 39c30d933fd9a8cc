-- The rules of sizes that a rule of the optimiser makes: of each node, of the two roots, and of the occurrences of a variable.
use Rattle.std.proofs.Common.{◌≡◌, refl, ℕ, suc, ◌+◌, ◌≤◌, ◌<◌, Bool, true, false, not, ◌&&◌, ◌||◌, cond, Option, Some, None, List, [], ◌∷◌, ◌++◌, map, drop, nat_eq, sym, ◌∙◌, ap, arith, get_or-drop}
use Rattle.std.specs.List.{list_all}
use Rattle.std.specs.Cmp.Lexicographic.{pointwise}
use Rattle.std.proofs.Math.Bool.{and_assoc}
use Rattle.std.proofs.lemmas.Bool.{and_parts, and_from}
use Rattle.std.proofs.lemmas.List.{map-append}
use Rattle.nir_ops.specs.declared.op.Op.{Op}
use Rattle.nir_ops.specs.declared.width.Width.{Width}
use Rattle.nir_ops.specs.declared.width.Width.TheVariants.{W1}
use Rattle.nir_ops.specs.Opcodes.{op_info, op_allows}
use Rattle.op_eval.specs.Calls.{same_width, size_at, sizes_fit, unsized_of, unsized_width, source_widths, result_width}
use Rattle.op_eval.specs.Sizes.{same_width-refl}
use Rattle.rule_term.specs.Terms.{Terms, Nil, VarThen, LitThen, AppThen}
use Rattle.rule_term.specs.Typings.{size_of, first_of, roots, has_size, literal_fits, obeys, Occurrence, occurrences, alike}
use Rattle.size_laws.specs.Places.{SizeRule, Same, at, holds, all_hold, within, all_within}
use Rattle.size_laws.specs.NodeRules.{VarPlace, fit_rules, op_rules, root_places, rules_of, source_rule, source_rules, var_places}

abbrev pub rules_with : VarPlace → List VarPlace → List SizeRule
rules_with p [] = []
rules_with p (q ∷ rest) = cond (nat_eq p.var q.var) (Same p.place q.place ∷ rules_with p rest) (rules_with p rest)

abbrev pub pair_rules : List VarPlace → List VarPlace → List SizeRule
pair_rules all [] = []
pair_rules all (p ∷ rest) = rules_with p all ++ pair_rules all rest

pub all_hold-append : (w : ℕ → Width) (a b : List SizeRule) → all_hold w (a ++ b) ≡ (all_hold w a && all_hold w b)
all_hold-append w [] b = refl
all_hold-append w (r ∷ a) b = ap (λ t. holds w r && t) (all_hold-append w a b) ∙ sym (and_assoc (holds w r) (all_hold w a) (all_hold w b))

pub all_within-append : (n : ℕ) (a b : List SizeRule) → all_within n a ≡ true → all_within n b ≡ true → all_within n (a ++ b) ≡ true
all_within-append n [] b ha hb = hb
all_within-append n (r ∷ a) b ha hb = let parts = and_parts (within n r) (all_within n a) ha in and_from (within n r) (all_within n (a ++ b)) parts.0 (all_within-append n a b parts.1 hb)

four : (a x b y c z d u : Bool) → a ≡ x → b ≡ y → c ≡ z → d ≡ u → (a && b && c && d) ≡ (x && (y && (z && u)))
four a x b y c z d u ea eb ec ed =
    ap (λ t. t && b && c && d) ea ∙ ap (λ t. x && t && c && d) eb ∙ ap (λ t. x && y && t && d) ec ∙ ap (λ t. x && y && z && t) ed
    ∙ and_assoc (x && y) z u ∙ and_assoc x y (z && u)

swapped : (a b c : Bool) → (a && (b && c)) ≡ (b && (a && c))
swapped true b c = refl
swapped false true c = refl
swapped false false c = refl

-- sizes as a list, from a place on
abbrev pub Shows : List Width → (ℕ → Width) → ℕ → ℕ → Type 0
Shows widths w k m = (i : ℕ) → i < m → at widths i ≡ w (k + i)

module _ (w : ℕ → Width) where
  shows_drop : (widths : List Width) (k m j l : ℕ) → Shows widths w k m → j + l ≤ m → Shows (drop j widths) w (k + j) l
  shows_drop widths k m j l shows fit i less =
      let e : k + (j + i) ≡ k + j + i = omega arith in
      get_or-drop j widths i W1 ∙ shows (j + i) (omega (arith, fit, less)) ∙ ap w e

  pub shows_first : (widths : List Width) (k m : ℕ) → Shows widths w k m → 1 ≤ m → first_of widths ≡ w k
  shows_first widths k m shows some = let e : k + 0 ≡ k = omega arith in shows 0 (omega (arith, some)) ∙ ap w e

  source_holds : (u : ℕ) (o : Option Width) (p : ℕ) → same_width (size_at o (w u)) (w p) ≡ holds w (source_rule u o p)
  source_holds u None p = refl
  source_holds u (Some size) p = refl

  sources_hold : {I : Type 0} (get : I → Option Width) (u : ℕ) (inputs : List I) (places : List ℕ) → pointwise same_width (map (λ input. size_at (get input) (w u)) inputs) (map w places) ≡ all_hold w (source_rules get u inputs places)
  sources_hold get u [] [] = refl
  sources_hold get u [] (p ∷ places) = refl
  sources_hold get u (input ∷ inputs) [] = refl
  sources_hold get u (input ∷ inputs) (p ∷ places) =
      ap (λ t. t && pointwise same_width (map (λ input. size_at (get input) (w u)) inputs) (map w places)) (source_holds u (get input) p)
      ∙ ap (λ t. holds w (source_rule u (get input) p) && t) (sources_hold get u inputs places)

  fit_holds : {I : Type 0} (out : Option Width) (allow : Width → Bool) (get : I → Option Width) (inputs : List I) (k : ℕ) (places : List ℕ)
      → (allow (unsized_of out (w k) (map w places)) && same_width (size_at out (unsized_of out (w k) (map w places))) (w k)
      && pointwise same_width (map (λ input. size_at (get input) (unsized_of out (w k) (map w places))) inputs) (map w places))
      ≡ all_hold w (fit_rules out allow get inputs k places)
  fit_holds None allow get inputs k places =
      ap (λ t. allow (w k) && t && pointwise same_width (map (λ input. size_at (get input) (w k)) inputs) (map w places)) (same_width-refl (w k))
      ∙ and_assoc (allow (w k)) true (pointwise same_width (map (λ input. size_at (get input) (w k)) inputs) (map w places))
      ∙ ap (λ t. allow (w k) && t) (sources_hold get k inputs places)
  fit_holds (Some size) allow get inputs k [] =
      and_assoc (allow (w k)) (same_width size (w k)) (pointwise same_width (map (λ input. size_at (get input) (w k)) inputs) [])
      ∙ ap (λ t. allow (w k) && (same_width size (w k) && t)) (sources_hold get k inputs [])
  fit_holds (Some size) allow get inputs k (p ∷ places) =
      and_assoc (allow (w p)) (same_width size (w k)) (pointwise same_width (map (λ input. size_at (get input) (w p)) inputs) (map w (p ∷ places)))
      ∙ ap (λ t. allow (w p) && (same_width size (w k) && t)) (sources_hold get p inputs (p ∷ places))

  op_holds : (op : Op) (k : ℕ) (places : List ℕ) → sizes_fit op (w k) (map w places) ≡ all_hold w (op_rules op k places)
  unfolding sizes_fit unsized_width source_widths result_width
  op_holds op k places = fit_holds (op_info op).out.size (op_allows op) (λ input. input.kind.size) (op_info op).inputs k places

  roots_placed : (terms : Terms) (k : ℕ) (widths : List Width) → Shows widths w k (size_of terms) → roots terms widths ≡ map w (root_places terms k)
  roots_placed Nil k widths shows = refl
  roots_placed (VarThen var constant size cond rest) k widths shows =
      ap (λ x. x ∷ roots rest (drop 1 widths)) (shows_first widths k (suc (size_of rest)) shows (omega arith))
      ∙ ap (λ l. w k ∷ l) (roots_placed rest (k + 1) (drop 1 widths) (shows_drop widths k (suc (size_of rest)) 1 (size_of rest) shows (omega arith)))
  roots_placed (LitThen value boolean rest) k widths shows =
      ap (λ x. x ∷ roots rest (drop 1 widths)) (shows_first widths k (suc (size_of rest)) shows (omega arith))
      ∙ ap (λ l. w k ∷ l) (roots_placed rest (k + 1) (drop 1 widths) (shows_drop widths k (suc (size_of rest)) 1 (size_of rest) shows (omega arith)))
  roots_placed (AppThen op size once args rest) k widths shows =
      let m = suc (size_of args + size_of rest) in
      ap (λ x. x ∷ roots rest (drop (suc (size_of args)) widths)) (shows_first widths k m shows (omega arith))
      ∙ ap (λ l. w k ∷ l) (roots_placed rest (k + suc (size_of args)) (drop (suc (size_of args)) widths) (shows_drop widths k m (suc (size_of args)) (size_of rest) shows (omega arith)))

  pub obeys_holds : (terms : Terms) (k : ℕ) (widths : List Width) → Shows widths w k (size_of terms) → obeys terms widths ≡ all_hold w (rules_of terms k)
  obeys_holds Nil k widths shows = refl
  obeys_holds (VarThen var constant size cond rest) k widths shows =
      ap (λ x. has_size size x && obeys rest (drop 1 widths)) (shows_first widths k (suc (size_of rest)) shows (omega arith))
      ∙ ap (λ t. has_size size (w k) && t) (obeys_holds rest (k + 1) (drop 1 widths) (shows_drop widths k (suc (size_of rest)) 1 (size_of rest) shows (omega arith)))
  obeys_holds (LitThen value boolean rest) k widths shows =
      ap (λ x. literal_fits value boolean x && obeys rest (drop 1 widths)) (shows_first widths k (suc (size_of rest)) shows (omega arith))
      ∙ ap (λ t. literal_fits value boolean (w k) && t) (obeys_holds rest (k + 1) (drop 1 widths) (shows_drop widths k (suc (size_of rest)) 1 (size_of rest) shows (omega arith)))
  obeys_holds (AppThen op size once args rest) k widths shows =
      let m = suc (size_of args + size_of rest) in
      let under : Shows (drop 1 widths) w (k + 1) (size_of args) = shows_drop widths k m 1 (size_of args) shows (omega arith) in
      let behind : Shows (drop (suc (size_of args)) widths) w (k + suc (size_of args)) (size_of rest) = shows_drop widths k m (suc (size_of args)) (size_of rest) shows (omega arith) in
      let r1 = op_rules op k (root_places args (k + 1)) in
      let r2 = rules_of args (k + 1) in
      let r3 = rules_of rest (k + suc (size_of args)) in
      four (has_size size (first_of widths)) (has_size size (w k)) (sizes_fit op (first_of widths) (roots args (drop 1 widths))) (all_hold w r1) (obeys args (drop 1 widths)) (all_hold w r2) (obeys rest (drop (suc (size_of args)) widths)) (all_hold w r3)
      (ap (has_size size) (shows_first widths k m shows (omega arith)))
      (ap (λ x. sizes_fit op x (roots args (drop 1 widths))) (shows_first widths k m shows (omega arith)) ∙ ap (sizes_fit op (w k)) (roots_placed args (k + 1) (drop 1 widths) under) ∙ op_holds op k (root_places args (k + 1)))
      (obeys_holds args (k + 1) (drop 1 widths) under)
      (obeys_holds rest (k + suc (size_of args)) (drop (suc (size_of args)) widths) behind)
      ∙ ap (λ t. has_size size (w k) && t) (swapped (all_hold w r1) (all_hold w r2) (all_hold w r3) ∙ ap (λ t. all_hold w r2 && t) (sym (all_hold-append w r1 r3)) ∙ sym (all_hold-append w r2 (r1 ++ r3)))

  abbrev pub shown : VarPlace → Occurrence
  shown p = record { var = p.var; width = w p.place; cond = p.cond }

  pub occurrences_placed : (terms : Terms) (k : ℕ) (widths : List Width) → Shows widths w k (size_of terms) → occurrences terms widths ≡ map shown (var_places terms k)
  occurrences_placed Nil k widths shows = refl
  occurrences_placed (VarThen var constant size cond rest) k widths shows =
      ap (λ (x : Width). let o : Occurrence = record { var = var; width = x; cond = cond } in o ∷ occurrences rest (drop 1 widths)) (shows_first widths k (suc (size_of rest)) shows (omega arith))
      ∙ ap (λ l. shown (record { var = var; place = k; cond = cond }) ∷ l) (occurrences_placed rest (k + 1) (drop 1 widths) (shows_drop widths k (suc (size_of rest)) 1 (size_of rest) shows (omega arith)))
  occurrences_placed (LitThen value boolean rest) k widths shows = occurrences_placed rest (k + 1) (drop 1 widths) (shows_drop widths k (suc (size_of rest)) 1 (size_of rest) shows (omega arith))
  occurrences_placed (AppThen op size once args rest) k widths shows =
      let m = suc (size_of args + size_of rest) in
      ap (λ l. l ++ occurrences rest (drop (suc (size_of args)) widths)) (occurrences_placed args (k + 1) (drop 1 widths) (shows_drop widths k m 1 (size_of args) shows (omega arith)))
      ∙ ap (λ l. map shown (var_places args (k + 1)) ++ l) (occurrences_placed rest (k + suc (size_of args)) (drop (suc (size_of args)) widths) (shows_drop widths k m (suc (size_of args)) (size_of rest) shows (omega arith)))
      ∙ sym (map-append shown (var_places args (k + 1)) (var_places rest (k + suc (size_of args))))

  pub alike_case : (p q : VarPlace) (more : List SizeRule) (b : Bool) → ((not b || same_width (w p.place) (w q.place)) && all_hold w more) ≡ all_hold w (cond b (Same p.place q.place ∷ more) more)
  alike_case p q more true = refl
  alike_case p q more false = refl

  alike_holds : (p : VarPlace) (list : List VarPlace) → list_all (alike (shown p)) (map shown list) ≡ all_hold w (rules_with p list)
  alike_holds p [] = refl
  alike_holds p (q ∷ rest) = ap (λ t. alike (shown p) (shown q) && t) (alike_holds p rest) ∙ alike_case p q (rules_with p rest) (nat_eq p.var q.var)

  pub agree_holds : (all list : List VarPlace) → list_all (λ a. list_all (alike a) (map shown all)) (map shown list) ≡ all_hold w (pair_rules all list)
  agree_holds all [] = refl
  agree_holds all (p ∷ rest) =
      ap (λ t. list_all (alike (shown p)) (map shown all) && t) (agree_holds all rest)
      ∙ ap (λ t. t && all_hold w (pair_rules all rest)) (alike_holds p all)
      ∙ sym (all_hold-append w (rules_with p all) (pair_rules all rest))
