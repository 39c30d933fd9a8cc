-- Each variable of a rule is bound where the rule matches, to a view of which that is so which goes down from views to the views of their sources.
use Rattle.std.specs.Prelude.{◌≡◌, ◌≢◌, refl, ◌<◌, ℕ, zero, suc, List, [], ◌∷◌, ◌++◌, length, replicate, Option, Some, None, Bool, true, false, ◌&&◌, nat_eq, nat_lt, slice_get, slice_set, if◌then◌else◌}
use Rattle.std.proofs.Common.{sym, ◌∙◌, ap, subst, append_assoc, arith}
use Rattle.std.proofs.Math.Nat.{suc_inj}
use Rattle.std.proofs.lemmas.Bool.{and_parts, eqb-true, eqb-false, ltb-true, false≢true}
use Rattle.std.proofs.lemmas.Grind.{flat_map-append}
use Rattle.std.proofs.lemmas.List.Folds.{list_all-append}
use Rattle.std.proofs.lemmas.Option.{none-some, same_Some}
use Rattle.std.proofs.lemmas.Slice.Eq.{bytes_eq-Decides}
use Rattle.std.specs.List.{AllByRecursion, flat_map, list_all}
use Rattle.std.specs.Option.{option_and_then, option_map}
use Rattle.list_laws.specs.OptionLaws.{Mapped, between, if_some, mapped}
use Rattle.list_laws.specs.PlaceLaws.{get_set_other, get_set_same}
use Rattle.nir_ops.specs.declared.op.Op.{Op}
use Rattle.nir_ops.specs.declared.width.Width.{Width}
use Rattle.nir_ir.specs.declared.ids.ValueId.{ValueId}
use Rattle.nir_ir.specs.Nodes.{Nodes}
use Rattle.nir_ir.specs.Shader.{Shader}
use Rattle.rule_term.specs.Terms.{Terms, Nil, VarThen, LitThen, AppThen}
use Rattle.rule_term.specs.Pieces.{Piece, VarPiece, LitPiece, AppPiece, pieces, terms_count, var_of, vars_of}
use Rattle.rule_term.specs.Formed.{IsFormed, is_application, numbered}
use Rattle.rule_term.specs.Rule.{Rule}
use Rattle.nir_search.specs.declared.hit.Bind.{Bind}
use Rattle.rule_term.specs.Variants.{bits_behind, bits_left, is_swapped}
use Rattle.nir_search.specs.Match.{all_bound, bind, bind_slot, children, is_applied, is_literal, is_taken, is_typed, match_of, matches, met, root_view, same_view}
use Rattle.nir_search.specs.Put.{bound_to}

-- the slot holds a view of which this is so
abbrev IsFilledSlot : (Bind → Type 0) → Option (Option Bind) → Type 0
IsFilledSlot P None = ⊥
IsFilledSlot P (Some None) = ⊥
IsFilledSlot P (Some (Some view)) = P view

-- the slots below a number do
abbrev pub AreFilled : (Bind → Type 0) → ℕ → List (Option Bind) → Type 0
AreFilled P n bound = (k : ℕ) → k < n → IsFilledSlot P (slice_get bound k)

same_views : (a b : Bind) → same_view a b ≡ true → a ≡ b
same_views a b h =
    let parts = and_parts _ _ h in
    let number : a.value.0 ≡ b.value.0 = eqb-true _ _ parts.0 in
    let comps : a.comps ≡ b.comps = (bytes_eq-Decides a.comps b.comps).0 parts.1 in
    let view : ℕ → List ℕ → Bind = λ n list. record { value = record { 0 = n }; comps = list } in
    ap (λ n. view n a.comps) number ∙ ap (view b.value.0) comps

-- where the variables are numbered on from a number, those below it are bound
pub record Reached (P : Bind → Type 0) (vars : ℕ) (more : List ℕ) (bound : List (Option Bind)) : Type 0 where
  pub next : ℕ
  pub numbered : numbered next vars more ≡ true
  pub filled : AreFilled P next bound

-- a slot that is set, and the others
slot_at : (P : Bind → Type 0) (var next : ℕ) (view : Bind) (bound : List (Option Bind)) → AreFilled P next bound → P view → slice_get bound var ≡ Some None → var ≡ next
    → (k : ℕ) (same : Bool) → nat_eq k var ≡ same → k < suc next → IsFilledSlot P (slice_get (slice_set bound var (Some view)) k)
slot_at P var next view bound filled is slot here k true e less =
    subst (λ (j : ℕ). IsFilledSlot P (slice_get (slice_set bound var (Some view)) j)) (sym (eqb-true k var e))
    (subst (IsFilledSlot P) (sym (get_set_same bound var None (Some view) slot)) is)
slot_at P var next view bound filled is slot here k false e less =
    let differ : k ≢ var = eqb-false k var e in
    subst (IsFilledSlot P) (sym (get_set_other bound var k (Some view) differ)) (filled k (omega (arith, here, differ, less)))

-- how the numbers go on behind a variable
abbrev GoesOn : ℕ → ℕ → ℕ → List ℕ → Bool → Type 0
GoesOn vars var next more old = (if old then numbered next vars more else nat_eq var next && numbered (suc next) vars more) ≡ true

new_slot : (P : Bind → Type 0) (vars var next : ℕ) (more : List ℕ) (view : Bind) (bound : List (Option Bind)) → AreFilled P next bound → P view → slice_get bound var ≡ Some None
    → (old : Bool) → nat_lt var next ≡ old → GoesOn vars var next more old → Reached P vars more (slice_set bound var (Some view))
new_slot P vars var next more view bound filled is slot true less h = absurd (subst (IsFilledSlot P) slot (filled var (ltb-true var next less)))
new_slot P vars var next more view bound filled is slot false less h =
    let parts = and_parts (nat_eq var next) (numbered (suc next) vars more) h in
    record {
      next = suc next;
      numbered = parts.1;
      filled = λ k below. slot_at P var next view bound filled is slot (eqb-true var next parts.0) k (nat_eq k var) refl below;
    }

-- a slot that held the view before
old_at : (P : Bind → Type 0) (var next : ℕ) (view : Bind) (bound : List (Option Bind)) → AreFilled P next bound → P view → slice_get bound var ≡ Some (Some view) → var ≡ next
    → (k : ℕ) (same : Bool) → nat_eq k var ≡ same → k < suc next → IsFilledSlot P (slice_get bound k)
old_at P var next view bound filled is slot here k true e less =
    subst (λ (j : ℕ). IsFilledSlot P (slice_get bound j)) (sym (eqb-true k var e)) (subst (IsFilledSlot P) (sym slot) is)
old_at P var next view bound filled is slot here k false e less =
    let differ : k ≢ var = eqb-false k var e in
    filled k (omega (arith, here, differ, less))

old_slot : (P : Bind → Type 0) (vars var next : ℕ) (more : List ℕ) (view : Bind) (bound : List (Option Bind)) → AreFilled P next bound → P view → slice_get bound var ≡ Some (Some view)
    → (old : Bool) → nat_lt var next ≡ old → GoesOn vars var next more old → Reached P vars more bound
old_slot P vars var next more view bound filled is slot true less h = record { next = next; numbered = h; filled = filled }
old_slot P vars var next more view bound filled is slot false less h =
    let parts = and_parts (nat_eq var next) (numbered (suc next) vars more) h in
    record {
      next = suc next;
      numbered = parts.1;
      filled = λ k below. old_at P var next view bound filled is slot (eqb-true var next parts.0) k (nat_eq k var) refl below;
    }

bind_reaches : (P : Bind → Type 0) (vars var next : ℕ) (more : List ℕ) (view : Bind) (bound after : List (Option Bind)) (slot : Option (Option Bind)) → AreFilled P next bound → P view
    → slice_get bound var ≡ slot → bind_slot slot var view bound ≡ Some after → numbered next vars (var ∷ more) ≡ true → Reached P vars more after
bind_reaches P vars var next more view bound after None filled is at h goes = absurd (none-some after h)
bind_reaches P vars var next more view bound after (Some None) filled is at h goes =
    subst (Reached P vars more) (same_Some (slice_set bound var (Some view)) after h)
    (new_slot P vars var next more view bound filled is at (nat_lt var next) refl goes)
bind_reaches P vars var next more view bound after (Some (Some old)) filled is at h goes =
    let found = if_some (same_view old view) (Some bound) after h in
    let same : old ≡ view = same_views old view found.0 in
    subst (Reached P vars more) (same_Some bound after found.1)
    (old_slot P vars var next more view bound filled is (at ∙ ap (λ v. Some (Some v)) same) (nat_lt var next) refl goes)

vars_of-both : (first second : Terms) (more : List ℕ) → flat_map var_of (pieces first ++ pieces second) ++ more ≡ vars_of first ++ (vars_of second ++ more)
vars_of-both first second more = ap (λ l. l ++ more) (flat_map-append var_of (pieces first) (pieces second)) ∙ append_assoc (vars_of first) (vars_of second) more

-- so many views, and of each this is so
pub record AreChildren (P : Bind → Type 0) (sources : ℕ) (views : List Bind) : Type 0 where
  pub all : AllByRecursion P views
  pub count : length views ≡ sources

-- where an opcode of a good node is applied at the view, this is so of the views of its sources
abbrev pub GoesDown : Shader → (Piece → Bool) → (Bind → Type 0) → Bind → Type 0
GoesDown s good P view =
    (op : Op) (size : Option Width) (once : Bool) (sources : ℕ) (flag : Bool) → good (AppPiece op size once sources) ≡ true → is_applied s.body op once view ≡ true
    → AreChildren P sources (children s.body flag view)

-- along a match the variables are bound in the order of their numbers, each to a view of which that is so which goes down from views to those of sources
pub matches_reach : (s : Shader) (good : Piece → Bool) (P : Bind → Type 0) → ((view : Bind) → P view → GoesDown s good P view)
    → (vars : ℕ) (terms : Terms) (next : ℕ) (more : List ℕ) (bits : ℕ) (views : List Bind) (bound after : List (Option Bind))
    → list_all good (pieces terms) ≡ true
    → AllByRecursion P views → length views ≡ terms_count terms
    → numbered next vars (vars_of terms ++ more) ≡ true → AreFilled P next bound
    → matches s.body terms bits views bound ≡ Some after
    → Reached P vars more after
matches_reach s good P down vars Nil next more bits views bound after formed all long goes filled h =
    record { next = next; numbered = goes; filled = subst (AreFilled P next) (same_Some bound after h) filled }
matches_reach s good P down vars (VarThen var constant size cond rest) next more bits [] bound after formed all long goes filled h = absurd (omega (arith, long))
matches_reach s good P down vars (LitThen value boolean rest) next more bits [] bound after formed all long goes filled h = absurd (omega (arith, long))
matches_reach s good P down vars (AppThen op size once args rest) next more bits [] bound after formed all long goes filled h = absurd (omega (arith, long))
matches_reach s good P down vars (VarThen var constant size cond rest) next more bits (view ∷ views) bound after formed all long goes filled h =
    let taken = if_some (is_taken s.body constant cond view) (option_and_then (matches s.body rest bits views) (bind var view bound)) after h in
    let two = between (bind var view bound) (matches s.body rest bits views) after taken.1 in
    let here = bind_reaches P vars var next (vars_of rest ++ more) view bound two.middle (slice_get bound var) filled all.0 refl two.before goes in
    matches_reach s good P down vars rest here.next more bits views two.middle after (and_parts (good (VarPiece var constant size cond)) (list_all good (pieces rest)) formed).1 all.1 (omega (arith, long)) here.numbered here.filled two.behind
matches_reach s good P down vars (LitThen value boolean rest) next more bits (view ∷ views) bound after formed all long goes filled h =
    let same = if_some (is_literal s.body value view) (matches s.body rest bits views bound) after h in
    matches_reach s good P down vars rest next more bits views bound after (and_parts (good (LitPiece value boolean)) (list_all good (pieces rest)) formed).1 all.1 (omega (arith, long)) goes filled same.1
matches_reach s good P down vars (AppThen op size once args rest) next more bits (view ∷ views) bound after formed all long goes filled h =
    let behind : ℕ = bits_behind args (bits_left op bits) in
    let inner : List Bind = children s.body (is_swapped op bits) view in
    let applied = if_some (is_applied s.body op once view) (option_and_then (matches s.body rest behind views) (matches s.body args (bits_left op bits) inner bound)) after h in
    let two = between (matches s.body args (bits_left op bits) inner bound) (matches s.body rest behind views) after applied.1 in
    let parts = and_parts (good (AppPiece op size once (terms_count args))) (list_all good (pieces args ++ pieces rest)) formed in
    let both = and_parts (list_all good (pieces args)) (list_all good (pieces rest)) (sym (list_all-append good (pieces args) (pieces rest)) ∙ parts.1) in
    let are = down view all.0 op size once (terms_count args) (is_swapped op bits) parts.0 applied.0 in
    let numbers : numbered next vars (vars_of args ++ (vars_of rest ++ more)) ≡ true = ap (numbered next vars) (sym (vars_of-both args rest more)) ∙ goes in
    let here = matches_reach s good P down vars args next (vars_of rest ++ more) (bits_left op bits) inner bound two.middle both.0 are.all are.count numbers filled two.before in
    matches_reach s good P down vars rest here.next more behind views two.middle after both.1 all.1 (omega (arith, long)) here.numbered here.filled two.behind

-- where the slots are filled, what variables are bound to stands in the order of their numbers
filled_front : (P : Bind → Type 0) (bound : List (Option Bind)) (var : ℕ) → AreFilled P (suc var) bound → P (bound_to (all_bound bound) var)
filled_front P [] var filled = absurd (filled 0 (omega arith))
filled_front P (None ∷ bound) var filled = absurd (filled 0 (omega arith))
filled_front P (Some view ∷ bound) zero filled = filled 0 (omega arith)
filled_front P (Some view ∷ bound) (suc var) filled = filled_front P bound var (λ k less. filled (suc k) (omega (arith, less)))

pub bound_view : (P : Bind → Type 0) (bound : List (Option Bind)) (vars var : ℕ) → AreFilled P vars bound → var < vars → P (bound_to (all_bound bound) var)
bound_view P bound vars var filled less = filled_front P bound var (λ k below. filled k (omega (arith, less, below)))

no_terms : (terms : Terms) → terms_count terms ≡ 0 → terms ≡ Nil
no_terms Nil h = refl
no_terms (VarThen var constant size cond rest) h = absurd (omega (arith, h))
no_terms (LitThen value boolean rest) h = absurd (omega (arith, h))
no_terms (AppThen op size once args rest) h = absurd (omega (arith, h))

-- from the root of a match on
bound_from : (s : Shader) (good : Piece → Bool) (P : Bind → Type 0) → ((view : Bind) → P view → GoesDown s good P view)
    → (vars : ℕ) (terms : Terms) (bits : ℕ) (view : Bind) (after : List (Option Bind)) → is_application terms ≡ true → terms_count terms ≡ 1
    → list_all good (pieces terms) ≡ true → numbered 0 vars (vars_of terms) ≡ true → GoesDown s good P view
    → matches s.body terms bits (view ∷ []) (replicate vars None) ≡ Some after
    → (var : ℕ) → var < vars → P (bound_to (all_bound after) var)
bound_from s good P down vars Nil bits view after application one formed numbers first h var less = absurd (false≢true application)
bound_from s good P down vars (VarThen v constant size cond rest) bits view after application one formed numbers first h var less = absurd (false≢true application)
bound_from s good P down vars (LitThen number boolean rest) bits view after application one formed numbers first h var less = absurd (false≢true application)
bound_from s good P down vars (AppThen op size once args rest) bits view after application one formed numbers first h var less =
    let begun : List (Option Bind) = replicate vars None in
    let behind : ℕ = bits_behind args (bits_left op bits) in
    let inner : List Bind = children s.body (is_swapped op bits) view in
    let applied = if_some (is_applied s.body op once view) (option_and_then (matches s.body rest behind []) (matches s.body args (bits_left op bits) inner begun)) after h in
    let two = between (matches s.body args (bits_left op bits) inner begun) (matches s.body rest behind []) after applied.1 in
    let last : rest ≡ Nil = no_terms rest (suc_inj one) in
    let ended : two.middle ≡ after = same_Some two.middle after (sym (ap (λ terms. matches s.body terms behind [] two.middle) last) ∙ two.behind) in
    let parts = and_parts (good (AppPiece op size once (terms_count args))) (list_all good (pieces args ++ pieces rest)) formed in
    let formed_args = and_parts (list_all good (pieces args)) (list_all good (pieces rest)) (sym (list_all-append good (pieces args) (pieces rest)) ∙ parts.1) in
    let are = first op size once (terms_count args) (is_swapped op bits) parts.0 applied.0 in
    let numbers_args : numbered 0 vars (vars_of args ++ vars_of rest) ≡ true = ap (numbered 0 vars) (sym (flat_map-append var_of (pieces args) (pieces rest))) ∙ numbers in
    let reached = matches_reach s good P down vars args 0 (vars_of rest) (bits_left op bits) inner begun two.middle formed_args.0 are.all are.count numbers_args (λ k below. absurd (omega (arith, below))) two.before in
    let all : numbered reached.next vars [] ≡ true = ap (λ terms. numbered reached.next vars (vars_of terms)) (sym last) ∙ reached.numbered in
    let every : reached.next ≡ vars = eqb-true reached.next vars all in
    bound_view P after vars var (subst (λ (n : ℕ). AreFilled P n after) every (subst (AreFilled P reached.next) ended reached.filled)) less

-- the walk behind a match
pub record IsWalk (rule : Rule) (variant : ℕ) (body : Nodes) (value : ValueId) (binds : List Bind) : Type 0 where
  pub typed : is_typed rule (met body rule.search variant (root_view body value ∷ [])) ≡ true
  pub walk : Mapped all_bound (matches body rule.search variant (root_view body value ∷ []) (replicate rule.vars None)) binds

pub walk_of : (rule : Rule) (variant : ℕ) (body : Nodes) (value : ValueId) (binds : List Bind) → match_of rule variant body value ≡ Some binds → IsWalk rule variant body value binds
unfolding match_of
walk_of rule variant body value binds h =
    let views : List Bind = root_view body value ∷ [] in
    let found = if_some (is_typed rule (met body rule.search variant views)) (option_map all_bound (matches body rule.search variant views (replicate rule.vars None))) binds h in
    record { typed = found.0; walk = mapped all_bound (matches body rule.search variant views (replicate rule.vars None)) binds found.1 }

-- where a rule matches, each of its variables is bound to a view of which that is so which goes down from the root
pub match_bound : (s : Shader) (good : Piece → Bool) (P : Bind → Type 0) → ((view : Bind) → P view → GoesDown s good P view)
    → (rule : Rule) → IsFormed rule → list_all good (pieces rule.search) ≡ true → (variant : ℕ) (value : ValueId) (binds : List Bind)
    → GoesDown s good P (root_view s.body value) → match_of rule variant s.body value ≡ Some binds
    → (var : ℕ) → var < rule.vars → P (bound_to binds var)
match_bound s good P down rule formed all variant value binds first h var less =
    let w = (walk_of rule variant s.body value binds h).walk in
    subst (λ (list : List Bind). P (bound_to list var)) w.behind
    (bound_from s good P down rule.vars rule.search variant (root_view s.body value) w.middle formed.application formed.one_search all formed.numbered first w.before var less)
