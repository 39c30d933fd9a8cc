-- A typing of a rule, taken apart.
use Rattle.op_eval.specs.Calls.{same_width}
use Rattle.std.specs.Prelude.{◌≡◌, ◌+◌, true, List, ◌++◌, length}
use Rattle.std.proofs.lemmas.Bool.{and_parts, and_from, eqb-true, eq-eqb}
use Rattle.nir_ops.specs.declared.width.Width.{Width}
use Rattle.rule_term.specs.Rule.{Rule}
use Rattle.rule_term.specs.Typings.{size_of, first_of, obeys, occurrences, agree, search_part, replace_part, is_typing}

pub record IsTyped (rule : Rule) (widths : List Width) : Type 0 where
  pub count : length widths ≡ size_of rule.search + size_of rule.replace
  pub search : obeys rule.search (search_part rule widths) ≡ true
  pub replace : obeys rule.replace (replace_part rule widths) ≡ true
  pub roots : same_width (first_of (search_part rule widths)) (first_of (replace_part rule widths)) ≡ true
  pub agree : agree (occurrences rule.search (search_part rule widths) ++ occurrences rule.replace (replace_part rule widths)) ≡ true

pub IsTyped-from_is_typing : (rule : Rule) (widths : List Width) → is_typing rule widths ≡ true → IsTyped rule widths
unfolding is_typing
IsTyped-from_is_typing rule widths h =
    let all = and_parts _ _ h in
    let ends = and_parts _ _ all.0 in
    let sides = and_parts _ _ ends.0 in
    let first = and_parts _ _ sides.0 in
    record { count = eqb-true _ _ first.0; search = first.1; replace = sides.1; roots = ends.1; agree = all.1 }

pub is_typing-from_IsTyped : (rule : Rule) (widths : List Width) → IsTyped rule widths → is_typing rule widths ≡ true
unfolding is_typing
is_typing-from_IsTyped rule widths h =
    and_from _ _ (and_from _ _ (and_from _ _ (and_from _ _ (eq-eqb _ _ h.count) h.search) h.replace) h.roots) h.agree
