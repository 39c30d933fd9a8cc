-- The first typing of a rule with a search part has the least sizes of the replacement, where the variables have the sizes of the search side and the roots agree.
use Rattle.op_eval.specs.Sizes.{same_width-refl, same_width-same, same_widths-refl, same_widths-same}
use Rattle.op_eval.specs.Calls.{same_width}
use Rattle.std.specs.Prelude.{◌≡◌, refl, ◌≤◌, ◌+◌, ℕ, Bool, true, false, ◌&&◌, Some, None, List, [], ◌∷◌, ◌++◌, length, map, cond, nat_eq, nat_lt, replicate}
use Rattle.std.proofs.Common.{◌∙◌, ap, sym, subst, arith}
use Rattle.std.proofs.lemmas.Bool.{and_parts, and_from, ltb-true, lt-ltb, false≢true}
use Rattle.std.proofs.lemmas.List.{append-nil, length-append, length-drop, take-append-drop, take_at, drop_at, take_all}
use Rattle.std.proofs.lemmas.Option.{none-some}
use Rattle.std.specs.List.{find, list_all, list_any}
use Rattle.std.specs.Option.{option_map}
use Rattle.std.specs.Cmp.Lexicographic.{pointwise}
use Rattle.nir_ops.specs.declared.width.Width.{Width}
use Rattle.rule_term.specs.Pieces.{pieces, vars_of}
use Rattle.rule_term.specs.Rule.{Rule}
use Rattle.rule_term.specs.Formed.{IsFormed}
use Rattle.rule_term.specs.Splits.{vars_of-occurrences}
use Rattle.rule_term.specs.EightBitLaws.{one_root, replace_sourced}
use Rattle.rule_term.specs.Typings.{size_of, first_of, roots, obeys, Occurrence, occurrences, agree, search_part, replace_part, is_typing, typings, width_lists}
use Rattle.rule_term.specs.Typed.{IsTyped, IsTyped-from_is_typing, is_typing-from_IsTyped}
use Rattle.rule_term.specs.Replaced.{has_search, replace_for}
use Rattle.rule_term.specs.ReplaceLeast.{can, knows, least, noted}
use Rattle.rule_term.proofs.SideLemmas.{covered, numbered_below, replace_pieces}
use Rattle.rule_term.proofs.ReplaceFirst.{IsFirst, find-filter, first_found, none_found, not_after, not_after-append, not_after-refl}
use Rattle.rule_term.proofs.ReplaceKnown.{Known, all_known, replaced_known, searched_noted}
use Rattle.rule_term.proofs.ReplaceRoots.{length-least}
use Rattle.rule_term.proofs.ReplaceExact.{IsPart, least_before, least_part}

all_below : (m n : ℕ) (list : List ℕ) → m ≤ n → list_all (λ var. nat_lt var m) list ≡ true → list_all (λ var. nat_lt var n) list ≡ true
all_below m n [] more h = refl
all_below m n (var ∷ list) more h =
    let parts = and_parts (nat_lt var m) (list_all (λ var. nat_lt var m) list) h in
    let less = ltb-true var m parts.0 in
    and_from (nat_lt var n) (list_all (λ var. nat_lt var n) list) (lt-ltb var n (omega arith)) (all_below m n list more parts.1)

module _ (rule : Rule) (formed : IsFormed rule) (search : List Width) (long : length search ≡ size_of rule.search) where
  abbrev searched : List Occurrence
  searched = occurrences rule.search search

  abbrev whole : List Width → Bool
  whole widths = is_typing rule widths && has_search rule search widths

  found : replace_for rule search ≡ option_map (replace_part rule) (find whole (width_lists (size_of rule.search + size_of rule.replace)))
  unfolding replace_for typings
  found = ap (option_map (replace_part rule)) (find-filter (is_typing rule) (has_search rule search) (width_lists (size_of rule.search + size_of rule.replace)))

  nothing : ((widths : List Width) → whole widths ≡ true → ⊥) → replace_for rule search ≡ None
  nothing never = found ∙ ap (option_map (replace_part rule)) (none_found (size_of rule.search + size_of rule.replace) whole (λ widths count h. never widths h))

  -- the variables of the search side have places, and those of the replacement stand there
  pub room : list_all (λ var. nat_lt var 16) (map (λ o. o.var) searched) ≡ true
  room =
      ap (list_all (λ var. nat_lt var 16)) (vars_of-occurrences rule.search search)
      ∙ all_below rule.vars 16 (vars_of rule.search) formed.few_vars (numbered_below 0 rule.vars (vars_of rule.search) formed.numbered).1

  all_covered : (widths : List Width) → list_all (λ o. list_any (nat_eq o.var) (map (λ a. a.var) searched)) (occurrences rule.replace widths) ≡ true
  all_covered widths =
      let below : list_all (λ var. nat_lt var rule.vars) (map (λ o. o.var) (occurrences rule.replace widths)) ≡ true =
      ap (list_all (λ var. nat_lt var rule.vars)) (vars_of-occurrences rule.replace widths) ∙ (replace_pieces rule.vars (pieces rule.replace) formed.replace).1 in
      ap (λ vars. list_all (λ o. list_any (nat_eq o.var) vars) (occurrences rule.replace widths)) (vars_of-occurrences rule.search search)
      ∙ covered rule.vars (vars_of rule.search) formed.numbered (occurrences rule.replace widths) below

  -- a typing with this search part
  record IsWhole (widths : List Width) : Type 0 where
    typed : IsTyped rule widths
    part : search_part rule widths ≡ search
    joined : search ++ replace_part rule widths ≡ widths
    agreed : agree (searched ++ occurrences rule.replace (replace_part rule widths)) ≡ true

  whole_parts : (widths : List Width) → whole widths ≡ true → IsWhole widths
  whole_parts widths h =
      let parts = and_parts (is_typing rule widths) (has_search rule search widths) h in
      let typed = IsTyped-from_is_typing rule widths parts.0 in
      let part = same_widths-same (search_part rule widths) search parts.1 in
      record {
        typed = typed;
        part = part;
        joined = ap (λ l. l ++ replace_part rule widths) (sym part) ∙ take-append-drop (size_of rule.search) widths;
        agreed = subst (λ (l : List Width). agree (occurrences rule.search l ++ occurrences rule.replace (replace_part rule widths)) ≡ true) part typed.agree;
      }

  -- there is none where the search side does not obey
  pub none_obeys : obeys rule.search search ≡ false → None ≡ replace_for rule search
  none_obeys broken = sym (nothing (λ widths h.
      let here = whole_parts widths h in
      false≢true (sym broken ∙ ap (obeys rule.search) (sym here.part) ∙ here.typed.search)))

  -- nor where a variable of it has two sizes
  pub none_noted : noted searched (replicate 16 None) ≡ None → None ≡ replace_for rule search
  none_noted broken = sym (nothing (λ widths h.
      let here = whole_parts widths h in
      let made = searched_noted searched (occurrences rule.replace (replace_part rule widths)) 16 here.agreed room in
      none-some made.0 (sym broken ∙ made.1)))

  module _ (obeyed : obeys rule.search search ≡ true) (known : Known) (made : noted searched (replicate 16 None) ≡ Some known) where
    abbrev root : List Width
    root = first_of search ∷ []

    -- what a typing gives the replacement
    given : (widths : List Width) → whole widths ≡ true → IsPart (knows known) rule.replace root (replace_part rule widths)
    given widths h =
        let here = whole_parts widths h in
        let replaced = replace_part rule widths in
        let ends = same_width-same (first_of (search_part rule widths)) (first_of replaced) here.typed.roots in
        record {
          obeyed = here.typed.replace;
          rooted = one_root rule.replace replaced formed.one_replace ∙ ap (λ w. w ∷ []) (sym ends ∙ ap first_of here.part);
          known = replaced_known searched (occurrences rule.replace replaced) 16 known here.agreed (all_covered replaced) made;
        }

    replaced_long : (widths : List Width) → whole widths ≡ true → length (replace_part rule widths) ≡ size_of rule.replace
    replaced_long widths h =
        let count = (whole_parts widths h).typed.count in
        let left = length-drop (size_of rule.search) widths in
        omega arith

    -- and what makes one
    is_whole : (list : List Width) → length list ≡ size_of rule.replace → IsPart (knows known) rule.replace root list → whole (search ++ list) ≡ true
    is_whole list count part =
        let first : search_part rule (search ++ list) ≡ search = take_at search list (size_of rule.search) long in
        let second : replace_part rule (search ++ list) ≡ list = drop_at search list (size_of rule.search) long in
        let end : first_of list ≡ first_of search = ap first_of (sym (one_root rule.replace list formed.one_replace) ∙ part.rooted) in
        let agreed = all_known searched (occurrences rule.replace list) 16 known made part.known in
        and_from (is_typing rule (search ++ list)) (has_search rule search (search ++ list))
        (is_typing-from_IsTyped rule (search ++ list) (record {
          count = length-append search list ∙ ap (λ n. n + length list) long ∙ ap (λ n. size_of rule.search + n) count;
          search = ap (obeys rule.search) first ∙ obeyed;
          replace = ap (obeys rule.replace) second ∙ part.obeyed;
          roots = ap (λ l. same_width (first_of l) (first_of (replace_part rule (search ++ list)))) first ∙ ap (λ l. same_width (first_of search) (first_of l)) second ∙ ap (same_width (first_of search)) end ∙ same_width-refl (first_of search);
          agree = ap (λ l. agree (occurrences rule.search l ++ occurrences rule.replace (replace_part rule (search ++ list)))) first ∙ ap (λ l. agree (searched ++ occurrences rule.replace l)) second ∙ agreed;
        }))
        (ap (λ l. pointwise same_width l search) first ∙ same_widths-refl search)

    abbrev chosen : List Width
    chosen = least (knows known) rule.replace root

    chosen_long : length chosen ≡ size_of rule.replace
    chosen_long = length-least (knows known) rule.replace root

    first_whole : can (knows known) rule.replace root ≡ true → IsFirst whole (search ++ chosen)
    first_whole may = record {
      passes =
          let part = least_part (knows known) rule.replace root [] (replace_sourced rule.vars (pieces rule.replace) formed.replace) (sym formed.one_replace) may in
          is_whole chosen chosen_long (subst (IsPart (knows known) rule.replace root) (append-nil chosen) part);
      least = λ other count h.
          let part = given other h in
          let replaced = replace_part rule other in
          let size = replaced_long other h in
          let before = (least_before (knows known) rule.replace replaced (omega arith) part.obeyed part.known).1 in
          let least_is : not_after chosen replaced ≡ true =
          ap (λ l. not_after (least (knows known) rule.replace l) replaced) (sym part.rooted) ∙ ap (not_after (least (knows known) rule.replace (roots rule.replace replaced))) (sym (take_all (size_of rule.replace) replaced (omega arith))) ∙ before in
          subst (λ (l : List Width). not_after (search ++ chosen) l ≡ true) (whole_parts other h).joined
          (not_after-append search search chosen replaced refl (not_after-refl search) least_is);
    }

    some_case : can (knows known) rule.replace root ≡ true → replace_for rule search ≡ Some chosen
    some_case may =
        let count : length (search ++ chosen) ≡ size_of rule.search + size_of rule.replace = length-append search chosen ∙ ap (λ n. n + length chosen) long ∙ ap (λ n. size_of rule.search + n) chosen_long in
        found
        ∙ ap (λ n. option_map (replace_part rule) (find whole (width_lists n))) (sym count)
        ∙ ap (option_map (replace_part rule)) (first_found whole (search ++ chosen) (first_whole may))
        ∙ ap Some (drop_at search chosen (size_of rule.search) long)

    none_case : can (knows known) rule.replace root ≡ false → replace_for rule search ≡ None
    none_case cannot = nothing (λ widths h.
        let part = given widths h in
        let size = replaced_long widths h in
        false≢true (sym cannot ∙ ap (can (knows known) rule.replace) (sym part.rooted) ∙ (least_before (knows known) rule.replace (replace_part rule widths) (omega arith) part.obeyed part.known).0))

    decided : (b : Bool) → can (knows known) rule.replace root ≡ b → cond b (Some chosen) None ≡ replace_for rule search
    decided true may = sym (some_case may)
    decided false cannot = sym (none_case cannot)

    -- else there is one exactly where the replacement can have this root
    pub least_replaces : cond (can (knows known) rule.replace root) (Some chosen) None ≡ replace_for rule search
    least_replaces = decided (can (knows known) rule.replace root) refl
