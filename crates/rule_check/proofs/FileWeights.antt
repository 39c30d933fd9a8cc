-- The weights of a file, set line by line.
use Rattle.std.proofs.Common.{◌≡◌, ◌≢◌, ◌+◌, ◌<◌, ℕ, zero, suc, false, cond, List, [], ◌∷◌, map, length, drop, get_or, refl, sym, ◌∙◌, ap, subst, ⊎_elim}
use Rattle.std.specs.List.{AllByRecursion}
use Rattle.std.proofs.lemmas.Bool.{cases_Bool, false≢true}
use Rattle.std.proofs.lemmas.List.{drop_more}
use denote.Enum.Bare.{sameb, same_true, same_false}
use Rattle.nir_ops.specs.contracts.op.Op as op
use Rattle.nir_ops.specs.declared.op.Op.{Op}
use Rattle.nir_ops.specs.declared.op.Op.TheVariants.{Mov}
use Rattle.rule_term.specs.Formed.{is_mov}
use Rattle.rule_read.specs.declared.entry.WeightLine.{WeightLine}
use Rattle.rule_read.specs.Says.{weight_says}
use Rattle.rule_spelling.specs.Files.{WeightLine as Said}
use Rattle.rule_read.specs.RuleFile.{AreWeights, IsOther}
use Rattle.rule_check.specs.Accepted.{weight_or}

pub weights-drop : (lines : List WeightLine) (k : ℕ) → AreWeights lines → AreWeights (drop k lines)
weights-drop lines zero weighed = weighed
weights-drop [] (suc k) weighed = tt
weights-drop (line ∷ rest) (suc k) weighed = weights-drop rest k weighed.3

pub not_mov : (o : Op) → is_mov o ≡ false → o ≢ Mov
not_mov o ordinary same = false≢true (sym ordinary ∙ ap is_mov same)

-- what lines say
abbrev said : List WeightLine → List Said
said lines = map weight_says lines

-- an opcode that no line names has the weight that it has without them
not_named : (lines : List WeightLine) (weight : ℕ) (o : Op) → AllByRecursion (λ (line : WeightLine). line.op ≡ o → ⊥) lines → weight_or (said lines) weight o ≡ weight
not_named [] weight o others = refl
not_named (line ∷ rest) weight o others = ⊎_elim
    (λ e. absurd (others.0 (same_true op.the_type tt line.op o e)))
    (λ e. ap (λ b. cond b line.weight (weight_or (said rest) weight o)) e ∙ not_named rest weight o others.1)
    (cases_Bool (sameb op.the_type line.op o))

-- one more line is set
pub weights-set : (line : WeightLine) (rest : List WeightLine) (before after : Op → ℕ) → AllByRecursion (IsOther line) rest → after line.op ≡ line.weight
    → ((other : Op) → other ≢ line.op → after other ≡ before other) → (o : Op) → weight_or (said rest) (after o) o ≡ weight_or (said (line ∷ rest)) (before o) o
weights-set line rest before after others set kept o = ⊎_elim
    (λ e.
    let same : line.op ≡ o = same_true op.the_type tt line.op o e in
    not_named rest (after o) o (subst (λ x. AllByRecursion (λ (other : WeightLine). other.op ≡ x → ⊥) rest) same others)
    ∙ ap after (sym same) ∙ set
    ∙ sym (ap (λ b. cond b line.weight (weight_or (said rest) (before o) o)) e))
    (λ e.
    let differ : o ≢ line.op = λ same. same_false op.the_type line.op o e (sym same) in
    ap (λ w. weight_or (said rest) w o) (kept o differ)
    ∙ sym (ap (λ b. cond b line.weight (weight_or (said rest) (before o) o)) e))
    (cases_Bool (sameb op.the_type line.op o))

-- what is asked of the line at a place, and the weights where it is set
pub asked-at : (lines : List WeightLine) (k : ℕ) (d : WeightLine) → k < length lines → AreWeights lines → AreWeights (get_or lines k d ∷ drop (k + 1) lines)
asked-at lines k d within weighed = subst AreWeights (drop_more lines k d within) (weights-drop lines k weighed)

pub weights-step : (lines : List WeightLine) (k : ℕ) (d : WeightLine) (before after : Op → ℕ) → k < length lines → AreWeights lines → after (get_or lines k d).op ≡ (get_or lines k d).weight
    → ((other : Op) → other ≢ (get_or lines k d).op → after other ≡ before other) → (o : Op) → weight_or (said (drop (k + 1) lines)) (after o) o ≡ weight_or (said (drop k lines)) (before o) o
weights-step lines k d before after within weighed set kept o =
    weights-set (get_or lines k d) (drop (k + 1) lines) before after (asked-at lines k d within weighed).2 set kept o
    ∙ ap (λ l. weight_or (said l) (before o) o) (sym (drop_more lines k d within))
