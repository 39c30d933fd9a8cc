-- The refusal of an entry of the code is that of what it says: sizes, trials, derivations and logs do not look at options.
use Rattle.std.specs.Prelude.{◌≡◌, refl, ◌+◌, ℕ, Option, Some, None, List, [], ◌∷◌}
use Rattle.std.specs.Option.{option_map, option_or}
use Rattle.std.proofs.Common.{ap, sym, ◌∙◌}
use Rattle.nir_ops.specs.declared.width.Width.{Width}
use Rattle.rule_term.specs.Rule.{Rule}
use Rattle.rule_term.specs.Typings.{is_typing, typings}
use Rattle.size_laws.specs.Ambiguous.{ambiguous_node}
use Rattle.size_infer.specs.SizeFaults.{size_fault}
use Rattle.size_infer.specs.declared.fault.SizeFault.{SizeFault}
use Rattle.rule_spelling.specs.Files as said
use Rattle.rule_spelling.specs.Files.{LogStep, Proof}
use Rattle.rule_read.specs.declared.entry.Entry.{Entry}
use Rattle.rule_read.specs.Says.{entry_says}
use Rattle.rule_check.specs.Accepted.{cause_at, cause_by, cause_of_log, cause_of_trial, chosen_line, claim_of, claim_said, refusal_of, refusal_on, refused_among, refused_at, refused_for}
use Rattle.rule_check.specs.Cases.{differs_at, first_difference, trial_of}
use Rattle.circuit_laws.specs.Variables.{var_width}
use Rattle.circuit_laws.specs.RuleClauses.{rule_clauses}
use Rattle.rule_check.specs.OptionsLaws.{plain, derived_plainly}
use Rattle.rule_check.specs.declared.refused.RuleCause.TheVariants as cause

plain_typings : (rule : Rule) → typings (plain rule) ≡ typings rule
unfolding typings is_typing
plain_typings rule = refl

plain_fault : (rule : Rule) → size_fault (plain rule) ≡ size_fault rule
unfolding size_fault ambiguous_node typings is_typing
plain_fault rule = refl

plain_trial : (rule : Rule) (widths : List Width) → trial_of (plain rule) widths ≡ trial_of rule widths
unfolding trial_of first_difference differs_at var_width
plain_trial rule widths = refl

plain_log : (rule : Rule) (widths : List Width) (log : List LogStep) → cause_of_log (plain rule) widths log ≡ cause_of_log rule widths log
unfolding rule_clauses var_width
plain_log rule widths log = refl

plain_cause : (rule : Rule) (widths : List Width) (evidence : Option Proof) → cause_by (plain rule) widths evidence ≡ cause_by rule widths evidence
plain_cause rule widths None = refl
plain_cause rule widths (Some said.Cases) = ap cause_of_trial (plain_trial rule widths)
plain_cause rule widths (Some (said.Derive steps)) = ap (option_map cause.Derive) (derived_plainly rule widths steps)
plain_cause rule widths (Some (said.Logged log)) = plain_log rule widths log

said_cause : (entry : Entry) (number : ℕ) (widths : List Width) → cause_at (claim_said (entry_says entry)) number widths ≡ cause_at (claim_of entry) number widths
unfolding cause_at
said_cause entry number widths = plain_cause entry.rule widths (chosen_line number (claim_of entry).lines)

said_among : (entry : Entry) (number : ℕ) (list : List (List Width)) → refused_among (claim_said (entry_says entry)) number list ≡ refused_among (claim_of entry) number list
said_among entry number [] = refl
said_among entry number (widths ∷ rest) =
    ap (λ cause. option_or (option_map (refused_at (claim_of entry) number) cause) (refused_among (claim_said (entry_says entry)) (number + 1) rest)) (said_cause entry number widths)
    ∙ ap (option_or (option_map (refused_at (claim_of entry) number) (cause_at (claim_of entry) number widths))) (said_among entry (number + 1) rest)

said_for : (entry : Entry) (fault : Option SizeFault) → refused_for (claim_said (entry_says entry)) fault ≡ refused_for (claim_of entry) fault
said_for entry (Some fault) = refl
said_for entry None = said_among entry 0 (typings (plain entry.rule)) ∙ ap (refused_among (claim_of entry) 0) (plain_typings entry.rule)

pub refusal_as_said : (entry : Entry) → refusal_on (claim_of entry) ≡ refusal_of (entry_says entry)
unfolding refusal_of refusal_on
refusal_as_said entry = sym (ap (refused_for (claim_said (entry_says entry))) (plain_fault entry.rule) ∙ said_for entry (size_fault entry.rule))
