-- The typings of a rule, one by one, and what is wrong at each.
use Rattle.std.proofs.Common.{◌≡◌, ◌+◌, ◌<◌, ℕ, true, Option, Some, None, List, [], ◌∷◌, map, length, drop, get_or, refl, sym, ◌∙◌, ap, subst}
use Rattle.std.specs.List.{All}
use Rattle.std.specs.Option.{option_map, option_or}
use Rattle.std.proofs.lemmas.List.{at_drop_more}
use Rattle.nir_ops.specs.declared.op.Op.{Op}
use Rattle.nir_ops.specs.declared.width.Width.{Width}
use Rattle.clause_check.specs.declared.clause.LogStep.{LogStep}
use Rattle.clause_check.specs.Logs.{Clause, log_fault}
use Rattle.circuit_laws.specs.RuleClauses.{first_without, rule_clauses}
use Rattle.rule_term.specs.Rule.{Rule}
use Rattle.rule_term.specs.Typings.{is_typing, typings}
use Rattle.rule_term.specs.declared.typing.Typing.{Typing}
use Rattle.size_infer.specs.Grown.{all_widths_of}
use Rattle.rule_spelling.specs.Files.{Line, Proof}
use Rattle.rule_read.specs.declared.entry.Entry.{Entry}
use Rattle.rule_read.specs.Says.{entry_says, log_step_says}
use Rattle.size_infer.specs.SizeFaults.{size_fault}
use Rattle.size_infer.specs.declared.fault.SizeFault.{SizeFault}
use Rattle.rule_check.specs.declared.refused.RuleCause.{RuleCause}
use Rattle.rule_check.specs.declared.refused.RuleCause.TheVariants as cause
use Rattle.rule_check.specs.declared.refused.Refused.{Refused}
use Rattle.rule_check.specs.Accepted.{cause_at, cause_of_log, checked_step, fault_of_log, Claim, claim_of, refusal_of, refusal_on, refused_among, refused_at, refused_by_size, refused_for}
use Rattle.rule_check.specs.SaidLaws.{refusal_as_said}

-- the typing at a place of a list
abbrev pub IsTypingAt : List Typing → ℕ → Typing → Type 0
IsTypingAt list k typing = (k < length list) × (typing ≡ get_or list k typing)

pub typing-at : (rule : Rule) (list : List Typing) (k : ℕ) (typing : Typing) → IsTypingAt list k typing → All (λ typing. is_typing rule typing.widths ≡ true) list → is_typing rule typing.widths ≡ true
typing-at rule list k typing at all = subst (λ (t : Typing). is_typing rule t.widths ≡ true) (sym at.1) (all k typing at.0)

among-at : (claim : Claim) (list : List Typing) (k : ℕ) (typing : Typing) → IsTypingAt list k typing
    → refused_among claim k (all_widths_of (drop k list)) ≡ option_or (option_map (refused_at claim k) (cause_at claim k typing.widths)) (refused_among claim (k + 1) (all_widths_of (drop (k + 1) list)))
among-at claim list k typing at =
    at_drop_more (λ l. refused_among claim k (all_widths_of l)) list k typing at.0
    ∙ ap (λ (t : Typing). option_or (option_map (refused_at claim k) (cause_at claim k t.widths)) (refused_among claim (k + 1) (all_widths_of (drop (k + 1) list)))) (sym at.1)

pub among-past : (claim : Claim) (list : List Typing) (k : ℕ) (typing : Typing) → IsTypingAt list k typing → cause_at claim k typing.widths ≡ None
    → refused_among claim (k + 1) (all_widths_of (drop (k + 1) list)) ≡ refused_among claim k (all_widths_of (drop k list))
among-past claim list k typing at none =
    sym (among-at claim list k typing at ∙ ap (λ c. option_or (option_map (refused_at claim k) c) (refused_among claim (k + 1) (all_widths_of (drop (k + 1) list)))) none)

pub among-here : (claim : Claim) (list : List Typing) (k : ℕ) (typing : Typing) (found : RuleCause) → IsTypingAt list k typing → cause_at claim k typing.widths ≡ Some found
    → refused_among claim k (all_widths_of (drop k list)) ≡ Some (refused_at claim k found)
among-here claim list k typing found at some =
    among-at claim list k typing at ∙ ap (λ c. option_or (option_map (refused_at claim k) c) (refused_among claim (k + 1) (all_widths_of (drop (k + 1) list)))) some

-- the line for a typing alone goes first
abbrev proof_of : Option Line → Option Proof
proof_of found = option_map (λ line. line.proof) found

pub chosen_own : (own rest : Option Line) (proof : Proof) → Some proof ≡ proof_of own → Some proof ≡ proof_of (option_or own rest)
chosen_own None rest proof e = cc
chosen_own (Some line) rest proof e = e

pub chosen_all : (own rest : Option Line) (found : Option Proof) → None ≡ proof_of own → found ≡ proof_of rest → found ≡ proof_of (option_or own rest)
chosen_all None rest found e is = is
chosen_all (Some line) rest found e is = cc

-- the refusal for sizes, and that of the first typing
pub told_by_size : (entry : Entry) (fault : SizeFault) (refused : Refused) → refused ≡ refused_by_size (claim_of entry) fault → size_fault entry.rule ≡ Some fault
    → Some refused ≡ refusal_of (entry_says entry)
unfolding refusal_on
told_by_size entry fault refused is told = ap Some is ∙ sym (ap (refused_for (claim_of entry)) told) ∙ refusal_as_said entry

pub told_by_evidence : (entry : Entry) (found : Option Refused) (list : List (List Width)) → found ≡ refused_among (claim_of entry) 0 list → list ≡ typings entry.rule → size_fault entry.rule ≡ None
    → found ≡ refusal_of (entry_says entry)
unfolding refusal_on
told_by_evidence entry found list is whole none =
    is ∙ ap (refused_among (claim_of entry) 0) whole ∙ sym (ap (refused_for (claim_of entry)) none) ∙ refusal_as_said entry

-- ---- logs

-- a log is checked as it is said
log_as_said : (log : List LogStep) → map checked_step (map log_step_says log) ≡ log
log_as_said [] = refl
log_as_said (step ∷ log) = ap (λ rest. step ∷ rest) (log_as_said log)

-- an opcode without a circuit is the cause, whatever the log holds
pub log_without : (rule : Rule) (widths : List Width) (log : List LogStep) (op : Op) → first_without rule ≡ Some op
    → cause_of_log rule widths (map log_step_says log) ≡ Some (cause.NoCircuit op)
log_without rule widths log op lacks =
    ap (λ found. option_or (option_map cause.NoCircuit found) (option_map cause.Log (fault_of_log rule widths (map log_step_says log)))) lacks

-- and where there is none, the fault of the log over the clauses of the rule
pub log_over : (rule : Rule) (widths : List Width) (log : List LogStep) (clauses : List Clause) → first_without rule ≡ None → clauses ≡ rule_clauses rule widths
    → cause_of_log rule widths (map log_step_says log) ≡ option_map cause.Log (log_fault clauses log)
log_over rule widths log clauses none are =
    ap (λ found. option_or (option_map cause.NoCircuit found) (option_map cause.Log (fault_of_log rule widths (map log_step_says log)))) none
    ∙ ap (λ steps. option_map cause.Log (log_fault (rule_clauses rule widths) steps)) (log_as_said log)
    ∙ ap (λ list. option_map cause.Log (log_fault list log)) (sym are)
