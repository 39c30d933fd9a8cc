-- Worked examples of rule files: what texts say, and where others stop.
use Rattle.std.specs.Prelude.{◌≡◌, refl, ℕ, zero, suc, pos, negsuc, true, false, List, [], ◌∷◌, ◌++◌, Option, Some, None, Result, Ok, Err, codes, map}
use Rattle.nir_lex.specs.Classes.{starts_word, is_in_word, is_blank, is_quote, is_inside_quotes, is_punctuation, is_word}
use Rattle.nir_lex.specs.Numbers.{limited}
use Rattle.nir_lex.specs.Pieces.{number_piece, decimal, hexadecimal, negative, unsigned, quoted, name as name_piece, piece_at}
use Rattle.nir_lex.specs.Reading.{read_tokens}
use Rattle.nir_lex.specs.declared.fault.LexFault.TheVariants.{BadByte}
use Rattle.nir_ops.specs.Lookup.{all_ops, op_named}
use Rattle.nir_ops.specs.Opcodes.{name_of, op_info, row_of}
use Rattle.nir_ops.specs.declared.op.Op.TheVariants.{Iadd, Ineg, UmulHigh}
use Rattle.op_eval.specs.Views.{shape_of}
use Rattle.rule_term.specs.Formed.{may_stand}
use Rattle.rule_term.specs.Terms.{Nil, VarThen, LitThen, AppThen}
use Rattle.rule_spelling.specs.Annotated.{says, size_written, cond_written, name_and_rest, quoted_annotated}
use Rattle.rule_spelling.specs.Files.{Item, ARule, ALine, AWeight, Apply, Calc, Proof, Cases, Derive, Logged, Expected, UnknownOp, Arity, Unbound, TooLarge, BadOption, Excluded, Weight}
use Rattle.rule_spelling.specs.Formula.{Always, Has, Not, Both, Either, formula_of}
use Rattle.rule_spelling.specs.RuleFiles.{read_file}
use Rattle.rule_spelling.specs.Text.{TextFault, Lex, At, read_text}
use Rattle.rule_spelling.specs.Tokens.{op_taken, closed, var_taken, rule_begun, side_begun, rule_ended, formula_taken, number_taken, evidence_begun, weighed_taken, weight_taken}

-- ---- what texts say

abbrev neg_a : Item
neg_a =
    ARule (record {
      number = 0;
      search = AppThen Ineg None false (VarThen 0 false None None Nil) Nil;
      replace = VarThen 0 false None None Nil;
      formula = Always;
      vars = 1;
    })

-- the law of number 7 from right to left with a binding, and a calculation
abbrev two_steps : Proof
two_steps =
    Derive (
    Apply 7 (0 ∷ 1 ∷ []) true (
    record { name = codes "rev"; with = AppThen Iadd None false (VarThen 0 false None None (LitThen (negsuc 0) false Nil)) Nil } ∷ []
    )
    ∷ Calc [] (LitThen (pos 0) false Nil) ∷ []
    )

abbrev one_log_step : Proof
one_log_step = Logged (record { clause = pos 1 ∷ negsuc 1 ∷ []; hints = 3 ∷ [] } ∷ [])

said : map read_text (
    codes "[]"
    ∷ codes "[weight umul_high 4]"
    ∷ codes "[(('ineg', 'a'), 'a'), by * cases]"
    ∷ codes "[(('ineg', 'a'), 'a'), by 3 derive [(7, [0, 1], rev, rev = (iadd, a, -1)), (calc, [], 0)], by * log [([1, -2], [3])],]"
    ∷ []
    )
    ≡ Ok []
    ∷ Ok (AWeight UmulHigh 4 ∷ [])
    ∷ Ok (neg_a ∷ ALine (record { typing = None; proof = Cases }) ∷ [])
    ∷ Ok (neg_a ∷ ALine (record { typing = Some 3; proof = two_steps }) ∷ ALine (record { typing = None; proof = one_log_step }) ∷ [])
    ∷ []
unfolding read_text read_file read_tokens piece_at is_blank starts_word is_in_word is_quote is_inside_quotes quoted is_punctuation number_piece limited
    decimal hexadecimal negative unsigned name_piece op_taken closed var_taken rule_begun side_begun rule_ended formula_taken evidence_begun weighed_taken
    weight_taken number_taken says size_written cond_written name_and_rest quoted_annotated is_word may_stand all_ops op_named formula_of name_of row_of op_info shape_of
said = refl

a_formula : formula_of (codes "!options->x && (options->y || options->z) && options->w")
    ≡ Some (Both (Both (Not (Has (codes "x"))) (Either (Has (codes "y")) (Has (codes "z")))) (Has (codes "w")))
unfolding formula_of starts_word is_in_word
a_formula = refl

-- ---- where others stop

stopped : map read_text (
    codes "[%]"
    ∷ codes "[by * cases]"
    ∷ codes "[(('ineg', 'a') 'a')]"
    ∷ codes "["
    ∷ codes "[(('fneg', 'a'), 'a')]"
    ∷ codes "[(('iadd', 'a'), 'a')]"
    ∷ codes "[(('ineg', 'a'), 'b')]"
    ∷ codes "[(('mov', 'a'), 'a')]"
    ∷ codes "[(('ineg', 'a@bool'), 'a')]"
    ∷ codes "[(('ineg', 'a'), 'a', 'x')]"
    ∷ codes "[weight iadd 61]"
    ∷ codes "[weight iadd 1, weight iadd 2]"
    ∷ []
    )
    ≡ Err (Lex (BadByte 1))
    ∷ Err (At Expected 1)
    ∷ Err (At Expected 16)
    ∷ Err (At Expected 1)
    ∷ Err (At UnknownOp 3)
    ∷ Err (At Arity 14)
    ∷ Err (At Unbound 17)
    ∷ Err (At Excluded 3)
    ∷ Err (At Excluded 11)
    ∷ Err (At BadOption 22)
    ∷ Err (At Weight 13)
    ∷ Err (At Weight 23)
    ∷ []
unfolding read_text read_file read_tokens piece_at is_blank starts_word is_in_word is_quote is_inside_quotes quoted is_punctuation number_piece limited
    decimal hexadecimal negative unsigned name_piece op_taken closed var_taken rule_begun side_begun rule_ended formula_taken evidence_begun weighed_taken
    weight_taken number_taken says size_written cond_written name_and_rest quoted_annotated is_word may_stand all_ops op_named formula_of name_of row_of op_info shape_of
stopped = refl

-- ---- an expression of evidence has at most 16 opcodes, and each is counted alone

abbrev times : ℕ → List ℕ → List ℕ
times zero text = []
times (suc n) text = text ++ times n text

-- two bindings and a calculation, the first with so many opcodes
abbrev with_opcodes : ℕ → List ℕ
with_opcodes n =
    codes "[(('ineg', 'a'), 'a'), by * derive [(1, [], b = " ++ times n (codes "(ineg, ") ++ codes "a" ++ times n (codes ")")
    ++ codes ", c = (ineg, a)), (calc, [], (ineg, a))]]"

abbrev fault_in : Result (List Item) TextFault → Option TextFault
fault_in (Ok items) = None
fault_in (Err fault) = Some fault

counted : map (λ n. fault_in (read_text (with_opcodes n))) (16 ∷ 17 ∷ []) ≡ None ∷ Some (At TooLarge 161) ∷ []
unfolding read_text read_file read_tokens piece_at is_blank starts_word is_in_word is_quote is_inside_quotes quoted is_punctuation number_piece limited
    decimal hexadecimal negative unsigned name_piece op_taken closed var_taken rule_begun side_begun rule_ended formula_taken evidence_begun weighed_taken
    weight_taken number_taken says size_written cond_written name_and_rest quoted_annotated is_word may_stand all_ops op_named formula_of name_of row_of op_info shape_of
counted = refl
