use Rattle.std.proofs.Common.{map}
use Rattle.std.proofs.lemmas.List.Elements.{All-from_recursion}
use Rattle.std.proofs.Common.{length, ◌≡◌, ◌-◌, All, Some}
use Rattle.std.specs.Prelude.{slice_get}
use Rattle.std.specs.List.Sorted.{IsStrictlyIncreasing}
use Rattle.nir_lex.specs.Reading.{end_token}
use Rattle.nir_lex.specs.Laws.{AreTokensFrom, IsWithin}
use Rattle.nir_lex.proofs.Order.{each_within, rising, last_is_end, if_given}
use Rattle.nir_lex.proofs.lexer.tokens.Goals as goal

pub returns-clause-in_order : goal.returns-clause-in_order
returns-clause-in_order c = if_given c.args.text.now c.all_tokens.result (AreTokensFrom 0 (length c.args.text.now)) (λ tokens h. h) c.all_tokens.ensures

pub returns-clause-within : goal.returns-clause-within
returns-clause-within c =
    let high = length c.args.text.now in
    if_given c.args.text.now c.all_tokens.result (All (IsWithin high)) (λ tokens h. All-from_recursion (IsWithin high) tokens (each_within 0 high tokens h)) c.all_tokens.ensures

pub returns-clause-rising : goal.returns-clause-rising
returns-clause-rising c =
    if_given c.args.text.now c.all_tokens.result (λ tokens. IsStrictlyIncreasing (map (λ t. t.start) tokens)) (λ tokens h. rising 0 (length c.args.text.now) tokens h) c.all_tokens.ensures

pub returns-clause-last : goal.returns-clause-last
returns-clause-last c =
    let high = length c.args.text.now in
    if_given c.args.text.now c.all_tokens.result (λ tokens. slice_get tokens (length tokens - 1) ≡ Some (end_token high)) (λ tokens h. last_is_end 0 high tokens h) c.all_tokens.ensures
