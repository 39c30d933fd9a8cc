-- Texts that a sink takes one after another, of which none is written behind a fault: together they are one.
use Rattle.std.specs.Prelude.{refl, ℕ, Bool, true, false, List, [], ◌++◌, Option, Some}
use Rattle.std.proofs.Common.{◌∙◌, ap, subst, sym, inl, inr, arith, append_assoc, length-append}
use Rattle.std.proofs.lemmas.List.{append-nil}
use Rattle.nir_host.specs.Faults.{Rose}
use Rattle.nir_host.specs.Whole.{TakesFront}
use Rattle.nir_mean.specs.ShaderLines.{TakesLine}
use Rattle.nir_opt.specs.Heard.{IsHeard, Hears}

-- a front of the second text behind the first, whole
front_behind : (taken first second : List ℕ) (now : Option (List ℕ)) → TakesFront (taken ++ first) now second → TakesFront taken now (first ++ second)
front_behind taken first second now front = record {
  front = first ++ front.front;
  rest = front.rest;
  parts = ap (λ l. first ++ l) front.parts ∙ sym (append_assoc first front.front front.rest);
  more = front.more;
  now_taken = front.now_taken ∙ ap Some (append_assoc taken first front.front);
}

-- a front of the first text, and nothing of the second
front_before : (taken first second : List ℕ) (now : Option (List ℕ)) → TakesFront taken now first → TakesFront taken now (first ++ second)
front_before taken first second now front = record {
  front = front.front;
  rest = front.rest ++ second;
  parts = ap (λ l. l ++ second) front.parts ∙ append_assoc front.front front.rest second;
  more = let some = front.more in omega (arith, some, length-append front.rest second);
  now_taken = front.now_taken;
}

-- what was heard of a first text, and then of a second, is what was taken of both
pub heard_both : (before middle now : Option (List ℕ)) (f0 f1 f2 : ℕ) (first second : List ℕ) (heard hears : Bool)
    → IsHeard before middle f0 f1 first heard → Hears middle now f1 f2 second heard hears → TakesLine before now f0 f2 (first ++ second)
heard_both before middle now f0 f1 f2 first second true true one two = λ taken told.
    inl (two.0 (taken ++ first) (one.0 taken told) ∙ ap Some (append_assoc taken first second))
heard_both before middle now f0 f1 f2 first second true false one two = λ taken told.
    inr (subst (λ f. Rose f f2) one.1 two.0, front_behind taken first second now (two.1 (taken ++ first) (one.0 taken told)))
heard_both before middle now f0 f1 f2 first second false hears one two = λ taken told.
    inr (
      subst (λ f. Rose f0 f) (sym two.1) one.0,
      front_before taken first second now (subst (λ n. TakesFront taken n first) (sym two.0) (one.1 taken told)),
    )

-- one text alone
pub heard_one : (before now : Option (List ℕ)) (f0 f1 : ℕ) (text : List ℕ) (hears : Bool) → Hears before now f0 f1 text true hears → TakesLine before now f0 f1 text
heard_one before now f0 f1 text true heard = λ taken told. inl (heard.0 taken told)
heard_one before now f0 f1 text false heard = λ taken told. inr (heard.0, heard.1 taken told)

-- before anything was told
pub nothing_heard : (before : Option (List ℕ)) (faults : ℕ) → IsHeard before before faults faults [] true
nothing_heard before faults = (λ taken told. told ∙ ap Some (sym (append-nil taken)), refl)
