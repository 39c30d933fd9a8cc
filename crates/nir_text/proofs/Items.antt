-- One turn of each way in which items follow one another.
use Rattle.std.proofs.Common.{◌≡◌, ℕ, suc, ◌+◌, ◌-◌, ◌<◌, ◌≤◌, [], ◌∷◌, Result, Ok, Err, true, false, refl, sym, ap, ◌∙◌, arith}
use Rattle.nir_ir.specs.declared.instr.Instr.{Instr}
use Rattle.nir_ir.specs.declared.node.Phi.{Phi}
use Rattle.nir_text.specs.declared.fault.TextFault.{TextFault}
use Rattle.nir_text.specs.declared.fault.TextFault.TheVariants.{Expected}
use Rattle.nir_text.specs.Signs.{is_mark}
use Rattle.nir_text.specs.Naming.{Naming}
use Rattle.nir_text.specs.Reading.{Point, here, next, mark_at, commas_at, separated_at, more_at}
use Rattle.nir_text.specs.Instrs.{instr_at, instrs_at, begins_instr, phi_at, phis_at, begins_phi}
use Rattle.nir_text.proofs.Front.{with_front, one_and}

module _ {A : Type 0} (read : ℕ → Point → Result (A × Point) TextFault) where
  pub commas-step : (k i n : ℕ) (p comma : Point) (x : A × Point) → i < n → mark_at 44 p ≡ Ok comma → read k comma ≡ Ok x → commas_at read k (n - i) p ≡ with_front (x.0 ∷ []) (commas_at read (k + 1) (n - (i + 1)) x.1)
  unfolding commas_at
  commas-step k i n p comma x lt e f =
      let m : n - i ≡ suc (n - (i + 1)) = omega arith in
      rw (m, e, f) (one_and x.0 (commas_at read (k + 1) (n - (i + 1)) x.1))

  pub commas-no_mark : (k i n : ℕ) (p : Point) (fault : TextFault) → i < n → mark_at 44 p ≡ Err fault → commas_at read k (n - i) p ≡ Err fault
  unfolding commas_at
  commas-no_mark k i n p fault lt e =
      let m : n - i ≡ suc (n - (i + 1)) = omega arith in
      rw (m, e) refl

  pub commas-no_item : (k i n : ℕ) (p comma : Point) (fault : TextFault) → i < n → mark_at 44 p ≡ Ok comma → read k comma ≡ Err fault → commas_at read k (n - i) p ≡ Err fault
  unfolding commas_at
  commas-no_item k i n p comma fault lt e f =
      let m : n - i ≡ suc (n - (i + 1)) = omega arith in
      rw (m, e, f) refl

  pub commas-done : (k i n : ℕ) (p : Point) → n ≤ i → commas_at read k (n - i) p ≡ Ok ([], p)
  unfolding commas_at
  commas-done k i n p le =
      let m : n - i ≡ 0 = omega arith in
      rw m refl

  pub separated-none : (n : ℕ) (p : Point) → n ≡ 0 → separated_at read n p ≡ Ok ([], p)
  unfolding separated_at
  separated-none n p e = rw e refl

  pub separated-first : (n : ℕ) (p : Point) (x : A × Point) → 0 < n → read 0 p ≡ Ok x → with_front (x.0 ∷ []) (commas_at read 1 (n - 1) x.1) ≡ separated_at read n p
  unfolding separated_at
  separated-first n p x lt e =
      let m : n ≡ suc (n - 1) = omega arith in
      let one : separated_at read (suc (n - 1)) p ≡ with_front (x.0 ∷ []) (commas_at read 1 (n - 1) x.1) = rw e (one_and x.0 (commas_at read 1 (n - 1) x.1)) in
      sym one ∙ ap (λ m. separated_at read m p) (sym m)

  pub separated-no_first : (n : ℕ) (p : Point) (fault : TextFault) → 0 < n → read 0 p ≡ Err fault → separated_at read n p ≡ Err fault
  unfolding separated_at
  separated-no_first n p fault lt e =
      let m : n ≡ suc (n - 1) = omega arith in
      let one : separated_at read (suc (n - 1)) p ≡ Err fault = rw e refl in
      ap (λ m. separated_at read m p) m ∙ one

  pub more-step : (k i n : ℕ) (p : Point) (x : A × Point) → i < n → is_mark 44 (here p) ≡ true → read k (next p) ≡ Ok x → more_at read k (n - i) p ≡ with_front (x.0 ∷ []) (more_at read (k + 1) (n - (i + 1)) x.1)
  unfolding more_at
  more-step k i n p x lt e f =
      let m : n - i ≡ suc (n - (i + 1)) = omega arith in
      rw (m, e, f) (one_and x.0 (more_at read (k + 1) (n - (i + 1)) x.1))

  pub more-no_item : (k i n : ℕ) (p : Point) (fault : TextFault) → i < n → is_mark 44 (here p) ≡ true → read k (next p) ≡ Err fault → more_at read k (n - i) p ≡ Err fault
  unfolding more_at
  more-no_item k i n p fault lt e f =
      let m : n - i ≡ suc (n - (i + 1)) = omega arith in
      rw (m, e, f) refl

  pub more-no_mark : (k i n : ℕ) (p : Point) (fault : TextFault) → i < n → is_mark 44 (here p) ≡ false → mark_at 93 p ≡ Err fault → more_at read k (n - i) p ≡ Err fault
  unfolding more_at
  more-no_mark k i n p fault lt e f =
      let m : n - i ≡ suc (n - (i + 1)) = omega arith in
      rw (m, e, f) refl

  pub more-end : (k i n : ℕ) (p : Point) → n ≤ i → more_at read k (n - i) p ≡ Err (Expected (here p).place)
  unfolding more_at
  more-end k i n p le =
      let m : n - i ≡ 0 = omega arith in
      rw m refl

  pub more-done : (k i n : ℕ) (p close : Point) → i < n → is_mark 44 (here p) ≡ false → mark_at 93 p ≡ Ok close → more_at read k (n - i) p ≡ Ok ([], close)
  unfolding more_at
  more-done k i n p close lt e f =
      let m : n - i ≡ suc (n - (i + 1)) = omega arith in
      rw (m, e, f) refl

module _ (names : Naming) where
  pub instrs-step : (i n : ℕ) (p : Point) (x : Instr × Point) → i < n → begins_instr (here p) ≡ true → instr_at names p ≡ Ok x → instrs_at names (n - i) p ≡ with_front (x.0 ∷ []) (instrs_at names (n - (i + 1)) x.1)
  unfolding instrs_at
  instrs-step i n p x lt e f =
      let m : n - i ≡ suc (n - (i + 1)) = omega arith in
      rw (m, e, f) (one_and x.0 (instrs_at names (n - (i + 1)) x.1))

  pub instrs-no_instr : (i n : ℕ) (p : Point) (fault : TextFault) → i < n → begins_instr (here p) ≡ true → instr_at names p ≡ Err fault → instrs_at names (n - i) p ≡ Err fault
  unfolding instrs_at
  instrs-no_instr i n p fault lt e f =
      let m : n - i ≡ suc (n - (i + 1)) = omega arith in
      rw (m, e, f) refl

  pub instrs-done : (i n : ℕ) (p : Point) → i < n → begins_instr (here p) ≡ false → instrs_at names (n - i) p ≡ Ok ([], p)
  unfolding instrs_at
  instrs-done i n p lt e =
      let m : n - i ≡ suc (n - (i + 1)) = omega arith in
      rw (m, e) refl

  pub instrs-end : (i n : ℕ) (p : Point) → n ≤ i → instrs_at names (n - i) p ≡ Err (Expected (here p).place)
  unfolding instrs_at
  instrs-end i n p le =
      let m : n - i ≡ 0 = omega arith in
      rw m refl

  pub phis-end : (i n : ℕ) (p : Point) → n ≤ i → phis_at names (n - i) p ≡ Err (Expected (here p).place)
  unfolding phis_at
  phis-end i n p le =
      let m : n - i ≡ 0 = omega arith in
      rw m refl

  pub phis-step : (i n : ℕ) (p : Point) (x : Phi × Point) → i < n → begins_phi p.rest ≡ true → phi_at names p ≡ Ok x → phis_at names (n - i) p ≡ with_front (x.0 ∷ []) (phis_at names (n - (i + 1)) x.1)
  unfolding phis_at
  phis-step i n p x lt e f =
      let m : n - i ≡ suc (n - (i + 1)) = omega arith in
      rw (m, e, f) (one_and x.0 (phis_at names (n - (i + 1)) x.1))

  pub phis-no_phi : (i n : ℕ) (p : Point) (fault : TextFault) → i < n → begins_phi p.rest ≡ true → phi_at names p ≡ Err fault → phis_at names (n - i) p ≡ Err fault
  unfolding phis_at
  phis-no_phi i n p fault lt e f =
      let m : n - i ≡ suc (n - (i + 1)) = omega arith in
      rw (m, e, f) refl

  pub phis-done : (i n : ℕ) (p : Point) → i < n → begins_phi p.rest ≡ false → phis_at names (n - i) p ≡ Ok ([], p)
  unfolding phis_at
  phis-done i n p lt e =
      let m : n - i ≡ suc (n - (i + 1)) = omega arith in
      rw (m, e) refl
