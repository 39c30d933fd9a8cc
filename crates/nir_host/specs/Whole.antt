-- Reading a source to its end, and handing all bytes to a sink: which bytes went over, and what each answer says of them.
use Rattle.std.specs.Prelude.{◌≡◌, ℕ, ◌<◌, List, [], ◌++◌, length, Option, Some, Result, Err, IfOk, OnOk, ◌↔◌}
use Rattle.nir_host.specs.declared.reading.ReadAllFault.{ReadAllFault}
use Rattle.nir_host.specs.declared.reading.ReadAllFault.TheVariants.{TooLong}

-- `taken` came off the front of the bytes `before`, and `rest` is left. On Ok that was all of them, and it was too long exactly where more than `max` were taken
pub record ReadsAll (before : List ℕ) (now : Option (List ℕ)) (max : ℕ) (result : Result (List ℕ) ReadAllFault) : Type 0 where
  pub taken : List ℕ
  pub rest : List ℕ
  pub parts : before ≡ taken ++ rest
  pub now_left : now ≡ Some rest
  pub all : IfOk result (λ bytes. bytes ≡ before)
  pub spent : OnOk result (rest ≡ [])
  pub too_long : (result ≡ Err TooLong) ↔ (max < length taken)

-- a front of the bytes, and not all of them, went to the end of those taken
pub record TakesFront (before : List ℕ) (now : Option (List ℕ)) (bytes : List ℕ) : Type 0 where
  pub front : List ℕ
  pub rest : List ℕ
  pub parts : bytes ≡ front ++ rest
  pub more : 0 < length rest
  pub now_taken : now ≡ Some (before ++ front)
