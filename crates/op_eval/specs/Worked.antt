-- The formulas computed on values that were worked out by hand.
use Rattle.std.specs.Prelude.{◌≡◌, [], ◌∷◌, refl}
use Rattle.std.specs.Int.Count.{count_leading_zeros, count_trailing_zeros}
use Rattle.nir_ops.specs.declared.op.Op.TheVariants.{Iabs, Idiv, Udiv, Irem, Imod, Ishl, Uror, IsubSat, Ihadd, Urhadd, Irhadd, UabsIsub, ImulHigh, UmulHigh, UfindMsb, IfindMsb, Bfm, Bfi, Ubfe, Ibfe, ExtractU8, ExtractI8}
use Rattle.op_eval.specs.Meaning.{meaning, op_mean}
use Rattle.op_eval.specs.Word.{signed, residue, floor_div, truncated_rest, floored_rest, rotated, picked, highest_one, lowest_one, field, signed_field, signed_piece}

pub irem_worked : op_mean Irem 8 8 (249 ∷ 3 ∷ []) ≡ 255
unfolding op_mean meaning residue signed floor_div truncated_rest floored_rest rotated picked highest_one lowest_one field signed_field signed_piece count_leading_zeros count_trailing_zeros
irem_worked = refl

pub imod_worked : op_mean Imod 8 8 (249 ∷ 3 ∷ []) ≡ 2
unfolding op_mean meaning residue signed floor_div truncated_rest floored_rest rotated picked highest_one lowest_one field signed_field signed_piece count_leading_zeros count_trailing_zeros
imod_worked = refl

pub iabs_worked : op_mean Iabs 8 8 (128 ∷ []) ≡ 128
unfolding op_mean meaning residue signed floor_div truncated_rest floored_rest rotated picked highest_one lowest_one field signed_field signed_piece count_leading_zeros count_trailing_zeros
iabs_worked = refl

pub imul_high_worked : op_mean ImulHigh 8 8 (128 ∷ 128 ∷ []) ≡ 64
unfolding op_mean meaning residue signed floor_div truncated_rest floored_rest rotated picked highest_one lowest_one field signed_field signed_piece count_leading_zeros count_trailing_zeros
imul_high_worked = refl

pub umul_high_worked : op_mean UmulHigh 8 8 (255 ∷ 255 ∷ []) ≡ 254
unfolding op_mean meaning residue signed floor_div truncated_rest floored_rest rotated picked highest_one lowest_one field signed_field signed_piece count_leading_zeros count_trailing_zeros
umul_high_worked = refl

pub ihadd_worked : op_mean Ihadd 8 8 (255 ∷ 0 ∷ []) ≡ 255
unfolding op_mean meaning residue signed floor_div truncated_rest floored_rest rotated picked highest_one lowest_one field signed_field signed_piece count_leading_zeros count_trailing_zeros
ihadd_worked = refl

pub irhadd_worked : op_mean Irhadd 8 8 (128 ∷ 128 ∷ []) ≡ 128
unfolding op_mean meaning residue signed floor_div truncated_rest floored_rest rotated picked highest_one lowest_one field signed_field signed_piece count_leading_zeros count_trailing_zeros
irhadd_worked = refl

pub urhadd_worked : op_mean Urhadd 8 8 (255 ∷ 255 ∷ []) ≡ 255
unfolding op_mean meaning residue signed floor_div truncated_rest floored_rest rotated picked highest_one lowest_one field signed_field signed_piece count_leading_zeros count_trailing_zeros
urhadd_worked = refl

pub isub_sat_worked : op_mean IsubSat 8 8 (128 ∷ 1 ∷ []) ≡ 128
unfolding op_mean meaning residue signed floor_div truncated_rest floored_rest rotated picked highest_one lowest_one field signed_field signed_piece count_leading_zeros count_trailing_zeros
isub_sat_worked = refl

pub uabs_isub_worked : op_mean UabsIsub 8 8 (128 ∷ 127 ∷ []) ≡ 255
unfolding op_mean meaning residue signed floor_div truncated_rest floored_rest rotated picked highest_one lowest_one field signed_field signed_piece count_leading_zeros count_trailing_zeros
uabs_isub_worked = refl

pub uror_worked : op_mean Uror 8 8 (1 ∷ 1 ∷ []) ≡ 128
unfolding op_mean meaning residue signed floor_div truncated_rest floored_rest rotated picked highest_one lowest_one field signed_field signed_piece count_leading_zeros count_trailing_zeros
uror_worked = refl

pub bfm_worked : op_mean Bfm 32 32 (4 ∷ 8 ∷ []) ≡ 3840
unfolding op_mean meaning residue signed floor_div truncated_rest floored_rest rotated picked highest_one lowest_one field signed_field signed_piece count_leading_zeros count_trailing_zeros
bfm_worked = refl

pub bfi_worked : op_mean Bfi 32 32 (65280 ∷ 18 ∷ 2882400001 ∷ []) ≡ 2882343425
unfolding op_mean meaning residue signed floor_div truncated_rest floored_rest rotated picked highest_one lowest_one field signed_field signed_piece count_leading_zeros count_trailing_zeros
bfi_worked = refl

pub ubfe_worked : op_mean Ubfe 32 32 (4294967295 ∷ 28 ∷ 8 ∷ []) ≡ 15
unfolding op_mean meaning residue signed floor_div truncated_rest floored_rest rotated picked highest_one lowest_one field signed_field signed_piece count_leading_zeros count_trailing_zeros
ubfe_worked = refl

pub ibfe_worked : op_mean Ibfe 32 32 (2147483648 ∷ 31 ∷ 1 ∷ []) ≡ 4294967295
unfolding op_mean meaning residue signed floor_div truncated_rest floored_rest rotated picked highest_one lowest_one field signed_field signed_piece count_leading_zeros count_trailing_zeros
ibfe_worked = refl

pub extract_u8_worked : op_mean ExtractU8 32 32 (305419896 ∷ 1 ∷ []) ≡ 86
unfolding op_mean meaning residue signed floor_div truncated_rest floored_rest rotated picked highest_one lowest_one field signed_field signed_piece count_leading_zeros count_trailing_zeros
extract_u8_worked = refl

pub extract_u8_2_worked : op_mean ExtractU8 32 32 (305419896 ∷ 4 ∷ []) ≡ 0
unfolding op_mean meaning residue signed floor_div truncated_rest floored_rest rotated picked highest_one lowest_one field signed_field signed_piece count_leading_zeros count_trailing_zeros
extract_u8_2_worked = refl

pub extract_i8_worked : op_mean ExtractI8 32 32 (2147483648 ∷ 9 ∷ []) ≡ 4294967295
unfolding op_mean meaning residue signed floor_div truncated_rest floored_rest rotated picked highest_one lowest_one field signed_field signed_piece count_leading_zeros count_trailing_zeros
extract_i8_worked = refl

pub ufind_msb_worked : op_mean UfindMsb 8 32 (0 ∷ []) ≡ 4294967295
unfolding op_mean meaning residue signed floor_div truncated_rest floored_rest rotated picked highest_one lowest_one field signed_field signed_piece count_leading_zeros count_trailing_zeros
ufind_msb_worked = refl

pub ifind_msb_worked : op_mean IfindMsb 32 32 (4294967295 ∷ []) ≡ 4294967295
unfolding op_mean meaning residue signed floor_div truncated_rest floored_rest rotated picked highest_one lowest_one field signed_field signed_piece count_leading_zeros count_trailing_zeros
ifind_msb_worked = refl

pub idiv_worked : op_mean Idiv 8 8 (128 ∷ 255 ∷ []) ≡ 128
unfolding op_mean meaning residue signed floor_div truncated_rest floored_rest rotated picked highest_one lowest_one field signed_field signed_piece count_leading_zeros count_trailing_zeros
idiv_worked = refl

pub udiv_worked : op_mean Udiv 8 8 (7 ∷ 0 ∷ []) ≡ 0
unfolding op_mean meaning residue signed floor_div truncated_rest floored_rest rotated picked highest_one lowest_one field signed_field signed_piece count_leading_zeros count_trailing_zeros
udiv_worked = refl

pub ishl_worked : op_mean Ishl 32 32 (1 ∷ 33 ∷ []) ≡ 2
unfolding op_mean meaning residue signed floor_div truncated_rest floored_rest rotated picked highest_one lowest_one field signed_field signed_piece count_leading_zeros count_trailing_zeros
ishl_worked = refl

pub ishl_2_worked : op_mean Ishl 8 8 (1 ∷ 9 ∷ []) ≡ 2
unfolding op_mean meaning residue signed floor_div truncated_rest floored_rest rotated picked highest_one lowest_one field signed_field signed_piece count_leading_zeros count_trailing_zeros
ishl_2_worked = refl

pub ishl_3_worked : op_mean Ishl 64 64 (1 ∷ 64 ∷ []) ≡ 1
unfolding op_mean meaning residue signed floor_div truncated_rest floored_rest rotated picked highest_one lowest_one field signed_field signed_piece count_leading_zeros count_trailing_zeros
ishl_3_worked = refl
