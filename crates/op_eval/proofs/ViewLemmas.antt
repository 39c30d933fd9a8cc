-- Lists of components: how the lists of a call are made, and which calls gather.
use Rattle.std.proofs.Common.{◌≡◌, ℕ, zero, suc, ◌+◌, ◌<◌, ◌≤◌, ◌^◌, List, [], ◌∷◌, ◌++◌, Some, true, refl, sym, ◌∙◌, ap, subst, arith, length, get_or, take, map, lit≤, replicate}
use Rattle.std.proofs.lemmas.List.{get_or-map}
use Rattle.std.specs.Prelude.{slice_index, slice_get, option_map}
use Rattle.std.specs.List.{range_with_len}
use Rattle.std.proofs.lemmas.List.FromFn.{length-map-range_with_len, map-range_with_len_more}
use Rattle.std.proofs.lemmas.Option.{slice_get-map, slice_get-get_or}
use Rattle.std.proofs.lemmas.Nat.{pow_pos}
use Rattle.nir_ops.specs.declared.op.Op.{Op}
use Rattle.nir_ops.specs.declared.op.Op.TheVariants.{Iadd, Isub, Imul, Ineg, Iabs, Idiv, Udiv, Irem, Imod, Umod, Ishl, Ishr, Ushr, Urol, Uror, Inot, Iand, Ior, Ixor, Ilt, Ige, Ult, Uge, Ieq, Ine, Bcsel, Imin, Imax, Umin, Umax, UaddCarry, UsubBorrow, IaddSat, IsubSat, UaddSat, UsubSat, Uhadd, Ihadd, Urhadd, Irhadd, UabsIsub, UabsUsub, ImulHigh, UmulHigh, Imul2x32_64, Umul2x32_64, BitCount, UfindMsb, FindLsb, IfindMsb, BitfieldReverse, Bfm, Bfi, Ubfe, Ibfe, BitfieldSelect, I2i8, I2i16, I2i32, I2i64, U2u8, U2u16, U2u32, U2u64, B2i8, B2i16, B2i32, B2i64, Pack64_2x32Split, Unpack64_2x32SplitX, Unpack64_2x32SplitY, Pack32_2x16Split, Unpack32_2x16SplitX, Unpack32_2x16SplitY, ExtractU8, ExtractU16, ExtractI8, ExtractI16, Mov, Vec2, Vec3, Vec4, BallIequal2, BallIequal3, BallIequal4, BanyInequal2, BanyInequal3, BanyInequal4}
use Rattle.nir_ops.specs.declared.width.Width.{Width}
use Rattle.nir_ops.specs.Width.{width_bits}
use Rattle.nir_ops.specs.Opcodes.{op_info, row_of}
use Rattle.op_eval.specs.declared.shape.Shape.TheVariants.{EachPlace, Gathers}
use Rattle.op_eval.specs.declared.view.View.{View}
use Rattle.op_eval.specs.Calls.{Fits, bits_of, per_component, source_widths, unsized_width}
use Rattle.op_eval.specs.Views.{shape_of, column, views_comps, views_widths}

-- what works place by place is per component
pub each_is : (op : Op) → EachPlace ≡ shape_of op → per_component op ≡ true
unfolding shape_of per_component op_info row_of
each_is Iadd h = refl
each_is Isub h = refl
each_is Imul h = refl
each_is Ineg h = refl
each_is Iabs h = refl
each_is Idiv h = refl
each_is Udiv h = refl
each_is Irem h = refl
each_is Imod h = refl
each_is Umod h = refl
each_is Ishl h = refl
each_is Ishr h = refl
each_is Ushr h = refl
each_is Urol h = refl
each_is Uror h = refl
each_is Inot h = refl
each_is Iand h = refl
each_is Ior h = refl
each_is Ixor h = refl
each_is Ilt h = refl
each_is Ige h = refl
each_is Ult h = refl
each_is Uge h = refl
each_is Ieq h = refl
each_is Ine h = refl
each_is Bcsel h = refl
each_is Imin h = refl
each_is Imax h = refl
each_is Umin h = refl
each_is Umax h = refl
each_is UaddCarry h = refl
each_is UsubBorrow h = refl
each_is IaddSat h = refl
each_is IsubSat h = refl
each_is UaddSat h = refl
each_is UsubSat h = refl
each_is Uhadd h = refl
each_is Ihadd h = refl
each_is Urhadd h = refl
each_is Irhadd h = refl
each_is UabsIsub h = refl
each_is UabsUsub h = refl
each_is ImulHigh h = refl
each_is UmulHigh h = refl
each_is Imul2x32_64 h = refl
each_is Umul2x32_64 h = refl
each_is BitCount h = refl
each_is UfindMsb h = refl
each_is FindLsb h = refl
each_is IfindMsb h = refl
each_is BitfieldReverse h = refl
each_is Bfm h = refl
each_is Bfi h = refl
each_is Ubfe h = refl
each_is Ibfe h = refl
each_is BitfieldSelect h = refl
each_is I2i8 h = refl
each_is I2i16 h = refl
each_is I2i32 h = refl
each_is I2i64 h = refl
each_is U2u8 h = refl
each_is U2u16 h = refl
each_is U2u32 h = refl
each_is U2u64 h = refl
each_is B2i8 h = refl
each_is B2i16 h = refl
each_is B2i32 h = refl
each_is B2i64 h = refl
each_is Pack64_2x32Split h = refl
each_is Unpack64_2x32SplitX h = refl
each_is Unpack64_2x32SplitY h = refl
each_is Pack32_2x16Split h = refl
each_is Unpack32_2x16SplitX h = refl
each_is Unpack32_2x16SplitY h = refl
each_is ExtractU8 h = refl
each_is ExtractU16 h = refl
each_is ExtractI8 h = refl
each_is ExtractI16 h = refl
each_is Mov h = refl
each_is Vec2 h = cc
each_is Vec3 h = cc
each_is Vec4 h = cc
each_is BallIequal2 h = cc
each_is BallIequal3 h = cc
each_is BallIequal4 h = cc
each_is BanyInequal2 h = cc
each_is BanyInequal3 h = cc
each_is BanyInequal4 h = cc

-- the sources of what gathers are few, and of the bit size of the result
pub gathers_fit : (op : Op) (dst : Width) (widths : List Width) → Gathers ≡ shape_of op → Fits op dst widths → (length widths ≤ 16) × (widths ≡ replicate (length widths) dst)
unfolding shape_of source_widths unsized_width op_info row_of
gathers_fit Iadd dst widths h f = cc
gathers_fit Isub dst widths h f = cc
gathers_fit Imul dst widths h f = cc
gathers_fit Ineg dst widths h f = cc
gathers_fit Iabs dst widths h f = cc
gathers_fit Idiv dst widths h f = cc
gathers_fit Udiv dst widths h f = cc
gathers_fit Irem dst widths h f = cc
gathers_fit Imod dst widths h f = cc
gathers_fit Umod dst widths h f = cc
gathers_fit Ishl dst widths h f = cc
gathers_fit Ishr dst widths h f = cc
gathers_fit Ushr dst widths h f = cc
gathers_fit Urol dst widths h f = cc
gathers_fit Uror dst widths h f = cc
gathers_fit Inot dst widths h f = cc
gathers_fit Iand dst widths h f = cc
gathers_fit Ior dst widths h f = cc
gathers_fit Ixor dst widths h f = cc
gathers_fit Ilt dst widths h f = cc
gathers_fit Ige dst widths h f = cc
gathers_fit Ult dst widths h f = cc
gathers_fit Uge dst widths h f = cc
gathers_fit Ieq dst widths h f = cc
gathers_fit Ine dst widths h f = cc
gathers_fit Bcsel dst widths h f = cc
gathers_fit Imin dst widths h f = cc
gathers_fit Imax dst widths h f = cc
gathers_fit Umin dst widths h f = cc
gathers_fit Umax dst widths h f = cc
gathers_fit UaddCarry dst widths h f = cc
gathers_fit UsubBorrow dst widths h f = cc
gathers_fit IaddSat dst widths h f = cc
gathers_fit IsubSat dst widths h f = cc
gathers_fit UaddSat dst widths h f = cc
gathers_fit UsubSat dst widths h f = cc
gathers_fit Uhadd dst widths h f = cc
gathers_fit Ihadd dst widths h f = cc
gathers_fit Urhadd dst widths h f = cc
gathers_fit Irhadd dst widths h f = cc
gathers_fit UabsIsub dst widths h f = cc
gathers_fit UabsUsub dst widths h f = cc
gathers_fit ImulHigh dst widths h f = cc
gathers_fit UmulHigh dst widths h f = cc
gathers_fit Imul2x32_64 dst widths h f = cc
gathers_fit Umul2x32_64 dst widths h f = cc
gathers_fit BitCount dst widths h f = cc
gathers_fit UfindMsb dst widths h f = cc
gathers_fit FindLsb dst widths h f = cc
gathers_fit IfindMsb dst widths h f = cc
gathers_fit BitfieldReverse dst widths h f = cc
gathers_fit Bfm dst widths h f = cc
gathers_fit Bfi dst widths h f = cc
gathers_fit Ubfe dst widths h f = cc
gathers_fit Ibfe dst widths h f = cc
gathers_fit BitfieldSelect dst widths h f = cc
gathers_fit I2i8 dst widths h f = cc
gathers_fit I2i16 dst widths h f = cc
gathers_fit I2i32 dst widths h f = cc
gathers_fit I2i64 dst widths h f = cc
gathers_fit U2u8 dst widths h f = cc
gathers_fit U2u16 dst widths h f = cc
gathers_fit U2u32 dst widths h f = cc
gathers_fit U2u64 dst widths h f = cc
gathers_fit B2i8 dst widths h f = cc
gathers_fit B2i16 dst widths h f = cc
gathers_fit B2i32 dst widths h f = cc
gathers_fit B2i64 dst widths h f = cc
gathers_fit Pack64_2x32Split dst widths h f = cc
gathers_fit Unpack64_2x32SplitX dst widths h f = cc
gathers_fit Unpack64_2x32SplitY dst widths h f = cc
gathers_fit Pack32_2x16Split dst widths h f = cc
gathers_fit Unpack32_2x16SplitX dst widths h f = cc
gathers_fit Unpack32_2x16SplitY dst widths h f = cc
gathers_fit ExtractU8 dst widths h f = cc
gathers_fit ExtractU16 dst widths h f = cc
gathers_fit ExtractI8 dst widths h f = cc
gathers_fit ExtractI16 dst widths h f = cc
gathers_fit Mov dst widths h f = cc
gathers_fit Vec2 dst widths h f = subst (λ ws. (length ws ≤ 16) × (ws ≡ replicate (length ws) dst)) f.sources (lit≤ tt, refl)
gathers_fit Vec3 dst widths h f = subst (λ ws. (length ws ≤ 16) × (ws ≡ replicate (length ws) dst)) f.sources (lit≤ tt, refl)
gathers_fit Vec4 dst widths h f = subst (λ ws. (length ws ≤ 16) × (ws ≡ replicate (length ws) dst)) f.sources (lit≤ tt, refl)
gathers_fit BallIequal2 dst widths h f = cc
gathers_fit BallIequal3 dst widths h f = cc
gathers_fit BallIequal4 dst widths h f = cc
gathers_fit BanyInequal2 dst widths h f = cc
gathers_fit BanyInequal3 dst widths h f = cc
gathers_fit BanyInequal4 dst widths h f = cc

-- the components of views at one place
pub column_views : (at : ℕ) (views : List View) → column at (views_comps views) ≡ map (λ view. slice_index view.comps at) views
column_views at [] = refl
column_views at (view ∷ views) = ap (λ rest. slice_index view.comps at ∷ rest) (column_views at views)

pub read_column : (at source : ℕ) (views : List View) (view : View) → source < length views →
    slice_index (get_or views source view).comps at ≡ slice_index (column at (views_comps views)) source
read_column at source views view h =
    sym (get_or-map (λ v. slice_index v.comps at) views source view 0 h) ∙ ap (λ list. slice_index list source) (sym (column_views at views))

pub read_small : (at source : ℕ) (views : List View) (view : View) → source < length views →
    slice_index (get_or views source view).comps at < 2 ^ bits_of (slice_get (views_widths views) source)
read_small at source views view h =
    let size : slice_get (views_widths views) source ≡ Some (get_or views source view).width =
    slice_get-map (λ v. v.width) views source ∙ ap (option_map (λ v. v.width)) (slice_get-get_or views source view h) in
    subst (λ o. slice_index (get_or views source view).comps at < 2 ^ bits_of o) (sym size) ((get_or views source view).fits at)

-- the components of a list that is made by places are below a bound
pub made_small : (f : ℕ → ℕ) (bound : ℕ) → ((at : ℕ) → f at < bound) → 0 < bound → (from count at : ℕ) → slice_index (map f (range_with_len from count)) at < bound
made_small f bound h positive from zero at = positive
made_small f bound h positive from (suc count) zero = h from
made_small f bound h positive from (suc count) (suc at) = made_small f bound h positive (from + 1) count at

pub gathered_small : (dst : Width) (views : List View) → views_widths views ≡ replicate (length views) dst → (at : ℕ) → slice_index (map (λ view. slice_index view.comps 0) views) at < 2 ^ width_bits dst
gathered_small dst [] h at = pow_pos (width_bits dst)
gathered_small dst (view ∷ views) h zero = let same : view.width ≡ dst = cc in subst (λ width. slice_index view.comps 0 < 2 ^ width_bits width) same (view.fits 0)
gathered_small dst (view ∷ views) h (suc at) = let rest : views_widths views ≡ replicate (length views) dst = cc in gathered_small dst views rest at

pub made_count : (f : ℕ → ℕ) (list : List ℕ) (count : ℕ) → list ≡ map f (range_with_len 0 count) → length list ≡ count
made_count f list count e = ap length e ∙ length-map-range_with_len f 0 count

pub made_more : (f : ℕ → ℕ) (list more : List ℕ) (x count : ℕ) → list ≡ map f (range_with_len 0 count) → x ≡ f count → more ≡ list ++ x ∷ [] → more ≡ map f (range_with_len 0 (count + 1))
made_more f list more x count e g h =
    h ∙ ap (λ l. l ++ x ∷ []) e ∙ ap (λ y. map f (range_with_len 0 count) ++ y ∷ []) g ∙ sym (map-range_with_len_more f 0 count count (omega arith))
