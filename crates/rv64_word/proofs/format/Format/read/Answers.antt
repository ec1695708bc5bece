use Rattle.std.proofs.Common.{◌≡◌, ℕ, ◌+◌, ◌-◌, ◌*◌, ◌/◌, ◌%◌, ◌^◌, ◌<◌, Bool, true, false, cond, List, length, drop, get_or, sym, ◌∙◌, arith}
use Rattle.rv64_word.specs.declared.format.EncodingField.TheVariants.{Opcode}
use Rattle.rv64_word.specs.declared.format.Slice.{Slice}
use Rattle.rv64_word.specs.declared.format.Format.{Format}
use Rattle.rv64_word.specs.Format.{slices_of, width_of, same_field}
use Rattle.rv64_word.proofs.Slices.{shown_more, width_more, rest_below}
use Rattle.rv64_word.proofs.format.Format.read.Goals as goal
use Rattle.rv64_word.proofs.format.Format.read.Goals.{then-is_same, else-is_same}

-- the position behind a slice is the number of bits below it
position_is : (format : Format) (items : List Slice) (i : ℕ) (d : Slice) (position : ℕ) → items ≡ slices_of format → i < length items →
    position ≡ width_of (drop i items) → (position - (get_or items i d).width ≡ width_of (drop (i + 1) items)) × (width_of (drop (i + 1) items) < 32)
position_is format items i d position e within is =
    let below : width_of (drop (i + 1) items) < 32 = rw e (rest_below format i) in
    (omega (arith, width_more items i d within), below)

none : Slice
none = record { field = Opcode; low = 0; width = 0 }

pub overflow_shr-word : goal.overflow_shr-word
unfolding none
overflow_shr-word c =
    let items = c.slices-slice-items.result.now in
    let i = c.loop-slice.slice-index in
    let k = position_is c.args.self items i none c.loop-slice.position c.slices-slice-items.ensures c.loop-slice-test.true c.loop-slice.invariant.0 in
    omega (arith, k.0, k.1)

-- a slice of the field adds its part, and any other nothing
taken : (b : Bool) (whole part rest value back new all : ℕ) → whole ≡ cond b part 0 + rest → b ≡ true → value + whole ≡ all → back ≡ part →
    new ≡ value + back → new + rest ≡ all
taken true whole part rest value back new all e hit sum same is = omega arith
taken false whole part rest value back new all e hit sum same is = absurd (cc)

passed : (b : Bool) (whole part rest value new all : ℕ) → whole ≡ cond b part 0 + rest → b ≡ false → value + whole ≡ all → new ≡ value → new + rest ≡ all
passed true whole part rest value new all e hit sum is = absurd (cc)
passed false whole part rest value new all e hit sum is = omega arith

pub loop-slice-preserved : goal.loop-slice-preserved
unfolding none
loop-slice-preserved c =
    let items = c.slices-slice-items.result.now in
    let i = c.loop-slice.slice-index in
    let s : Slice = get_or items i none in
    let rest : List Slice = drop (i + 1) items in
    let part : ℕ = c.args.word / 2 ^ width_of rest % 2 ^ s.width * 2 ^ s.low in
    let k = position_is c.args.self items i none c.loop-slice.position c.slices-slice-items.ensures c.loop-slice-test.true c.loop-slice.invariant.0 in
    let more = shown_more items i none c.args.field c.args.word c.loop-slice-test.true in
    let sum = c.loop-slice.invariant.1 in
    let b : Bool = same_field s.field c.args.field in
    elim c.if-is_same.branch [
      | then-is_same w ↦ (
        k.0,
        taken b _ part _ _ w.back-value.result _ _ more (sym c.is_same.ensures ∙ w.if-is_same.true) sum
            (rw k.0 at w.back-value.ensures.value) w.value-is,
        omega (arith, w.back-value.ensures.below, w.value-is, c.loop-slice.invariant.2),
      )
      | else-is_same w ↦ (
        k.0,
        passed b _ part _ _ _ _ more (sym c.is_same.ensures ∙ w.if-is_same.false) sum w.value-is,
        omega (arith, w.value-is, c.loop-slice.invariant.2),
      )
    ]
