use Rattle.std.specs.Int.{w64}
use Rattle.std.proofs.Common.{◌≡◌, sym, ap, ◌∙◌, arith, Some, None, to_z, of_z}
use Rattle.dwarf_base.specs.Leb.{signed_value}
use Rattle.dwarf_base.proofs.FrontLemmas.{signed_byte, signed_bytes, byte_below, byte_above, septet_more}
use Rattle.std.proofs.lemmas.Int.{ints, to_z-of_z}
use Rattle.dwarf_base.proofs.front.+signed_front.Goals as goal
use Rattle.dwarf_base.proofs.front.+signed_front.Goals.{else-above-ge-LEAST-via-then-above-ge-LEAST+else-above-lt-LIMIT}
use Rattle.dwarf_base.proofs.front.+signed_front.Goals.{else-above-ge-LEAST-via-else-above-ge-LEAST}

pub returns-then-byte-lt64 : goal.returns-then-byte-lt64
returns-then-byte-lt64 t c = λ front rest is e fits.
    let v = signed_byte c.args.bytes.now c.in_ok-byte.byte.now _ front rest c.in_ok-byte.ensures.cases.0 (omega (arith, c.if-byte-lt64.true)) is e in
    ap Some (byte_below c.in_ok-byte.byte.now c.if-byte-lt64.true ∙ sym v)

pub returns-then-byte-lt128 : goal.returns-then-byte-lt128
returns-then-byte-lt128 t c = λ front rest is e fits.
    let v = signed_byte c.args.bytes.now c.in_ok-byte.byte.now _ front rest c.in_ok-byte.ensures.cases.0 c.if-byte-lt128.true is e in
    ap Some (byte_above c.in_ok-byte.byte.now c.if-byte-lt64.false c.if-byte-lt128.true ∙ sym v)

pub returns-in_err-above : goal.returns-in_err-above
returns-in_err-above t c = λ front rest is e fits.
    let m = signed_bytes c.args.bytes.now _ _ front rest c.in_ok-byte.ensures.cases.0 c.if-byte-lt128.false is e fits in
    let none : None ≡ Some (signed_value m.others) = c.in_err-above.ensures m.others rest m.leb m.tail_is m.small in
    absurd cc

pub returns-then-above-lt-LIMIT : goal.returns-then-above-lt-LIMIT
returns-then-above-lt-LIMIT t c = λ front rest is e fits.
    let m = signed_bytes c.args.bytes.now _ _ front rest c.in_ok-byte.ensures.cases.0 c.if-byte-lt128.false is e fits in
    let some : Some c.in_ok-above.above ≡ Some (signed_value m.others) = c.in_ok-above.ensures m.others rest m.leb m.tail_is m.small in
    let above : c.in_ok-above.above ≡ signed_value m.others = cc in
    rw above (ap Some (septet_more c.in_ok-byte.byte.now _ _ fits m.small m.value))

pub returns-else-above-ge-LEAST : goal.returns-else-above-ge-LEAST
returns-else-above-ge-LEAST t c = λ front rest is e fits.
    let m = signed_bytes c.args.bytes.now _ _ front rest c.in_ok-byte.ensures.cases.0 c.if-byte-lt128.false is e fits in
    let some : Some c.in_ok-above.above ≡ Some (signed_value m.others) = c.in_ok-above.ensures m.others rest m.leb m.tail_is m.small in
    let above : c.in_ok-above.above ≡ signed_value m.others = cc in
    let same : to_z w64 (of_z w64 c.in_ok-above.above) ≡ signed_value m.others = rw above (to_z-of_z w64 (signed_value m.others) m.small) in
    elim c.else-above-ge-LEAST.branch [
      | else-above-ge-LEAST-via-then-above-ge-LEAST+else-above-lt-LIMIT w ↦
          let high = rw same at w.if-above-lt-LIMIT.false in absurd (omega (arith, ints, high, m.high))
      | else-above-ge-LEAST-via-else-above-ge-LEAST w ↦
          let low = rw same at w.if-above-ge-LEAST.false in absurd (omega (arith, ints, low, m.low))
    ]
