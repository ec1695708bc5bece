use Rattle.std.proofs.Common.{refl, ap, sym, length, arith, ◌∙◌}
use Rattle.std.proofs.lemmas.Result.{err_from_is_err_and}
use Rattle.dwarf_loclists.specs.Fault.{UnitLength, Version, AddressSize, SegmentSelectorSize, OffsetEntryCount}
use Rattle.dwarf_loclists.proofs.ReaderLemmas.{at_start, length_field, wrong_length}
use Rattle.dwarf_loclists.proofs.header.read_header.Goals as goal
use Rattle.dwarf_loclists.proofs.header.read_header.Goals.{then-bytes-lt-LENGTH-via-then-bytes-lt-LENGTH}
use Rattle.dwarf_loclists.proofs.header.read_header.Goals.{then-bytes-lt-LENGTH-via-else-bytes-lt-LENGTH+then-bytes-ge-LENGTH_LIMIT}

pub returns-then-bytes-lt-LENGTH-clause-err : goal.returns-then-bytes-lt-LENGTH-clause-err
returns-then-bytes-lt-LENGTH-clause-err c =
    wrong_length c.args.bytes.now
    (λ n small is.
    elim c.then-bytes-lt-LENGTH.branch [
      | then-bytes-lt-LENGTH-via-then-bytes-lt-LENGTH w ↦ omega (arith, w.if-bytes-lt-LENGTH.true)
      | then-bytes-lt-LENGTH-via-else-bytes-lt-LENGTH+then-bytes-ge-LENGTH_LIMIT w ↦ omega (arith, w.if-bytes-ge-LENGTH_LIMIT.true)
    ])

pub returns-in_err-rest-clause-err : goal.returns-in_err-rest-clause-err
returns-in_err-rest-clause-err c =
    let s0 = at_start c.args.bytes.now in
    let may = length_field c.args.bytes.now c.if-bytes-lt-LENGTH.false c.if-bytes-ge-LENGTH_LIMIT.false c.to_le_bytes.result c.to_le_bytes.ensures in
    let p = err_from_is_err_and c.from_residual.result c.from_residual.ensures.1 in
    rw (p.1, p.2) (c.in_err-rest.ensures.err UnitLength s0 (λ done e. cc) may.1)

pub expect-requires-2 : goal.expect-requires-2
expect-requires-2 c =
    let s0 = at_start c.args.bytes.now in
    let may = length_field c.args.bytes.now c.if-bytes-lt-LENGTH.false c.if-bytes-ge-LENGTH_LIMIT.false c.to_le_bytes.result c.to_le_bytes.ensures in
    let s1 = c.in_ok-rest.ensures.ok UnitLength Version s0 may.0 (omega (arith, ap length c.to_le_bytes.ensures)) in
    omega (arith, s1.within)

pub returns-in_err-rest-2-clause-err : goal.returns-in_err-rest-2-clause-err
returns-in_err-rest-2-clause-err c =
    let s0 = at_start c.args.bytes.now in
    let may = length_field c.args.bytes.now c.if-bytes-lt-LENGTH.false c.if-bytes-ge-LENGTH_LIMIT.false c.to_le_bytes.result c.to_le_bytes.ensures in
    let s1 = c.in_ok-rest.ensures.ok UnitLength Version s0 may.0 (omega (arith, ap length c.to_le_bytes.ensures)) in
    let p = err_from_is_err_and c.from_residual-in_err-rest-2.result c.from_residual-in_err-rest-2.ensures.1 in
    rw (p.1, p.2) (c.in_err-rest-2.ensures.err Version s1 (λ done e. cc) (λ xs next m. m.0 ∙ sym c.to_le_bytes-2.ensures))

pub expect-requires-3 : goal.expect-requires-3
expect-requires-3 c =
    let s0 = at_start c.args.bytes.now in
    let may = length_field c.args.bytes.now c.if-bytes-lt-LENGTH.false c.if-bytes-ge-LENGTH_LIMIT.false c.to_le_bytes.result c.to_le_bytes.ensures in
    let s1 = c.in_ok-rest.ensures.ok UnitLength Version s0 may.0 (omega (arith, ap length c.to_le_bytes.ensures)) in
    let s2 = c.in_ok-rest-2.ensures.ok Version AddressSize s1 (c.to_le_bytes-2.ensures, refl) (omega (arith, ap length c.to_le_bytes-2.ensures)) in
    omega (arith, s2.within)

pub returns-in_err-rest-3-clause-err : goal.returns-in_err-rest-3-clause-err
returns-in_err-rest-3-clause-err c =
    let s0 = at_start c.args.bytes.now in
    let may = length_field c.args.bytes.now c.if-bytes-lt-LENGTH.false c.if-bytes-ge-LENGTH_LIMIT.false c.to_le_bytes.result c.to_le_bytes.ensures in
    let s1 = c.in_ok-rest.ensures.ok UnitLength Version s0 may.0 (omega (arith, ap length c.to_le_bytes.ensures)) in
    let s2 = c.in_ok-rest-2.ensures.ok Version AddressSize s1 (c.to_le_bytes-2.ensures, refl) (omega (arith, ap length c.to_le_bytes-2.ensures)) in
    let p = err_from_is_err_and c.from_residual-in_err-rest-3.result c.from_residual-in_err-rest-3.ensures.1 in
    rw (p.1, p.2) (c.in_err-rest-3.ensures.err AddressSize s2 (λ done e. cc) (λ xs next m. m.0))

pub expect-requires-4 : goal.expect-requires-4
expect-requires-4 c =
    let s0 = at_start c.args.bytes.now in
    let may = length_field c.args.bytes.now c.if-bytes-lt-LENGTH.false c.if-bytes-ge-LENGTH_LIMIT.false c.to_le_bytes.result c.to_le_bytes.ensures in
    let s1 = c.in_ok-rest.ensures.ok UnitLength Version s0 may.0 (omega (arith, ap length c.to_le_bytes.ensures)) in
    let s2 = c.in_ok-rest-2.ensures.ok Version AddressSize s1 (c.to_le_bytes-2.ensures, refl) (omega (arith, ap length c.to_le_bytes-2.ensures)) in
    let s3 = c.in_ok-rest-3.ensures.ok AddressSize SegmentSelectorSize s2 (refl, refl) refl in
    omega (arith, s3.within)

pub returns-in_err-rest-4-clause-err : goal.returns-in_err-rest-4-clause-err
returns-in_err-rest-4-clause-err c =
    let s0 = at_start c.args.bytes.now in
    let may = length_field c.args.bytes.now c.if-bytes-lt-LENGTH.false c.if-bytes-ge-LENGTH_LIMIT.false c.to_le_bytes.result c.to_le_bytes.ensures in
    let s1 = c.in_ok-rest.ensures.ok UnitLength Version s0 may.0 (omega (arith, ap length c.to_le_bytes.ensures)) in
    let s2 = c.in_ok-rest-2.ensures.ok Version AddressSize s1 (c.to_le_bytes-2.ensures, refl) (omega (arith, ap length c.to_le_bytes-2.ensures)) in
    let s3 = c.in_ok-rest-3.ensures.ok AddressSize SegmentSelectorSize s2 (refl, refl) refl in
    let p = err_from_is_err_and c.from_residual-in_err-rest-4.result c.from_residual-in_err-rest-4.ensures.1 in
    rw (p.1, p.2) (c.in_err-rest-4.ensures.err SegmentSelectorSize s3 (λ done e. cc) (λ xs next m. m.0))

pub read_count-requires : goal.read_count-requires
read_count-requires c =
    let s0 = at_start c.args.bytes.now in
    let may = length_field c.args.bytes.now c.if-bytes-lt-LENGTH.false c.if-bytes-ge-LENGTH_LIMIT.false c.to_le_bytes.result c.to_le_bytes.ensures in
    let s1 = c.in_ok-rest.ensures.ok UnitLength Version s0 may.0 (omega (arith, ap length c.to_le_bytes.ensures)) in
    let s2 = c.in_ok-rest-2.ensures.ok Version AddressSize s1 (c.to_le_bytes-2.ensures, refl) (omega (arith, ap length c.to_le_bytes-2.ensures)) in
    let s3 = c.in_ok-rest-3.ensures.ok AddressSize SegmentSelectorSize s2 (refl, refl) refl in
    let s4 = c.in_ok-rest-4.ensures.ok SegmentSelectorSize OffsetEntryCount s3 (refl, refl) refl in
    s4
