use Rattle.std.proofs.Common.{◌≤◌, ap, arith, length}
use Rattle.std.proofs.lemmas.List.{drop_all}
use Rattle.dwarf_frame.specs.Spelling.{rows_after}
use Rattle.dwarf_frame.proofs.size.rows_len.Goals as goal

pub returns : goal.returns
returns c =
    let past : length c.args.function.now.rows ≤ c.loop-row.row-index = omega (arith, c.loop-row-test.false, ap length c.as_slice-row-items.ensures) in
    let ended = ap (λ rs. length (rows_after c.loop-row.before rs)) (drop_all c.loop-row.row-index c.args.function.now.rows past) in
    omega (arith, ended, c.loop-row.invariant.fits, c.loop-row.invariant.counted)
