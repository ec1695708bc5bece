use Rattle.std.proofs.Common.{◌∙◌, ◌<◌, length, length-set, arith}
use Rattle.dwarf_frame.proofs.LastRow.{rules_more}
use Rattle.dwarf_frame.proofs.rows.unwinding.Goals as goal

pub loop-register-preserved : goal.loop-register-preserved
loop-register-preserved c =
    let inside : c.loop-register.register < length c.loop-register.registers = omega (arith, c.loop-register-test.true, c.loop-register.invariant.count) in
    let among : c.loop-register.register < length c.args.row.now.saved = omega (arith, c.loop-register-test.true, c.type_inv.row) in
    record {
      count = length-set _ _ _ ∙ c.loop-register.invariant.count;
      are = rules_more c.args.undefined.now c.loop-register.registers c.args.row.now.saved c.loop-register.register c.rule.result inside among
          c.loop-register.invariant.are c.rule.ensures;
    }
