use Rattle.std.proofs.Common.{get_or, sym, rules}
use Rattle.std.proofs.lemmas.List.{take_all}
use Rattle.std.proofs.lemmas.List.Elements.{All-more, All-same}
use Rattle.dwarf_frame.specs.Table.{MayBeLost}
use Rattle.test_sections.proofs.frame_rows.may_be_all_lost.Goals as goal

pub loop-register-preserved : goal.loop-register-preserved
loop-register-preserved c =
    let is : MayBeLost (get_or c.args.registers.now c.loop-register.register-index 0)
    = search (rules, c.may_be_lost.ensures, c.if-not-may_be_lost.false) in
    All-more MayBeLost c.args.registers.now c.loop-register.register-index 0 c.loop-register-test.true c.loop-register.invariant is

pub returns : goal.returns
returns c = λ _. All-same MayBeLost _ _ (sym (take_all _ _ c.loop-register-test.false)) c.loop-register.invariant
