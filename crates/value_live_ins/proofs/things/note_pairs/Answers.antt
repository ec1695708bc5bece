use Rattle.std.specs.Prelude.{Contains}
use Rattle.mir_func.specs.declared.debug_substitution.OperandPair.{OperandPair}
use Rattle.value_solver.specs.declared.tracked.Tracked.TheVariants.{Pair}
use Rattle.value_live_ins.proofs.Each.{each_more, each_weaker, each_all}
use Rattle.value_live_ins.proofs.Gathering.{grows_then, grows_has}
use Rattle.value_live_ins.proofs.Used.{only_pair}
use Rattle.value_live_ins.proofs.things.note_pairs.Goals as goal

pub loop-pair-preserved : goal.loop-pair-preserved
loop-pair-preserved c =
    let old = c.loop-pair.gathered.things in
    let new = c.note_thing.new.self.things in
    let did = c.in_ok-note_thing.ensures in
    let P = λ (q : OperandPair). Contains old (Pair q) in
    let Q = λ (q : OperandPair). Contains new (Pair q) in
    record {
      gathered = did.gathered;
      grows = grows_then c.args.gathered.now.things old new c.loop-pair.invariant.grows did.grows;
      has = each_more Q c.loop-pair.pair-index c.args.pairs.now c.pair-item.result
          (each_weaker P Q c.loop-pair.pair-index c.args.pairs.now (λ q h. grows_has old new (Pair q) did.grows h) c.loop-pair.invariant.has)
          c.loop-pair-test.true c.pair-item.is did.has;
      only = only_pair c.loop-pair.pair-index c.args.gathered.now.things old new c.args.pairs.now c.pair-item.result c.loop-pair-test.true
          c.pair-item.is c.loop-pair.invariant.only did.only;
    }

pub returns-clause-has : goal.returns-clause-has
returns-clause-has c =
    each_all (λ (q : OperandPair). Contains c.loop-pair.gathered.things (Pair q)) c.loop-pair.pair-index c.args.pairs.now c.loop-pair.invariant.has
    c.loop-pair-test.false
