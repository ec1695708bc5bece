use Rattle.std.proofs.Common.{◌≡◌, ◌<◌, arith, rules, get_or}
use Rattle.std.proofs.lemmas.Nat.{or_lt}
use Rattle.pass_liveness.proofs.Uniting.{uniting_begins, uniting_kept, uniting_changed, uniting_ends}
use Rattle.pass_liveness.proofs.words.unite.Goals as goal
use Rattle.pass_liveness.proofs.words.unite.Goals.{then-all-words, else-all-words}

pub loop-k-init : goal.loop-k-init
loop-k-init c = uniting_begins c.args.words.now c.args.others.now

pub loop-k-preserved : goal.loop-k-preserved
loop-k-preserved c =
    let same : get_or c.loop-k.words c.loop-k.k 0 ≡ get_or c.args.words.now c.loop-k.k 0 = c.loop-k.invariant.left c.loop-k.k (omega arith) in
    let old : get_or c.args.words.now c.loop-k.k 0 < 18446744073709551616 = search rules in
    let word : get_or c.loop-k.words c.loop-k.k 0 < 18446744073709551616 = omega (arith, same, old) in
    let other : get_or c.args.others.now c.loop-k.k 0 < 18446744073709551616 = search (rules, c.type_inv.others c.loop-k.k) in
    elim c.if-all-words.branch [
      | then-all-words w ↦ rw (w.words-is, w.grown-is) (uniting_changed c.loop-k.invariant (omega (arith, c.requires.used))
          (or_lt 64 (get_or c.loop-k.words c.loop-k.k 0) (get_or c.args.others.now c.loop-k.k 0) word other) w.if-all-words.true)
      | else-all-words w ↦ rw (w.words-is, w.grown-is) (uniting_kept c.loop-k.invariant w.if-all-words.false)
    ]

pub returns-clause-all : goal.returns-clause-all
returns-clause-all c = uniting_ends c.loop-k.invariant (λ j l. c.requires.zeros j (omega (arith, l)))

pub returns-clause-left : goal.returns-clause-left
returns-clause-left c = λ k l. c.loop-k.invariant.left k (omega (arith, l))
