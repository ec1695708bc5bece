use Rattle.std.proofs.Common.{◌∙◌, ap, sym, length, arith}
use Rattle.dwarf_loclists.proofs.OneLocation.{heads_one, tails_one, uleb_one}
use Rattle.dwarf_loclists.proofs.SplitLemmas.{behind_place}
use Rattle.dwarf_loclists.proofs.split.split_piece.Goals as goal
use Rattle.dwarf_loclists.proofs.split.split_piece.Goals.{then-length-eq0-via-then-length-eq0, then-length-eq0-via-else-length-eq0+then-length-gt-LONGEST_PIECE}
use Rattle.dwarf_loclists.proofs.split.split_piece.Goals.{then-length-eq0-via-else-length-eq0+else-length-gt-LONGEST_PIECE+then-length-offset}

pub returns-in_err-operation-clause-none : goal.returns-in_err-operation-clause-none
returns-in_err-operation-clause-none c = rw c.from_residual-in_err-operation.ensures
    (λ p rest ok wide e.
    let b = behind_place c.args.from c.in_ok-offset.offset c.in-Some.place c.args.bytes.now c.in_ok-offset.after.now c.in-Some.after.now p rest
    c.in_ok-offset.ensures.only
    c.in-Some.ensures.some c.in-Some.ensures.listed ok e in
    omega (arith, ap length b.2, c.in_err-operation.ensures.cases))

pub returns-then-operation-clause-none : goal.returns-then-operation-clause-none
returns-then-operation-clause-none c = λ p rest ok wide e.
    let b = behind_place c.args.from c.in_ok-offset.offset c.in-Some.place c.args.bytes.now c.in_ok-offset.after.now c.in-Some.after.now p rest
    c.in_ok-offset.ensures.only
    c.in-Some.ensures.some c.in-Some.ensures.listed ok e in
    c.if-operation.true (heads_one c.in_ok-operation.operation.now 147 _ _ (sym c.in_ok-operation.ensures.cases.0 ∙ b.2))

pub returns-in_err-length-clause-none : goal.returns-in_err-length-clause-none
returns-in_err-length-clause-none c = rw c.from_residual-in_err-length.ensures
    (λ p rest ok wide e.
    let b = behind_place c.args.from c.in_ok-offset.offset c.in-Some.place c.args.bytes.now c.in_ok-offset.after.now c.in-Some.after.now p rest
    c.in_ok-offset.ensures.only
    c.in-Some.ensures.some c.in-Some.ensures.listed ok e in
    c.in_err-length.ensures.none p.length rest (omega (arith, ok.2))
    (tails_one c.in_ok-operation.operation.now 147 _ _ (sym c.in_ok-operation.ensures.cases.0 ∙ b.2)))

pub returns-then-length-eq0-clause-none : goal.returns-then-length-eq0-clause-none
returns-then-length-eq0-clause-none c = λ p rest ok wide e.
    let b = behind_place c.args.from c.in_ok-offset.offset c.in-Some.place c.args.bytes.now c.in_ok-offset.after.now c.in-Some.after.now p rest
    c.in_ok-offset.ensures.only
    c.in-Some.ensures.some c.in-Some.ensures.listed ok e in
    let l = uleb_one p.length c.in_ok-length.length rest c.in_ok-length.rest.now
    (sym (tails_one c.in_ok-operation.operation.now 147 _ _ (sym c.in_ok-operation.ensures.cases.0 ∙ b.2)) ∙ c.in_ok-length.ensures.some) in
    elim c.then-length-eq0.branch [
      | then-length-eq0-via-then-length-eq0 w ↦ omega (arith, w.if-length-eq0.true, l.0, ok.1)
      | then-length-eq0-via-else-length-eq0+then-length-gt-LONGEST_PIECE w ↦ omega (arith, w.if-length-gt-LONGEST_PIECE.true, l.0, ok.2)
      | then-length-eq0-via-else-length-eq0+else-length-gt-LONGEST_PIECE+then-length-offset w ↦ omega (arith, w.if-length-offset.true, l.0, b.0, ok.3)
    ]
