use Rattle.std.proofs.Common.{List, ℕ, take, sym, subst, ◌∙◌}
use Rattle.std.proofs.lemmas.Bool.{true≢false}
use Rattle.dwarf_loclists.specs.Spelling.{Spells}
use Rattle.dwarf_loclists.specs.steps.Reader.{EntryRead}
use Rattle.dwarf_loclists.proofs.SplitLemmas.{at_true}
use Rattle.std.proofs.lemmas.Result.{err_from_is_err_and}
use Rattle.dwarf_loclists.proofs.EntryLemmas.{start_on, start_none, start_low, end_on, end_none, end_low, length_on, length_none, expression_cut}
use Rattle.dwarf_loclists.proofs.EntryLemmas.{expression_wrong, expression_same, entry_on}
use Rattle.dwarf_loclists.proofs.list_reader.read_entry.Goals as goal

pub returns-in_err-lo-clause-err : goal.returns-in_err-lo-clause-err
returns-in_err-lo-clause-err c =
    let p = err_from_is_err_and c.from_residual.result c.from_residual.ensures.1 in
    rw (p.1, p.2) (λ n done ranges s l. start_none c.args.bytes.now n done ranges c.args.rest.now _ s c.in_err-lo.ensures.at c.in_err-lo.ensures.none)

pub returns-then-lo-last-clause-err : goal.returns-then-lo-last-clause-err
returns-then-lo-last-clause-err c = λ n done ranges s l.
    start_low c.args.bytes.now n done ranges c.args.rest.now c.in_ok-lo.after_lo.now c.args.last.expression.now c.in_ok-lo.lo c.args.last.hi _ s l
    c.in_ok-lo.ensures.front
    c.if-lo-last.true c.at.ensures

pub returns-in_err-hi-clause-err : goal.returns-in_err-hi-clause-err
returns-in_err-hi-clause-err c =
    let p = err_from_is_err_and c.from_residual-in_err-hi.result c.from_residual-in_err-hi.ensures.1 in
    rw (p.1, p.2) (λ n done ranges s l.
    let s1 = start_on c.args.bytes.now n done ranges c.args.rest.now c.in_ok-lo.after_lo.now c.args.last.expression.now c.in_ok-lo.lo c.args.last.hi s l
    c.in_ok-lo.ensures.front
    c.in_ok-lo.ensures.fits c.if-lo-last.false in
    end_none c.args.bytes.now n done ranges c.in_ok-lo.after_lo.now c.in_ok-lo.lo _ s1 c.in_err-hi.ensures.at c.in_err-hi.ensures.none)

pub returns-then-hi-lo-clause-err : goal.returns-then-hi-lo-clause-err
returns-then-hi-lo-clause-err c = λ n done ranges s l.
    let s1 = start_on c.args.bytes.now n done ranges c.args.rest.now c.in_ok-lo.after_lo.now c.args.last.expression.now c.in_ok-lo.lo c.args.last.hi s l
    c.in_ok-lo.ensures.front
    c.in_ok-lo.ensures.fits c.if-lo-last.false in
    end_low c.args.bytes.now n done ranges c.in_ok-lo.after_lo.now c.in_ok-hi.after_hi.now c.in_ok-lo.lo c.in_ok-hi.hi _ s1 c.in_ok-hi.ensures.front
    c.if-hi-lo.true c.at-then-hi-lo.ensures

pub returns-in_err-len-clause-err : goal.returns-in_err-len-clause-err
returns-in_err-len-clause-err c =
    let p = err_from_is_err_and c.from_residual-in_err-len.result c.from_residual-in_err-len.ensures.1 in
    rw (p.1, p.2) (λ n done ranges s l.
    let s1 = start_on c.args.bytes.now n done ranges c.args.rest.now c.in_ok-lo.after_lo.now c.args.last.expression.now c.in_ok-lo.lo c.args.last.hi s l
    c.in_ok-lo.ensures.front
    c.in_ok-lo.ensures.fits c.if-lo-last.false in
    let s2 = end_on c.args.bytes.now n done ranges c.in_ok-lo.after_lo.now c.in_ok-hi.after_hi.now c.in_ok-lo.lo c.in_ok-hi.hi s1 c.in_ok-hi.ensures.front
    c.in_ok-hi.ensures.fits c.if-hi-lo.false in
    length_none c.args.bytes.now n done ranges c.in_ok-hi.after_hi.now c.in_ok-lo.lo c.in_ok-hi.hi _ s2 c.in_err-len.ensures.at c.in_err-len.ensures.none)

pub returns-then-len-rest-clause-err : goal.returns-then-len-rest-clause-err
returns-then-len-rest-clause-err c = λ n done ranges s l.
    let s1 = start_on c.args.bytes.now n done ranges c.args.rest.now c.in_ok-lo.after_lo.now c.args.last.expression.now c.in_ok-lo.lo c.args.last.hi s l
    c.in_ok-lo.ensures.front
    c.in_ok-lo.ensures.fits c.if-lo-last.false in
    let s2 = end_on c.args.bytes.now n done ranges c.in_ok-lo.after_lo.now c.in_ok-hi.after_hi.now c.in_ok-lo.lo c.in_ok-hi.hi s1 c.in_ok-hi.ensures.front
    c.in_ok-hi.ensures.fits c.if-hi-lo.false in
    let s3 = length_on c.args.bytes.now n done ranges c.in_ok-hi.after_hi.now c.in_ok-len.rest.now c.in_ok-lo.lo c.in_ok-hi.hi c.in_ok-len.len s2
    c.in_ok-len.ensures.front
    c.in_ok-len.ensures.fits in
    expression_cut c.args.bytes.now n done ranges c.in_ok-len.rest.now c.in_ok-lo.lo c.in_ok-hi.hi c.in_ok-len.len _ s3 c.if-len-rest.true
    c.at-then-len-rest.ensures

pub returns-then-not-is_expression-clause-err : goal.returns-then-not-is_expression-clause-err
returns-then-not-is_expression-clause-err c = λ n done ranges s l.
    let s1 = start_on c.args.bytes.now n done ranges c.args.rest.now c.in_ok-lo.after_lo.now c.args.last.expression.now c.in_ok-lo.lo c.args.last.hi s l
    c.in_ok-lo.ensures.front
    c.in_ok-lo.ensures.fits c.if-lo-last.false in
    let s2 = end_on c.args.bytes.now n done ranges c.in_ok-lo.after_lo.now c.in_ok-hi.after_hi.now c.in_ok-lo.lo c.in_ok-hi.hi s1 c.in_ok-hi.ensures.front
    c.in_ok-hi.ensures.fits c.if-hi-lo.false in
    let s3 = length_on c.args.bytes.now n done ranges c.in_ok-hi.after_hi.now c.in_ok-len.rest.now c.in_ok-lo.lo c.in_ok-hi.hi c.in_ok-len.len s2
    c.in_ok-len.ensures.front
    c.in_ok-len.ensures.fits in
    expression_wrong c.args.bytes.now n done ranges c.in_ok-len.rest.now c.in_ok-lo.lo c.in_ok-hi.hi c.in_ok-len.len _ s3 c.if-len-rest.false
    (λ location spells.
    true≢false
    (sym (c.is_expression.ensures.no location (subst (λ (xs : List ℕ). Spells xs location) (sym c.split_at.ensures.front) spells))
    ∙ c.if-not-is_expression.true))
    c.at-then-not-is_expression.ensures

pub returns-then-repeats-clause-err : goal.returns-then-repeats-clause-err
returns-then-repeats-clause-err c = λ n done ranges s l.
    let s1 = start_on c.args.bytes.now n done ranges c.args.rest.now c.in_ok-lo.after_lo.now c.args.last.expression.now c.in_ok-lo.lo c.args.last.hi s l
    c.in_ok-lo.ensures.front
    c.in_ok-lo.ensures.fits c.if-lo-last.false in
    let s2 = end_on c.args.bytes.now n done ranges c.in_ok-lo.after_lo.now c.in_ok-hi.after_hi.now c.in_ok-lo.lo c.in_ok-hi.hi s1 c.in_ok-hi.ensures.front
    c.in_ok-hi.ensures.fits c.if-hi-lo.false in
    let s3 = length_on c.args.bytes.now n done ranges c.in_ok-hi.after_hi.now c.in_ok-len.rest.now c.in_ok-lo.lo c.in_ok-hi.hi c.in_ok-len.len s2
    c.in_ok-len.ensures.front
    c.in_ok-len.ensures.fits in
    let same = c.repeats.ensures.0 c.if-repeats.true in
    expression_same c.args.bytes.now n done ranges c.in_ok-len.rest.now c.args.last.expression.now c.in_ok-lo.lo c.in_ok-hi.hi c.in_ok-len.len c.args.last.hi
    _ s3 c.if-len-rest.false l
    same.0 (sym c.split_at.ensures.front ∙ same.1) c.at-then-repeats.ensures

pub returns-clause-ok : goal.returns-clause-ok
returns-clause-ok c = λ n done ranges s l.
    let s1 = start_on c.args.bytes.now n done ranges c.args.rest.now c.in_ok-lo.after_lo.now c.args.last.expression.now c.in_ok-lo.lo c.args.last.hi s l
    c.in_ok-lo.ensures.front
    c.in_ok-lo.ensures.fits c.if-lo-last.false in
    let s2 = end_on c.args.bytes.now n done ranges c.in_ok-lo.after_lo.now c.in_ok-hi.after_hi.now c.in_ok-lo.lo c.in_ok-hi.hi s1 c.in_ok-hi.ensures.front
    c.in_ok-hi.ensures.fits c.if-hi-lo.false in
    let s3 = length_on c.args.bytes.now n done ranges c.in_ok-hi.after_hi.now c.in_ok-len.rest.now c.in_ok-lo.lo c.in_ok-hi.hi c.in_ok-len.len s2
    c.in_ok-len.ensures.front
    c.in_ok-len.ensures.fits in
    let yes = at_true c.is_expression.result _ c.if-not-is_expression.false c.is_expression.ensures.yes in
    let spells = subst (λ (xs : List ℕ). Spells xs yes.0) c.split_at.ensures.front yes.1 in
    let read =
    entry_on c.args.bytes.now n done ranges c.in_ok-len.rest.now c.args.last.expression.now c.in_ok-lo.lo c.in_ok-hi.hi c.in_ok-len.len c.args.last.hi yes.0
    s3 c.if-len-rest.false l
    c.if-lo-last.false c.if-hi-lo.false spells
    (λ touch same. true≢false (sym (c.repeats.ensures.1 (touch, c.split_at.ensures.front ∙ same)) ∙ c.if-repeats.false)) in
    subst (λ (xs : List ℕ). EntryRead c.args.bytes.now n done ranges c.in_ok-lo.lo c.in_ok-hi.hi xs c.split_at.result.1.now) (sym c.split_at.ensures.front)
    (subst (λ (xs : List ℕ). EntryRead c.args.bytes.now n done ranges c.in_ok-lo.lo c.in_ok-hi.hi (take c.in_ok-len.len c.in_ok-len.rest.now) xs)
    (sym c.split_at.ensures.back) read)
