use Rattle.dwarf_loclists.proofs.ReaderLemmas.{counted, count_too_large, count_cut}
use Rattle.dwarf_loclists.proofs.header.read_count.Goals as goal

pub returns-then-count-after-clause-ok : goal.returns-then-count-after-clause-ok
returns-then-count-after-clause-ok c =
    counted c.args.bytes.now c.args.rest.now c.in-Some.after.now c.in-Some.count c.requires c.in-Some.ensures.some c.in-Some.ensures.fits c.if-count-after.true

pub returns-else-count-after-clause-err : goal.returns-else-count-after-clause-err
returns-else-count-after-clause-err c =
    count_too_large c.args.bytes.now c.args.rest.now c.in-Some.after.now c.in-Some.count _ c.requires c.in-Some.ensures.some c.in-Some.ensures.fits
    c.if-count-after.false c.at.ensures

pub returns-in-None-clause-err : goal.returns-in-None-clause-err
returns-in-None-clause-err c = count_cut c.args.bytes.now c.args.rest.now _ c.requires c.in-None.ensures.none c.at-in-None.ensures
