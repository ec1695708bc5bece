use Rattle.compile_passes.proofs.AfterPasses.{scan_numbers, scan_slots}
use Rattle.compile_passes.proofs.Scan.{scan_made}
use Rattle.compile_passes.proofs.passed.scanned.Goals as goal

pub run_scan-requires-clause-numbers : goal.run_scan-requires-clause-numbers
run_scan-requires-clause-numbers c =
    scan_numbers c.args._meta.now c.args.source.now c.requires.read c.requires.substitutions c.in_ok-function.function
    c.in_ok-substitutions.substitutions c.in_ok-function.ensures c.in_ok-substitutions.ensures

pub run_scan-requires-clause-slots : goal.run_scan-requires-clause-slots
run_scan-requires-clause-slots c =
    scan_slots c.args._meta.now c.args.source.now c.requires.read c.requires.substitutions c.in_ok-function.function c.in_ok-function.ensures

pub returns : goal.returns
returns c =
    scan_made c.args.source.now c.args.reserve.now c.run_scan.new.f c.run_scan.new.subs c.in_ok-lost.lost c.told-losses.result
    c.in_ok-function.function c.in_ok-substitutions.substitutions c.in_ok-given.given c.in_ok-function.ensures c.in_ok-substitutions.ensures
    c.in_ok-given.ensures c.in_ok-lost.ensures.follows c.in_ok-lost.ensures.steps c.in_ok-lost.ensures.sizes c.told-losses.ensures
