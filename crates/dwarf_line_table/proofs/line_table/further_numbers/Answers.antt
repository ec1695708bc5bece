use Rattle.std.proofs.Common.{ℕ, List, subst, arith}
use Rattle.std.specs.Prelude.{Option}
use Rattle.std.proofs.lemmas.List.{drop_all}
use Rattle.dwarf_line_table.proofs.Split.{split_at}
use Rattle.dwarf_line_table.proofs.FurtherSteps.{FurtherSoFar, further_starts, further_next, further_done}
use Rattle.dwarf_line_table.proofs.line_table.further_numbers.Goals as goal

pub loop-scope-init : goal.loop-scope-init
loop-scope-init c = further_starts c.args.meta.now c.args.files.now c.args.scopes.now _ c.requires.unit c.new-numbers.ensures

pub loop-scope-preserved : goal.loop-scope-preserved
loop-scope-preserved c =
    let P : List (Option ℕ) → Type 0 = λ rest. FurtherSoFar c.args.meta.now c.args.files.now c.loop-scope.files c.args.scopes.now rest c.loop-scope.numbers in
    let so = subst P (split_at c.args.scopes.now c.loop-scope.scope-index c.scope-item.result c.loop-scope-test.true c.scope-item.is) c.loop-scope.invariant in
    further_next _ _ _ _ _ _ _ _ _ _ so c.in_ok-file_number.ensures.known c.in_ok-file_number.ensures.number c.in_ok-file_number.ensures.few
    c.in_ok-push.ensures.ok

pub returns : goal.returns
returns c =
    let P : List (Option ℕ) → Type 0 = λ rest. FurtherSoFar c.args.meta.now c.args.files.now c.loop-scope.files c.args.scopes.now rest c.loop-scope.numbers in
    let done = further_done _ _ _ _ _ (subst P (drop_all c.loop-scope.scope-index c.args.scopes.now c.loop-scope-test.false) c.loop-scope.invariant) in
    record { known = done.0; numbers = done.1; few = done.2 }
