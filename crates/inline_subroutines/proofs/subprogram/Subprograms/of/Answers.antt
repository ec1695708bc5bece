use Rattle.std.proofs.Common.{ℕ, List, subst}
use Rattle.inline_subroutines.specs.steps.Known.{AreKept}
use Rattle.inline_subroutines.proofs.Scopes.{all_kept}
use Rattle.inline_subroutines.proofs.subprogram.Subprograms.of.Goals as goal

pub returns-clause-known : goal.returns-clause-known
returns-clause-known c =
    let way = c.walk.new.way.items in
    let found = c.in_ok-found.found in
    let known = c.walk.new.known in
    let new = c.keep.new.known in
    all_kept c.args.meta.now c.args.scope way known new found c.in_ok-found.ensures
    (subst (λ (ns : List ℕ). AreKept ns found known new) c.as_slice.ensures.value c.in_ok-keep.ensures)
