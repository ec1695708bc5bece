use Rattle.std.proofs.Common.{◌≡◌, None, arith}
use Rattle.fold_targets.specs.Ways.{leads_nowhere}
use Rattle.fold_targets.specs.Ends.{told}
use Rattle.fold_targets.proofs.Ways.{end_added}
use Rattle.fold_targets.proofs.ends.stop.Goals as goal

pub returns-in_ok-insert-in-None-clause-right : goal.returns-in_ok-insert-in-None-clause-right
returns-in_ok-insert-in-None-clause-right c = λ from h are.
    let none : told c.args.leads.now c.args.last ≡ None = grind arith in
    end_added (told c.args.leads.now) (told c.args.ends.now) (told c.insert.new.self) are c.args.last c.args.last (leads_nowhere none)
    (λ m e. let bad = e in cc) c.in_ok-insert-in-None.ensures.updates.0
