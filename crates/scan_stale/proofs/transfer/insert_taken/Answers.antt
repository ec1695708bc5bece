use Rattle.std.proofs.Common.{◌≡◌, ◌||◌, sym, ap, ◌∙◌}
use Rattle.pass_liveness.specs.Sets.{has}
use Rattle.scan_choice.specs.Given.{given_by}
use Rattle.scan_stale.specs.declared.transfer.Written.{Written}
use Rattle.scan_stale.specs.Flow.{taken_by}
use Rattle.scan_stale.specs.Written.{registers_of}
use Rattle.scan_stale.proofs.Shared.{none_written}
use Rattle.scan_stale.proofs.transfer.insert_taken.Goals as goal

pub returns-in-Nothing : goal.returns-in-Nothing
returns-in-Nothing c x =
    none_written (given_by c.args.given.now) x (has c.args.names.now.slots c.args.set.now x) ∙
    sym (ap (λ (w : Written). taken_by (given_by c.args.given.now) (registers_of w) x || has c.args.names.now.slots c.args.set.now x) c.in-Nothing.is)

pub returns-in-One : goal.returns-in-One
returns-in-One c x =
    c.insert_sharing.ensures x ∙
    sym (ap (λ (w : Written). taken_by (given_by c.args.given.now) (registers_of w) x || has c.args.names.now.slots c.args.set.now x) c.in-One.is)

pub returns-in-CallerSaved : goal.returns-in-CallerSaved
returns-in-CallerSaved c x =
    c.insert_called.ensures x ∙
    sym (ap (λ (w : Written). taken_by (given_by c.args.given.now) (registers_of w) x || has c.args.names.now.slots c.args.set.now x) c.in-CallerSaved.is)
