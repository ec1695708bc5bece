use Rattle.std.proofs.Common.{ℕ, ◌≤◌, length, sym, subst, arith}
use Rattle.mir_func.specs.Limits.{MAX_SLOTS}
use Rattle.read_body.specs.declared.stack_entry_kind.ObjectLayout.{ObjectLayout}
use Rattle.read_body.specs.StackEntryKind.{objects_of}
use Rattle.read_program.specs.Closing.{AreObjects}
use Rattle.read_program.proofs.Frames.{frame_count}
use Rattle.read_program.proofs.closing.all_objects.Goals as goal

pub push_fixed-requires : goal.push_fixed-requires
push_fixed-requires c =
    let named = c.args.named.now in
    let es = c.args.entries.now in
    let are = subst (λ (l : ObjectLayout). AreObjects l.objects) (sym c.in_ok-laid.ensures) (c.requires.2 named) in
    let few : length (objects_of named es).objects ≤ MAX_SLOTS = omega (arith, frame_count named es, c.requires.0) in
    record {
      few = subst (λ (l : ObjectLayout). length l.objects ≤ MAX_SLOTS) (sym c.in_ok-laid.ensures) few;
      each = are.each;
      laid = are.laid;
    }
