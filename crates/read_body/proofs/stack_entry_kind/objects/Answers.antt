use Rattle.std.proofs.Common.{ℕ, None, refl, ap, ◌∙◌, arith}
use Rattle.read_declarations.specs.declared.stack.StackEntry.{StackEntry}
use Rattle.read_body.specs.StackEntryKind.{with_object, objects_behind, local_block, objects_of}
use Rattle.read_body.proofs.Entries.{one_more, no_more}
use Rattle.read_body.proofs.stack_entry_kind.objects.Goals as goal

-- an entry that stands for none
none : StackEntry
none = record { id = 0; size = 0; align = 0; local_offset = None }

pub loop-entry-preserved : goal.loop-entry-preserved
unfolding objects_behind
loop-entry-preserved c =
    let named = c.args.named.now in
    let block = local_block c.args.entries.now in
    record {
      read = one_more (objects_behind named block) (with_object named block) (λ s e es. refl) (λ s. refl) c.args.entries.now
          c.loop-entry.entry-index c.entry-item.result
          c.loop-entry.laid (objects_of named c.args.entries.now) c.lay.new.laid c.loop-entry-test.true c.entry-item.is c.loop-entry.invariant.read
          (c.in_ok-lay.ensures.laid ∙ ap (λ (n : ℕ). with_object named n c.loop-entry.laid c.entry-item.result) c.local_block-block.ensures.value);
      bound = omega (arith, c.in_ok-lay.ensures.bound, c.loop-entry.invariant.bound);
    }

pub returns : goal.returns
unfolding objects_behind
returns c =
    let named = c.args.named.now in
    let block = local_block c.args.entries.now in
    no_more (objects_behind named block) (with_object named block) (λ s e es. refl) (λ s. refl) c.args.entries.now c.loop-entry.entry-index none
    c.loop-entry.laid (objects_of named c.args.entries.now) c.loop-entry-test.false c.loop-entry.invariant.read
