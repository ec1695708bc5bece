use Rattle.std.proofs.Common.{◌≡◌, ◌≤◌, ℕ, max, pos, Some, refl, ap, subst, ◌∙◌, arith}
use Rattle.std.proofs.lemmas.Bool.Decides.{nat_tests}
use Rattle.mir_func.specs.Objects.{up_to, depth_of}
use Rattle.read_declarations.specs.declared.fixed.FixedEntry.{FixedEntry}
use Rattle.read_body.specs.FixedObjects.{fixed_depth}
use Rattle.read_body.proofs.Entries.{one_more, no_more}
use Rattle.read_body.proofs.fixed_objects.fixed_room.Goals as goal

-- an entry that stands for none
none : FixedEntry
none = record { id = 0; size = 0; offset = pos 0 }

-- the greater of a number and the depth of an entry
abbrev deeper : ℕ → FixedEntry → ℕ
deeper n e = max n (depth_of (Some e.offset))

pub loop-entry-preserved : goal.loop-entry-preserved
unfolding fixed_depth
loop-entry-preserved c =
    let e = c.entry-item.result in
    let deep : c.entry_depth.result ≡ depth_of (Some e.offset) = c.entry_depth.ensures.value in
    let most : c.max-depth.result ≡ max c.loop-entry.depth (depth_of (Some e.offset)) = grind (arith, nat_tests, c.max-depth.ensures, deep) in
    let low : depth_of (Some e.offset) ≤ 2147483648 = subst (λ (n : ℕ). n ≤ 2147483648) deep c.entry_depth.ensures.small in
    record {
      same = one_more fixed_depth deeper (λ s x es. refl) (λ s. refl) c.args.entries.now c.loop-entry.entry-index e c.loop-entry.depth
          (fixed_depth 0 c.args.entries.now) c.max-depth.result c.loop-entry-test.true c.entry-item.is c.loop-entry.invariant.same most;
      small = omega (arith, most, low, c.loop-entry.invariant.small);
    }

pub returns-clause-value : goal.returns-clause-value
unfolding fixed_depth
returns-clause-value c =
    c.up_to.ensures ∙ ap (up_to 16) (c.from.ensures ∙ no_more fixed_depth deeper (λ s x es. refl) (λ s. refl) c.args.entries.now c.loop-entry.entry-index none
    c.loop-entry.depth (fixed_depth 0 c.args.entries.now) c.loop-entry-test.false c.loop-entry.invariant.same)

pub returns-clause-small : goal.returns-clause-small
returns-clause-small c = omega (arith, c.up_to.ensures, c.from.ensures, c.loop-entry.invariant.small)
