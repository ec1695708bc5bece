use Rattle.std.proofs.Common.{◌≡◌, ◌+◌, ◌∷◌, List, drop, sym, ap, ◌∙◌, arith}
use Rattle.std.proofs.lemmas.List.{drop_more, drop_all}
use Rattle.mir_substitution.specs.mir_func.Objects.{local_count}
use Rattle.read_declarations.specs.declared.stack.StackEntry.{StackEntry}
use Rattle.read_declarations.specs.Stack.{entry_offsets}
use Rattle.read_declarations.proofs.stack.local_count.Goals as goal

pub loop-entry-preserved : goal.loop-entry-preserved
loop-entry-preserved c =
    let entries = c.args.entries.now in
    let i = c.loop-entry.entry-index in
    let e = c.entry-item.result in
    let parts : drop i entries ≡ e ∷ drop (i + 1) entries =
    drop_more entries i e c.loop-entry-test.true ∙ ap (λ (x : StackEntry). x ∷ drop (i + 1) entries) (sym c.entry-item.is) in
    let more = ap (λ (es : List StackEntry). local_count (entry_offsets es)) parts in
    record {
      same = omega (arith, more, c.counted-count.ensures.value, c.loop-entry.invariant.same);
      few = omega (arith, c.counted-count.ensures.one, c.loop-entry.invariant.few);
    }

pub returns : goal.returns
returns c =
    let entries = c.args.entries.now in
    let none = ap (λ (es : List StackEntry). local_count (entry_offsets es)) (drop_all c.loop-entry.entry-index entries c.loop-entry-test.false) in
    omega (arith, none, c.loop-entry.invariant.same)
