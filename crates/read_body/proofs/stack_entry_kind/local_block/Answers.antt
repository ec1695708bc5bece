use Rattle.std.proofs.Common.{◌≡◌, ℕ, List, ◌∷◌, ◌+◌, drop, sym, ap, ◌∙◌, arith}
use Rattle.std.proofs.lemmas.List.{drop_more, drop_all}
use Rattle.mir_func.specs.Objects.{up_to, reach_from}
use Rattle.read_declarations.specs.declared.stack.StackEntry.{StackEntry}
use Rattle.read_declarations.specs.Stack.{entry_offsets}
use Rattle.read_body.proofs.stack_entry_kind.local_block.Goals as goal

pub loop-entry-preserved : goal.loop-entry-preserved
loop-entry-preserved c =
    let entries = c.args.entries.now in
    let i = c.loop-entry.entry-index in
    let e = c.entry-item.result in
    let parts : drop i entries ≡ e ∷ drop (i + 1) entries =
    drop_more entries i e c.loop-entry-test.true ∙ ap (λ (x : StackEntry). x ∷ drop (i + 1) entries) (sym c.entry-item.is) in
    record {
      same = ap (λ (n : ℕ). reach_from n (entry_offsets (drop (i + 1) entries))) c.reach_after-reach.ensures
          ∙ sym (ap (λ (es : List StackEntry). reach_from c.loop-entry.reach (entry_offsets es)) parts)
          ∙ c.loop-entry.invariant.same;
      small = omega arith;
    }

pub returns-clause-value : goal.returns-clause-value
returns-clause-value c =
    c.up_to.ensures ∙ ap (up_to 16) (c.from.ensures
    ∙ sym (ap (λ (es : List StackEntry). reach_from c.loop-entry.reach (entry_offsets es))
    (drop_all c.loop-entry.entry-index c.args.entries.now c.loop-entry-test.false))
    ∙ c.loop-entry.invariant.same)

pub returns-clause-small : goal.returns-clause-small
returns-clause-small c = omega (arith, c.up_to.ensures, c.from.ensures, c.loop-entry.invariant.small)
