use Rattle.std.specs.Prelude.{false}
use Rattle.std.proofs.Common.{◌≡◌, ℕ, ◌+◌, ◌-◌, ◌*◌, drop, arith, ap, sym, ◌∙◌}
use Rattle.elf_symbols.specs.FirstFault.{ended, names_end}
use Rattle.elf_symbols.proofs.NameLoops.{fault_here, right_here, all_right, minus_zero, next_entry, next_offset}
use Rattle.elf_symbols.proofs.SymbolRight.{name_small}
use Rattle.elf_symbols.proofs.fault.names_end.Goals as goal

pub loop-index-init : goal.loop-index-init
loop-index-init c = record {
  so_far = ap (λ n. names_end c.args.names.now 24 false 1 n (drop 24 c.args.table.now)) (minus_zero c.args.count);
  small = omega arith;
}

pub returns-in-Some : goal.returns-in-Some
returns-in-Some c =
    let at : ℕ = 24 * (c.loop-index.index + 1) in
    let here : names_end c.args.names.now at c.loop-index.others c.loop-index.name_at (c.args.count - c.loop-index.index) c.entry-symbol.result.now
    ≡ names_end c.args.names.now 24 false 1 c.args.count (drop 24 c.args.table.now) =
    ap (λ ys. names_end c.args.names.now at c.loop-index.others c.loop-index.name_at (c.args.count - c.loop-index.index) ys)
    c.entry-symbol.ensures.bytes ∙ c.loop-index.invariant.so_far in
    fault_here c.args.names.now at c.loop-index.others c.loop-index.name_at c.args.count c.loop-index.index c.in-Some.wrong _ _
    c.loop-index-test.true here (sym c.in-Some.is ∙ c.symbol_fault.ensures)

pub loop-index-preserved : goal.loop-index-preserved
loop-index-preserved c =
    let at : ℕ = 24 * (c.loop-index.index + 1) in
    let here : names_end c.args.names.now at c.loop-index.others c.loop-index.name_at (c.args.count - c.loop-index.index) c.entry-symbol.result.now
    ≡ names_end c.args.names.now 24 false 1 c.args.count (drop 24 c.args.table.now) =
    ap (λ ys. names_end c.args.names.now at c.loop-index.others c.loop-index.name_at (c.args.count - c.loop-index.index) ys)
    c.entry-symbol.ensures.bytes ∙ c.loop-index.invariant.so_far in
    let none = sym c.in_default.is ∙ c.symbol_fault.ensures in
    let small =
    name_small c.args.names.now at c.loop-index.others c.loop-index.name_at c.entry-symbol.result.now c.loop-index.invariant.small none in
    record {
      so_far = right_here c.args.names.now at _ c.loop-index.others _ c.loop-index.name_at _ c.args.count c.loop-index.index _ _ _ c.loop-index-test.true
          (next_offset c.loop-index.index) c.is_behind_other-others.ensures c.next_name-name_at.ensures
          (next_entry c.args.table.now c.entry-symbol.result.now c.loop-index.index c.entry-symbol.ensures.bytes) here none;
      small = omega (arith, c.next_name-name_at.ensures, small);
    }

pub returns : goal.returns
returns c =
    let last : c.loop-index.index ≡ c.args.count = omega (arith, c.loop-index-test.false, c.loop-index.auto.index-end) in
    c.ended.ensures
    ∙ ap (λ ys. ended (24 * (c.args.count + 1)) c.loop-index.name_at ys) c.behind.ensures
    ∙ ap (λ k. ended (24 * (k + 1)) c.loop-index.name_at (drop (24 * (k + 1)) c.args.table.now)) (sym last)
    ∙ all_right c.args.names.now (24 * (c.loop-index.index + 1)) c.loop-index.others c.loop-index.name_at c.args.count c.loop-index.index _ _
    c.loop-index-test.false c.loop-index.invariant.so_far
