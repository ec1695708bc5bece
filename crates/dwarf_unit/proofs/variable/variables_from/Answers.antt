use Rattle.std.proofs.Common.{List, subst}
use Rattle.mir_func.specs.declared.variable.VarId.{VarId}
use Rattle.dwarf_line_table.proofs.Split.{split_at}
use Rattle.dwarf_unit.proofs.Entries.{VariablesSoFar, variables_next}
use Rattle.dwarf_unit.proofs.variable.variables_from.Goals as goal

pub loop-v-preserved : goal.loop-v-preserved
loop-v-preserved c =
    let P : List VarId → Type 0 = λ rest. VariablesSoFar c.args.meta.now c.args.types.now c.loop-v.types c.args.first c.loop-v.list c.args.variables.now rest
    c.loop-v.entries in
    let so = subst P (split_at c.args.variables.now c.loop-v.v-index c.v-item.result c.loop-v-test.true c.v-item.is) c.loop-v.invariant in
    variables_next _ _ _ _ _ _ _ _ _ _ _ _ so c.in_ok-variable_entry.ensures.known c.in_ok-variable_entry.ensures.entry c.in_ok-variable_entry.ensures.few
    c.in_ok-push.ensures.ok
