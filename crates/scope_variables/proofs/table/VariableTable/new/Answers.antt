use Rattle.std.proofs.Common.{◌≡◌, ℕ, ap, ◌∙◌, nat_cmp, nat_eq, Some}
use Rattle.std.specs.Prelude.{Option}
use Rattle.std.specs.Option.{option_eq}
use Rattle.std.specs.BTreeMap.{get}
use Rattle.read_debug_nodes.specs.Maps.{numbers_of}
use Rattle.scope_variables.specs.Scope.{is_in, most_files, scope_of, scope_within}
use Rattle.scope_variables.specs.steps.Table.{nodes_or_none, with_node}
use Rattle.scope_variables.proofs.Tables.{filter_turn}
use Rattle.scope_variables.proofs.table.VariableTable.new.Goals as goal

pub loop-number-preserved : goal.loop-number-preserved
loop-number-preserved c = λ scope.
    let debug = c.args.debug.now in
    let numbers = c.as_slice-numbers.result.now in
    let n = c.number-item.result in
    let before = nodes_or_none (get nat_cmp c.loop-number.by_scope scope) in
    let same : numbers ≡ numbers_of debug = c.as_slice-numbers.ensures ∙ c.in_ok-numbers.ensures in
    let most : c.most_files-most.result ≡ most_files debug (numbers_of debug) = c.most_files-most.ensures ∙ ap (most_files debug) same in
    let found : c.scope_within.result ≡ scope_of debug n = c.scope_within.ensures ∙ ap (λ m. scope_within debug m n) most in
    let longer : nodes_or_none (get nat_cmp c.add.new.by_scope scope) ≡ with_node (is_in debug scope n) before n =
    c.in_ok-add.ensures scope ∙ ap (λ (o : Option ℕ). with_node (option_eq nat_eq o (Some scope)) before n) found in
    filter_turn (is_in debug scope) numbers c.loop-number.number-index n before _ c.loop-number-test.true c.number-item.is
    (c.loop-number.invariant scope) longer
