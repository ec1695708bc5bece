use Rattle.std.proofs.Common.{◌≡◌, ◌-◌, ◌<◌, length, ◌∙◌, Some, None, arith}
use Rattle.std.proofs.lemmas.List.{get_or_default}
use Rattle.scope_entries.specs.steps.Links.{parent_at}
use Rattle.scope_entries.proofs.Linked.{parent_from, parent_within, linked_inner, all_linked}
use Rattle.scope_entries.proofs.links.links.Goals as goal

pub index-requires : goal.index-requires
index-requires c =
    let scopes = c.args.scopes.now in
    let j = c.scopes.index - 1 in
    let lt : j < length scopes = omega (arith, c.scopes-test.true, c.scopes.invariant.within) in
    let own : parent_at scopes j ≡ Some c.in-Some.parent = parent_from scopes j _ _ lt c.in-Some.is in
    let low : c.in-Some.parent < length scopes = parent_within scopes c.requires j c.in-Some.parent lt own in
    omega (arith, low, c.scopes.invariant.inner_count, c.scopes.inner.ok.0)

pub index_mut-requires-in-Some-2 : goal.index_mut-requires-in-Some-2
index_mut-requires-in-Some-2 c =
    let scopes = c.args.scopes.now in
    let j = c.scopes.index - 1 in
    let lt : j < length scopes = omega (arith, c.scopes-test.true, c.scopes.invariant.within) in
    let own : parent_at scopes j ≡ Some c.in-Some.parent = parent_from scopes j _ _ lt c.in-Some.is in
    let low : c.in-Some.parent < length scopes = parent_within scopes c.requires j c.in-Some.parent lt own in
    omega (arith, low, c.scopes.invariant.inner_count, c.scopes.inner.ok.0)

pub scopes-preserved : goal.scopes-preserved
scopes-preserved c =
    let scopes = c.args.scopes.now in
    let inner = c.scopes.inner.items in
    let j = c.scopes.index - 1 in
    let lt : j < length scopes = omega (arith, c.scopes-test.true, c.scopes.invariant.within) in
    let own : parent_at scopes j ≡ Some c.in-Some.parent = parent_from scopes j _ _ lt c.in-Some.is in
    let low : c.in-Some.parent < length scopes = parent_within scopes c.requires j c.in-Some.parent lt own in
    let within : c.in-Some.parent < length inner = omega (arith, low, c.scopes.invariant.inner_count) in
    linked_inner scopes c.scopes.index j c.in-Some.parent c.scopes.first inner c.scopes.next.items c.scopes.invariant
    (omega (arith, c.scopes-test.true)) own low c.index.result.now (c.index.ensures ∙ get_or_default inner c.in-Some.parent _ None within)

pub returns : goal.returns
returns c = all_linked c.args.scopes.now c.scopes.index _ c.requires c.scopes.invariant (omega (arith, c.scopes-test.false))
