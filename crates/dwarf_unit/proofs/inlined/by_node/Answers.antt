use Rattle.std.proofs.Common.{◌≡◌, ℕ, suc, ◌+◌, ◌-◌, ◌<◌, ◌∷◌, List, length, drop, nat_cmp, arith, sym, ◌∙◌, ap, subst, Some}
use Rattle.std.specs.BTreeMap.{Updates}
use Rattle.std.proofs.lemmas.List.{drop_all}
use Rattle.inline_subroutines.specs.declared.subroutine.InlinedSubroutine.{InlinedSubroutine}
use Rattle.dwarf_line_table.proofs.Split.{split_at}
use Rattle.dwarf_unit.specs.steps.Calls.{place_from}
use Rattle.dwarf_unit.proofs.NodeIndex.{node_more, node_none}
use Rattle.dwarf_unit.proofs.inlined.by_node.Goals as goal

pub loop-k-init : goal.loop-k-init
loop-k-init c =
    let all = c.args.instances.now in
    record {
      within = omega arith;
      found = λ n.
          node_none c.new-index.result n c.new-index.ensures.empty
          ∙ sym (ap (λ (is : List InlinedSubroutine). place_from (length all) is n) (drop_all (length all) all (omega arith)));
    }

pub loop-k-preserved : goal.loop-k-preserved
loop-k-preserved c =
    let k = c.loop-k.k in
    let i = c.index-instances-k.result in
    let next : k ≡ suc (k - 1) = omega (arith, c.loop-k-test.true) in
    let again : k - 1 + 1 ≡ k = omega (arith, c.loop-k-test.true) in
    let inside : k - 1 < length c.args.instances.now = omega (arith, c.loop-k-test.true, c.loop-k.invariant.within) in
    let at : drop (k - 1) c.args.instances.now ≡ i ∷ drop k c.args.instances.now =
    split_at c.args.instances.now (k - 1) i inside c.index-instances-k.is ∙ ap (λ (n : ℕ). i ∷ drop n c.args.instances.now) again in
    let updates : Updates nat_cmp c.loop-k.index c.insert.new.self i.call (Some (k - 1)) =
    subst (λ (n : ℕ). Updates nat_cmp c.loop-k.index c.insert.new.self n (Some (k - 1)))
    (c.number.ensures ∙ ap (λ (x : InlinedSubroutine). x.call) (sym c.index-instances-k.is)) c.in_ok-insert.ensures.updates in
    record {
      within = omega (arith, c.loop-k.invariant.within);
      found = node_more c.loop-k.index c.insert.new.self c.args.instances.now k (k - 1) i c.loop-k.invariant.found next at updates;
    }
