use Rattle.std.proofs.Common.{◌≡◌, ◌<◌, ◌+◌, Result, Ok, Err, IfOk, length, take, sym, ap, ◌∙◌, subst}
use Rattle.mir_func.specs.declared.item.Item.{Item}
use Rattle.copyprop_block.specs.declared.copies.CopyAction.TheVariants.{GoesWith}
use Rattle.copyprop_block.specs.Copied.{renamed_item, fate_of, and_renamed}
use Rattle.copyprop_block.specs.Next.{Stands}
use Rattle.copyprop_block.proofs.Fronts.{get_any, get_set, taken_stands, lookup_up, lookup_same}
use Rattle.copyprop_block.proofs.copies.next_item.Goals as goal

map_ok : {T E : Type 0} (r : Result T E) (P Q : T → Type 0) → IfOk r P → ((v : T) → P v → Q v) → IfOk r Q
map_ok (Ok v) P Q p f = f v p
map_ok (Err e) P Q p f = tt

pub returns-in-GoesWith-clause-stands : goal.returns-in-GoesWith-clause-stands
returns-in-GoesWith-clause-stands c =
    let xs = c.args.items.now.items in
    let at = c.args.at in
    let kept = c.args.kept in
    let roots = c.args.roots.now.items in
    let subs = c.args.subs.now in
    let fresh = c.args.fresh.now in
    let y = c.rename_item.new.x in
    let x0 = c.index_mut.result.now in
    let lt : at < length xs = c.requires.at in
    let known : c.as_slice.result.now ≡ roots = c.as_slice.ensures.value in
    let again : c.as_slice-2.result.now ≡ roots = c.as_slice-2.ensures.value in
    let read : c.index.result.now ≡ y = c.index.ensures ∙ get_set xs at y c.index.result.now lt in
    let fate : fate_of roots y.kind ≡ GoesWith c.in-GoesWith.number c.in-GoesWith.source =
    (λ i. fate_of (sym again i) (sym read i).kind) ∙ sym c.fate_of.ensures ∙ c.in-GoesWith.is in
    map_ok c.take_out.result _ _ c.take_out.ensures.stands (λ more h x here.
    (let same : x0 ≡ x = c.index_mut.ensures.value ∙ get_any xs at x0 x lt ∙ sym here in
    let is : y ≡ renamed_item roots x = c.rename_item.ensures ∙ (λ i. renamed_item (known i) (same i)) in
    subst (λ (z : Item). Stands (and_renamed (record { done = take kept xs; roots = roots; subs = subs; fresh = fresh }) z) more (at + 1)
    c.take_out.new.items.items xs roots
    c.take_out.new.subs c.take_out.new.fresh) is
    (taken_stands xs kept at subs fresh roots c.requires.within lt y c.in-GoesWith.number c.in-GoesWith.source more c.take_out.new.items.items
    c.take_out.new.subs
    c.take_out.new.fresh fate (h y roots (sym (get_set xs at y y lt))))))

-- the lookup in the front
pub returns-in_ok-push-in-Stays-clause-lookup : goal.returns-in_ok-push-in-Stays-clause-lookup
returns-in_ok-push-in-Stays-clause-lookup c =
    let xs = c.args.items.now.items in
    let y = c.rename_item.new.x in
    lookup_up xs c.swap.new.self.items c.args.kept c.args.at y c.push.new.self c.args.subs.now c.requires.within c.requires.at c.swap.ensures.items
    (λ len. c.in_ok-push-in-Stays.ensures (take c.args.kept xs) y c.requires.carried.found len
    (ap (λ (i : Item). i.kind) (sym (c.index-in-Stays-2.ensures ∙ get_set xs c.args.at y c.index-in-Stays-2.result.now c.requires.at))))

pub returns-in-Goes-clause-lookup : goal.returns-in-Goes-clause-lookup
returns-in-Goes-clause-lookup c =
    lookup_same c.args.items.now.items c.args.kept c.args.at c.rename_item.new.x c.args.lookup.now c.args.subs.now c.requires.within c.requires.carried.found

pub take_out-requires-clause-carried : goal.take_out-requires-clause-carried
take_out-requires-clause-carried c = record {
  left = c.requires.carried.left;
  found = lookup_same c.args.items.now.items c.args.kept c.args.at c.rename_item.new.x c.args.lookup.now c.args.subs.now c.requires.within
      c.requires.carried.found;
}
