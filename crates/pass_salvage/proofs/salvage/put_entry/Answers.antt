use Rattle.std.proofs.Common.{List, take, sym, subst}
use Rattle.mir_func.specs.declared.item.Item.{Item}
use Rattle.pass_salvage.specs.Lookup.{IsLookupOf}
use Rattle.pass_salvage.proofs.Placed.{numbered_items, numbered_front}
use Rattle.pass_salvage.proofs.Indexed.{lookup_numbered}
use Rattle.pass_salvage.proofs.salvage.put_entry.Goals as goal

pub returns-clause-items : goal.returns-clause-items
returns-clause-items c =
    numbered_items c.args.items.now.items c.args.at c.args.d c.args.standing c.index_mut.result.now c.give_number.new.x c.requires.at c.requires.above
    (sym c.index_mut.ensures.value) c.give_number.ensures

pub returns-clause-lookup : goal.returns-clause-lookup
returns-clause-lookup c found =
    let xs = c.args.items.now.items in
    let all = c.deref.ensures.value in
    let at = c.args.at in
    subst (λ (ys : List Item). IsLookupOf c.substitute.new.self c.substitute.new.subs ys)
    (sym (numbered_front xs at c.args.d c.args.standing c.index_mut.result.now c.give_number.new.x c.requires.at c.requires.above
    (sym c.index_mut.ensures.value) c.give_number.ensures))
    (lookup_numbered c.substitute.new.self c.substitute.new.subs (take at xs) c.args.d c.args.standing
    (subst (λ (ys : List Item). IsLookupOf c.substitute.new.self c.substitute.new.subs (take at ys)) all
    (c.in_ok-substitute.ensures.lookup (subst (λ (ys : List Item). IsLookupOf c.args.lookup.now c.args.subs.now (take at ys)) (sym all) found))))
