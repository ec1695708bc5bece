use Rattle.std.proofs.Common.{◌≡◌, get_or, refl, ap}
use Rattle.mir_func.specs.declared.item.Item.{Item}
use Rattle.mir_func.specs.Sound.{HasForm}
use Rattle.value_live_ins.proofs.Each.{each_more, each_all}
use Rattle.value_live_ins.proofs.Walking.{walked_on, known_item}
use Rattle.value_live_ins.proofs.changes.pass_items.Goals as goal

pub loop-k-preserved : goal.loop-k-preserved
loop-k-preserved c =
    let t = c.args.tracking.now in
    let items = c.args.items.now in
    let item = get_or items c.loop-k.k c.index-items-k.result in
    let at : item ≡ get_or items c.loop-k.k item = ap (get_or items c.loop-k.k) c.index-items-k.is in
    let less = c.loop-k-test.true in
    record {
      places = c.in_ok-pass.ensures.places;
      parts = c.in_ok-pass.ensures.parts;
      walked = walked_on t items c.loop-k.k item c.loop-k.held c.pass.new.held _ refl less at
          (known_item t items c.loop-k.k item less at c.requires.knows) c.in_ok-pass.ensures.passes c.loop-k.invariant.walked;
      forms = each_more (λ (i : Item). HasForm i.kind) c.loop-k.k items item c.loop-k.invariant.forms less at c.pass.ensures.form;
    }

pub returns-clause-forms : goal.returns-clause-forms
returns-clause-forms c =
    each_all (λ (i : Item). HasForm i.kind) c.loop-k.k c.args.items.now c.loop-k.invariant.forms c.loop-k-test.false
