use Rattle.std.proofs.Common.{◌≡◌, ℕ, ◌<◌, ◌≤◌, ◌-◌, ◌+◌, List, Option, length, slice_set, ap, ◌∙◌, sym, subst, arith}
use Rattle.std.proofs.lemmas.List.{length-set}
use Rattle.scan_choice.proofs.Entered.{entered_at, entered_others, same_entries}
use Rattle.scan_choice.specs.Given.{given_by}
use Rattle.scan_choice.proofs.given.put.Goals as goal

pub set_entry-requires : goal.set_entry-requires
set_entry-requires c = let long = c.in_ok-lengthen.ensures.long in omega (arith, long)

pub returns-clause-few : goal.returns-clause-few
returns-clause-few c =
    let same : length c.set_entry.new.given.items ≡ length c.lengthen.new.given.items =
    ap length c.set_entry.ensures ∙ length-set c.lengthen.new.given.items _ _ in
    let few = c.in_ok-lengthen.ensures.few in
    omega (arith, same, few)

pub returns-clause-at : goal.returns-clause-at
returns-clause-at c =
    let below : c.args.a.now.register - 32 < length c.lengthen.new.given.items =
    subst (λ (k : ℕ). k < length c.lengthen.new.given.items) c.index_of-k.ensures.index (let long = c.in_ok-lengthen.ensures.long in omega (arith, long)) in
    ap (λ (given : List (Option ℕ)). given_by given c.args.a.now.register)
    (c.set_entry.ensures ∙ ap (λ (k : ℕ). slice_set c.lengthen.new.given.items k c.args.a.now.given) c.index_of-k.ensures.index) ∙
    entered_at c.lengthen.new.given.items c.args.a.now.register c.requires.low below c.args.a.now.given

pub returns-clause-others : goal.returns-clause-others
returns-clause-others c r ne =
    let below : c.args.a.now.register - 32 < length c.lengthen.new.given.items =
    subst (λ (k : ℕ). k < length c.lengthen.new.given.items) c.index_of-k.ensures.index (let long = c.in_ok-lengthen.ensures.long in omega (arith, long)) in
    ap (λ (given : List (Option ℕ)). given_by given r)
    (c.set_entry.ensures ∙ ap (λ (k : ℕ). slice_set c.lengthen.new.given.items k c.args.a.now.given) c.index_of-k.ensures.index) ∙
    entered_others c.lengthen.new.given.items c.args.a.now.register c.requires.low below c.args.a.now.given r ne ∙
    same_entries c.args.given.now.items c.lengthen.new.given.items c.in_ok-lengthen.ensures.same r
