use Rattle.std.proofs.Common.{◌≡◌, ℕ, [], Option, drop, sym, ap, ◌∙◌, inl, inr}
use Rattle.std.proofs.lemmas.Result.{on_ok_weaker}
use Rattle.mir_func.specs.declared.exit.Exit.{Exit}
use Rattle.mir_func.specs.declared.exit.Exit.TheVariants.{Final}
use Rattle.mir_func.specs.declared.item.Item.{Item}
use Rattle.mir_func.specs.Exits.{exit_of}
use Rattle.fold_rule.specs.steps.Onward.{onward_count}
use Rattle.fold_targets.specs.Ends.{end_in}
use Rattle.fold_rule.specs.Tails.{first_of, else_way, tail_by, rewritten, branch_tail_to}
use Rattle.fold_rule.proofs.Tails.{finish, not_onward, first_from, none_left}
use Rattle.fold_rule.proofs.tail.rewrite.Goals as goal

pub returns-in-None : goal.returns-in-None
returns-in-None c =
    let at = c.args.at.now in
    let v = c.into_iter-tail.result.rest in
    let none : v.items ≡ [] = none_left v.items v.len (sym v.ok.0) c.in-None.ensures.cases.0 in
    on_ok_weaker c.push_plain.result
    (λ h. finish (end_in c.args.ends.now) at.next at.fall at.source_end c.args.items.now.items _ c.split_off.new.self.items v.items _
    c.onward_count-count.result (c.onward_count-count.ensures.count ∙ ap onward_count c.as_slice.ensures.value) c.in_ok-split_off.ensures.items
    (c.into_iter-tail.ensures.rest ∙ c.in_ok-split_off.ensures.tail)
    (ap (rewritten (end_in c.args.ends.now) at.next at.fall at.source_end) none) h) c.push_plain.ensures

pub returns-in-Always : goal.returns-in-Always
returns-in-Always c =
    let at = c.args.at.now in
    let v = c.into_iter-tail.result.rest in
    on_ok_weaker c.push_plain-in-Always.result
    (λ h. finish (end_in c.args.ends.now) at.next at.fall at.source_end c.args.items.now.items _ c.split_off.new.self.items v.items _
    c.onward_count-count.result (c.onward_count-count.ensures.count ∙ ap onward_count c.as_slice.ensures.value) c.in_ok-split_off.ensures.items
    (c.into_iter-tail.ensures.rest ∙ c.in_ok-split_off.ensures.tail)
    (ap (rewritten (end_in c.args.ends.now) at.next at.fall at.source_end) c.in-Some.ensures.items ∙
    ap (λ (z : Exit). tail_by (end_in c.args.ends.now) at.next at.fall at.source_end z c.in-Some.x (first_of c.next.new.self.rest.items)
    (rewritten (end_in c.args.ends.now) at.next at.fall at.source_end c.next.new.self.rest.items)) (sym c.in-Always.ensures)) h) c.push_plain-in-Always.ensures

pub returns-in-Perhaps : goal.returns-in-Perhaps
returns-in-Perhaps c =
    let at = c.args.at.now in
    let v = c.into_iter-tail.result.rest in
    on_ok_weaker c.push_branch.result
    (λ h. finish (end_in c.args.ends.now) at.next at.fall at.source_end c.args.items.now.items _ c.split_off.new.self.items v.items _
    c.onward_count-count.result (c.onward_count-count.ensures.count ∙ ap onward_count c.as_slice.ensures.value) c.in_ok-split_off.ensures.items
    (c.into_iter-tail.ensures.rest ∙ c.in_ok-split_off.ensures.tail)
    (ap (rewritten (end_in c.args.ends.now) at.next at.fall at.source_end) c.in-Some.ensures.items ∙
    ap (λ (z : Exit). tail_by (end_in c.args.ends.now) at.next at.fall at.source_end z c.in-Some.x (first_of c.next.new.self.rest.items)
    (rewritten (end_in c.args.ends.now) at.next at.fall at.source_end c.next.new.self.rest.items)) (sym c.in-Perhaps.ensures) ∙
    ap (λ (z : Option Item). branch_tail_to (end_in c.args.ends.now) at.next at.fall at.source_end c.in-Some.x z c.in-Perhaps.n (else_way z at.fall)) (sym
    (first_from c.next.new.self.rest.items c.next-in-Perhaps.result
    c.next-in-Perhaps.new.self.rest.items c.next-in-Perhaps.ensures.items (λ e.
    let k = rw e at c.next-in-Perhaps.ensures.cases in none_left c.next.new.self.rest.items c.next.new.self.rest.len (sym c.next.new.self.rest.ok.0)
    k.0)))) h) c.push_branch.ensures

pub returns : goal.returns
returns c =
    let at = c.args.at.now in
    let v = c.into_iter-tail.result.rest in
    let final : exit_of c.in-Some.x.kind ≡ Final = elim c.in-Onward.is [
      | inl e ↦ absurd (not_onward c.args.items.now.items c.in-Some.x c.next.new.self.rest.items
          (ap (λ (k : ℕ). drop k c.args.items.now.items) (sym (c.onward_count-count.ensures.count ∙ ap onward_count c.as_slice.ensures.value)) ∙
          sym c.in_ok-split_off.ensures.tail ∙ sym c.into_iter-tail.ensures.rest ∙ c.in-Some.ensures.items) (sym c.exit.ensures ∙ e))
      | inr e ↦ sym c.exit.ensures ∙ e
    ] in
    on_ok_weaker c.push_plain-in-Onward.result
    (λ h. finish (end_in c.args.ends.now) at.next at.fall at.source_end c.args.items.now.items _ c.split_off.new.self.items v.items _
    c.onward_count-count.result (c.onward_count-count.ensures.count ∙ ap onward_count c.as_slice.ensures.value) c.in_ok-split_off.ensures.items
    (c.into_iter-tail.ensures.rest ∙ c.in_ok-split_off.ensures.tail)
    (ap (rewritten (end_in c.args.ends.now) at.next at.fall at.source_end) c.in-Some.ensures.items ∙
    ap (λ (z : Exit). tail_by (end_in c.args.ends.now) at.next at.fall at.source_end z c.in-Some.x (first_of c.next.new.self.rest.items)
    (rewritten (end_in c.args.ends.now) at.next at.fall at.source_end c.next.new.self.rest.items)) final) h) c.push_plain-in-Onward.ensures
