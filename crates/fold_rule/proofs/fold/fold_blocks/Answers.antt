use Rattle.std.proofs.Common.{◌≡◌, ◌↔◌, ℕ, List, Option, nat_eq, IsTrue, ap, ◌∙◌, subst}
use Rattle.std.specs.HashSet.{contains}
use Rattle.std.proofs.lemmas.Result.{on_ok_weaker}
use Rattle.mir_func.specs.declared.block.Block.{Block}
use Rattle.fold_targets.specs.Ways.{EndsAt}
use Rattle.fold_targets.specs.Leads.{lead}
use Rattle.fold_targets.specs.Ends.{told, end_in}
use Rattle.fold_rule.specs.Reached.{Reached}
use Rattle.fold_rule.proofs.fold.fold_blocks.Goals as goal

pub returns : goal.returns
returns c =
    let end : ℕ → ℕ = end_in c.in_ok-ends.ends in
    let leads : told c.in_ok-leads.leads ≡ lead c.args.blocks.now.items =
    λ i m. (c.in_ok-leads.ensures m ∙ ap (λ (z : List Block). lead z m) c.as_slice.ensures.value) i in
    on_ok_weaker c.write_anew.result
    (λ h. record {
      end = end;
      stays = contains nat_eq c.in_ok-stays.stays;
      ends = λ n. subst (λ (f : ℕ → Option ℕ). EndsAt f n (end n)) leads (c.in_ok-ends.ensures n);
      reached = λ n. subst (λ (z : List Block). IsTrue (contains nat_eq c.in_ok-stays.stays n) ↔ Reached z end n) c.as_slice-2.ensures.value
          (c.in_ok-stays.ensures n);
      blocks = h;
    }) c.write_anew.ensures
