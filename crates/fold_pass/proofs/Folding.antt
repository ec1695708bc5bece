-- What folding makes of copied blocks is what the rule makes of the function.
use Rattle.std.proofs.Common.{◌≡◌, ◌↔◌, ℕ, List, map, Contains, Bool, IsTrue, sym, ◌∙◌, subst}
use Rattle.mir_func.specs.declared.block.Block.{Block}
use Rattle.mir_func.specs.Function.{Function}
use Rattle.pass_trait.specs.declared.loss.Loss.{Loss}
use Rattle.pass_trait.specs.Order.{IsInOrder}
use Rattle.fold_targets.specs.Ways.{EndsAt}
use Rattle.fold_targets.specs.Leads.{lead}
use Rattle.fold_targets.proofs.Ways.{one_end}
use Rattle.fold_rule.specs.Reached.{Reached}
use Rattle.fold_rule.specs.Rule.{AreFolded}
use Rattle.fold_proof.specs.fold_rule_proof.Kills.{with_kills, IsFoldedWithKills}
use Rattle.fold_proof.specs.Lost.{all_lost}
use Rattle.fold_pass.specs.Folded.{AreFoldedWithLosses}

-- ends that were found twice are the same
same_ends : (old new : List Block) (a : AreFolded old new) (end : ℕ → ℕ) → ((n : ℕ) → EndsAt (lead old) n (end n)) → a.end ≡ end
same_ends old new a end ends = λ i n. one_end (lead old) (a.ends n) (ends n) i

pub made_losses : (old new : List Block) (losses : List Loss) (made : List Block) (end : ℕ → ℕ) (was : ℕ → Bool) (a : AreFolded old made) →
    ((n : ℕ) → EndsAt (lead old) n (end n)) → ((n : ℕ) → IsTrue (was n) ↔ Reached old (λ m. m) n) → new ≡ map (with_kills end was old) made →
    IsInOrder losses → ((l : Loss) → Contains losses l ↔ Contains (all_lost end was (lead old) old) l) → AreFoldedWithLosses old new losses
made_losses old new losses made end was a ends reached is ordered each =
    let same = same_ends old made a end ends in
    record {
      blocks = made;
      folded = a;
      was = was;
      reached = reached;
      killed = is ∙ (λ i. map (with_kills (sym same i) was old) made);
      ordered = ordered;
      each = subst (λ (e : ℕ → ℕ). (l : Loss) → Contains losses l ↔ Contains (all_lost e was (lead old) old) l) (sym same) each;
    }

unfoldable pub with_all_kills : (f g : Function) (losses : List Loss) → AreFoldedWithLosses f.blocks g.blocks losses → g ≡ record f { blocks = g.blocks } →
    IsFoldedWithKills f g
with_all_kills f g losses h same = record {
  blocks = h.blocks;
  folded = h.folded;
  was = h.was;
  reached = h.reached;
  killed = same ∙ (λ i. record f { blocks = h.killed i });
}
