-- Which blocks stay.
use Rattle.std.proofs.Common.{◌≡◌, ◌⊎◌, ℕ, List, Option, Some, inl, inr}
use Rattle.mir_func.specs.declared.block.Block.{Block}
use Rattle.fold_targets.specs.Ways.{EndsAt, leads_nowhere, comes_round, goes_on}
use Rattle.fold_targets.specs.Leads.{first_id, lead}
use Rattle.fold_targets.proofs.Ways.{one_end}
use Rattle.fold_rule.specs.Reached.{Reached, first, onward}
use Rattle.fold_rule.specs.Rule.{AreFolded}
use Rattle.fold_rule_proof.specs.Strips.{EndsStay}

-- where a way ends is its own end
end_again : (lead : ℕ → Option ℕ) → {n e : ℕ} → EndsAt lead n e → EndsAt lead e e
end_again lead (leads_nowhere h) = leads_nowhere h
end_again lead (comes_round h) = comes_round h
end_again lead (goes_on to apart rest) = end_again lead rest

reached_end : (old new : List Block) (folded : AreFolded old new) → {n : ℕ} → Reached old folded.end n → (first_id old ≡ Some n) ⊎ (folded.end n ≡ n)
reached_end old new folded (first e) = inl e
reached_end old new folded (onward {b} {n} w r e l) =
    inr (one_end (lead old) (folded.ends (folded.end n)) (end_again (lead old) (folded.ends n)))

pub ends_stay : EndsStay
ends_stay old new folded n h = reached_end old new folded ((folded.reached n).0 h)
