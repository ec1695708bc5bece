-- How large a function is after a round.
use Rattle.std.proofs.Common.{◌≡◌, ℕ, ◌+◌, ◌-◌, ◌≤◌, List, All, Bool, refl, sym, ap, ◌∙◌, subst, arith}
use Rattle.mir_func.specs.declared.debug_substitution.DebugSubstitution.{DebugSubstitution}
use Rattle.mir_func.specs.Function.{Function}
use Rattle.mir_func.specs.Sound.{IsSound}
use Rattle.pass_trait.specs.declared.loss.Loss.{Loss}
use Rattle.pass_trait.specs.Change.{change}
use Rattle.pass_trait.specs.Sizes.{greatest_number, item_count, call_count, IsPhysical, KeepsSizes}
use Rattle.dce_round.proofs.pass_edits.Under.{BlocksUnder, EntryUnder}
use Rattle.dce_round.specs.dce_rule.Dead.{Ends}
use Rattle.dce_round.specs.dce_rule.Wrong.{taken_out}
use Rattle.dce_round.proofs.dce_rule.Fewer.{sizes_taken}
use Rattle.dce_round.proofs.dce_rule.Rounds.{ends_one}
use Rattle.dce_salvage.specs.SalvageBlocks.{BlocksSoFar, salvage_blocks}
use Rattle.dce_round.specs.dce_salvage_proof.SalvageLaws.{begins_off, all_off, function_off, KeepsOff}
use Rattle.dce_round.proofs.dce_salvage_proof.Chain.{all_went, salvage_numbers}
use Rattle.dce_round.specs.Round.{IsDeadRound}
use Rattle.dce_round.proofs.Follows.{round_code}
use Rattle.dce_proof.specs.SizeLaws.{IsNoLarger, RoundSizes}
use Rattle.dce_proof.proofs.Counts.{dead_in, dead_same, all_left, calls_same}
use Rattle.dce_proof.proofs.SalvagedNumbers.{BlocksGrow, blocks_grow, blocks_physical}
use Rattle.dce_proof.proofs.Numbers.{greatest_less}

module _ (f g : Function) (subs more : List DebugSubstitution) (losses : List Loss) (sound : IsSound f) (r : IsDeadRound f subs g more losses) where
  abbrev mid : Function
  mid = function_off f subs r.dead

  abbrev end : BlocksSoFar
  end = all_off f subs r.dead

  off : KeepsOff f subs r.dead
  off = salvage_numbers f subs r.dead sound

  -- the same places are needed at blocks' ends
  ends_are : r.judged.ends ≡ r.out.ends
  ends_are = ends_one f mid off.same r.judged.ends r.out.ends r.judged.live r.out.live

  grown : BlocksGrow r.judged.ends f.blocks (begins_off f subs) end
  grown =
      subst (λ (ds : List (List Bool)). BlocksGrow r.judged.ends f.blocks (begins_off f subs) (salvage_blocks ds f.blocks (begins_off f subs)))
      (sym r.judged.verdicts_are) (blocks_grow r.judged.ends f.blocks (begins_off f subs) refl)

  as_dead : dead_in r.out.ends mid.blocks ≡ dead_in r.judged.ends f.blocks
  as_dead =
      ap (λ (e : Ends). dead_in e mid.blocks) (sym ends_are) ∙
      dead_same r.judged.ends f.blocks mid.blocks (ap (λ (h : Function). h.blocks) off.stripped_is)

  left : item_count g + dead_in r.out.ends mid.blocks ≡ item_count mid
  left =
      ap (λ (h : Function). item_count h + dead_in r.out.ends mid.blocks) r.out.out ∙ all_left r.out.wrong r.out.ends mid.blocks

  abbrev last : ℕ
  last = end.fresh - 1

  fresh_is : last + 1 ≡ end.fresh
  fresh_is = let e = grown.least in omega (arith, e)

  greatest_mid : greatest_number mid end.subs ≤ last
  greatest_mid =
      let w = all_went f subs r.dead sound in
      greatest_less last mid.blocks end.subs (subst (λ (n : ℕ). BlocksUnder n mid.blocks) (sym fresh_is) w.ready.in_blocks)
      (subst (λ (n : ℕ). All (EntryUnder n) end.subs) (sym fresh_is) w.ready.in_entries)

  taken : KeepsSizes 1 0 (change mid end.subs (taken_out r.out.wrong r.out.ends mid) end.subs)
  taken = sizes_taken r.out.wrong r.out.ends mid end.subs

  greatest_now : greatest_number g more ≤ greatest_number mid end.subs
  greatest_now =
      let e = taken.numbers in
      let same : greatest_number g more ≡ greatest_number (taken_out r.out.wrong r.out.ends mid) end.subs =
      (λ i. greatest_number (r.out.out i) (r.entries i)) in
      omega (arith, e, same)

  pub no_larger : IsNoLarger f subs g more
  no_larger = record {
    items = (let a = grown.grows in let b = grown.least in let c = left in let d = as_dead in omega (arith, a, b, c, d));
    code = (let e = (round_code f g subs more losses sound r).1 in omega (arith, e));
    calls = (let a = taken.calls in
        let b : call_count g ≡ call_count (taken_out r.out.wrong r.out.ends mid) = ap call_count r.out.out in
        let c : call_count mid ≡ call_count f = calls_same f.blocks mid.blocks (ap (λ (h : Function). h.blocks) off.stripped_is) in
        omega (arith, a, b, c));
    physical = λ h. subst IsPhysical (sym r.out.out) (taken.physical (blocks_physical r.dead f.blocks (begins_off f subs) refl h));
    numbers = (let a = grown.grows in
        let b = left in
        let c = as_dead in
        let d = greatest_mid in
        let e = greatest_now in
        let k = fresh_is in
        omega (arith, a, b, c, d, e, k));
    slots = ap (λ (h : Function). h.slots) r.out.out;
  }

pub round_sizes : RoundSizes
round_sizes f g subs more losses sound r = no_larger f g subs more losses sound r
