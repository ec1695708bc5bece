-- What is kept over rounds.
use Rattle.std.proofs.Common.{◌≡◌, ℕ, suc, List, [], ◌∷◌, map, Bool, true, false, cond, refl, sym, ap, ◌∙◌, subst, arith}
use Rattle.std.proofs.Math.Nat.{le_refl, le_trans}
use Rattle.mir_func.specs.declared.position.Pos.{Pos}
use Rattle.mir_func.specs.declared.block.Block.{Block}
use Rattle.mir_func.specs.declared.debug_substitution.DebugSubstitution.{DebugSubstitution}
use Rattle.mir_func.specs.declared.item.Item.{Item}
use Rattle.mir_func.specs.Function.{Function}
use Rattle.mir_func.specs.Sound.{IsSound}
use Rattle.mir_func.specs.Strip.{stripped}
use Rattle.pass_trait.specs.declared.loss.Loss.{Loss}
use Rattle.pass_trait.specs.Change.{change}
use Rattle.pass_trait.specs.Sizes.{greatest, item_count, KeepsSizes}
use Rattle.dce_proof.specs.dce_rule.Dead.{Places, Ends, is_dead, needed_at, without_dead, thinned_block, IsRound, IsThinnedOut, over, again}
use Rattle.dce_proof.specs.dce_rule.Wrong.{silenced, silenced_left, silenced_block, taken_out}
use Rattle.dce_proof.specs.pass_edits.WeakSimulation.{PreservesWeakSimulation}
use Rattle.dce_proof.proofs.dce_rule.Stripped.{round_stripped}
use Rattle.dce_proof.proofs.dce_rule.Chain.{loose_laws}
use Rattle.dce_proof.proofs.dce_sweep.None.{silent_itself}
use Rattle.dce_proof.proofs.Follows.{round_follows, round_code}
use Rattle.dce_proof.specs.SizeLaws.{IsNoLarger}
use Rattle.dce_proof.proofs.Round.{round_sizes}
use Rattle.dce_pass.specs.Rounds.{AreDeadRounds, ended, and_round}
use Rattle.dce_pass.specs.RoundsLaws.{RoundsKeep}

-- ---- where nothing goes, nothing goes from the stripped function

never : Pos → Places
never p x = false

quiet_left : (n : ℕ) (xs : List Item) (needed : Places) → silenced_left (λ k x. false) n xs needed ≡ without_dead xs needed
quiet_left n [] needed = refl
quiet_left n (x ∷ xs) needed = by_test (is_dead x.kind (needed_at xs needed)) (quiet_left (suc n) xs needed) where
  by_test : (z : Bool) → silenced_left (λ k y. false) (suc n) xs needed ≡ without_dead xs needed →
      cond z (silenced_left (λ k y. false) (suc n) xs needed)
      (record x { kind = silenced (λ y. false) x.kind } ∷ silenced_left (λ k y. false) (suc n) xs needed) ≡
      cond z (without_dead xs needed) (x ∷ without_dead xs needed)
  by_test true h = h
  by_test false h = λ i. record x { kind = silent_itself x.kind i } ∷ h i

quiet_blocks : (ends : Ends) (bs : List Block) → map (silenced_block (λ p x. false) ends) bs ≡ map (thinned_block ends) bs
quiet_blocks ends [] = refl
quiet_blocks ends (b ∷ bs) =
    let here = quiet_left 0 b.items (ends b.id) in
    let rest = quiet_blocks ends bs in
    λ i. record { id = b.id; items = here i; source_end = b.source_end } ∷ rest i

pub settled_stripped : (f : Function) → IsRound f f → IsRound (stripped f) (stripped f)
settled_stripped f r =
    let one : IsRound (stripped f) (stripped (taken_out (λ p x. false) r.ends f)) = round_stripped f r.ends r.live (λ p x. false) in
    let blocks = quiet_blocks r.ends f.blocks in
    let same : taken_out (λ p x. false) r.ends f ≡ f = (λ i. record f { blocks = blocks i }) ∙ sym r.thins in
    subst (λ (g : Function). IsRound (stripped f) (stripped g)) same one

-- ---- sizes

no_larger_itself : (f : Function) (subs : List DebugSubstitution) → IsNoLarger f subs f subs
no_larger_itself f subs = record {
  items = le_refl (item_count f);
  code = le_refl _;
  calls = le_refl _;
  physical = λ h. h;
  numbers = le_refl _;
  slots = refl;
}

no_larger_then : (f g h : Function) (a b c : List DebugSubstitution) → IsNoLarger f a g b → IsNoLarger g b h c → IsNoLarger f a h c
no_larger_then f g h a b c x y = record {
  items = le_trans y.items x.items;
  code = le_trans y.code x.code;
  calls = le_trans y.calls x.calls;
  physical = λ p. y.physical (x.physical p);
  numbers = le_trans y.numbers x.numbers;
  slots = y.slots ∙ x.slots;
}

keeps_sizes : (f g : Function) (a b : List DebugSubstitution) → IsNoLarger f a g b → KeepsSizes 1 1 (change f a g b)
keeps_sizes f g a b h =
    let items = h.items in
    let code = h.code in
    let numbers = h.numbers in
    record {
      items = omega (arith, items);
      code = omega (arith, code);
      calls = h.calls;
      physical = h.physical;
      numbers = omega (arith, numbers);
      slots = (let e : greatest g.slots ≡ greatest f.slots = ap greatest h.slots in omega (arith, e));
    }

-- ---- one round after the other

record Chain (f : Function) (subs : List DebugSubstitution) (g : Function) (more : List DebugSubstitution) : Type 0 where
  sound : IsSound g
  loosely : PreservesWeakSimulation (change f subs g more)
  last : IsRound g g
  sizes : IsNoLarger f subs g more
  code : IsThinnedOut (stripped f) (stripped g)

chain : {f g : Function} {subs more : List DebugSubstitution} {losses : List Loss} → IsSound f → AreDeadRounds f subs g more losses → Chain f subs g more
chain {f} {g} {subs} {more} sound (ended r) = record {
  sound = sound;
  loosely = loose_laws.itself f subs;
  last = r;
  sizes = no_larger_itself f subs;
  code = over (settled_stripped f r);
}
chain {f} {g} {subs} {more} sound (and_round h mid here r rest) =
    let kept = round_follows f h subs mid here sound r in
    let next = chain kept.0 rest in
    record {
      sound = next.sound;
      loosely = loose_laws.then f h g subs mid more kept.1 next.loosely;
      last = next.last;
      sizes = no_larger_then f h g subs mid more (round_sizes f h subs mid here sound r) next.sizes;
      code = again (stripped h) (round_code f h subs mid here sound r).0 next.code;
    }

pub rounds_keep : RoundsKeep
rounds_keep f g subs more losses sound rounds =
    let c = chain sound rounds in
    record {
      sound = c.sound;
      follows = loose_laws.settles f g subs more c.loosely c.sound c.last;
      sizes = keeps_sizes f g subs more c.sizes;
      code = c.code;
    }
