-- The frame stands on, whatever slots that weren't written get.
use Rattle.std.proofs.Common.{◌≡◌, ℕ, ◌<◌, ◌≤◌, ◌-◌, List, [], ◌∷◌, Contains, Option, Some, None, IsSome, refl, sym, ap, ◌∙◌}
use Rattle.mir_func.specs.declared.block.Block.{Block}
use Rattle.mir_func.specs.declared.debug_substitution.OperandPair.{OperandPair}
use Rattle.mir_func.specs.declared.framed.SavedRegister.{SavedRegister}
use Rattle.mir_func.specs.declared.position.Pos.{Pos}
use Rattle.mir_func.specs.Function.{Function}
use Rattle.mir_func.specs.Sound.{IsSound, LastCloses}
use Rattle.mir_func.specs.SoundFrame.{SAVED}
use Rattle.sem_mir.specs.State.{Core, content}
use Rattle.frame_rule.specs.Rule.{saved_of, size_of, framed_of}
use Rattle.frame_rule.proofs.Saved.{all_given, saved_in}
use Rattle.frame_proof.specs.Stands.{FrameStands, IsEntered}
use Rattle.frame_theorem.specs.StandsOn.{StandsOn, start, stepped, filled, FrameStandsOn}
use Rattle.frame_proof.proofs.FrameStands.{tame}
use Rattle.frame_proof.proofs.Holding.{Holds}
use Rattle.frame_proof.proofs.Positions.{stands_by}
use Rattle.frame_proof.proofs.Standing.{Part, lowering, saving, body, loading, loaded, part_step, part_start}

some_of : (x : Option ℕ) → IsSome x → (v : ℕ) × (x ≡ Some v)
some_of None is = cc
some_of (Some v) is = (v, refl)

module _ (f : Function) (resolve : OperandPair → Option OperandPair) (e : Core) (written : (r : ℕ) → Contains SAVED r → IsSome (content e.regs r)) (c d : Core)
    (is : d ≡ record c { slots = d.slots; pairs = d.pairs; marks = d.marks }) (keeps : (o v : ℕ) → c.slots o ≡ Some v → d.slots o ≡ Some v) where
  holds_filled : (x2 : ℕ) (InPlace : SavedRegister → Type 0) (Same : ℕ → Type 0) → ((s : SavedRegister) → InPlace s → Contains (saved_of f) s) →
      Holds e x2 InPlace Same c → Holds e x2 InPlace Same d
  holds_filled x2 InPlace Same within h = record {
    pointer = ap (λ (x : Core). content x.regs 2) is ∙ h.pointer;
    places = λ s k. (let v = some_of (content e.regs s.register) (written s.register (saved_in f s (within s k))) in
        keeps s.offset v.0 (h.places s k ∙ v.1) ∙ sym v.1);
    same = λ r k. ap (λ (x : Core). content x.regs r) is ∙ h.same r k;
  }

  pub part_filled : (p : Pos) → Part f resolve e p c → Part f resolve e p d
  part_filled p (lowering o at made w h) = lowering o at made w (holds_filled e.entry (λ s. ⊥) (Contains SAVED) (λ s k. absurd k) h)
  part_filled p (saving o from rs zero_block first w split within h) =
      saving o from rs zero_block first w split within
      (holds_filled (e.entry - size_of f) (λ s. Contains (saved_of f) s × (s.offset < from)) (Contains SAVED) (λ s k. k.0) h)
  part_filled p (body xs inside w fits h) =
      body xs inside w fits
      (holds_filled (e.entry - size_of f) (λ s. Contains (saved_of f) s)
      (λ r. Contains SAVED r × ((s : SavedRegister) × Contains (saved_of f) s × (s.register ≡ r) → ⊥)) (λ s k. k) h)
  part_filled p (loading x rest todo inside made final w within h) =
      loading x rest todo inside made final w within
      (holds_filled (e.entry - size_of f) (λ s. Contains (saved_of f) s)
      (λ r. Contains SAVED r × ((s : SavedRegister) × Contains todo s × (s.register ≡ r) → ⊥)) (λ s k. k) h)
  part_filled p (loaded x rest inside final w h) =
      loaded x rest inside final w (holds_filled e.entry (λ s. ⊥) (Contains SAVED) (λ s k. absurd k) h)

module _ (f : Function) (resolve : OperandPair → Option OperandPair) (sound : IsSound f) (small : size_of f ≤ 2032) (e : Core) (entered : IsEntered e)
    (written : (r : ℕ) → Contains SAVED r → IsSome (content e.regs r)) (b : Block) (more : List Block) (blocks : f.blocks ≡ b ∷ more) where
  part_on : {p : Pos} {d : Core} → StandsOn f resolve e p d → Part f resolve e p d
  part_on start = part_start f resolve e entered small (tame f resolve sound e) b more blocks all_given
  part_on (stepped t u stands go) = part_step f resolve e entered small (tame f resolve sound e) b more blocks all_given t u (part_on stands) go
  part_on (filled p c d is keeps stands) = part_filled f resolve e written c d is keeps p (part_on stands)

pub frame_stands_on : FrameStandsOn
frame_stands_on f resolve sound small e entered written p d stands = by_blocks f.blocks refl sound.last where
  by_blocks : (bs : List Block) → f.blocks ≡ bs → LastCloses bs → FrameStands (framed_of f) e p d
  by_blocks [] w closes = absurd closes
  by_blocks (b ∷ more) w closes = stands_by f resolve e p d (part_on f resolve sound small e entered written b more w stands)
