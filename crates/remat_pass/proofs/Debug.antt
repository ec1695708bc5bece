-- Setting constants leaves debug items alone.
use Rattle.std.proofs.Common.{inl, inr, ℕ, suc, List, [], ◌∷◌, All, Option, Some, None, append-nil, refl, sym, arith}
use Rattle.rv64_instr.specs.declared.place.Place.{Place}
use Rattle.rv64_instr.specs.declared.place.Place.TheVariants.{Register, Slot, Const}
use Rattle.mir_func.specs.declared.location.Loc.{Loc}
use Rattle.mir_func.specs.declared.position.Origin.{Origin}
use Rattle.mir_func.specs.declared.position.Pos.{Pos}
use Rattle.mir_func.specs.declared.variable.MarkValue.{MarkValue}
use Rattle.mir_func.specs.declared.variable.MarkValue.TheVariants.{Nothing, Constant, At, Pair}
use Rattle.mir_func.specs.declared.block.Block.{Block}
use Rattle.mir_func.specs.declared.debug_substitution.DebugSubstitution.{DebugSubstitution}
use Rattle.mir_func.specs.declared.item.Item.{Item}
use Rattle.mir_func.specs.declared.item.ItemKind.{ItemKind}
use Rattle.mir_func.specs.declared.item.ItemKind.TheVariants.{Code, Mark, Phi}
use Rattle.mir_func.specs.Function.{Function}
use Rattle.mir_func.specs.Sound.{IsSound}
use Rattle.pass_trait.specs.Change.{Change}
use Rattle.pass_trait.specs.Rule.{item}
use Rattle.pass_trait.specs.Debug.{ValueStays, PlaceStays, IsKillAt, Becomes, mark_stays, phi_stays, code_stays, code_unnumbered}
use Rattle.pass_trait.specs.Debug.{BecomeAll, over, next, BlocksBecome, none}
use Rattle.pass_trait.specs.Debug.{stays as block_stays, IsLoss, IsFor, KeepsItems}
use Rattle.pass_trait.specs.Steps.{KeepsSteps}
use Rattle.remat_pass.specs.Known.{Known, nothing_known, known_past}
use Rattle.remat_pass.specs.Remat.{set_in, set_items, set_blocks, rematerialized}
use Rattle.remat_pass.specs.Pass.{remat_rule, remat_step}
use Rattle.remat_pass.proofs.Stripping.{rematerialized_stripped}
use Rattle.remat_pass.proofs.Sound.{sound_rematerialized}

all_none : {A : Type 0} (P : A → Type 0) → All P []
all_none P k d lt = absurd (omega (arith, lt))

module _ (c : Change) where
  value_stays : (m : MarkValue) → ValueStays remat_rule c m
  value_stays Nothing = tt
  value_stays (Constant z) = tt
  value_stays (At r) = (λ slot h. h, λ now h. h)
  value_stays (Pair q) = tt

  place_stays : (p : Option Place) → PlaceStays remat_rule c p
  place_stays None = tt
  place_stays (Some (Register r)) = (λ slot h. h, λ now h. h)
  place_stays (Some (Slot n)) = tt
  place_stays (Some (Const z)) = tt

  becomes : (known : Known) (at : Pos) (k : ItemKind) (o : Origin) (l : Loc) → Becomes remat_rule c at (item k o l) (item (set_in known k) o l ∷ [])
  becomes known at (Mark v m) o l = mark_stays (λ why h. h) (value_stays m)
  becomes known at (Phi p k) o l = phi_stays (λ why h. h) (place_stays p)
  becomes known at (Code i None) o l = code_unnumbered (λ k h. h)
  becomes known at (Code i (Some k)) o l = code_stays (λ why h. h)

  become_all : (block n : ℕ) (known : Known) (xs : List Item) → BecomeAll remat_rule c block n xs (set_items known xs)
  become_all block n known [] = over
  become_all block n known (x ∷ xs) =
      next (becomes known (record { block = block; item = n }) x.kind x.origin x.loc) (become_all block (suc n) (known_past (set_in known x.kind) known) xs)

  blocks_become : (bs : List Block) → BlocksBecome remat_rule c bs (set_blocks bs)
  blocks_become [] = none
  blocks_become (b ∷ bs) =
      block_stays [] (set_items nothing_known b.items) refl refl refl refl (all_none (IsKillAt remat_rule c b.id))
      (become_all b.id 0 nothing_known b.items) (blocks_become bs)

pub remat_steps : (f : Function) → IsSound f → (subs : List DebugSubstitution) →
    KeepsSteps (remat_step ∷ []) (record { old = f; old_subs = subs; new = rematerialized f; new_subs = subs }) []
remat_steps f sound subs =
    let c : Change = record { old = f; old_subs = subs; new = rematerialized f; new_subs = subs } in
    let kept : KeepsItems remat_rule c [] = record {
      blocks = blocks_become c f.blocks;
      subs = ([], sym (append-nil subs), refl, all_none (IsFor c []));
      said = all_none (IsLoss remat_rule c);
      told = λ l h. elim h [ inl w ↦ absurd w.1 | inr w ↦ absurd w.3 ];
      ordered = λ i j d lt within. absurd (omega (arith, within));
      caused = λ at l h. absurd h;
      left = λ r why h. absurd h;
      spilled = λ r slot h. absurd h;
      renamed = λ r now h. absurd h;
    } in (
      rematerialized f,
      subs,
      [],
      [],
      record { sound = sound_rematerialized f sound; code = rematerialized_stripped f; items = kept },
      (refl, refl, refl),
      refl,
    )
