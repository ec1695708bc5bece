-- Debug items stay.
use Rattle.std.proofs.Common.{inl, inr, Bool, ℕ, suc, List, [], ◌∷◌, map, All, Option, Some, None, append-nil, refl, sym, arith}
use Rattle.rv64_instr.specs.declared.place.Place.{Place}
use Rattle.rv64_instr.specs.declared.place.Place.TheVariants.{Register, Slot, Const}
use Rattle.mir_func.specs.declared.location.Loc.{Loc}
use Rattle.mir_func.specs.declared.position.Origin.{Origin}
use Rattle.mir_func.specs.declared.position.Pos.{Pos}
use Rattle.mir_func.specs.declared.variable.MarkValue.{MarkValue}
use Rattle.mir_func.specs.declared.variable.MarkValue.TheVariants.{Nothing, Constant, At, Pair}
use Rattle.mir_func.specs.declared.block.Block.{Block}
use Rattle.mir_func.specs.declared.debug_substitution.DebugSubstitution.{DebugSubstitution}
use Rattle.mir_func.specs.declared.item.Item.{Item}
use Rattle.mir_func.specs.declared.item.ItemKind.{ItemKind}
use Rattle.mir_func.specs.declared.item.ItemKind.TheVariants.{Code, Mark, Phi}
use Rattle.mir_func.specs.Function.{Function}
use Rattle.mir_func.specs.Sound.{IsSound}
use Rattle.pass_trait.specs.Change.{Change}
use Rattle.pass_trait.specs.Rule.{item}
use Rattle.pass_trait.specs.Debug.{ValueStays, PlaceStays, IsKillAt, Becomes, mark_stays, phi_stays, code_stays, code_unnumbered}
use Rattle.pass_trait.specs.Debug.{BecomeAll, over, next, BlocksBecome, none}
use Rattle.pass_trait.specs.Debug.{stays as block_stays, IsLoss, IsFor, KeepsItems}
use Rattle.pass_trait.specs.Steps.{KeepsSteps}
use Rattle.global_registers.specs.Shared.{kind_by, item_by, block_by, function_by}
use Rattle.global_registers.specs.Pass.{shared_rule, shared_step}
use Rattle.global_registers.proofs.Stripping.{shared_stripped}
use Rattle.global_registers.proofs.Sound.{sound_by}

all_none : {A : Type 0} (P : A → Type 0) → All P []
all_none P k d lt = absurd (omega (arith, lt))

module _ (shares : Bool) (c : Change) where
  value_stays : (m : MarkValue) → ValueStays shared_rule c m
  value_stays Nothing = tt
  value_stays (Constant z) = tt
  value_stays (At r) = (λ slot h. h, λ now h. h)
  value_stays (Pair q) = tt

  place_stays : (p : Option Place) → PlaceStays shared_rule c p
  place_stays None = tt
  place_stays (Some (Register r)) = (λ slot h. h, λ now h. h)
  place_stays (Some (Slot n)) = tt
  place_stays (Some (Const z)) = tt

  becomes : (at : Pos) (k : ItemKind) (o : Origin) (l : Loc) → Becomes shared_rule c at (item k o l) (item (kind_by shares k) o l ∷ [])
  becomes at (Mark v m) o l = mark_stays (λ why h. h) (value_stays m)
  becomes at (Phi p k) o l = phi_stays (λ why h. h) (place_stays p)
  becomes at (Code i None) o l = code_unnumbered (λ k h. h)
  becomes at (Code i (Some k)) o l = code_stays (λ why h. h)

  become_all : (block n : ℕ) (xs : List Item) → BecomeAll shared_rule c block n xs (map (item_by shares) xs)
  become_all block n [] = over
  become_all block n (x ∷ xs) =
      next (becomes (record { block = block; item = n }) x.kind x.origin x.loc) (become_all block (suc n) xs)

  blocks_become : (bs : List Block) → BlocksBecome shared_rule c bs (map (block_by shares) bs)
  blocks_become [] = none
  blocks_become (b ∷ bs) =
      block_stays [] (map (item_by shares) b.items) refl refl refl refl (all_none (IsKillAt shared_rule c b.id))
      (become_all b.id 0 b.items) (blocks_become bs)

pub shared_steps : (shares : Bool) (f : Function) → IsSound f → (subs : List DebugSubstitution) →
    KeepsSteps (shared_step shares ∷ []) (record { old = f; old_subs = subs; new = function_by shares f; new_subs = subs }) []
shared_steps shares f sound subs =
    let c : Change = record { old = f; old_subs = subs; new = function_by shares f; new_subs = subs } in
    let kept : KeepsItems shared_rule c [] = record {
      blocks = blocks_become shares c f.blocks;
      subs = ([], sym (append-nil subs), refl, all_none (IsFor c []));
      said = all_none (IsLoss shared_rule c);
      told = λ l h. elim h [ inl w ↦ absurd w.1 | inr w ↦ absurd w.3 ];
      ordered = λ i j d lt within. absurd (omega (arith, within));
      caused = λ at l h. absurd h;
      left = λ r why h. absurd h;
      spilled = λ r slot h. absurd h;
      renamed = λ r now h. absurd h;
    } in (
      function_by shares f,
      subs,
      [],
      [],
      record { sound = sound_by shares f sound; code = shared_stripped shares f; items = kept },
      (refl, refl, refl),
      refl,
    )
