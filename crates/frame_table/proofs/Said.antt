-- What a row says of a state of a frame can be written.
use Rattle.std.specs.List.{AllByRecursion}
use Rattle.std.proofs.Common.{◌≡◌, ℕ, zero, suc, ◌-◌, ◌%◌, ◌^◌, ◌<◌, ◌≤◌, Bool, true, false, cond, nat_eq, not, List, [], ◌∷◌, ◌++◌, map}
use Rattle.std.proofs.Common.{Contains, Some, None, refl, subst, arith, eqb-true}
use Rattle.std.proofs.lemmas.Bool.{false≢true}
use Rattle.std.proofs.lemmas.List.Elements.{All-from_recursion, recursion_from_All}
use Rattle.mir_func.specs.declared.framed.SavedRegister.{SavedRegister}
use Rattle.mir_func.specs.declared.position.Pos.{Pos}
use Rattle.mir_func.specs.Function.{FramedFunction}
use Rattle.mir_func.specs.SoundFrame.{SAVED, slot_offsets, IsSlotOffset, IsFramed}
use Rattle.frame_proof.specs.Stands.{is_as_found, frame_state}
use Rattle.dwarf_frame.specs.declared.table.FrameRow.{FrameRow}
use Rattle.dwarf_frame.specs.Table.{is_saved, none_saved, IsDistance, AreRules}
use Rattle.dwarf_frame.proofs.Opcodes.{none_fit}
use Rattle.frame_table.specs.Table.{distance_in, distances_from, frame_row}
use Rattle.frame_table.proofs.Distances.{length-distances}

-- a saved register has a slot of the frame and is one that a frame saves
pub record IsGood (f : FramedFunction) (s : SavedRegister) : Type 0 where
  pub offset : IsSlotOffset f s.offset
  pub kept : Contains SAVED s.register

distance_fits : (f : FramedFunction) → f.size % 16 ≡ 0 → f.size < 2 ^ 32 → (saved : List SavedRegister) → AllByRecursion (IsGood f) saved → (register : ℕ)
    → IsDistance (distance_in f.size saved register)
distance_fits f aligned small [] good register = tt
distance_fits f aligned small (s ∷ saved) good register = by (distance_fits f aligned small saved good.1 register) (nat_eq s.register register) where
  by : IsDistance (distance_in f.size saved register) → (b : Bool) → IsDistance (cond b (Some (f.size - s.offset)) (distance_in f.size saved register))
  by rest true = (omega (arith, aligned, good.0.offset.0, good.0.offset.1), omega (arith, small))
  by rest false = rest

distances_fit : (f : FramedFunction) → f.size % 16 ≡ 0 → f.size < 2 ^ 32 → AllByRecursion (IsGood f) f.saved → (register count : ℕ)
    → AllByRecursion IsDistance (distances_from f register count)
distances_fit f aligned small good register zero = tt
distances_fit f aligned small good register (suc count) =
    (distance_fits f aligned small f.saved good register, distances_fit f aligned small good (suc register) count)

-- a register that no frame saves has no distance
never : (size : ℕ) (f : FramedFunction) (saved : List SavedRegister) → AllByRecursion (IsGood f) saved → (register : ℕ)
    → (Contains SAVED register → ⊥) → distance_in size saved register ≡ None
never size f [] good register none = refl
never size f (s ∷ saved) good register none = by (never size f saved good.1 register none) (nat_eq s.register register) refl where
  by : distance_in size saved register ≡ None → (b : Bool) → nat_eq s.register register ≡ b
      → cond b (Some (size - s.offset)) (distance_in size saved register) ≡ None
  by rest true same = absurd (none (subst (Contains SAVED) (eqb-true s.register register same) good.0.kept))
  by rest false other = rest

no_zero : Contains SAVED 0 → ⊥
no_zero (k, inside, at) = grind (arith, k, inside, at)

no_pointer : Contains SAVED 2 → ⊥
no_pointer (k, inside, at) = grind (arith, k, inside, at)

-- what the section says of a frame: it can be written, and saved registers are always at the same distances
pub record IsSaid (f : FramedFunction) (rules : FrameRow) : Type 0 where
  pub are : AreRules rules
  pub saved : is_saved rules.saved ≡ true → rules.saved ≡ distances_from f 0 32

said_state : (f : FramedFunction) → f.size % 16 ≡ 0 → f.size < 2 ^ 32 → AllByRecursion (IsGood f) f.saved → (lowered : ℕ) (saved : Bool) → lowered ≤ f.size
    → IsSaid f (frame_row f (record { lowered = lowered; saved = saved }))
said_state f aligned small good lowered true low = record {
  are = record {
    offset = omega (arith, low, small);
    registers = length-distances f 0 32;
    distances = All-from_recursion IsDistance (distances_from f 0 32) (distances_fit f aligned small good 0 32);
    zero = never f.size f f.saved good 0 no_zero;
    pointer = never f.size f f.saved good 2 no_pointer;
  };
  saved = λ is. refl;
}
said_state f aligned small good lowered false low = record {
  are = record {
    offset = omega (arith, low, small);
    registers = refl;
    distances = All-from_recursion IsDistance none_saved (none_fit 32);
    zero = refl;
    pointer = refl;
  };
  saved = λ is. absurd (false≢true is);
}

all_right : (P : ℕ → Type 0) (xs ys : List ℕ) → AllByRecursion P (xs ++ ys) → AllByRecursion P ys
all_right P [] ys all = all
all_right P (x ∷ xs) ys all = all_right P xs ys all.1

-- the offsets of saved registers are among those of the frame
goods : (f : FramedFunction) (saved : List SavedRegister) → AllByRecursion (IsSlotOffset f) (map (λ s. s.offset) saved)
    → AllByRecursion (λ s. Contains SAVED s.register) saved → AllByRecursion (IsGood f) saved
goods f [] offsets kept = tt
goods f (s ∷ saved) offsets kept = (record { offset = offsets.0; kept = kept.0 }, goods f saved offsets.1 kept.1)

pub all_good : (f : FramedFunction) → IsFramed f → AllByRecursion (IsGood f) f.saved
all_good f framed =
    goods f f.saved
    (all_right (IsSlotOffset f) (map (λ s. s.offset) f.offsets) (map (λ s. s.offset) f.saved)
    (recursion_from_All (IsSlotOffset f) (slot_offsets f) framed.offsets))
    (recursion_from_All (λ s. Contains SAVED s.register) f.saved framed.saved_kept)

pub said : (f : FramedFunction) → IsFramed f → (p : Pos) → IsSaid f (frame_row f (frame_state f p))
said f framed p = by (is_as_found f p) where
  small : f.size < 2 ^ 32
  small = omega (arith, framed.small)

  by : (b : Bool) →
      IsSaid f (frame_row f (cond b (record { lowered = 0; saved = false }) (record { lowered = f.size; saved = not (nat_eq p.block 0) })))
  by true = said_state f framed.aligned small (all_good f framed) 0 false (omega arith)
  by false = said_state f framed.aligned small (all_good f framed) f.size (not (nat_eq p.block 0)) (omega arith)
