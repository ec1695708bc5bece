-- How blocks end: jumps and returns, and code that was added at the end of a block.
use Rattle.std.proofs.Common.{◌≡◌, ◌⊎◌, ℕ, zero, suc, ◌*◌, ◌<◌, ◌≤◌, List, [], ◌∷◌, slice_get}
use Rattle.std.proofs.Common.{Some, None, true, false}
use Rattle.std.proofs.Common.{refl, sym, ap, ◌∙◌, subst, inl, inr, arith}
use Rattle.rv64_instr.specs.LocationEffects.{IsSlotStore}
use Rattle.rv64_instr.specs.Row.{Row, Fixes, LoadsSlot, StoresSlot, Jumps, Returns, Unfit, row_of}
use Rattle.mir_func.specs.declared.exit.Exit.{Exit}
use Rattle.mir_func.specs.declared.exit.Exit.TheVariants.{Onward, Always, Final}
use Rattle.mir_func.specs.declared.item.Item.{Item}
use Rattle.mir_func.specs.declared.item.ItemKind.{ItemKind}
use Rattle.mir_func.specs.declared.item.ItemKind.TheVariants.{Code, Mark, Phi}
use Rattle.mir_func.specs.declared.position.Origin.{Origin}
use Rattle.mir_func.specs.declared.position.Origin.TheVariants.{Kept, Before}
use Rattle.mir_func.specs.declared.position.Pos.{Pos}
use Rattle.mir_func.specs.Exits.{row_exit, exit_of, row_leads_back}
use Rattle.mir_func.specs.Sound.{EndsWell, MayFollow}
use Rattle.mir_func.specs.Positions.{position_of}
use Rattle.sem_mir.specs.Align.{is_code, is_jump, is_jump_row, waits_at}
use Rattle.sem_mir.specs.Follow.{OnRow, MayAdd, next_rank}
use Rattle.sem_mir.specs.Follow.{Counts}

pub jump_always : (k : ItemKind) → is_jump k ≡ true → (n : ℕ) × (exit_of k ≡ Always n)
jump_always (Mark v m) e = cc
jump_always (Phi p n) e = cc
jump_always (Code c n) e = by_row (row_of c) e where
  by_row : (r : Row) → is_jump_row r ≡ true → (n : ℕ) × (row_exit r ≡ Always n)
  by_row (Jumps t) e = (t, refl)
  by_row _ e = cc

pub onward_always : {x : Exit} {n : ℕ} → x ≡ Onward → x ≡ Always n → ⊥
onward_always {n = n} a b = let bad : Onward ≡ Always n = sym a ∙ b in cc

-- nothing stands after a jump
pub ends_last : (xs : List Item) → EndsWell xs → (k l : ℕ) (x y : Item) (n : ℕ) → slice_get xs k ≡ Some x → exit_of x.kind ≡ Always n →
    slice_get xs l ≡ Some y → k < l → ⊥
ends_last [] h k l x y n e ex g lt = cc
ends_last (z ∷ xs) h zero zero x y n e ex g lt = omega (arith, lt)
ends_last (z ∷ xs) h zero (suc l) x y n e ex g lt =
    let same : z ≡ x = cc in
    let none : xs ≡ [] = subst (λ (w : Exit). MayFollow w xs) (ap (λ (w : Item). exit_of w.kind) same ∙ ex) h.0 in
    let bad : None ≡ Some y = ap (λ (ws : List Item). slice_get ws l) (sym none) ∙ g in
    cc
ends_last (z ∷ xs) h (suc k) zero x y n e ex g lt = omega (arith, lt)
ends_last (z ∷ xs) h (suc k) (suc l) x y n e ex g lt = ends_last xs h.1 k l x y n e ex g (omega (arith, lt))

-- a list has an element at each lower index
pub lower : (xs : List Item) (k l : ℕ) (x : Item) → slice_get xs k ≡ Some x → l < k → (y : Item) × (slice_get xs l ≡ Some y)
lower [] k l x e lt = cc
lower (z ∷ xs) zero l x e lt = absurd (omega (arith, lt))
lower (z ∷ xs) (suc k) zero x e lt = (z, refl)
lower (z ∷ xs) (suc k) (suc l) x e lt = lower xs k l x e (omega (arith, lt))

pub next_low : (o : Origin) → 2 * (position_of o).item ≤ next_rank o
next_low (Kept p) = omega arith
next_low (Before p) = omega arith

pub added_of : (o : Origin) → waits_at false o ≡ true → (q : Pos) × (o ≡ Before q)
added_of (Kept p) e = cc
added_of (Before p) e = (p, refl)

pub jump_may : (r : Row) (k source_end n : ℕ) → row_exit r ≡ Always n → MayAdd r k source_end → k ≡ source_end
jump_may (Jumps t) k source_end n e h = h
jump_may (Fixes rd m) k source_end n e h = cc
jump_may (LoadsSlot rd m) k source_end n e h = cc
jump_may (StoresSlot rs m) k source_end n e h = cc
jump_may _ k source_end n e h = absurd h

-- code at the end of a block stores a slot or jumps
pub end_row : (r : Row) (k source_end : ℕ) → k ≡ source_end → MayAdd r k source_end → IsSlotStore r ⊎ (is_jump_row r ≡ true)
end_row (StoresSlot rs n) k source_end e h = inl tt
end_row (Jumps t) k source_end e h = inr refl
end_row (Fixes rd n) k source_end e h = absurd (omega (arith, e, h))
end_row (LoadsSlot rd n) k source_end e h = absurd (omega (arith, e, h))
end_row _ k source_end e h = absurd h

pub final_row : (r : Row) → row_exit r ≡ Final → IsSlotStore r ⊎ (is_jump_row r ≡ true) → ⊥
final_row (Returns ending) e (inl h) = h
final_row (Returns ending) e (inr h) = cc
final_row Unfit e (inl h) = h
final_row Unfit e (inr h) = cc
final_row _ e h = cc

pub row_goes : (r : Row) → IsSlotStore r ⊎ (is_jump_row r ≡ true) → row_leads_back r ≡ false
row_goes (Returns ending) h = absurd (final_row (Returns ending) refl h)
row_goes Unfit h = absurd (final_row Unfit refl h)
row_goes _ h = refl

pub store_code : (k : ItemKind) → OnRow IsSlotStore k → is_code k ≡ true
store_code (Code c n) h = refl
store_code (Mark v m) h = absurd h
store_code (Phi p n) h = absurd h

pub counts_code : (k : ItemKind) → OnRow Counts k → is_code k ≡ true
counts_code (Code c n) h = refl
counts_code (Mark v m) h = absurd h
counts_code (Phi p n) h = absurd h
