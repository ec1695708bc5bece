-- What stands above an item in its block, and the pairs that it defines.
use Rattle.std.proofs.Common.{◌≡◌, ℕ, ◌+◌, ◌<◌, List, take, refl, sym, ◌∙◌, arith, eqb-true}
use Rattle.std.specs.Prelude.{Contains, Option, Some, None, Bool, true, false, cond, ◌&&◌, is_some, nat_eq, slice_get}
use Rattle.std.specs.HashMap.{get}
use Rattle.std.proofs.lemmas.Bool.{and_parts}
use Rattle.rv64_instr.specs.Instruction.{Instruction}
use Rattle.rv64_instr.specs.LocationEffects.{is_call}
use Rattle.rv64_instr.specs.Row.{row_of}
use Rattle.mir_func.specs.declared.item.Item.{Item}
use Rattle.mir_func.specs.declared.item.ItemKind.TheVariants.{Code, Phi}
use Rattle.rv64_instr.specs.declared.place.Place.{Place}
use Rattle.sem_mir.specs.Step.{defined}
use Rattle.sem_value_ids.specs.Pullback as path
use Rattle.sem_value_ids.specs.Pullback.{OfPair}
use Rattle.value_proof.specs.Classes.{pairs_of, known_past}
use Rattle.value_proof.proofs.Pairs.{pair_in, past_has}
use Rattle.value_live_ins.specs.declared.above.NumberedItems.{NumberedItems}
use Rattle.value_live_ins.specs.Above.{AreAbove, DefinesAt}

pub above_set : (i number : ℕ) (old new : NumberedItems) →
    ((n : ℕ) → get nat_eq new.indices n ≡ cond (nat_eq number n) (Some i) (get nat_eq old.indices n)) → AreAbove i old → AreAbove (i + 1) new
above_set i number old new sets above n j e = by_test (nat_eq number n) (sym (sets n) ∙ e) where
  by_test : (b : Bool) → cond b (Some i) (get nat_eq old.indices n) ≡ Some j → j < i + 1
  by_test true h = let is : i ≡ j = cc in omega (arith, is)
  by_test false h = let lt = above n j h in omega (arith, lt)

pub above_more : (i : ℕ) (above : NumberedItems) → AreAbove i above → AreAbove (i + 1) above
above_more i above all n j e = let lt = all n j e in omega (arith, lt)

-- an item above that defines a pair makes it known
pub defined_above : (above : NumberedItems) (items : List Item) (i number operand : ℕ) → get nat_eq above.indices number ≡ Some i →
    DefinesAt items i number operand → (k : ℕ) (known : List path.Tracked) → AreAbove k above →
    Contains (known_past known (take k items)) (OfPair number operand)
defined_above above items i number operand found d k known all =
    past_has known items k i d.item (OfPair number operand) d.stands (all number i found) d.defines

some_is : (o : Option ℕ) → is_some o ≡ true → (r : ℕ) × (o ≡ Some r)
some_is (Some r) e = (r, refl)
some_is None e = absurd cc

pub code_has : (i : Instruction) (n k o : ℕ) → k ≡ n → is_some (defined (is_call (row_of i)) (slice_get i.operands o)) ≡ true →
    Contains (pairs_of (Code i (Some n))) (OfPair k o)
code_has i n k o is on =
    let d = some_is (defined (is_call (row_of i)) (slice_get i.operands o)) on in
    pair_in (Code i (Some n)) k o (is, d.0, d.1)

pub phi_has : (p : Option Place) (n k o : ℕ) → (nat_eq k n && nat_eq o 0) ≡ true → Contains (pairs_of (Phi p n)) (OfPair k o)
phi_has p n k o on =
    let both = and_parts (nat_eq k n) (nat_eq o 0) on in
    pair_in (Phi p n) k o (eqb-true k n both.0, eqb-true o 0 both.1)
