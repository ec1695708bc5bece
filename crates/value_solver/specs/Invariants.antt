-- Invariants of the table of entries while blocks are visited, in any order.
use Rattle.std.specs.Prelude.{◌≡◌, ℕ, suc, ◌+◌, ◌-◌, ◌<◌, max, cond, List, [], ◌∷◌, length, slice_get, slice_index_or, Bool, true, false, not, nat_eq}
use Rattle.std.specs.Prelude.{None, Some}
use Rattle.std.specs.List.{list_all}
use Rattle.dataflow.specs.Graph.{ways_at, ArePredecessors}
use Rattle.mir_func.specs.Graph.{Program}
use Rattle.sem_value_ids.specs.sem_mir.ValueId.{Tokens}
use Rattle.value_solver.specs.declared.tracked.Tracked.{Tracked}
use Rattle.value_solver.specs.declared.entry.BlockEntry.{BlockEntry}
use Rattle.value_solver.specs.Entry.{PathTo, IsReached}
use Rattle.value_solver.specs.declared.flow.Flow.{Flow}
use Rattle.value_solver.specs.Numbering.{IsNumbered}
use Rattle.value_solver.specs.Joining.{IsKnown, Hand, agree, hand_bit, alike}
use Rattle.value_solver.specs.Hands.{handed, ways_of, IsShaped, AreSoundFlows}
use Rattle.value_solver.specs.Flows.{token_at, AreFlows, IsStart}

-- on some path to the block's start the tokens of two entities differ
abbrev pub Differ : Program → List Tracked → (block : ℕ) → (x y : ℕ) → Type 0
Differ g xs b x y = (n : ℕ) × (t : Tokens) × PathTo g b n t × (token_at xs x t ≡ token_at xs y t → ⊥)

-- on some path to it an entity has no token
abbrev pub Lacks : Program → List Tracked → (block : ℕ) → (x : ℕ) → Type 0
Lacks g xs b x = (n : ℕ) × (t : Tokens) × PathTo g b n t × (token_at xs x t ≡ None)

-- a proven entry: some path leads to its block, two entities with different classes differ on some path, and one with its bit
-- unset lacks a token on some path
pub record IsProven (g : Program) (xs : List Tracked) (b : ℕ) (e : BlockEntry) : Type 0 where
  pub reached : IsReached g b
  pub apart : (x y : ℕ) → alike e x y ≡ false → Differ g xs b x y
  pub off : (i : ℕ) → i < length xs → slice_index_or e.given i false ≡ false → Lacks g xs b (suc i)

-- the entry is no more precise than the new join: what has the same class or a set bit in the entry has so in all that is
-- propagated into it, and the entry is reached if anything is
pub record IsSettled (n : ℕ) (hands : List Hand) (e : BlockEntry) : Type 0 where
  pub reached : not (nat_eq (length hands) 0) ≡ true → e.reached ≡ true
  pub one : (x y : ℕ) → alike e x y ≡ true → list_all (agree x y) hands ≡ true
  pub bit : (i : ℕ) → i < n → slice_index_or e.given i false ≡ true → list_all (λ h. hand_bit h i) hands ≡ true

-- the new join is no more precise than the entry: what has the same class or a set bit in all that is propagated has so in the
-- entry, and something is propagated if the entry is reached
pub record IsRefined (n : ℕ) (hands : List Hand) (e : BlockEntry) : Type 0 where
  pub reached : e.reached ≡ true → not (nat_eq (length hands) 0) ≡ true
  pub one : (x y : ℕ) → list_all (agree x y) hands ≡ true → alike e x y ≡ true
  pub bit : (i : ℕ) → i < n → list_all (λ h. hand_bit h i) hands ≡ true → slice_index_or e.given i false ≡ true

-- each reached entry of the table is proven
abbrev pub AreProven : Program → List Tracked → List BlockEntry → Type 0
AreProven g xs entries = (b : ℕ) (e : BlockEntry) → slice_get entries b ≡ Some e → e.reached ≡ true → IsProven g xs b e

-- each entry of a block outside the worklist (`dirty`) satisfies `IsSettled`
abbrev pub AreSettled : (n : ℕ) → BlockEntry → List Flow → List (List ℕ) → List BlockEntry → (dirty : List Bool) → Type 0
AreSettled n start flows preds entries dirty = (b : ℕ) (e : BlockEntry) → slice_get entries b ≡ Some e → slice_index_or dirty b true ≡ false →
    IsSettled n (handed start flows entries b (ways_at preds b)) e

-- each reached entry satisfies `IsRefined`
abbrev pub AreRefined : (n : ℕ) → BlockEntry → List Flow → List (List ℕ) → List BlockEntry → Type 0
AreRefined n start flows preds entries = (b : ℕ) (e : BlockEntry) → slice_get entries b ≡ Some e → e.reached ≡ true →
    IsRefined n (handed start flows entries b (ways_at preds b)) e

-- the flows, the start entry and the predecessors are those of a program
pub record Facts (g : Program) (xs : List Tracked) (start : BlockEntry) (flows : List Flow) (preds : List (List ℕ)) : Type 0 where
  pub are_flows : AreFlows g xs flows
  pub is_start : IsStart xs start
  pub are_sound : AreSoundFlows (length xs) flows
  pub are_preds : ArePredecessors (ways_of flows) preds

-- a dataflow problem: a known start entry over at least one tracked entity, and flows between existing blocks with their
-- predecessors
pub record IsProblem (start : BlockEntry) (flows : List Flow) (preds : List (List ℕ)) : Type 0 where
  pub few : length start.classes < 4294967295
  pub some : 0 < length start.classes
  pub known : IsKnown (length start.classes) start
  pub sound : AreSoundFlows (length start.classes) flows
  pub predecessors : ArePredecessors (ways_of flows) preds

-- the number of classes other than 0, if they are numbered by first appearance and `used` of them, with 0, come before the list
abbrev pub classes_from : (used : ℕ) → List ℕ → ℕ
classes_from n [] = n - 1
classes_from n (c ∷ cs) = classes_from (max n (suc c)) cs

-- the number of unset bits
abbrev pub count_off : List Bool → ℕ
count_off [] = 0
count_off (z ∷ gs) = cond z (count_off gs) (suc (count_off gs))

-- an entry's measure, which grows with each change: its classes other than 0 plus its unset bits, and 0 for an unreached block
abbrev pub weight : BlockEntry → ℕ
weight e = cond e.reached (classes_from 1 e.classes + count_off e.given) 0

-- the measure of a table: the sum over its entries
abbrev pub weight_of : List BlockEntry → ℕ
weight_of [] = 0
weight_of (e ∷ es) = weight e + weight_of es

-- the invariant of a table of entries and its worklist
pub record IsTable (n : ℕ) (start : BlockEntry) (flows : List Flow) (preds : List (List ℕ)) (entries : List BlockEntry) (dirty : List Bool) : Type 0 where
  pub long : length entries ≡ length flows
  pub marks : length dirty ≡ length flows
  pub shaped : (b : ℕ) (e : BlockEntry) → slice_get entries b ≡ Some e → IsShaped n e
  pub numbered : (b : ℕ) (e : BlockEntry) → slice_get entries b ≡ Some e → e.reached ≡ true → (m : ℕ) × IsNumbered 1 e.classes m
  pub settled : AreSettled n start flows preds entries dirty
  pub refined : AreRefined n start flows preds entries

-- the step of a sweep at block b. It preserves the invariants; if the entry changes the measure grows, otherwise b leaves the
-- worklist and no block enters
pub record Turned (n : ℕ) (start : BlockEntry) (flows : List Flow) (preds : List (List ℕ)) (old new : List BlockEntry) (before after : List Bool) (b : ℕ)
    (changed : Bool) : Type 0 where
  pub table : IsTable n start flows preds new after
  pub proven : (g : Program) (xs : List Tracked) → length xs ≡ n → Facts g xs start flows preds → AreProven g xs old → AreProven g xs new
  pub heavier : changed ≡ true → weight_of old < weight_of new
  pub same : changed ≡ false → new ≡ old
  pub unmarked : changed ≡ false → slice_index_or after b true ≡ false
  pub fewer : changed ≡ false → (c : ℕ) → slice_index_or before c true ≡ false → slice_index_or after c true ≡ false

-- the invariant while the problem is solved
pub record IsState (n : ℕ) (start : BlockEntry) (flows : List Flow) (preds : List (List ℕ)) (entries : List BlockEntry) (dirty : List Bool) : Type 0 where
  pub problem : IsProblem start flows preds
  pub table : IsTable n start flows preds entries dirty
  pub proven : (g : Program) (xs : List Tracked) → length xs ≡ n → Facts g xs start flows preds → AreProven g xs entries
