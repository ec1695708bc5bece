-- The invariants while the problem is solved, and what they say at the fixpoint.
use Rattle.std.proofs.Common.{◌≡◌, ℕ, ◌-◌, ◌*◌, ◌<◌, ◌≤◌, List, [], length, Bool, true, false, Some, refl, sym, ap, ◌∙◌, subst, inr, arith}
use Rattle.std.specs.Prelude.{slice_get, slice_index_or}
use Rattle.std.proofs.lemmas.Bool.{false≢true}
use Rattle.std.proofs.lemmas.Option.{slice_get_within}
use Rattle.dataflow.specs.Fixpoint.{Visited}
use Rattle.dataflow.specs.Graph.{ways_at, ArePredecessors}
use Rattle.mir_func.specs.Graph.{Program}
use Rattle.value_solver.specs.declared.tracked.Tracked.{Tracked}
use Rattle.value_solver.specs.declared.entry.BlockEntry.{BlockEntry}
use Rattle.value_solver.specs.Entry.{IsEntry}
use Rattle.value_solver.specs.declared.flow.Flow.{Flow}
use Rattle.value_solver.specs.declared.solve.Table.{Table}
use Rattle.value_solver.specs.Hands.{ways_of, AreSoundFlows, IsShaped, handed}
use Rattle.value_solver.specs.Flows.{AreFlows, IsStart}
use Rattle.value_solver.specs.Invariants.{IsProblem, IsTable, Turned, IsState, AreProven, Facts, IsSettled, weight_of}
use Rattle.value_solver.proofs.Weights.{light, light_table}
use Rattle.value_solver.proofs.Proven.{exact}

-- a table weighs so much at most
pub table_is_light : (n : ℕ) (start : BlockEntry) (flows : List Flow) (preds : List (List ℕ)) (entries : List BlockEntry) (dirty : List Bool) →
    IsTable n start flows preds entries dirty → weight_of entries ≤ 2 * n * length flows
table_is_light n start flows preds entries dirty t =
    subst (λ (z : ℕ). weight_of entries ≤ 2 * n * z) t.long (light_table n entries (λ b e at. light n e (t.shaped b e at) (λ r. t.numbered b e at r)))

-- a turn is a visit of the analysis
pub turned_visit : (n : ℕ) (start : BlockEntry) (flows : List Flow) (preds : List (List ℕ)) (old new : Table) (b : ℕ) (changed : Bool) →
    IsState n start flows preds old.entries.items old.dirty.items →
    Turned n start flows preds old.entries.items new.entries.items old.dirty.items new.dirty.items b changed →
    Visited (λ (t : Table). IsState n start flows preds t.entries.items t.dirty.items) (λ (t : Table) c. slice_index_or t.dirty.items c true ≡ false)
    (λ (t : Table). 2 * n * length flows - weight_of t.entries.items) old new b changed
turned_visit n start flows preds old new b changed s t = record {
  valid = record { problem = s.problem; table = t.table; proven = λ g xs is facts. t.proven g xs is facts (s.proven g xs is facts) };
  level = by_change changed t.heavier t.same;
  lower = λ e. let more : weight_of old.entries.items < weight_of new.entries.items = t.heavier e in omega (arith, more, light_new);
  closed = t.unmarked;
  kept = t.fewer;
} where
  light_new : weight_of new.entries.items ≤ 2 * n * length flows
  light_new = table_is_light n start flows preds new.entries.items new.dirty.items t.table

  by_change : (z : Bool) → (z ≡ true → weight_of old.entries.items < weight_of new.entries.items) → (z ≡ false → new.entries.items ≡ old.entries.items) →
      2 * n * length flows - weight_of new.entries.items ≤ 2 * n * length flows - weight_of old.entries.items
  by_change true more same = let l : weight_of old.entries.items < weight_of new.entries.items = more refl in omega (arith, l)
  by_change false more same = let l : weight_of new.entries.items ≡ weight_of old.entries.items = ap weight_of (same refl) in omega (arith, l)

-- a table of which nothing is known
unknown : BlockEntry
unknown = record { reached = false; classes = []; given = [] }

pub first_table : (n : ℕ) (start : BlockEntry) (flows : List Flow) (preds : List (List ℕ)) (entries : List BlockEntry) (dirty : List Bool) →
    length entries ≡ length flows → length dirty ≡ length flows → ((b : ℕ) (e : BlockEntry) → slice_get entries b ≡ Some e → e ≡ record {
      reached = false;
      classes = [];
      given = [];
    }) →
    ((b : ℕ) → slice_index_or dirty b true ≡ true) → IsTable n start flows preds entries dirty
first_table n start flows preds entries dirty long marks each all = record {
  long = long;
  marks = marks;
  shaped = λ b e at. let is = each b e at in inr (
    ap (λ (z : BlockEntry). z.reached) is,
    ap (λ (z : BlockEntry). z.classes) is,
    ap (λ (z : BlockEntry). z.given) is,
  );
  numbered = λ b e at r. absurd (never b e at r);
  settled = λ b e at clean. absurd (false≢true (sym clean ∙ all b));
  refined = λ b e at r. absurd (never b e at r);
} where
  never : (b : ℕ) (e : BlockEntry) → slice_get entries b ≡ Some e → e.reached ≡ true → ⊥
  never b e at r = false≢true (sym (ap (λ (z : BlockEntry). z.reached) (each b e at)) ∙ r)

pub first_proven : (g : Program) (xs : List Tracked) (entries : List BlockEntry) →
    ((b : ℕ) (e : BlockEntry) → slice_get entries b ≡ Some e → e ≡ record { reached = false; classes = []; given = [] }) → AreProven g xs entries
first_proven g xs entries each b e at r = absurd (false≢true (sym (ap (λ (z : BlockEntry). z.reached) (each b e at)) ∙ r))

-- the invariant at first
pub first_state : (n : ℕ) (start : BlockEntry) (flows : List Flow) (preds : List (List ℕ)) (entries : List BlockEntry) (dirty : List Bool) →
    IsProblem start flows preds → length entries ≡ length flows → length dirty ≡ length flows →
    ((b : ℕ) (e : BlockEntry) → slice_get entries b ≡ Some e → e ≡ record { reached = false; classes = []; given = [] }) →
    ((b : ℕ) → slice_index_or dirty b true ≡ true) → IsState n start flows preds entries dirty
first_state n start flows preds entries dirty problem long marks each all = record {
  problem = problem;
  table = first_table n start flows preds entries dirty long marks each all;
  proven = λ g xs is facts. first_proven g xs entries each;
}

-- in the end all is exact
pub settled_is_exact : (n : ℕ) (start : BlockEntry) (flows : List Flow) (preds : List (List ℕ)) (entries : List BlockEntry) (dirty : List Bool) →
    AreSoundFlows n flows → ArePredecessors (ways_of flows) preds → IsState n start flows preds entries dirty →
    ((b : ℕ) → b < length flows → slice_index_or dirty b true ≡ false) → (g : Program) (xs : List Tracked) → length xs ≡ n → AreFlows g xs flows →
    IsStart xs start → (b : ℕ) (e : BlockEntry) → slice_get entries b ≡ Some e → IsEntry g xs b e
settled_is_exact n start flows preds entries dirty sound are_preds s clean g xs is are_flows is_start b e at =
    exact g xs start flows preds facts entries shaped settled (s.proven g xs is facts) s.table.long b e at where
      facts : Facts g xs start flows preds
      facts = record { are_flows = are_flows; is_start = is_start; are_sound = subst (λ (m : ℕ). AreSoundFlows m flows) (sym is) sound; are_preds = are_preds }

      shaped : (c : ℕ) (x : BlockEntry) → slice_get entries c ≡ Some x → IsShaped (length xs) x
      shaped c x at = subst (λ (m : ℕ). IsShaped m x) (sym is) (s.table.shaped c x at)

      settled : (c : ℕ) (x : BlockEntry) → slice_get entries c ≡ Some x → IsSettled (length xs) (handed start flows entries c (ways_at preds c)) x
      settled c x at =
          subst (λ (m : ℕ). IsSettled m (handed start flows entries c (ways_at preds c)) x) (sym is)
          (s.table.settled c x at (clean c (omega (arith, slice_get_within entries c x at, s.table.long))))
