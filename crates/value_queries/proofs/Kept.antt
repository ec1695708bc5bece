-- How many class numbers entries keep: each has one for each thing, or none.
use Rattle.std.proofs.Common.{◌≡◌, ℕ, suc, ◌*◌, ◌≤◌, List, [], ◌∷◌, length, arith, ap, refl}
use Rattle.std.proofs.Math.Nat.{suc-mul}
use Rattle.std.proofs.lemmas.List.Sums.{sum_by-cons}
use Rattle.std.specs.Prelude.{Bool, true, false, Some, slice_get, sum_by}
use Rattle.mir_func.specs.Graph.{Program}
use Rattle.value_solver.specs.declared.tracked.Tracked.{Tracked}
use Rattle.value_solver.specs.declared.entry.BlockEntry.{BlockEntry}
use Rattle.value_solver.specs.Entry.{IsEntry}

entry_kept : (g : Program) (things : List Tracked) (b : ℕ) (e : BlockEntry) → IsEntry g things b e → length e.classes ≤ length things
entry_kept g things b e is = by_reached e.reached refl where
  by_reached : (z : Bool) → e.reached ≡ z → length e.classes ≤ length things
  by_reached true on = let same = (is.classes (is.reached.0 on)).classes_for_all in omega (arith, same)
  by_reached false off = let none : length e.classes ≡ 0 = ap length (is.unreached off).0 in omega (arith, none)

sum_kept : (n : ℕ) (entries : List BlockEntry) → ((b : ℕ) (e : BlockEntry) → slice_get entries b ≡ Some e → length e.classes ≤ n) →
    sum_by (λ (e : BlockEntry). length e.classes) entries ≤ length entries * n
sum_kept n [] h = omega arith
sum_kept n (e ∷ entries) h =
    let one = h 0 e refl in
    let more = sum_kept n entries (λ b. h (suc b)) in
    omega (arith, one, more, sum_by-cons (λ (x : BlockEntry). length x.classes) e entries, suc-mul (length entries) n)

pub entries_kept : (g : Program) (things : List Tracked) (entries : List BlockEntry) →
    ((b : ℕ) (e : BlockEntry) → slice_get entries b ≡ Some e → IsEntry g things b e) →
    sum_by (λ (e : BlockEntry). length e.classes) entries ≤ length entries * length things
entries_kept g things entries is = sum_kept (length things) entries (λ b e at. entry_kept g things b e (is b e at))
