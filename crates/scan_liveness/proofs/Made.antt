-- Intervals and masks of a function by the points of its code.
use Rattle.std.proofs.Common.{◌≡◌, ◌⊎◌, inl, inr, ◌↔◌, ℕ, zero, suc, ◌+◌, ◌<◌, ◌≤◌, ◌^◌, List, [], ◌∷◌, ◌++◌, map, reverse, length, slice_index_or}
use Rattle.std.proofs.Common.{Option, None, Some, Bool, true, false, Contains, length-append, refl, sym, ap, ◌∙◌, subst, arith}
use Rattle.std.specs.Prelude.{All}
use Rattle.std.specs.List.{flat_map}
use Rattle.std.specs.List.Sorted.{IsPermutation, IsNonDecreasingBy}
use Rattle.std.proofs.lemmas.List.Concat.{flat_map-cons}
use Rattle.std.proofs.lemmas.List.Elements.{All-contains}
use Rattle.rv64_instr.specs.declared.place.Place.{Place}
use Rattle.rv64_instr.specs.declared.place.Place.TheVariants.{Register}
use Rattle.rv64_instr.specs.Instruction.{Instruction}
use Rattle.mir_func.specs.declared.block.Block.{Block}
use Rattle.mir_func.specs.declared.exit.Exit.{Exit}
use Rattle.mir_func.specs.declared.exit.Exit.TheVariants.{Onward, Perhaps, Always, Final}
use Rattle.mir_func.specs.declared.item.Item.{Item}
use Rattle.mir_func.specs.declared.item.ItemKind.{ItemKind}
use Rattle.mir_func.specs.declared.item.ItemKind.TheVariants.{Code, Mark, Phi}
use Rattle.mir_func.specs.Exits.{exit_of}
use Rattle.mir_func.specs.Function.{Function}
use Rattle.mir_func.specs.Graph.{program_of, block_start}
use Rattle.mir_func.specs.Sound.{AllItems, HasForm, items_of}
use Rattle.sem_mir.specs.Live.{Live}
use Rattle.pass_trait.specs.Sizes.{item_count}
use Rattle.pass_liveness.specs.Walk.{live_before, live_across, live_from}
use Rattle.pass_liveness.specs.Liveness.{AreLiveSets, has_at_start}
use Rattle.scan_intervals.specs.declared.interval.LiveInterval.{LiveInterval}
use Rattle.scan_intervals.specs.Blocked.{has_register}
use Rattle.scan_intervals.specs.Intervals.{touches, is_blocked}
use Rattle.scan_intervals.specs.Liveness.{Decides, at_starts}
use Rattle.scan_intervals.specs.Points.{CodePoint, next_of, with_point, is_live_before, is_live_after, points_in, points_of}
use Rattle.scan_liveness.specs.declared.extents.Extent.{Extent}
use Rattle.scan_liveness.specs.Described.{Describes}
use Rattle.scan_liveness.specs.Extents.{extent_in, IsWithin, intervals_from}
use Rattle.scan_liveness.specs.Liveness.{IsLiveness}
use Rattle.scan_liveness.specs.Registers.{greatest_register}
use Rattle.scan_liveness.proofs.Counted.{within}
use Rattle.scan_liveness.proofs.Named.{up_to, live_most, of_most}
use Rattle.scan_liveness.proofs.Ordered.{rank, are_intervals}

-- ---- a test of registers alone

module _ (S : ℕ → Place → Bool) where
  abbrev pub on_registers : ℕ → ℕ → Bool
  on_registers n r = S n (Register r)

  same_across : (e : Exit) (b : Bool) (r : ℕ) → live_across S e b (Register r) ≡ live_across (at_starts on_registers) e b (Register r)
  same_across Onward b r = refl
  same_across (Perhaps n) b r = refl
  same_across (Always n) b r = refl
  same_across Final b r = refl

  same_after : (e : Exit) (is : List Item) (next : Option ℕ) (r : ℕ) →
      live_from S is next (Register r) ≡ live_from (at_starts on_registers) is next (Register r) →
      live_across S e (live_from S is next (Register r)) (Register r) ≡
      live_across (at_starts on_registers) e (live_from (at_starts on_registers) is next (Register r)) (Register r)
  same_after e is next r h =
      same_across e (live_from S is next (Register r)) r ∙ ap (λ (b : Bool). live_across (at_starts on_registers) e b (Register r)) h

  same_from : (is : List Item) (next : Option ℕ) (r : ℕ) → live_from S is next (Register r) ≡ live_from (at_starts on_registers) is next (Register r)
  same_from [] None r = refl
  same_from [] (Some n) r = refl
  same_from (i ∷ is) next r = ap (λ (b : Bool). live_before i.kind b (Register r)) (same_after (exit_of i.kind) is next r (same_from is next r))

  same_in : (is : List Item) (next : Option ℕ) → points_in S is next ≡ points_in (at_starts on_registers) is next
  same_in [] next = refl
  same_in (i ∷ is) next =
      let more = same_in is next in
      λ t. with_point i.kind (λ code. record {
        code = code;
        before = λ r. same_from (i ∷ is) next r t;
        after = λ r. same_after (exit_of i.kind) is next r (same_from is next r) t;
      }) (more t)

  pub same_points : (bs : List Block) → points_of S bs ≡ points_of (at_starts on_registers) bs
  same_points [] = refl
  same_points (b ∷ bs) = let more = same_points bs in λ t. same_in b.items (next_of bs) t ++ more t

  -- ---- how many points there are

  few_with : (k : ItemKind) (make : Instruction → CodePoint) (ps : List CodePoint) → length (with_point k make ps) ≤ length ps + 1
  few_with (Code i n) make ps = omega arith
  few_with (Mark v m) make ps = omega arith
  few_with (Phi p n) make ps = omega arith

  few_in : (is : List Item) (next : Option ℕ) → length (points_in S is next) ≤ length is
  few_in [] next = omega arith
  few_in (i ∷ is) next =
      let more = few_in is next in
      let one = few_with i.kind (λ code. record {
        code = code;
        before = is_live_before S (i ∷ is) next;
        after = is_live_after S i.kind is next;
      }) (points_in S is next) in
      omega (arith, more, one)

  pub few_points : (bs : List Block) → length (points_of S bs) ≤ length (items_of bs)
  few_points [] = omega arith
  few_points (b ∷ bs) =
      let here = few_in b.items (next_of bs) in
      let more = few_points bs in
      let points = length-append (points_in S b.items (next_of bs)) (points_of S bs) in
      let all : length (items_of (b ∷ bs)) ≡ length b.items + length (items_of bs) =
      ap length (flat_map-cons (λ (c : Block). c.items) b bs) ∙ length-append b.items (items_of bs) in
      omega (arith, here, more, points, all)

-- ---- the function's

module _ (f : Function) (forms : AllItems (λ i. HasForm i.kind) f.blocks) (slots ids : List ℕ) (starts : List (List ℕ))
    (sets : AreLiveSets f (record { slots = slots; blocks = ids; starts = starts })) (masks : List ℕ) (extents : List (Option Extent))
    (walked : Describes (points_of (has_at_start slots ids starts) f.blocks) masks extents) where
  abbrev live : ℕ → ℕ → Bool
  live = on_registers (has_at_start slots ids starts)

  abbrev points : List CodePoint
  points = points_of (at_starts (on_registers (has_at_start slots ids starts))) f.blocks

  decides : Decides f (on_registers (has_at_start slots ids starts))
  decides n r = sets.starts n (Register r) false (λ q. None)

  described : Describes points masks extents
  described = subst (λ (ps : List CodePoint). Describes ps masks extents) (same_points (has_at_start slots ids starts) f.blocks) walked

  -- the count of points is in range
  pub in_range : item_count f < 2 ^ 31 → length masks < 2 ^ 31
  in_range small =
      let few = few_points (has_at_start slots ids starts) f.blocks in
      let count = walked.count in
      omega (arith, small, few, count)

  -- and so are the extents
  pub all_within : All (IsWithin (length masks)) extents
  all_within k d lt =
      let count = described.count in
      subst (λ (n : ℕ). IsWithin n (slice_index_or extents k d)) (sym count)
      (subst (IsWithin (length points)) (sym (any extents k d lt ∙ described.wide k lt)) (within (touches (k + 32)) points)) where
        any : (os : List (Option Extent)) (k : ℕ) (d : Option Extent) → k < length os → slice_index_or os k d ≡ slice_index_or os k None
        any [] k d less = absurd (omega (arith, less))
        any (o ∷ os) zero d less = refl
        any (o ∷ os) (suc k) d less = any os k d (omega (arith, less))

  module _ (limit : greatest_register f.blocks < length extents + 32) (few : length extents ≤ 4096) where
    untouched : (r : ℕ) → length extents + 32 ≤ r → (p : CodePoint) → Contains points p → touches r p ≡ false
    untouched r le p c = by_test (touches r p) refl where
      most : touches r p ≡ true → r ≤ greatest_register f.blocks
      most = All-contains (λ (q : CodePoint). touches r q ≡ true → r ≤ greatest_register f.blocks) points p
          (of_most (on_registers (has_at_start slots ids starts)) (greatest_register f.blocks) r (omega (arith, le))
          (λ n h. live_most f.blocks (λ q. None) (greatest_register f.blocks) (up_to f.blocks forms) r (omega (arith, le)) (block_start n)
          ((decides n r).0 h)) f.blocks (up_to f.blocks forms)) c

      by_test : (z : Bool) → touches r p ≡ z → touches r p ≡ false
      by_test false e = e
      by_test true e = let at_most = most e in absurd (omega (arith, at_most, limit, le))

    pub is_liveness : (intervals : List LiveInterval) (turned : List ℕ) → IsPermutation (intervals_from (length masks) 32 extents) intervals →
        IsNonDecreasingBy rank intervals → turned ≡ reverse masks → IsLiveness f intervals turned
    is_liveness intervals turned same up e = record {
      live = on_registers (has_at_start slots ids starts);
      decides = decides;
      are = are_intervals points extents described.wide untouched few intervals
          (subst (λ (n : ℕ). IsPermutation (intervals_from n 32 extents) intervals) described.count same) up;
      blocked = λ r lt. ap (λ (ms : List ℕ). map (has_register r) ms) e ∙ described.masked r lt;
    }
