-- How large a function is after spilling.
use Rattle.std.proofs.Common.{◌≡◌, ℕ, zero, suc, ◌+◌, ◌-◌, ◌*◌, ◌<◌, ◌≤◌, List, [], ◌∷◌, ◌++◌, max, min, map, filter, length, count_by, All}
use Rattle.std.proofs.Common.{Contains}
use Rattle.std.proofs.Common.{Bool, true, false, cond, not, ◌&&◌, refl, sym, ap, ◌∙◌, subst, arith}
use Rattle.std.proofs.lemmas.List.{length-map}
use Rattle.std.specs.List.{flat_map}
use Rattle.std.proofs.lemmas.List.Elements.{All-nil, All-cons, All-filter}
use Rattle.std.proofs.lemmas.List.Sums.{count_by-le-length}
use Rattle.mir_func.specs.declared.debug_substitution.DebugSubstitution.{DebugSubstitution}
use Rattle.mir_func.specs.declared.item.Item.{Item}
use Rattle.mir_func.specs.Function.{Function}
use Rattle.mir_func.specs.Limits.{MAX_BLOCKS, MAX_SLOTS}
use Rattle.mir_func.specs.Sound.{items_of}
use Rattle.mir_func.specs.Calls.{is_call_kind}
use Rattle.sem_mir.specs.Align.{is_code}
use Rattle.pass_trait.specs.Causes.{is_named, scratch_of}
use Rattle.pass_trait.specs.Change.{change}
use Rattle.pass_trait.specs.Sizes.{greatest, greatest_number, most_numbers, KeepsSizes}
use Rattle.pass_salvage.proofs.Greatest.{greatest_append}
use Rattle.spill_code.specs.declared.spilling.SlotAssignment.{SlotAssignment}
use Rattle.spill_code.specs.declared.spilling.Spilling.{Spilling}
use Rattle.spill_code.specs.Rewrite.{entry_stores, spilled_blocks}
use Rattle.spill_debug.specs.RewrittenDebugItems.{blocks_asked, number_beyond}
use Rattle.spill_select.specs.spill_rule.Choice.{is_free, reason_of, candidates, room, chosen, next_slot, homes_from, homes_of, first_scratch, second_scratch}
use Rattle.spill_select.specs.spill_rule.Choice.{spilling_of, entry_of}
use Rattle.spill_select.specs.spill_rule.Chosen.{IsReservable}
use Rattle.spill_select.proofs.spill_rule.Scratch.{CANDIDATES, kept_by, reservable_real}
use Rattle.spill_select.specs.spill_rule.Laws.{from_take}
use Rattle.spill_proof.specs.Whole.{spilled_by, where_spilled}
use Rattle.spill_proof.proofs.Slots.{how_many}
use Rattle.spill_proof.specs.Sizes.{WholeKeepsSizes}
use Rattle.spill_proof.proofs.Measures.{blocks_bound}
use Rattle.spill_proof.proofs.Counts.{count_measure, four_measure, length_measure, long_kind, code_kind, call_kind, long_entry, no_calls_entry}
use Rattle.spill_proof.proofs.Numbers.{nums, top, beyond_most, top_blocks}
use Rattle.spill_proof.proofs.Physical.{real_blocks, real_all_asked}

-- ---- registers

pub low_candidate : (r : ℕ) → Contains CANDIDATES r → r < 32
low_candidate r (zero, lt, e) = (let w : 5 ≡ r = e in omega (arith, w))
low_candidate r (suc zero, lt, e) = (let w : 6 ≡ r = e in omega (arith, w))
low_candidate r (suc (suc zero), lt, e) = (let w : 7 ≡ r = e in omega (arith, w))
low_candidate r (suc (suc (suc zero)), lt, e) = (let w : 28 ≡ r = e in omega (arith, w))
low_candidate r (suc (suc (suc (suc zero))), lt, e) = (let w : 29 ≡ r = e in omega (arith, w))
low_candidate r (suc (suc (suc (suc (suc zero)))), lt, e) = (let w : 30 ≡ r = e in omega (arith, w))
low_candidate r (suc (suc (suc (suc (suc (suc zero))))), lt, e) = (let w : 31 ≡ r = e in omega (arith, w))
low_candidate r (suc (suc (suc (suc (suc (suc (suc k)))))), lt, e) = absurd (omega (arith, lt))

pub low_first : (xs : List ℕ) → ((r : ℕ) → Contains xs r → r < 32) → first_scratch xs < 32
low_first [] low = omega arith
low_first (a ∷ rest) low = low a (0, omega arith, refl)

pub low_second : (xs : List ℕ) → ((r : ℕ) → Contains xs r → r < 32) → second_scratch xs < 32
low_second [] low = omega arith
low_second (a ∷ rest) low = low_first rest (λ r k. low r (suc k.0, (let lt = k.1 in omega (arith, lt)), k.2))

pub low_scratch : (f : Function) (r : ℕ) → Contains (scratch_of f) r → r < 32
low_scratch f r k =
    let free : List ℕ = filter (λ (q : ℕ). not (is_named f q)) CANDIDATES in
    low_candidate r (kept_by (λ q. not (is_named f q)) CANDIDATES r (from_take 2 free r k)).0

low_homes : (m : ℕ) (rs : List ℕ) → ((r : ℕ) → Contains rs r → r < 32) → All (λ (h : SlotAssignment). h.register < 32) (homes_from m rs)
low_homes m [] low = All-nil (λ (h : SlotAssignment). h.register < 32)
low_homes m (r ∷ rs) low =
    All-cons (λ (h : SlotAssignment). h.register < 32) (record { register = r; slot = m }) (homes_from (m + 1) rs) (low r (0, omega arith, refl))
    (low_homes (m + 1) rs (λ q k. low q (suc k.0, (let lt = k.1 in omega (arith, lt)), k.2)))

-- ---- homes

fewer : (p : SlotAssignment → Bool) (hs : List SlotAssignment) → length (filter p hs) ≤ length hs
fewer p [] = omega arith
fewer p (h ∷ hs) = by_test (p h) (fewer p hs) where
  by_test : (z : Bool) → length (filter p hs) ≤ length hs → length (cond z (h ∷ filter p hs) (filter p hs)) ≤ suc (length hs)
  by_test true le = omega (arith, le)
  by_test false le = omega (arith, le)

slots_top : (m : ℕ) (rs : List ℕ) → greatest (map (λ (h : SlotAssignment). h.slot) (homes_from m rs)) < max 1 (m + length rs)
slots_top m [] = omega arith
slots_top m (r ∷ rs) = let h = slots_top (m + 1) rs in omega (arith, h)

long_homes : (m : ℕ) (rs : List ℕ) → length (homes_from m rs) ≡ length rs
long_homes m [] = refl
long_homes m (r ∷ rs) = ap suc (long_homes (m + 1) rs)

next_most : (ns : List ℕ) → next_slot ns ≤ greatest ns + 1
next_most [] = omega arith
next_most (n ∷ ns) = omega arith

-- ---- numbers

most_items : (a n e : ℕ) → a ≤ MAX_SLOTS + 4 * n → a ≤ 4 * (n + MAX_BLOCKS * 1)
most_items a n e le = omega (arith, le)

stays_items : (n : ℕ) → n ≤ 4 * (n + MAX_BLOCKS * 1)
stays_items n = omega arith

more_numbers : (a b c d n k : ℕ) → a < max (suc b) d → d ≤ k + n → k ≡ max b c + 1 → max a c ≤ max b c + 1 * (4 * (n + MAX_BLOCKS * 1))
more_numbers a b c d n k lt le is = omega (arith, lt, le, is)

stays_numbers : (g n : ℕ) → g ≤ g + 1 * (4 * (n + MAX_BLOCKS * 1))
stays_numbers g n = omega arith

more_slots : (a b m l : ℕ) → b < max 1 (m + l) → m ≤ a + 1 → l ≤ MAX_SLOTS → max a b ≤ a + MAX_SLOTS * 1
more_slots a b m l lt le few = omega (arith, lt, le, few)

few_of : (x l c : ℕ) → c ≡ min (MAX_SLOTS - x) l → c ≤ MAX_SLOTS
few_of x l c e = omega (arith, e)

le_on : (a b c : ℕ) → a ≤ b → b ≤ c → a ≤ c
le_on a b c h k = omega (arith, h, k)

none_le : (a b : ℕ) → a ≡ 0 → a ≤ b
none_le a b e = omega (arith, e)

once : (a b : ℕ) → a ≤ 1 * b → a ≤ b
once a b le = omega (arith, le)

none_more : (a b : ℕ) → a ≤ 0 + b → a ≤ b
none_more a b le = omega (arith, le)

-- a function that stays as it is
pub stays_sizes : (f : Function) (subs : List DebugSubstitution) → KeepsSizes 4 1 (change f subs f subs)
stays_sizes f subs = record {
  items = stays_items (length (items_of f.blocks));
  code = stays_items (count_by (λ (i : Item). is_code i.kind) (items_of f.blocks));
  calls = omega arith;
  physical = λ h. h;
  numbers = stays_numbers (greatest_number f subs) (length (items_of f.blocks));
  slots = omega arith;
}

-- registers in new slots: their homes, the stores at the function's start, and the scratch registers
module _ (s : Spilling) (entry : List SlotAssignment) (rs : List ℕ) (f : Function) (subs : List DebugSubstitution)
    (homes_are : s.homes ≡ homes_from (next_slot f.slots) rs) (few : length rs ≤ MAX_SLOTS) (few_entry : length entry ≤ MAX_SLOTS)
    (entry_real : All (λ (h : SlotAssignment). h.register < 32) entry) (first_low : s.first < 32) (second_low : s.second < 32) where
  abbrev k : ℕ
  k = greatest_number f subs + 1

  abbrev xs : List Item
  xs = items_of f.blocks

  abbrev ys : List Item
  ys = items_of (spilled_blocks s entry (blocks_asked s k f.blocks))

  items_most : length ys ≤ MAX_SLOTS + 4 * length xs
  items_most =
      blocks_bound s (λ zs. length zs) (λ zs. 4 * length zs) length_measure (four_measure (λ zs. length zs) length_measure)
      (λ n x. long_kind s n x.kind x.origin x.loc) k MAX_SLOTS entry f.blocks (λ b. le_on _ _ _ (as_long (long_entry s b entry)) few_entry) where
        as_long : {a b : ℕ} → a ≡ b → a ≤ b
        as_long e = omega (arith, e)

  code_most : count_by (λ (i : Item). is_code i.kind) ys ≤ MAX_SLOTS + 4 * count_by (λ (i : Item). is_code i.kind) xs
  code_most =
      blocks_bound s (λ zs. count_by (λ (i : Item). is_code i.kind) zs) (λ zs. 4 * count_by (λ (i : Item). is_code i.kind) zs)
      (count_measure (λ i. is_code i.kind)) (four_measure (λ zs. count_by (λ (i : Item). is_code i.kind) zs) (count_measure (λ i. is_code i.kind)))
      (λ n x. code_kind s n x.kind x.origin x.loc) k MAX_SLOTS entry f.blocks
      (λ b. le_on _ _ _ (count_by-le-length (λ (i : Item). is_code i.kind) (entry_stores b entry))
      (subst (λ (n : ℕ). n ≤ MAX_SLOTS) (sym (long_entry s b entry)) few_entry))

  calls_most : count_by (λ (i : Item). is_call_kind i.kind) ys ≤ count_by (λ (i : Item). is_call_kind i.kind) xs
  calls_most = none_more _ _
      (blocks_bound s (λ zs. count_by (λ (i : Item). is_call_kind i.kind) zs) (λ zs. count_by (λ (i : Item). is_call_kind i.kind) zs)
      (count_measure (λ i. is_call_kind i.kind)) (count_measure (λ i. is_call_kind i.kind))
      (λ n x. once _ _ (call_kind s n x.kind x.origin x.loc)) k 0 entry f.blocks (λ b. none_le _ _ (no_calls_entry s b entry)))

  abbrev entries : List ℕ
  entries = flat_map (λ (e : DebugSubstitution). e.src.number ∷ e.dst.number ∷ []) subs

  numbers_most : greatest (nums ys ++ entries) ≤ greatest (nums xs ++ entries) + most_numbers 4 1 f
  numbers_most =
      let old : greatest (nums xs ++ entries) ≡ max (top xs) (greatest entries) = greatest_append (nums xs) entries in
      let now : greatest (nums ys ++ entries) ≡ max (top ys) (greatest entries) = greatest_append (nums ys) entries in
      let h = more_numbers (top ys) (top xs) (greatest entries) (number_beyond s.homes k f.blocks) (length xs) k (top_blocks s k entry f.blocks)
      (beyond_most s k f.blocks) (ap (λ (n : ℕ). n + 1) old) in
      subst (λ (n : ℕ). n ≤ greatest (nums xs ++ entries) + most_numbers 4 1 f) (sym now)
      (subst (λ (n : ℕ). max (top ys) (greatest entries) ≤ n + most_numbers 4 1 f) (sym old) h)

  slots_by : greatest (f.slots ++ map (λ (h : SlotAssignment). h.slot) (homes_from (next_slot f.slots) rs)) ≤ greatest f.slots + MAX_SLOTS * 1
  slots_by =
      subst (λ (n : ℕ). n ≤ greatest f.slots + MAX_SLOTS * 1)
      (sym (greatest_append f.slots (map (λ (h : SlotAssignment). h.slot) (homes_from (next_slot f.slots) rs))))
      (more_slots (greatest f.slots) (greatest (map (λ (h : SlotAssignment). h.slot) (homes_from (next_slot f.slots) rs))) (next_slot f.slots) (length rs)
      (slots_top (next_slot f.slots) rs) (next_most f.slots) few)

  slots_most : greatest (f.slots ++ map (λ (h : SlotAssignment). h.slot) s.homes) ≤ greatest f.slots + MAX_SLOTS * 1
  slots_most =
      subst (λ (hs : List SlotAssignment). greatest (f.slots ++ map (λ (h : SlotAssignment). h.slot) hs) ≤ greatest f.slots + MAX_SLOTS * 1) (sym homes_are)
      slots_by

  spilled_sizes : KeepsSizes 4 1 (change f subs (spilled_by s entry k f) subs)
  spilled_sizes = record {
    items = most_items (length ys) (length xs) 0 items_most;
    code = most_items (count_by (λ (i : Item). is_code i.kind) ys) (count_by (λ (i : Item). is_code i.kind) xs) 0 code_most;
    calls = calls_most;
    physical = λ h. real_blocks s first_low second_low entry entry_real (blocks_asked s k f.blocks) (real_all_asked s first_low second_low k f.blocks h);
    numbers = numbers_most;
    slots = slots_most;
  }

  pub sizes_by : (hs : List SlotAssignment) → KeepsSizes 4 1 (change f subs (where_spilled hs f (spilled_by s entry k f)) subs)
  sizes_by [] = stays_sizes f subs
  sizes_by (h ∷ hs) = spilled_sizes

-- ---- spilling

module _ (reserve : List ℕ) (live : ℕ → Bool) (f : Function) (real : (r : ℕ) → Contains reserve r → IsReservable r) where
  abbrev entry_homes : List SlotAssignment
  entry_homes = entry_of live (homes_of reserve live f)

  few_homes : length (homes_of reserve live f) ≤ MAX_SLOTS
  few_homes = few_of (length f.slots + length f.objects) (length (candidates reserve live f)) (length (homes_of reserve live f))
      (sym (length-map (homes_of reserve live f) (λ (h : SlotAssignment). h.slot)) ∙ how_many reserve live f)

  few_stored : length entry_homes ≤ MAX_SLOTS
  few_stored = le_on (length entry_homes) (length (homes_of reserve live f)) MAX_SLOTS (fewer (λ h. live h.register) (homes_of reserve live f)) few_homes

  chosen_real : (r : ℕ) → Contains (chosen reserve live f) r → r < 32
  chosen_real r c = reservable_real r (real r
      (kept_by (λ r. is_named f r && is_free (reason_of f live r)) reserve r (from_take (room f) (candidates reserve live f) r c)).0)

  stored_real : All (λ (h : SlotAssignment). h.register < 32) entry_homes
  stored_real = All-filter (λ (h : SlotAssignment). live h.register) (λ (h : SlotAssignment). h.register < 32) (homes_of reserve live f)
      (low_homes (next_slot f.slots) (chosen reserve live f) chosen_real)

  few_chosen : length (chosen reserve live f) ≤ MAX_SLOTS
  few_chosen = subst (λ (n : ℕ). n ≤ MAX_SLOTS) (long_homes (next_slot f.slots) (chosen reserve live f)) few_homes

pub whole_keeps_sizes : WholeKeepsSizes
whole_keeps_sizes reserve live f subs real =
    sizes_by (spilling_of reserve live f) (entry_of live (homes_of reserve live f)) (chosen reserve live f) f subs refl (few_chosen reserve live f real)
    (few_stored reserve live f real) (stored_real reserve live f real) (low_first (scratch_of f) (low_scratch f))
    (low_second (scratch_of f) (low_scratch f)) (homes_of reserve live f)
