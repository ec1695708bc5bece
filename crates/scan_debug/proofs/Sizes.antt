-- No item and no number is added.
use Rattle.std.proofs.Common.{◌≡◌, ℕ, ◌+◌, ◌*◌, ◌<◌, ◌≤◌, List, [], ◌∷◌, ◌++◌, map, length, All, Option, Some, None, Bool, true, false, cond}
use Rattle.std.proofs.Common.{refl, sym, ap, ◌∙◌, subst, arith}
use Rattle.std.specs.List.{count_by, flat_map}
use Rattle.std.proofs.lemmas.List.{length-map}
use Rattle.std.proofs.lemmas.List.Concat.{flat_map-cons}
use Rattle.std.proofs.lemmas.List.Elements.{All-nil, All-cons, All-head, All-tail}
use Rattle.std.proofs.lemmas.Grind.{flat_map-append}
use Rattle.std.proofs.lemmas.List.Sums.{sum_by-cons}
use Rattle.rv64_instr.specs.declared.operand.Operand.{Operand}
use Rattle.rv64_instr.specs.declared.operand.Operand.TheVariants.{Def, Use}
use Rattle.rv64_instr.specs.declared.place.Place.{Place}
use Rattle.rv64_instr.specs.declared.place.Place.TheVariants.{Register, Slot, Const}
use Rattle.rv64_instr.specs.LocationEffects.{is_call}
use Rattle.rv64_instr.specs.Row.{row_of}
use Rattle.mir_func.specs.declared.block.Block.{Block}
use Rattle.mir_func.specs.declared.debug_substitution.DebugSubstitution.{DebugSubstitution}
use Rattle.mir_func.specs.declared.item.Item.{Item}
use Rattle.mir_func.specs.declared.item.ItemKind.{ItemKind}
use Rattle.mir_func.specs.declared.item.ItemKind.TheVariants.{Code, Mark, Phi}
use Rattle.mir_func.specs.declared.position.Pos.{Pos}
use Rattle.mir_func.specs.declared.variable.MarkValue.{MarkValue}
use Rattle.mir_func.specs.declared.variable.MarkValue.TheVariants.{Nothing, Constant, At, Pair}
use Rattle.mir_func.specs.declared.variable.VarId.{VarId}
use Rattle.mir_func.specs.Calls.{is_call_kind}
use Rattle.mir_func.specs.Graph.{Program, program_of}
use Rattle.mir_func.specs.Limits.{MAX_BLOCKS, MAX_SLOTS}
use Rattle.mir_func.specs.Resolve.{resolve}
use Rattle.mir_func.specs.Sound.{items_of}
use Rattle.mir_func.specs.SoundFrame.{IsPhysical as OperandIsPhysical, ValueIsPhysical, PlaceIsPhysical, HasPhysical}
use Rattle.pass_trait.specs.sem_mir.Align.{is_code}
use Rattle.pass_trait.specs.Sizes.{greatest, numbers_of, greatest_number, item_count, code_count, call_count, most}
use Rattle.scan_simulation.specs.spill_code.Rewrite.{renamed_operand}
use Rattle.scan_simulation.proofs.spill_simulation.Items.{call_is}
use Rattle.scan_simulation.proofs.spill_simulation.Rows.{row_renamed}
use Rattle.scan_simulation.specs.scan_allocation.Coloring.{now, IsColoring}
use Rattle.scan_simulation.proofs.scan_allocation.Coloring.{is_coloring}
use Rattle.scan_debug.specs.Laws.{AllottedKeepsSizes}
use Rattle.scan_simulation.specs.scan_rule.Rewrite.{value_now, place_now, kind_now, item_now, items_now, block_now, blocks_now, allotted}
use Rattle.scan_simulation.proofs.Following.{each_now}
use Rattle.scan_simulation.proofs.Renaming.{now_plain, physical, keeps_zero}
use Rattle.scan_debug.proofs.Lists.{map_now}

-- a count is that of the tests' answers
count_answers : (test : Item → Bool) (xs : List Item) → count_by test xs ≡ count_by (λ (b : Bool). b) (map test xs)
count_answers test [] = refl
count_answers test (x ∷ xs) =
    sum_by-cons (λ (i : Item). cond (test i) 1 0) x xs ∙ ap (λ (n : ℕ). cond (test x) 1 0 + n) (count_answers test xs) ∙
    sym (sum_by-cons (λ (b : Bool). cond b 1 0) (test x) (map test xs))

module _ (given : ℕ → Option ℕ) (silent : Pos → ℕ → Bool) where
  count_now : (test : Item → Bool) → ((p : Pos) (x : Item) → test (item_now given silent p x) ≡ test x) → (bs : List Block) →
      count_by test (items_of (blocks_now given silent bs)) ≡ count_by test (items_of bs)
  count_now test same bs =
      count_answers test (items_of (blocks_now given silent bs)) ∙ ap (count_by (λ (b : Bool). b)) (map_now given silent test same bs) ∙
      sym (count_answers test (items_of bs))

  length_now : (bs : List Block) → length (items_of (blocks_now given silent bs)) ≡ length (items_of bs)
  length_now bs =
      sym (length-map (items_of (blocks_now given silent bs)) (λ (x : Item). x.loc)) ∙
      ap length (map_now given silent (λ (x : Item). x.loc) (λ p x. refl) bs) ∙ length-map (items_of bs) (λ (x : Item). x.loc)

  code_same : (s : ℕ → Bool) (k : ItemKind) → is_code (kind_now given s k) ≡ is_code k
  code_same s (Code i n) = refl
  code_same s (Mark v m) = refl
  code_same s (Phi q n) = refl

  value_numbers : (s : ℕ → Bool) (v : VarId) (m : MarkValue) → numbers_of (Mark v (value_now given s m)) ≡ numbers_of (Mark v m)
  value_numbers s v Nothing = refl
  value_numbers s v (Constant z) = refl
  value_numbers s v (Pair q) = refl
  value_numbers s v (At r) = by_test (s r) where
    by_test : (z : Bool) → numbers_of (Mark v (cond z Nothing (At (now given r)))) ≡ []
    by_test true = refl
    by_test false = refl

  numbers_same : (s : ℕ → Bool) (k : ItemKind) → numbers_of (kind_now given s k) ≡ numbers_of k
  numbers_same s (Code i None) = refl
  numbers_same s (Code i (Some n)) = refl
  numbers_same s (Mark v m) = value_numbers s v m
  numbers_same s (Phi q n) = refl

  flat_in : (b n : ℕ) (xs : List Item) →
      flat_map (λ (x : Item). numbers_of x.kind) (items_now given silent b n xs) ≡ flat_map (λ (x : Item). numbers_of x.kind) xs
  flat_in b n [] = refl
  flat_in b n (x ∷ xs) =
      let e = numbers_same (silent (record { block = b; item = n })) x.kind in
      let es = flat_in b (n + 1) xs in
      flat_map-cons (λ (x : Item). numbers_of x.kind) (item_now given silent (record { block = b; item = n }) x) (items_now given silent b (n + 1) xs) ∙
      (λ t. e t ++ es t) ∙ sym (flat_map-cons (λ (x : Item). numbers_of x.kind) x xs)

  flat_now : (bs : List Block) →
      flat_map (λ (x : Item). numbers_of x.kind) (items_of (blocks_now given silent bs)) ≡ flat_map (λ (x : Item). numbers_of x.kind) (items_of bs)
  flat_now [] = refl
  flat_now (b ∷ bs) =
      let h : Item → List ℕ = λ x. numbers_of x.kind in
      let e = flat_in b.id 0 b.items in
      let es = flat_now bs in
      ap (flat_map h) (flat_map-cons (λ (c : Block). c.items) (block_now given silent b) (blocks_now given silent bs)) ∙
      flat_map-append h (items_now given silent b.id 0 b.items) (items_of (blocks_now given silent bs)) ∙ (λ t. e t ++ es t) ∙
      sym (flat_map-append h b.items (items_of bs)) ∙ ap (flat_map h) (sym (flat_map-cons (λ (c : Block). c.items) b bs))

module _ (f : Program) (given : ℕ → Option ℕ) (col : IsColoring f given) (silent : ℕ → Bool) where
  calls_same : (k : ItemKind) → is_call_kind (kind_now given silent k) ≡ is_call_kind k
  calls_same (Code i n) = ap is_call (row_renamed (now given) (now given) (keeps_zero f given col) i) ∙ call_is (now given) (now given) (row_of i)
  calls_same (Mark v m) = refl
  calls_same (Phi q n) = refl

  now_physical : (r : ℕ) → r < 32 → now given r < 32
  now_physical r lt = subst (λ (q : ℕ). q < 32) (sym (now_plain given r (physical f given col r lt))) lt

  operand_physical : (o : Operand) → OperandIsPhysical o → OperandIsPhysical (renamed_operand (now given) (now given) o)
  operand_physical (Def r) h = now_physical r h
  operand_physical (Use r) h = now_physical r h
  operand_physical _ h = h

  operands_physical : (os : List Operand) → All OperandIsPhysical os → All OperandIsPhysical (map (renamed_operand (now given) (now given)) os)
  operands_physical [] h = All-nil OperandIsPhysical
  operands_physical (o ∷ os) h =
      All-cons OperandIsPhysical (renamed_operand (now given) (now given) o) (map (renamed_operand (now given) (now given)) os)
      (operand_physical o (All-head OperandIsPhysical o os h)) (operands_physical os (All-tail OperandIsPhysical o os h))

  value_physical : (m : MarkValue) → ValueIsPhysical m → ValueIsPhysical (value_now given silent m)
  value_physical Nothing h = tt
  value_physical (Constant z) h = tt
  value_physical (Pair q) h = tt
  value_physical (At r) h = by_test (silent r) where
    by_test : (z : Bool) → ValueIsPhysical (cond z Nothing (At (now given r)))
    by_test true = tt
    by_test false = now_physical r h

  place_physical : (q : Option Place) → PlaceIsPhysical q → PlaceIsPhysical (place_now given silent q)
  place_physical None h = tt
  place_physical (Some (Slot n)) h = tt
  place_physical (Some (Const z)) h = tt
  place_physical (Some (Register r)) h = by_test (silent r) where
    by_test : (z : Bool) → PlaceIsPhysical (cond z None (Some (Register (now given r))))
    by_test true = tt
    by_test false = now_physical r h

  kind_physical : (k : ItemKind) → HasPhysical k → HasPhysical (kind_now given silent k)
  kind_physical (Code i n) h = operands_physical i.operands h
  kind_physical (Mark v m) h = value_physical m h
  kind_physical (Phi q n) h = place_physical q h

at_most : (a b : ℕ) → a ≡ b → a ≤ b
at_most a b e = omega (arith, e)

at_most_bound : (a b : ℕ) → a ≡ b → a ≤ 1 * (b + MAX_BLOCKS * 0)
at_most_bound a b e = omega (arith, e)

at_most_more : (a b c : ℕ) → a ≡ b → a ≤ b + 0 * c
at_most_more a b c e = omega (arith, e)

pub allotted_keeps_sizes : AllottedKeepsSizes
allotted_keeps_sizes reserve f subs given silent may =
    let col = is_coloring reserve f (resolve subs) may.forms given may.allocation in
    let fp : Program = program_of false f.blocks (resolve subs) in
    record {
      items = at_most_bound (item_count (allotted given silent f)) (item_count f) (length_now given silent f.blocks);
      code = at_most_bound (code_count (allotted given silent f)) (code_count f)
          (count_now given silent (λ (x : Item). is_code x.kind) (λ p x. code_same given silent (silent p) x.kind) f.blocks);
      calls = at_most (call_count (allotted given silent f)) (call_count f)
          (count_now given silent (λ (x : Item). is_call_kind x.kind) (λ p x. calls_same fp given col (silent p) x.kind) f.blocks);
      physical = λ h. each_now given silent (λ b i. HasPhysical i.kind) (λ b i. HasPhysical i.kind)
          (λ b p i k. kind_physical fp given col (silent p) i.kind k) f.blocks h;
      numbers = at_most_more (greatest_number (allotted given silent f) subs) (greatest_number f subs) (most 1 0 (item_count f))
          (ap (λ (ns : List ℕ). greatest (ns ++ flat_map (λ (e : DebugSubstitution). e.src.number ∷ e.dst.number ∷ []) subs)) (flat_now given silent f.blocks));
      slots = at_most_slots (greatest f.slots);
    } where
      at_most_slots : (n : ℕ) → n ≤ n + MAX_SLOTS * 0
      at_most_slots n = omega arith
