-- How many items, how much code and how many calls there are.
use Rattle.std.proofs.Common.{◌≡◌, ℕ, suc, ◌+◌, ◌*◌, ◌≤◌, List, [], ◌∷◌, ◌++◌, length, count_by, map, Option, Some, None, Bool, true, false, cond}
use Rattle.std.proofs.Common.{refl, sym, ap, ◌∙◌, subst, arith}
use Rattle.std.proofs.Common.{length-append, append-nil}
use Rattle.std.proofs.lemmas.List.{length-map}
use Rattle.std.proofs.lemmas.List.Concat.{flat_map-cons}
use Rattle.std.proofs.lemmas.List.Sums.{sum_by-append, sum_by-cons, count_by-le-length}
use Rattle.rv64_instr.specs.Instruction.{Instruction}
use Rattle.rv64_instr.specs.LocationEffects.{is_call}
use Rattle.rv64_instr.specs.Row.{row_of}
use Rattle.rv64_instr.specs.declared.operand.Operand.{Operand}
use Rattle.rv64_instr.specs.declared.place.Place.{Place}
use Rattle.rv64_instr.specs.declared.place.Place.TheVariants.{Register}
use Rattle.mir_func.specs.declared.item.Item.{Item}
use Rattle.mir_func.specs.declared.item.ItemKind.{ItemKind}
use Rattle.mir_func.specs.declared.item.ItemKind.TheVariants.{Code, Mark, Phi}
use Rattle.mir_func.specs.declared.location.Loc.{Loc}
use Rattle.mir_func.specs.declared.position.Origin.{Origin}
use Rattle.mir_func.specs.declared.position.Pos.{Pos}
use Rattle.mir_func.specs.declared.variable.MarkValue.{MarkValue}
use Rattle.mir_func.specs.declared.variable.MarkValue.TheVariants.{Nothing, Constant, At, Pair}
use Rattle.mir_func.specs.declared.variable.VarId.{VarId}
use Rattle.mir_func.specs.Graph.{below, block_start}
use Rattle.mir_func.specs.Positions.{position_of}
use Rattle.mir_func.specs.Calls.{is_call_kind}
use Rattle.sem_mir.specs.Align.{is_code}
use Rattle.pass_trait.specs.Rule.{item, item_before, first_operand}
use Rattle.spill_code.specs.declared.spilling.SlotAssignment.{SlotAssignment}
use Rattle.spill_code.specs.declared.spilling.Spilling.{Spilling}
use Rattle.spill_code.specs.Rewrite.{slot_of, first_used, other_used, first_defined, use_now, def_now, spilled_code, load, store, added, loads}
use Rattle.spill_code.specs.Rewrite.{stores, two_loads, code_items}
use Rattle.spill_code.specs.Rewrite.{spilled_place, spilled_item, spilled_items, entry_stores}
use Rattle.spill_debug.specs.RewrittenDebugItems.{value_left, place_left, mark_asked, kind_asked}
use Rattle.spill_proof.proofs.Calls.{call_renamed}
use Rattle.spill_proof.proofs.Measures.{IsMeasure}

pub count_measure : (p : Item → Bool) → IsMeasure (λ xs. count_by p xs)
count_measure p = record { none = refl; more = λ xs ys. sum_by-append (λ (x : Item). cond (p x) 1 0) xs ys }

four_times : (a b c : ℕ) → a ≡ b + c → 4 * a ≡ 4 * b + 4 * c
four_times a b c e = omega (arith, e)

pub four_measure : (m : List Item → ℕ) → IsMeasure m → IsMeasure (λ xs. 4 * m xs)
four_measure m mm = record {
  none = (let e = mm.none in omega (arith, e));
  more = λ xs ys. four_times (m (xs ++ ys)) (m xs) (m ys) (mm.more xs ys);
}

pub length_measure : IsMeasure (λ xs. length xs)
length_measure = record { none = refl; more = λ xs ys. length-append xs ys }

-- ---- one item

module _ (s : Spilling) where
  pub one_item : (x : Item) → spilled_items s (x ∷ []) ≡ spilled_item s x
  one_item x = flat_map-cons (spilled_item s) x [] ∙ append-nil (spilled_item s x)

  two_items : (x y : Item) → spilled_items s (x ∷ y ∷ []) ≡ spilled_item s x ++ spilled_item s y
  two_items x y = flat_map-cons (spilled_item s) x (y ∷ []) ∙ ap (λ (ys : List Item). spilled_item s x ++ ys) (one_item y)

  long_loads : (p : Pos) (r : ℕ) (z : Option ℕ) → length (loads p r z) ≤ 1
  long_loads p r None = omega arith
  long_loads p r (Some n) = omega arith

  long_two : (p : Pos) (os : List Operand) (z : Option ℕ) → length (two_loads s p os z) ≤ 2
  long_two p os None = omega arith
  long_two p os (Some n) = one_more (length (loads p s.second (other_used s.homes n os))) (long_loads p s.second (other_used s.homes n os)) where
    one_more : (m : ℕ) → m ≤ 1 → suc m ≤ 2
    one_more m le = omega (arith, le)

  long_stores : (p : Pos) (r : ℕ) (z : Option ℕ) → length (stores p r z) ≤ 1
  long_stores p r None = omega arith
  long_stores p r (Some n) = omega arith

  four : (a b c : ℕ) → a ≤ 2 → b ≤ 1 → c ≡ a + suc b → c ≤ 4
  four a b c le le' e = omega (arith, le, le', e)

  long_code : (i : Instruction) (n : Option ℕ) (o : Origin) (l : Loc) → length (code_items s i n o l) ≤ 4
  long_code i n o l =
      let before : List Item = two_loads s (position_of o) i.operands (first_used s.homes i.operands) in
      let after : List Item = stores (below (position_of o)) s.first (first_defined s.homes i.operands) in
      four (length before) (length after) (length (code_items s i n o l)) (long_two (position_of o) i.operands (first_used s.homes i.operands))
      (long_stores (below (position_of o)) s.first (first_defined s.homes i.operands)) (length-append before (item (Code (spilled_code s i) n) o l ∷ after))

  shorter : (xs ys : List Item) (n : ℕ) → xs ≡ ys → length ys ≤ n → length xs ≤ n
  shorter xs ys n e le = subst (λ (zs : List Item). length zs ≤ n) (sym e) le

  one_short : (x : Item) → length (spilled_item s x) ≤ 4 → length (spilled_items s (x ∷ [])) ≤ 4
  one_short x le = shorter (spilled_items s (x ∷ [])) (spilled_item s x) 4 (one_item x) le

  long_mark : (k : ℕ) (v : VarId) (r : ℕ) (home : Option ℕ) (o : Origin) (l : Loc) → length (spilled_items s (mark_asked s k v r home o l)) ≤ 4
  long_mark k v r None o l = one_short (item (Mark v (value_left s r)) o l) (omega arith)
  long_mark k v r (Some n) o l =
      let phi : Item = item_before (Phi (Some (Register r)) k) o in
      let mark : Item = item (Mark v (Pair (first_operand k))) o l in
      shorter (spilled_items s (phi ∷ mark ∷ [])) (spilled_item s phi ++ spilled_item s mark) 4 (two_items phi mark) (omega arith)

  pub long_kind : (k : ℕ) (x : ItemKind) (o : Origin) (l : Loc) → length (spilled_items s (kind_asked s k x o l)) ≤ 4
  long_kind k (Code i n) o l = one_short (item (Code i n) o l) (long_code i n o l)
  long_kind k (Phi p n) o l = one_short (item (Phi (place_left s p) n) o l) (omega arith)
  long_kind k (Mark v Nothing) o l = one_short (item (Mark v Nothing) o l) (omega arith)
  long_kind k (Mark v (Constant n)) o l = one_short (item (Mark v (Constant n)) o l) (omega arith)
  long_kind k (Mark v (Pair q)) o l = one_short (item (Mark v (Pair q)) o l) (omega arith)
  long_kind k (Mark v (At r)) o l = long_mark k v r (slot_of s.homes r) o l

  -- a test that passes no debug item
  module _ (p : ItemKind → Bool) (marks : (v : VarId) (m : MarkValue) → p (Mark v m) ≡ false) (phis : (q : Option Place) (n : ℕ) → p (Phi q n) ≡ false) where
    abbrev pub count : List Item → ℕ
    count xs = count_by (λ (i : Item). p i.kind) xs

    zero_plus : (n : ℕ) → 0 + n ≡ n
    zero_plus n = omega arith

    pub fails : (x : Item) (xs : List Item) → p x.kind ≡ false → count (x ∷ xs) ≡ count xs
    fails x xs e = sum_by-cons (λ (i : Item). cond (p i.kind) 1 0) x xs ∙ ap (λ (b : Bool). cond b 1 0 + count xs) e ∙ zero_plus (count xs)

    pub passes : (x : Item) (xs : List Item) → p x.kind ≡ true → count (x ∷ xs) ≡ 1 + count xs
    passes x xs e = sum_by-cons (λ (i : Item). cond (p i.kind) 1 0) x xs ∙ ap (λ (b : Bool). cond b 1 0 + count xs) e

    none_mark : (k : ℕ) (v : VarId) (r : ℕ) (home : Option ℕ) (o : Origin) (l : Loc) → count (spilled_items s (mark_asked s k v r home o l)) ≡ 0
    none_mark k v r None o l = ap count (one_item (item (Mark v (value_left s r)) o l)) ∙ fails (item (Mark v (value_left s r)) o l) []
        (marks v (value_left s r))
    none_mark k v r (Some n) o l =
        let mark : Item = item (Mark v (Pair (first_operand k))) o l in
        let phi : Item = item_before (Phi (spilled_place s.homes (Some (Register r))) k) o in
        ap count (two_items (item_before (Phi (Some (Register r)) k) o) mark) ∙ fails phi (mark ∷ []) (phis (spilled_place s.homes (Some (Register r))) k) ∙
        fails mark [] (marks v (Pair (first_operand k)))

    none_phi : (q : Option Place) (n : ℕ) (o : Origin) (l : Loc) → count (spilled_items s (item (Phi q n) o l ∷ [])) ≡ 0
    none_phi q n o l = ap count (one_item (item (Phi q n) o l)) ∙ fails (item (Phi (spilled_place s.homes q) n) o l) [] (phis (spilled_place s.homes q) n)

    none_same : (v : VarId) (m : MarkValue) (o : Origin) (l : Loc) → count (spilled_items s (item (Mark v m) o l ∷ [])) ≡ 0
    none_same v m o l = ap count (one_item (item (Mark v m) o l)) ∙ fails (item (Mark v m) o l) [] (marks v m)

    -- and code at most so often
    module _ (most : ℕ) (code : (i : Instruction) (n : Option ℕ) (o : Origin) (l : Loc) → count (code_items s i n o l) ≤ most * count
        (item (Code i n) o l ∷ [])) where
      le_none : (a b : ℕ) → a ≡ 0 → a ≤ b
      le_none a b e = omega (arith, e)

      pub count_kind : (k : ℕ) (x : ItemKind) (o : Origin) (l : Loc) → count (spilled_items s (kind_asked s k x o l)) ≤ most * count (item x o l ∷ [])
      count_kind k (Code i n) o l =
          subst (λ (xs : List Item). count xs ≤ most * count (item (Code i n) o l ∷ [])) (sym (one_item (item (Code i n) o l))) (code i n o l)
      count_kind k (Phi q n) o l = le_none _ _ (none_phi (place_left s q) n o l)
      count_kind k (Mark v Nothing) o l = le_none _ _ (none_same v Nothing o l)
      count_kind k (Mark v (Constant n)) o l = le_none _ _ (none_same v (Constant n) o l)
      count_kind k (Mark v (Pair q)) o l = le_none _ _ (none_same v (Pair q) o l)
      count_kind k (Mark v (At r)) o l = le_none _ _ (none_mark k v r (slot_of s.homes r) o l)

  -- ---- code

  no_code_mark : (v : VarId) (m : MarkValue) → is_code (Mark v m) ≡ false
  no_code_mark v m = refl

  no_code_phi : (q : Option Place) (n : ℕ) → is_code (Phi q n) ≡ false
  no_code_phi q n = refl

  four_of : (a b c : ℕ) → a ≤ b → b ≤ 4 → c ≡ 1 → a ≤ 4 * c
  four_of a b c le le' e = omega (arith, le, le', e)

  pub code_kind : (k : ℕ) (x : ItemKind) (o : Origin) (l : Loc) →
      count_by (λ (i : Item). is_code i.kind) (spilled_items s (kind_asked s k x o l)) ≤ 4 * count_by (λ (i : Item). is_code i.kind) (item x o l ∷ [])
  code_kind = count_kind is_code no_code_mark no_code_phi 4
      (λ i n o l. four_of _ (length (code_items s i n o l)) _ (count_by-le-length (λ (i : Item). is_code i.kind) (code_items s i n o l)) (long_code i n o l)
      (passes is_code no_code_mark no_code_phi (item (Code i n) o l) [] refl))

  -- ---- calls

  no_call_mark : (v : VarId) (m : MarkValue) → is_call_kind (Mark v m) ≡ false
  no_call_mark v m = refl

  no_call_phi : (q : Option Place) (n : ℕ) → is_call_kind (Phi q n) ≡ false
  no_call_phi q n = refl

  abbrev call_count : List Item → ℕ
  call_count xs = count_by (λ (i : Item). is_call_kind i.kind) xs

  no_loads : (p : Pos) (r : ℕ) (z : Option ℕ) (ys : List Item) → call_count (loads p r z ++ ys) ≡ call_count ys
  no_loads p r None ys = refl
  no_loads p r (Some n) ys = fails is_call_kind no_call_mark no_call_phi (added p (load r n)) ys refl

  no_two : (p : Pos) (os : List Operand) (z : Option ℕ) (ys : List Item) → call_count (two_loads s p os z ++ ys) ≡ call_count ys
  no_two p os None ys = refl
  no_two p os (Some n) ys =
      fails is_call_kind no_call_mark no_call_phi (added p (load s.first n)) (loads p s.second (other_used s.homes n os) ++ ys) refl ∙
      no_loads p s.second (other_used s.homes n os) ys

  no_stores : (p : Pos) (r : ℕ) (z : Option ℕ) → call_count (stores p r z) ≡ 0
  no_stores p r None = refl
  no_stores p r (Some n) = fails is_call_kind no_call_mark no_call_phi (added p (store r n)) [] refl

  call_head : (i : Instruction) (n : Option ℕ) (o : Origin) (l : Loc) (ys : List Item) →
      call_count (item (Code (spilled_code s i) n) o l ∷ ys) ≡ call_count (item (Code i n) o l ∷ []) + call_count ys
  call_head i n o l ys =
      sum_by-cons (λ (x : Item). cond (is_call_kind x.kind) 1 0) (item (Code (spilled_code s i) n) o l) ys ∙
      ap (λ (b : Bool). cond b 1 0 + call_count ys) (call_renamed (use_now s (first_used s.homes i.operands)) (def_now s) i) ∙
      ap (λ (m : ℕ). m + call_count ys) (sym (sum_by-cons (λ (x : Item). cond (is_call_kind x.kind) 1 0) (item (Code i n) o l) [] ∙ no_more
      (cond (is_call (row_of i)) 1 0))) where
        no_more : (m : ℕ) → m + 0 ≡ m
        no_more m = omega arith

  as_often : (a b c : ℕ) → a ≡ b + c → c ≡ 0 → a ≤ 1 * b
  as_often a b c e none = omega (arith, e, none)

  pub call_kind : (k : ℕ) (x : ItemKind) (o : Origin) (l : Loc) → call_count (spilled_items s (kind_asked s k x o l)) ≤ 1 * call_count (item x o l ∷ [])
  call_kind = count_kind is_call_kind no_call_mark no_call_phi 1
      (λ i n o l. as_often _ _ _
      (no_two (position_of o) i.operands (first_used s.homes i.operands)
      (item (Code (spilled_code s i) n) o l ∷ stores (below (position_of o)) s.first (first_defined s.homes i.operands)) ∙
      call_head i n o l (stores (below (position_of o)) s.first (first_defined s.homes i.operands)))
      (no_stores (below (position_of o)) s.first (first_defined s.homes i.operands)))

  -- ---- the stores at the start

  pub long_entry : (b : ℕ) (entry : List SlotAssignment) → length (entry_stores b entry) ≡ length entry
  long_entry b entry = length-map entry (λ (h : SlotAssignment). added (block_start b) (store h.register h.slot))

  pub no_calls_entry : (b : ℕ) (entry : List SlotAssignment) → call_count (entry_stores b entry) ≡ 0
  no_calls_entry b [] = refl
  no_calls_entry b (h ∷ hs) =
      fails is_call_kind no_call_mark no_call_phi (added (block_start b) (store h.register h.slot)) (entry_stores b hs) refl ∙ no_calls_entry b hs
