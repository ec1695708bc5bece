-- All code of a settled layout has its words.
use Rattle.std.proofs.Common.{◌≡◌, ℕ, zero, suc, ◌+◌, ◌%◌, ◌^◌, ◌<◌, ◌≤◌, Bool, true, false, cond, List, [], ◌∷◌, drop, get_or, Option, Some}
use Rattle.std.proofs.Common.{None, refl, sym, ap, subst, inl, inr, ◌∙◌, arith}
use Rattle.std.specs.Prelude.{ℤ, pos, negsuc, ◌-ℤ◌, ◌⊎◌, IsTrue, IsSome, All, Contains, slice_get, option_map}
use Rattle.rv64_instr.specs.declared.op.Op.TheVariants as source
use Rattle.rv64_instr.specs.declared.op.BranchOp.{BranchOp}
use Rattle.rv64_instr.specs.declared.operand.Operand.{Operand}
use Rattle.rv64_instr.specs.declared.operand.Operand.TheVariants.{Block as OfBlock}
use Rattle.rv64_instr.specs.Form.{is_within, has_form}
use Rattle.rv64_instr.specs.Instruction.{Instruction}
use Rattle.rv64_instr.specs.Row.{Row, Fixes, Moves, Sets, Addresses, Loads, Stores, LoadsSlot, StoresSlot, Branches, Jumps, Calls, Returns, Unfit, row_of}
use Rattle.rv64_instr.specs.View.{access_of}
use Rattle.rv64_word.specs.declared.machine_op.MachineOp.{MachineOp}
use Rattle.rv64_instr.specs.LocationEffects.{object_named, has_site}
use Rattle.rv64_word.specs.MachineOp.{is_even}
use Rattle.rv64_word.specs.Lowering.{lowered}
use Rattle.mir_func.specs.declared.block.Block.{Block}
use Rattle.mir_func.specs.declared.exit.Exit.{Exit}
use Rattle.mir_func.specs.declared.exit.Exit.TheVariants.{Onward, Perhaps, Always, Final}
use Rattle.mir_func.specs.declared.item.Item.{Item}
use Rattle.mir_func.specs.declared.item.ItemKind.{ItemKind}
use Rattle.mir_func.specs.declared.item.ItemKind.TheVariants.{Code}
use Rattle.mir_func.specs.declared.position.Pos.{Pos}
use Rattle.mir_func.specs.Exits.{row_exit, exit_of}
use Rattle.mir_func.specs.Graph.{Here, fetch_in}
use Rattle.mir_func.specs.Objects.{offset_of}
use Rattle.mir_func.specs.Sound.{AllItems, HasBytes, SlotIn, SlotsIn, ObjectIn, ObjectsIn, HasForm}
use Rattle.mir_func.specs.SoundFrame.{own_size, slot_offsets, AccessReaches, KindReaches, IsFramed, HasPhysical, IsPhysical}
use Rattle.emit_code.specs.Counts.{MAX_BASE, count_of}
use Rattle.emit_code.specs.LongBranch.{jump_to}
use Rattle.emit_code.specs.Laid.{FormWorded, IsWorded, IsFit}
use Rattle.emit_code.specs.BranchRelaxation.{IsBranchTo, with_short, reaches_in, IsClosed}
use Rattle.emit_code.specs.Rule.{Layout, row_form, items_at, bytes_before, address_in, start_of, offset_to, object_offset, operation_at, skip_operation}
use Rattle.emit_code.specs.Rule.{jump_operation, CallSite, OneWord}
use Rattle.emit_code.specs.steps.Emitted.{IsFormed}
use Rattle.mir_func.proofs.Ends.{bytes_within}
use Rattle.emit_code.proofs.Bounds.{bytes_aligned, bytes_small}
use Rattle.emit_code.proofs.Emitting.{inv, skipped}
use Rattle.emit_code.proofs.Encodes.{HasWord, OffsetFits, offset, place, code_word}
use Rattle.emit_code.proofs.Fits.{fit}
use Rattle.emit_code.proofs.Least.{short_at, short_already, bytes_same}
use Rattle.emit_code.proofs.Settled.{item_at, in_range, target_point}

-- ---- of each item

at_index : (items : List Item) (n : ℕ) (i : Item) → slice_get items n ≡ Some i → get_or items n i ≡ i
at_index [] n i e = absurd cc
at_index (x ∷ items) zero i e = let same : x ≡ i = cc in same
at_index (x ∷ items) (suc n) i e = at_index items n i e

all_at : (P : Item → Type 0) (blocks : List Block) → AllItems P blocks → (b n : ℕ) (i : Item) → slice_get (items_at blocks b) n ≡ Some i → P i
all_at P [] all b n i e = absurd cc
all_at P (x ∷ blocks) all zero n i e = subst P (at_index x.items n i e) (all 0 x (omega arith) n i (in_range x.items n i e))
all_at P (x ∷ blocks) all (suc b) n i e = all_at P blocks (λ k d lt. all (suc k) d (omega arith)) b n i e

-- ---- where code goes

-- what a layout is worded by
pub record Sound (l : Layout) : Type 0 where
  pub framed : IsFramed l.framed
  pub forms : AllItems IsFormed l.framed.blocks
  pub few : count_of l.framed.blocks < 262144
  pub aligned : l.base % 4 ≡ 0
  pub closed : IsClosed l

some_of : {o : Option MachineOp} (m : MachineOp) → o ≡ Some m → IsSome o
some_of m e = rw e refl

only_block : (n k : ℕ) (d : Operand) → k < 1 → IsPhysical (get_or (OfBlock n ∷ []) k d)
only_block n zero d lt = tt
only_block n (suc k) d lt = absurd (omega arith)

no_slot : (n : ℕ) → Contains [] n → n ≤ 2047
no_slot n has = let lt = has.1 in absurd (omega (arith, lt))

no_object : (n bytes : ℕ) → HasBytes [] n bytes → 0 + offset_of [] n + bytes ≤ 2047
no_object n bytes has = let e : None ≡ Some has.0 = has.1 in absurd cc

jump_has_word : (n : ℕ) (offset : ℤ) → IsTrue (is_within (negsuc 1048575) (pos 1048574) offset) → IsTrue (is_even offset) → HasWord offset 0 (jump_to n)
jump_has_word n offset near even = code_word [] [] 0 no_slot no_object source.PseudoBr (OfBlock n ∷ []) offset refl (only_block n) tt tt tt (near, even) differ
  where
    differ : false ≡ true → ⊥
    differ e = cc

module _ (l : Layout) (s : Sound l) where
  aligned_at : (p : Pos) → address_in l p % 4 ≡ 0
  aligned_at p =
      let bytes = bytes_aligned l.long l.framed.blocks p in
      let base = s.aligned in
      omega (arith, bytes, base)

  room_of : (n bytes : ℕ) → HasBytes l.framed.objects n bytes → own_size l.framed + offset_of l.framed.objects n + bytes ≤ 2047
  room_of n bytes has =
      let within = bytes_within l.framed.objects n bytes has in
      let reach = s.framed.reach in
      omega (arith, within, reach)

  slot_low : (n : ℕ) → Contains (slot_offsets l.framed) n → n ≤ 2047
  slot_low n has =
      let at = s.framed.offsets has.0 n has.1 in
      let size = s.framed.small in
      let here : get_or (slot_offsets l.framed) has.0 n ≡ n = has.2 in
      let own : own_size l.framed ≤ l.framed.size = omega arith in
      omega (arith, at.1, here, size, own)

  -- a short branch reaches
  reach_true : (p : Pos) (n : ℕ) → IsBranchTo l.framed p n → l.long p ≡ false → IsTrue (is_within (negsuc 4095) (pos 4094) (pos (start_of l n) -ℤ pos
      (address_in l p)))
  reach_true p n branch short = by_test (reaches_in (with_short p l) p n) refl
    where
      same : (q : Pos) → bytes_before (short_at p l.long) l.framed.blocks q ≡ bytes_before l.long l.framed.blocks q
      same q = bytes_same (short_at p l.long) l.long (short_already l.long p short) l.framed.blocks q

      by_test : (t : Bool) → reaches_in (with_short p l) p n ≡ t → IsTrue (is_within (negsuc 4095) (pos 4094) (pos (start_of l n) -ℤ pos (address_in l p)))
      by_test true e =
          (λ i. is_within (negsuc 4095) (pos 4094) (pos (l.base + sym (same (target_point l.framed.blocks n)) i) -ℤ pos (l.base + sym (same p) i))) ∙ e
      by_test false e = let long : l.long p ≡ true = s.closed p n branch e in absurd cc

  even_to : (n : ℕ) (a : ℕ) → a % 4 ≡ 0 → IsTrue (is_even (pos (start_of l n) -ℤ pos a))
  even_to n a e = let o = offset a (start_of l n) e (aligned_at (target_point l.framed.blocks n)) in o.even

  -- a jump does
  near : (n a : ℕ) (p : Pos) → (a ≡ address_in l p) ⊎ (a ≡ address_in l p + 4) → a % 4 ≡ 0 →
      IsTrue (is_within (negsuc 1048575) (pos 1048574) (pos (start_of l n) -ℤ pos a))
  near n a p is e =
      let there = bytes_small l.long l.framed.blocks (target_point l.framed.blocks n) in
      let here = bytes_small l.long l.framed.blocks p in
      let few = s.few in
      let o = offset a (start_of l n) e (aligned_at (target_point l.framed.blocks n)) in
      let bounds : (a < start_of l n + 1048577) × (start_of l n < a + 1048575) =
      elim is as (λ z. (a < start_of l n + 1048577) × (start_of l n < a + 1048575)) [
        | inl h ↦ (omega (arith, h, there, here, few), omega (arith, h, there, here, few))
        | inr h ↦ (omega (arith, h, there, here, few), omega (arith, h, there, here, few))
      ] in
      o.near bounds.0 bounds.1

  exit_fits : (p : Pos) (i : Item) → fetch_in (drop p.block l.framed.blocks) p.item ≡ Here i → (e : Exit) → exit_of i.kind ≡ e → ((n : ℕ) → e ≡ Perhaps n →
      l.long p ≡ false) →
      OffsetFits e (offset_to l (address_in l p) e)
  exit_fits p i at Onward is short = tt
  exit_fits p i at Final is short = tt
  exit_fits p i at (Perhaps n) is short =
      (reach_true p n (record { item = i; stands = at; goes = is }) (short n refl), even_to n (address_in l p) (aligned_at p))
  exit_fits p i at (Always n) is short = (near n (address_in l p) p (inl refl) (aligned_at p), even_to n (address_in l p) (aligned_at p))

  jump_worded : (p : Pos) (n : ℕ) → IsSome (jump_operation l (address_in l p) n)
  jump_worded p n =
      let here = aligned_at p in
      let even : (address_in l p + 4) % 4 ≡ 0 = omega (arith, here) in
      let w = jump_has_word n (pos (start_of l n) -ℤ pos (address_in l p + 4)) (near n (address_in l p + 4) p (inr refl) even) (even_to n (address_in l p + 4)
      even) in
      some_of w.operation w.is

  -- ---- each code

  place_same : (o : Option ℕ) → place (slot_offsets l.framed) l.framed.objects (own_size l.framed) slot_low room_of o ≡ object_offset l.framed o
  place_same None = refl
  place_same (Some n) = refl

  code_has_word : (c : Instruction) (offset : ℤ) → IsTrue (has_form c.op c.operands) → All IsPhysical c.operands → SlotIn (slot_offsets l.framed) (row_of c) →
      ObjectIn l.framed.objects (row_of c) → AccessReaches (own_size l.framed) l.framed.objects (access_of (row_of c)) → OffsetFits (row_exit (row_of c)) offset →
      (has_site (row_of c) ≡ true → ⊥) → HasWord offset (object_offset l.framed (object_named (row_of c))) c
  code_has_word c offset form physical slot object reaches fit other =
      let w = code_word (slot_offsets l.framed) l.framed.objects (own_size l.framed) slot_low room_of c.op c.operands offset form physical slot object reaches
      fit other in
      subst (λ (n : ℕ). HasWord offset n c) (place_same (object_named (row_of c))) (record { operation = w.operation; is = w.is })

  module _ (p : Pos) (i : Item) (c : Instruction) (k : Option ℕ) (at : fetch_in (drop p.block l.framed.blocks) p.item ≡ Here i) (is : i.kind ≡ Code c k) where
    of_kind : (P : ItemKind → Type 0) → AllItems (λ x. P x.kind) l.framed.blocks → P (Code c k)
    of_kind P all = subst P is (all_at (λ x. P x.kind) l.framed.blocks all p.block p.item i (item_at l.framed.blocks p.block p.item i at))

    has_word_at : (offset : ℤ) → OffsetFits (row_exit (row_of c)) offset → (has_site (row_of c) ≡ true → ⊥) →
        HasWord offset (object_offset l.framed (object_named (row_of c))) c
    has_word_at offset fit other =
        code_has_word c offset (of_kind HasForm s.forms) (of_kind HasPhysical s.framed.physical) (of_kind (SlotsIn (slot_offsets l.framed)) s.framed.slots).0
        (of_kind (ObjectsIn l.framed.objects) s.framed.objects) (of_kind (KindReaches (own_size l.framed) l.framed.objects) s.framed.addresses) fit other

    exit_is : exit_of i.kind ≡ row_exit (row_of c)
    exit_is = ap exit_of is

    one_worded : ((n : ℕ) → row_exit (row_of c) ≡ Perhaps n → l.long p ≡ false) → (has_site (row_of c) ≡ true → ⊥) → IsSome (operation_at l (address_in l p) c)
    one_worded short other =
        let w = has_word_at (offset_to l (address_in l p) (row_exit (row_of c))) (exit_fits p i at (row_exit (row_of c)) exit_is short) other in
        some_of w.operation w.is

    no_site : (row : Row) → row_of c ≡ row → has_site row ≡ false → has_site (row_of c) ≡ true → ⊥
    no_site row e none has = let bad : false ≡ true = sym none ∙ sym (ap has_site e) ∙ has in cc

    one_row : (row : Row) → row_of c ≡ row → ((m : ℕ) → row_exit row ≡ Perhaps m → l.long p ≡ false) → has_site row ≡ false →
        IsSome (operation_at l (address_in l p) c)
    one_row row e short none = one_worded (λ m h. short m (sym (ap row_exit e) ∙ h)) (no_site row e none)

    skip_worded : (op : BranchOp) (a b n : ℕ) → row_of c ≡ Branches op a b n → IsSome (skip_operation c)
    skip_worded op a b n e =
        let w = has_word_at (pos 8) (subst (λ (x : Exit). OffsetFits x (pos 8)) (sym (ap row_exit e)) (refl, refl)) (no_site (Branches op a b n) e refl) in
        let zero_at : object_offset l.framed (object_named (row_of c)) ≡ 0 = ap (λ (row : Row). object_offset l.framed (object_named row)) e in
        let found : lowered (pos 8) 0 c ≡ Some w.operation = ap (λ (o : ℕ). lowered (pos 8) o c) (sym zero_at) ∙ w.is in
        some_of (inv w.operation) (skipped c ∙ ap (option_map inv) found)

    row_worded : (row : Row) → row_of c ≡ row → (long : Bool) → l.long p ≡ long → FormWorded l (address_in l p) c (row_form long row)
    row_worded (Fixes rd n) e long t = one_row (Fixes rd n) e (λ m h. absurd cc) refl
    row_worded (Moves rd rs) e long t = one_row (Moves rd rs) e (λ m h. absurd cc) refl
    row_worded (Sets rd op a b) e long t = one_row (Sets rd op a b) e (λ m h. absurd cc) refl
    row_worded (Addresses rd n offset) e long t = one_row (Addresses rd n offset) e (λ m h. absurd cc) refl
    row_worded (Loads rd op base offset) e long t = one_row (Loads rd op base offset) e (λ m h. absurd cc) refl
    row_worded (Stores op rs base offset) e long t = one_row (Stores op rs base offset) e (λ m h. absurd cc) refl
    row_worded (LoadsSlot rd n) e long t = one_row (LoadsSlot rd n) e (λ m h. absurd cc) refl
    row_worded (StoresSlot rs n) e long t = one_row (StoresSlot rs n) e (λ m h. absurd cc) refl
    row_worded (Branches op a b n) e true t = (skip_worded op a b n e, jump_worded p n)
    row_worded (Branches op a b n) e false t = one_row (Branches op a b n) e (λ m h. t) refl
    row_worded (Jumps target) e long t = one_row (Jumps target) e (λ m h. absurd cc) refl
    row_worded (Calls call) e long t = by_site (has_site (Calls call)) refl where
      by_site : (b : Bool) → has_site (Calls call) ≡ b → FormWorded l (address_in l p) c (cond b CallSite OneWord)
      by_site true h = tt
      by_site false h = one_row (Calls call) e (λ m x. absurd cc) h
    row_worded (Returns ending) e long t = by_site (has_site (Returns ending)) refl where
      by_site : (b : Bool) → has_site (Returns ending) ≡ b → FormWorded l (address_in l p) c (cond b CallSite OneWord)
      by_site true h = tt
      by_site false h = one_row (Returns ending) e (λ m x. absurd cc) h
    row_worded Unfit e long t = one_row Unfit e (λ m h. absurd cc) refl

  pub worded : IsWorded l
  worded p i c k at is = row_worded p i c k at is (row_of c) refl (l.long p) refl

  pub code_fits : IsFit l
  code_fits p i c k at is = fit c.op c.operands (of_kind p i c k at is HasForm s.forms)

  pub addresses_fit : l.base < MAX_BASE → (p : Pos) → address_in l p + 8 < 2 ^ 64
  addresses_fit low p =
      let bytes = bytes_small l.long l.framed.blocks p in
      let few = s.few in
      omega (arith, bytes, few, low)
