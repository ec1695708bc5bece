-- Why each entity is tracked: what is appended, one entity after the other, is named by an item, or is among the few others.
use Rattle.std.proofs.Common.{◌≡◌, ◌⊎◌, ℕ, ℤ, ◌<◌, List, [], length, sym, ap, ◌∙◌, subst, arith, inl, inr, get_or}
use Rattle.std.specs.Prelude.{All, Contains, Option, Some, Bool, true, false}
use Rattle.std.proofs.lemmas.List.Elements.{Contains-push_cases, Contains-get_or}
use Rattle.rv64_instr.specs.declared.place.Place.TheVariants.{Slot as AtSlot, Const}
use Rattle.rv64_instr.specs.Arithmetic.{word}
use Rattle.rv64_instr.specs.Instruction.{Instruction}
use Rattle.rv64_instr.specs.Row.{Fixes, row_of}
use Rattle.rv64_instr.specs.View.{SlotAccess, access_of, write_of}
use Rattle.mir_func.specs.declared.block.Block.{Block}
use Rattle.mir_func.specs.declared.debug_substitution.OperandPair.{OperandPair}
use Rattle.mir_func.specs.declared.item.Item.{Item}
use Rattle.mir_func.specs.declared.item.ItemKind.TheVariants.{Code, Mark, Phi}
use Rattle.mir_func.specs.declared.variable.VarId.{VarId}
use Rattle.mir_func.specs.declared.variable.MarkValue.{MarkValue}
use Rattle.mir_func.specs.declared.variable.MarkValue.TheVariants.{Constant, Pair as OfPair}
use Rattle.value_solver.specs.declared.tracked.Tracked.{Tracked}
use Rattle.value_solver.specs.declared.tracked.Tracked.TheVariants.{Register, Slot, Pair, Part, Number}
use Rattle.value_live_ins.specs.declared.gather.TrackedItemSet.{TrackedItemSet}
use Rattle.value_live_ins.specs.Gathering.{IsGathered, Added, AppendsOnly, IsRegister, IsPairOf}
use Rattle.value_live_ins.specs.Used.{Names, accessed, fixed, assigned, constant, resolved, read, read_constant}
use Rattle.value_live_ins.specs.Used.{IsNamedIn, IsNamed, IsUsed, register, number_zero, asked_for, named}
use Rattle.value_live_ins.proofs.Gathering.{stands_at}

-- ---- what is appended

pub only_added : (old new : List Tracked) (x : Tracked) (b : Bool) → Added old new x b → AppendsOnly (λ y. y ≡ x) old new
only_added old new x true e y h = elim (Contains-push_cases old x y (subst (λ (z : List Tracked). Contains z y) e h)) [ inl k ↦ inl k | inr k ↦ inr (sym k) ]
only_added old new x false e y h = inl (subst (λ (z : List Tracked). Contains z y) e.0 h)

pub only_weaker : (P Q : Tracked → Type 0) → ((x : Tracked) → P x → Q x) → (old new : List Tracked) → AppendsOnly P old new → AppendsOnly Q old new
only_weaker P Q f old new a x h = elim (a x h) [ inl k ↦ inl k | inr k ↦ inr (f x k) ]

pub only_is : (P : Tracked → Type 0) (y : Tracked) → P y → (old new : List Tracked) → AppendsOnly (λ x. x ≡ y) old new → AppendsOnly P old new
only_is P y p old new a = only_weaker (λ x. x ≡ y) P (λ x same. subst P (sym same) p) old new a

pub only_then : (P : Tracked → Type 0) (xs ys zs : List Tracked) → AppendsOnly P xs ys → AppendsOnly P ys zs → AppendsOnly P xs zs
only_then P xs ys zs a b x h = elim (b x h) [ inl k ↦ a x k | inr k ↦ inr k ]

-- ---- what code names

module _ (i : Instruction) (n : ℕ) (old new : List Tracked) where
  pub only_fixed : (rd : ℕ) → row_of i ≡ Fixes rd n → AppendsOnly (λ x. x ≡ Number n) old new →
      (ends : OperandPair → Option OperandPair) (k : Option ℕ) → AppendsOnly (Names ends (Code i k)) old new
  only_fixed rd e a ends k = only_is (Names ends (Code i k)) (Number n) (fixed rd (ap write_of e)) old new a

  pub only_accessed : access_of (row_of i) ≡ SlotAccess n → AppendsOnly (λ x. x ≡ Slot n) old new →
      (ends : OperandPair → Option OperandPair) (k : Option ℕ) → AppendsOnly (Names ends (Code i k)) old new
  only_accessed e a ends k = only_is (Names ends (Code i k)) (Slot n) (accessed e) old new a

-- ---- what debug values and DBG_PHIs name

module _ (ends : OperandPair → Option OperandPair) (old new : List Tracked) where
  pub only_part : (v : VarId) (m : MarkValue) (b : Bool) → Added old new (Part v) b → AppendsOnly (Names ends (Mark v m)) old new
  only_part v m b e = only_is (Names ends (Mark v m)) (Part v) assigned old new (only_added old new (Part v) b e)

  pub only_constant : (v : VarId) (c : ℤ) (n : ℕ) → n ≡ word c → AppendsOnly (λ x. x ≡ Number n) old new →
      AppendsOnly (Names ends (Mark v (Constant c))) old new
  only_constant v c n e =
      only_is (Names ends (Mark v (Constant c))) (Number n) (subst (λ (k : ℕ). Names ends (Mark v (Constant c)) (Number k)) (sym e) constant) old new

  pub only_resolved : (v : VarId) (q end : OperandPair) → ends q ≡ Some end → AppendsOnly (λ x. x ≡ Pair end) old new →
      AppendsOnly (Names ends (Mark v (OfPair q))) old new
  only_resolved v q end e a = only_is (Names ends (Mark v (OfPair q))) (Pair end) (resolved e) old new a

  pub only_read : (n k : ℕ) → AppendsOnly (λ x. x ≡ Slot n) old new → AppendsOnly (Names ends (Phi (Some (AtSlot n)) k)) old new
  only_read n k a = only_is (Names ends (Phi (Some (AtSlot n)) k)) (Slot n) read old new a

  pub only_read_constant : (c : ℤ) (k n : ℕ) → n ≡ word c → AppendsOnly (λ x. x ≡ Number n) old new → AppendsOnly (Names ends (Phi (Some (Const c)) k)) old new
  only_read_constant c k n e =
      only_is (Names ends (Phi (Some (Const c)) k)) (Number n) (subst (λ (m : ℕ). Names ends (Phi (Some (Const c)) k) (Number m)) (sym e) read_constant) old new

pub only_register : (r : ℕ) (old new : List Tracked) → AppendsOnly (λ x. x ≡ Register r) old new → AppendsOnly IsRegister old new
only_register r old new a = only_weaker (λ x. x ≡ Register r) IsRegister (λ x same. (r, same)) old new a

-- ---- one more item, block or pair

module _ (n : ℕ) (first old new : List Tracked) where
  pub only_item : (ends : OperandPair → Option OperandPair) (items : List Item) (item : Item) → n < length items → item ≡ get_or items n item →
      AppendsOnly (IsNamedIn ends items) first old → AppendsOnly (Names ends item.kind) old new → AppendsOnly (IsNamedIn ends items) first new
  only_item ends items item lt at before one =
      only_then (IsNamedIn ends items) first old new before
      (only_weaker (Names ends item.kind) (IsNamedIn ends items) (λ x h. (item, (n, lt, sym at), h)) old new one)

  pub only_block : (ends : OperandPair → Option OperandPair) (blocks : List Block) (block : Block) → n < length blocks →
      block ≡ get_or blocks n block → AppendsOnly (IsNamed ends blocks) first old → AppendsOnly (IsNamedIn ends block.items) old new →
      AppendsOnly (IsNamed ends blocks) first new
  only_block ends blocks block lt at before one =
      only_then (IsNamed ends blocks) first old new before
      (only_weaker (IsNamedIn ends block.items) (IsNamed ends blocks) (λ x h. (block, (n, lt, sym at), h)) old new one)

  pub only_pair : (pairs : List OperandPair) (pair : OperandPair) → n < length pairs → pair ≡ get_or pairs n pair →
      AppendsOnly (IsPairOf pairs) first old → AppendsOnly (λ x. x ≡ Pair pair) old new → AppendsOnly (IsPairOf pairs) first new
  only_pair pairs pair lt at before one =
      only_then (IsPairOf pairs) first old new before
      (only_weaker (λ x. x ≡ Pair pair) (IsPairOf pairs) (λ x same. (pair, (n, lt, sym at), same)) old new one)

-- ---- all entities

module _ (blocks : List Block) (ends : OperandPair → Option OperandPair) (asked : List OperandPair) (parts registers nil pairs : List Tracked)
    (all : TrackedItemSet) (is : IsGathered all) (by_parts : AppendsOnly (IsNamed ends blocks) [] parts) (by_registers : AppendsOnly IsRegister parts registers)
    (by_nil : AppendsOnly (λ x. x ≡ Number 0) registers nil) (by_pairs : AppendsOnly (IsPairOf asked) nil pairs)
    (by_items : AppendsOnly (IsNamed ends blocks) pairs all.things) where
  abbrev U : Tracked → Type 0
  U = IsUsed blocks ends asked

  in_parts : (x : Tracked) → (Contains [] x) ⊎ IsNamed ends blocks x → U x
  in_parts x (inl (k, lt, e)) = absurd (let no : k < 0 = lt in omega (arith, no))
  in_parts x (inr h) = named h

  in_registers : (x : Tracked) → Contains all.things x → Contains parts x ⊎ IsRegister x → U x
  in_registers x among (inl h) = in_parts x (by_parts x h)
  in_registers x among (inr (r, same)) =
      let s = stands_at all.things x among in
      subst U (sym same) (register (is.may s.0 (Register r) (s.1 ∙ ap (λ (z : Tracked). Some z) same)))

  in_nil : (x : Tracked) → Contains all.things x → Contains registers x ⊎ (x ≡ Number 0) → U x
  in_nil x among (inl h) = in_registers x among (by_registers x h)
  in_nil x among (inr same) = subst U (sym same) number_zero

  in_pairs : (x : Tracked) → Contains all.things x → Contains nil x ⊎ IsPairOf asked x → U x
  in_pairs x among (inl h) = in_nil x among (by_nil x h)
  in_pairs x among (inr (q, among_asked, same)) = subst U (sym same) (asked_for among_asked)

  in_items : (x : Tracked) → Contains all.things x → Contains pairs x ⊎ IsNamed ends blocks x → U x
  in_items x among (inl h) = in_pairs x among (by_pairs x h)
  in_items x among (inr h) = named h

  pub all_used : (things : List Tracked) → things ≡ all.things → All U things
  all_used things same = subst (λ (z : List Tracked). All U z) (sym same)
      (λ k d lt. let among = Contains-get_or all.things k d lt in in_items (get_or all.things k d) among (by_items (get_or all.things k d) among))
