-- What items with their slots named by their offsets do, from cores that are beside each other.
use Rattle.std.proofs.Common.{◌≡◌, ℕ, zero, suc, List, [], ◌∷◌, map, All, Option, Some, None, Bool, true, false, cond, slice_get, refl, sym, ap, ◌∙◌, subst}
use Rattle.std.proofs.Common.{inl, inr, ◌++◌}
use Rattle.std.proofs.lemmas.Bool.{cases_eq, ne_eqb}
use Rattle.rv64_instr.specs.declared.operand.Operand.{Operand}
use Rattle.rv64_instr.specs.declared.operand.Operand.TheVariants.{ImplicitDef}
use Rattle.rv64_instr.specs.declared.place.Place.{Place}
use Rattle.rv64_instr.specs.declared.place.Place.TheVariants.{Register, Slot as InSlot, Const}
use Rattle.rv64_instr.specs.Row.{Row, Calls, Returns, Unfit, row_of}
use Rattle.rv64_instr.specs.DefsAndUses.{reads, way_reads}
use Rattle.rv64_instr.specs.LocationEffects.{is_call}
use Rattle.mir_func.specs.declared.exit.Exit.TheVariants.{Final}
use Rattle.mir_func.specs.declared.framed.SavedRegister.{SavedRegister}
use Rattle.mir_func.specs.declared.item.ItemKind.{ItemKind}
use Rattle.mir_func.specs.declared.item.ItemKind.TheVariants.{Code, Mark, Phi}
use Rattle.mir_func.specs.declared.variable.MarkValue.{MarkValue}
use Rattle.mir_func.specs.declared.variable.MarkValue.TheVariants.{Nothing, Constant, At, Pair}
use Rattle.mir_func.specs.declared.debug_substitution.OperandPair.{OperandPair}
use Rattle.mir_func.specs.Exits.{row_exit}
use Rattle.mir_func.specs.Graph.{Program}
use Rattle.mir_func.specs.Sound.{SlotsIn, PlaceIn, LeavesPointer}
use Rattle.mir_func.proofs.Passed.{passed_slots}
use Rattle.sem_mir.specs.State.{Core, updated}
use Rattle.sem_mir.specs.Step.{Gives, Traps, act, does, seen, defined, given, numbered, with_core, place_value, result_at}
use Rattle.sem_mir.specs.Step.{pair_value}
use Rattle.sem_mir.specs.Step.{mark_value, part_of, are_written, do_item}
use Rattle.sem_mir.specs.Effects.{EndAlike}
use Rattle.sem_mir.proofs.Outcomes.{alike_with, alike_either}
use Rattle.frame_rule.specs.Rule.{renamed_operand, renamed_code, renamed_place, renamed_kind}
use Rattle.frame_rule.proofs.Rows.{renamed_row, row_renamed, IsOther, reads_other}
use Rattle.frame_proof.proofs.Cores.{Beside, AreAbove, act_near, written_near, result_near}

call_same : (slots : List ℕ) (r : Row) → is_call (renamed_row slots r) ≡ is_call r
call_same slots (Calls call) = refl
call_same slots _ = refl

defined_same : (slots : List ℕ) (call : Bool) (x : Operand) → defined call (Some (renamed_operand slots x)) ≡ defined call (Some x)
defined_same slots true (ImplicitDef r) = refl
defined_same slots false (ImplicitDef r) = refl
defined_same slots call _ = refl

operand_same : (slots : List ℕ) (call : Bool) (os : List Operand) (o : ℕ) →
    defined call (slice_get (map (renamed_operand slots) os) o) ≡ defined call (slice_get os o)
operand_same slots call [] zero = refl
operand_same slots call [] (suc o) = refl
operand_same slots call (x ∷ os) zero = defined_same slots call x
operand_same slots call (x ∷ os) (suc o) = operand_same slots call os o

module _ (slots : List ℕ) (saved todo : List SavedRegister) where
  abbrev Near : Core → Core → Type 0
  Near c d = Beside slots saved IsOther todo c d

  -- what marks and numbers see of a register
  seen_near : (c d : Core) → Near c d → (r : ℕ) → seen false r c ≡ seen false r d
  seen_near c d h r = elim (cases_eq r 2) as (λ _. seen false r c ≡ seen false r d) [
    | inl e ↦ rw e refl
    | inr ne ↦ rw (ne_eqb r 2 ne) (sym (h.regs r ne))
  ]

  pairs_near : (c d : Core) → Near c d → c.pairs ≡ d.pairs
  pairs_near c d h = ap (λ (z : Core). z.pairs) h.same

  given_near : (c d : Core) → Near c d → (x y : Option ℕ) (k o : ℕ) → y ≡ x → given false x (c.pairs k o) c ≡ given false y (d.pairs k o) d
  given_near c d h x y k o e = subst (λ (z : Option ℕ). given false x (c.pairs k o) c ≡ given false z (d.pairs k o) d) (sym e) (by_register x) where
    by_register : (z : Option ℕ) → given false z (c.pairs k o) c ≡ given false z (d.pairs k o) d
    by_register None = let p = pairs_near c d h in λ i. p i k o
    by_register (Some r) = seen_near c d h r

  numbered_near : (call : Bool) (k : Option ℕ) (os : List Operand) (c d : Core) → Near c d →
      Near (numbered false call k os c) (numbered false call k (map (renamed_operand slots) os) d)
  numbered_near call None os c d h = h
  numbered_near call (Some k) os c d h =
      let p = pairs_near c d h in
      let v = λ (o : ℕ). given_near c d h (defined call (slice_get os o)) (defined call (slice_get (map (renamed_operand slots) os) o)) k o
      (operand_same slots call os o) in
      record {
        same = λ i. record (h.same i) { pairs = updated k (λ o. v o i) (p i) };
        regs = h.regs;
        kept = h.kept;
        held = h.held;
        written = h.written;
      }

  -- programs that see no pointer, and pairs alike
  module _ (f g : Program) (blind_f : f.sees_pointer ≡ false) (blind_g : g.sees_pointer ≡ false) (resolves : f.resolve ≡ g.resolve) where
    mark_near : (m : MarkValue) (c d : Core) → Near c d → mark_value f m c ≡ mark_value g m d
    mark_near Nothing c d h = refl
    mark_near (Constant z) c d h = refl
    mark_near (At r) c d h = ap (λ (b : Bool). seen b r c) blind_f ∙ seen_near c d h r ∙ ap (λ (b : Bool). seen b r d) (sym blind_g)
    mark_near (Pair q) c d h = by_pair (f.resolve q) (g.resolve q) (λ i. resolves i q) where
      by_pair : (x y : Option OperandPair) → x ≡ y → pair_value x c ≡ pair_value y d
      by_pair x y e = subst (λ (z : Option OperandPair). pair_value x c ≡ pair_value z d) e (by_one x) where
        by_one : (z : Option OperandPair) → pair_value z c ≡ pair_value z d
        by_one None = refl
        by_one (Some w) = let p = pairs_near c d h in λ i. p i w.number w.operand

    place_near : (p : Option Place) (c d : Core) → PlaceIn slots p → Near c d → place_value p c ≡ place_value (renamed_place slots p) d
    place_near None c d k h = refl
    place_near (Some (Register r)) c d k h = seen_near c d h r
    place_near (Some (InSlot n)) c d k h = sym (h.kept n k)
    place_near (Some (Const z)) c d k h = refl

    -- an item does the same with its slots named by their offsets
    pub item_near : AreAbove slots saved → (k : ItemKind) (c d : Core) → LeavesPointer k → SlotsIn slots k → Near c d →
        EndAlike Near (do_item f k c) (do_item g (renamed_kind slots k) d)
    item_near above (Code i n) c d a j h =
        let core : EndAlike Near (act (row_of i) c) (act (renamed_row slots (row_of i)) d) =
        act_near slots saved IsOther todo above c d h (row_of i) (reads_other i a) j.0 (passed_slots slots i j.1) in
        let both : EndAlike Near (with_core (numbered false (is_call (row_of i)) n i.operands) (act (row_of i) c))
        (with_core (numbered false (is_call (row_of i)) n (map (renamed_operand slots) i.operands)) (act (renamed_row slots (row_of i)) d)) =
        alike_with Near Near _ _ (numbered_near (is_call (row_of i)) n i.operands) (act (row_of i) c) (act (renamed_row slots (row_of i)) d) core in
        let named : EndAlike Near (with_core (numbered false (is_call (row_of i)) n i.operands) (act (row_of i) c))
        (with_core (numbered false (is_call (renamed_row slots (row_of i))) n (map (renamed_operand slots) i.operands)) (act (renamed_row slots (row_of i)) d))
        =
        subst (λ (b : Bool). EndAlike Near (with_core (numbered false (is_call (row_of i)) n i.operands) (act (row_of i) c))
        (with_core (numbered false b n (map (renamed_operand slots) i.operands)) (act (renamed_row slots (row_of i)) d))) (sym (call_same slots (row_of i)))
        both in
        let row : EndAlike Near (with_core (numbered false (is_call (row_of i)) n i.operands) (act (row_of i) c))
        (with_core (numbered false (is_call (row_of (renamed_code slots i))) n (map (renamed_operand slots) i.operands)) (act (row_of (renamed_code slots i))
        d)) =
        subst (λ (r : Row). EndAlike Near (with_core (numbered false (is_call (row_of i)) n i.operands) (act (row_of i) c))
        (with_core (numbered false (is_call r) n (map (renamed_operand slots) i.operands)) (act r d))) (sym (row_renamed slots i)) named in
        subst (λ (b : Bool). EndAlike Near (with_core (numbered b (is_call (row_of i)) n i.operands) (act (row_of i) c))
        (with_core (numbered g.sees_pointer (is_call (row_of (renamed_code slots i))) n (map (renamed_operand slots) i.operands))
        (act (row_of (renamed_code slots i)) d))) (sym blind_f)
        (subst (λ (b : Bool). EndAlike Near (with_core (numbered false (is_call (row_of i)) n i.operands) (act (row_of i) c))
        (with_core (numbered b (is_call (row_of (renamed_code slots i))) n (map (renamed_operand slots) i.operands)) (act (row_of (renamed_code slots i)) d)))
        (sym blind_g) row)
    item_near above (Mark v m) c d a j h =
        let e = mark_near m c d h in
        let w : c.marks ≡ d.marks = ap (λ (z : Core). z.marks) h.same in
        record {
          same = λ i. record (h.same i) { marks = (v, part_of v (e i)) ∷ w i };
          regs = h.regs;
          kept = h.kept;
          held = h.held;
          written = h.written;
        }
    item_near above (Phi p k) c d a j h =
        let e = place_near p c d j h in
        let w = pairs_near c d h in
        record {
          same = λ i. record (h.same i) { pairs = updated k (updated 0 (e i) (w i k)) (w i) };
          regs = h.regs;
          kept = h.kept;
          held = h.held;
          written = h.written;
        }

-- ---- code that returns

-- it only reads
pub final_near : (slots : List ℕ) (saved : List SavedRegister) (Alike : ℕ → Type 0) (todo : List SavedRegister) (R : Core → Core → Type 0) (c d : Core) →
    Beside slots saved Alike todo c d → (r : Row) → row_exit r ≡ Final → All Alike (reads r) → EndAlike R (act r c) (act (renamed_row slots r) d)
unfolding act does
final_near slots saved Alike todo R c d h (Returns ending) e k =
    let rs = way_reads ending.way ++ ending.values in
    subst (λ (b : Bool). EndAlike R (cond (are_written c rs) (Gives (result_at c ending)) Traps)
    (cond b (Gives (result_at d ending)) Traps)) (written_near slots saved Alike todo c d h rs k)
    (alike_either R (are_written c rs) (Gives (result_at c ending)) Traps (Gives (result_at d ending)) Traps
    (result_near slots saved Alike todo c d h ending k) tt)
final_near slots saved Alike todo R c d h Unfit e k = tt
final_near slots saved Alike todo R c d h _ e k = cc
