-- The transfer step over calls, in its parts.
use Rattle.std.proofs.Common.{◌≡◌, ℕ, Bool, true, false, ◌||◌, ◌&&◌, not, nat_eq, List, refl, sym, ap, ◌∙◌}
use Rattle.std.specs.List.{list_any}
use Rattle.rv64_instr.specs.declared.operand.Operand.{Operand}
use Rattle.rv64_instr.specs.declared.place.Place.{Place}
use Rattle.rv64_instr.specs.declared.place.Place.TheVariants.{Register, Slot, Const}
use Rattle.rv64_instr.specs.Instruction.{Instruction}
use Rattle.rv64_instr.specs.Row.{Row, Callee, Named, Held, CallSite, Calls, row_of}
use Rattle.rv64_instr.specs.View.{write_of}
use Rattle.rv64_instr.specs.DefsAndUses.{caller_saved, sets}
use Rattle.rv64_instr.specs.LocationEffects.{uses_of, defines_of, first_use, second_use, is_register, has_implicit_uses, is_implicit_use, is_outgoing}
use Rattle.rv64_instr.specs.LocationEffects.{names_slot, slot_read, sets_slot, is_passed, callee_place}
use Rattle.rv64_instr.proofs.Passed.{passed_by}
use Rattle.mir_func.specs.Sound.{PlaceIn}
use Rattle.pass_liveness.specs.Sets.{is_place, is_slot}
use Rattle.pass_liveness.specs.Steps.{is_among, reads_implicitly}
use Rattle.pass_liveness.proofs.Places.{or_false}

-- what code of a row reads, where its operands are these
abbrev used_by : Row → List Operand → Place → Bool
used_by row os (Register r) = is_register r (first_use row) || is_register r (second_use row) || (has_implicit_uses row && list_any (is_implicit_use r) os)
used_by row os (Slot n) = names_slot (slot_read row) n || (has_implicit_uses row && list_any (is_outgoing n) os)
used_by row os (Const c) = false

used_is : (i : Instruction) (x : Place) → uses_of i x ≡ used_by (row_of i) i.operands x
used_is i (Register r) = refl
used_is i (Slot n) = refl
used_is i (Const c) = refl

callee_no_slot : (callee : Callee) (n : ℕ) → is_slot n (callee_place callee) ≡ false
callee_no_slot (Named name) n = refl
callee_no_slot (Held r) n = refl

pub callee_in : (slots : List ℕ) (callee : Callee) → PlaceIn slots (callee_place callee)
callee_in slots (Named name) = tt
callee_in slots (Held r) = tt

or_last : (k r : Bool) → (k || false || r) ≡ (k || (r || false))
or_last true r = refl
or_last false r = sym (or_false r)

or_grouped : (k p q : Bool) → (k || (p || q)) ≡ ((k || p) || q)
or_grouped true p q = refl
or_grouped false p q = refl

called_uses : (call : CallSite) (os : List Operand) (x : Place) →
    used_by (Calls call) os x ≡ (is_place x (callee_place call.callee) || (reads_implicitly x os || is_passed x os))
called_uses call os (Register r) = or_last (is_register r (callee_place call.callee)) (list_any (is_implicit_use r) os)
called_uses call os (Slot n) = ap (λ (b : Bool). b || list_any (is_outgoing n) os) (sym (callee_no_slot call.callee n))
called_uses call os (Const c) = refl

over_call : (o a p r : Bool) → (p || (r || ((o && not a) && not p))) ≡ ((r || p) || (o && not (a || p)))
over_call o a true true = refl
over_call o a true false = refl
over_call o a false true = refl
over_call true true false false = refl
over_call true false false false = refl
over_call false true false false = refl
over_call false false false false = refl

both_removed : (o a p : Bool) → ((o && not a) && not p) ≡ (o && not (a || p))
both_removed true true p = refl
both_removed true false p = refl
both_removed false a p = refl

both_added : (o a p : Bool) → (p || (a || o)) ≡ ((a || p) || o)
both_added o true true = refl
both_added o true false = refl
both_added o false true = refl
both_added o false false = refl

module _ (i : Instruction) where
  abbrev os : List Operand
  os = i.operands

  module _ (call : CallSite) (e : row_of i ≡ Calls call) where
    defines : (x : Place) → defines_of (row_of i) x ≡ (is_among x caller_saved || is_passed x os)
    defines (Register r) = ap (λ (row : Row). list_any (nat_eq r) (sets row)) e ∙ sym (or_false (list_any (nat_eq r) caller_saved))
    defines (Slot n) = ap (λ (row : Row). sets_slot (write_of row) n) e ∙ sym (passed_by i call e n)
    defines (Const c) = refl

    uses : (x : Place) → uses_of i x ≡ (is_place x (callee_place call.callee) || (reads_implicitly x os || is_passed x os))
    uses x = used_is i x ∙ ap (λ (row : Row). used_by row os x) e ∙ called_uses call os x

    -- what a call sets is taken out, and then what it reads is added
    pub call_step : (old without bare read passed new : Place → Bool) → ((x : Place) → without x ≡ (old x && not (is_among x caller_saved))) →
        ((x : Place) → bare x ≡ (without x && not (is_passed x os))) → ((x : Place) → read x ≡ (reads_implicitly x os || bare x)) →
        ((x : Place) → passed x ≡ (is_passed x os || read x)) → ((x : Place) → new x ≡ (is_place x (callee_place call.callee) || passed x)) →
        (x : Place) → new x ≡ (uses_of i x || (old x && not (defines_of (row_of i) x)))
    call_step old without bare read passed new one two three four five x =
        let p = is_passed x os in
        let r = reads_implicitly x os in
        let k = is_place x (callee_place call.callee) in
        let others = four x ∙ ap (λ (z : Bool). p || z) (three x ∙ ap (λ (z : Bool). r || z) (two x ∙ ap (λ (z : Bool). z && not p) (one x)))
        ∙ over_call (old x) (is_among x caller_saved) p r in
        five x ∙ ap (λ (z : Bool). k || z) others ∙ or_grouped k (r || p) (old x && not (is_among x caller_saved || p))
        ∙ sym (λ j. uses x j || (old x && not (defines x j)))

    pub call_removed : (old without new : Place → Bool) → ((x : Place) → without x ≡ (old x && not (is_among x caller_saved))) →
        ((x : Place) → new x ≡ (without x && not (is_passed x os))) → (x : Place) → new x ≡ (old x && not (defines_of (row_of i) x))
    call_removed old without new one two x =
        let p = is_passed x os in
        two x ∙ ap (λ (z : Bool). z && not p) (one x) ∙ both_removed (old x) (is_among x caller_saved) p ∙ sym (λ j. old x && not (defines x j))

    pub call_added : (old with_registers new : Place → Bool) → ((x : Place) → with_registers x ≡ (is_among x caller_saved || old x)) →
        ((x : Place) → new x ≡ (is_passed x os || with_registers x)) → (x : Place) → new x ≡ (defines_of (row_of i) x || old x)
    call_added old with_registers new one two x =
        let p = is_passed x os in
        two x ∙ ap (λ (z : Bool). p || z) (one x) ∙ both_added (old x) (is_among x caller_saved) p ∙ sym (λ j. defines x j || old x)
