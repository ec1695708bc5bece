-- What operands with a number define, in each.
use Rattle.std.proofs.Common.{◌≡◌, inl, inr, ℕ, zero, suc, List, [], ◌∷◌, map, Option, Some, None, Bool, true, false, cond}
use Rattle.std.proofs.Common.{nat_eq, slice_get, eq-eqb, ne_eqb, refl, sym, ap, ◌∙◌, subst}
use Rattle.std.specs.List.{list_all}
use Rattle.std.proofs.lemmas.Bool.{cases_eq, and_parts}
use Rattle.rv64_instr.specs.declared.op.Op.{Op}
use Rattle.rv64_instr.specs.declared.op.Op.TheVariants.{Registers, Immediate, Lui, Branch, Load, Store, Copy}
use Rattle.rv64_instr.specs.declared.op.Op.TheVariants.{PseudoBr, PseudoCall, PseudoRet, PseudoCallIndirect}
use Rattle.rv64_instr.specs.declared.op.Op.TheVariants.{PseudoTail, PseudoTailIndirect, NoReturnCall, NoReturnCallIndirect}
use Rattle.rv64_instr.specs.declared.operand.Operand.{Operand}
use Rattle.rv64_instr.specs.declared.operand.Operand.TheVariants.{Def, Use, ImplicitDef, ImplicitUse, Imm, Slot, Object, Block, Symbol, Mask}
use Rattle.rv64_instr.specs.Arithmetic.{word}
use Rattle.rv64_instr.specs.DefsAndUses.{caller_saved, sets}
use Rattle.rv64_instr.specs.Form.{has_form, is_argument, is_clobbered}
use Rattle.rv64_instr.specs.LocationEffects.{is_call}
use Rattle.rv64_instr.specs.Row.{Row, Calls, row_by, immediate_row, object_row, move_row, implicit_uses, held_tail, held_gone}
use Rattle.sem_mir.specs.State.{Core, content}
use Rattle.sem_mir.specs.Step.{seen, defined, given as given_pair}
use Rattle.sem_mir.proofs.Told.{Below}
use Rattle.scan_rule.specs.spill_code.Rewrite.{renamed_operand}
use Rattle.scan_rule.specs.spill_simulation.MaySpill.{defs_in}
use Rattle.scan_rule.proofs.spill_simulation.Items.{call_implicit}
use Rattle.scan_rule.proofs.scan_allocation.Named.{immediate_plain, object_plain, move_plain, not_both}

module _ (u : ℕ → ℕ) where
  abbrev pub renamed_def : Option ℕ → Option ℕ
  renamed_def None = None
  renamed_def (Some r) = Some (u r)

  -- an explicit definition under its new name
  pub renamed_at : (os : List Operand) (o : ℕ) → defined false (slice_get (map (renamed_operand u u) os) o) ≡ renamed_def (defined false (slice_get os o))
  renamed_at [] o = refl
  renamed_at (Def r ∷ os) zero = refl
  renamed_at (Use r ∷ os) zero = refl
  renamed_at (ImplicitDef r ∷ os) zero = refl
  renamed_at (ImplicitUse r ∷ os) zero = refl
  renamed_at (_ ∷ os) zero = refl
  renamed_at (x ∷ os) (suc o) = renamed_at os o

  -- of a call, which has no explicit definition
  pub call_at : (os : List Operand) (o : ℕ) → defs_in os ≡ [] → defined true (slice_get (map (renamed_operand u u) os) o) ≡ defined true (slice_get os o)
  call_at [] o e = refl
  call_at (Def r ∷ os) o e = cc
  call_at (Use r ∷ os) zero e = refl
  call_at (ImplicitDef r ∷ os) zero e = refl
  call_at (ImplicitUse r ∷ os) zero e = refl
  call_at (_ ∷ os) zero e = refl
  call_at (Use r ∷ os) (suc o) e = call_at os o e
  call_at (_ ∷ os) (suc o) e = call_at os o e

  -- what debug items see of a register in each
  pub seen_below : (q q' : ℕ) (c d : Core) → (q ≡ 2 → q' ≡ 2) → content c.regs q ≡ content d.regs q' → Below (seen false q c) (seen false q' d)
  seen_below q q' c d two e v k =
      elim (cases_eq q 2) as (λ _. seen false q c ≡ Some v) [
        | inl z ↦ (let none : ◌≡◌ {A = Option ℕ} None (Some v) = ap (λ (t : Bool). cond t None (content d.regs q')) (sym (eq-eqb q' 2 (two z))) ∙ k in cc)
        | inr ne ↦ ap (λ (t : Bool). cond t None (content c.regs q)) (ne_eqb q 2 ne) ∙ e ∙ full (nat_eq q' 2) k
      ] where
        full : (t : Bool) → cond t None (content d.regs q') ≡ Some v → content d.regs q' ≡ Some v
        full true k = cc
        full false k = k

  pub pointer_below : (q : ℕ) (c d : Core) → q ≡ 2 → Below (seen false q c) (seen false q d)
  pointer_below q c d z v k =
      let none : ◌≡◌ {A = Option ℕ} None (Some v) = ap (λ (t : Bool). cond t None (content d.regs q)) (sym (eq-eqb q 2 z)) ∙ k in
      cc

  pub given_below : (x : Option ℕ) (c d : Core) (a b : Option ℕ) → Below a b → ((r : ℕ) → x ≡ Some r → Below (seen false r c) (seen false (u r) d)) →
      Below (given_pair false x a c) (given_pair false (renamed_def x) b d)
  given_below None c d a b k h = k
  given_below (Some r) c d a b k h = h r refl

pub call_below : (x : Option ℕ) (c d : Core) (a b : Option ℕ) → Below a b → ((r : ℕ) → x ≡ Some r → Below (seen false r c) (seen false r d)) →
    Below (given_pair false x a c) (given_pair false x b d)
call_below None c d a b k h = k
call_below (Some r) c d a b k h = h r refl

-- ---- what a call names as set

argument : (os : List Operand) (o r : ℕ) → list_all is_argument os ≡ true → defined true (slice_get os o) ≡ Some r → is_clobbered r ≡ true
argument [] o r e d = cc
argument (ImplicitDef q ∷ os) zero r e d =
    let same : q ≡ r = cc in
    subst (λ (x : ℕ). is_clobbered x ≡ true) same (and_parts (is_clobbered q) (list_all is_argument os) e).0
argument (ImplicitUse q ∷ os) zero r e d = cc
argument (_ ∷ os) zero r e d = cc
argument (x ∷ os) (suc o) r e d = argument os o r (and_parts (is_argument x) (list_all is_argument os) e).1 d

tail_no_call : (xs : List ℕ) → is_call (held_tail xs) ≡ true → ⊥
tail_no_call [] i = cc
tail_no_call (r ∷ xs) i = cc

gone_no_call : (xs : List ℕ) → is_call (held_gone xs) ≡ true → ⊥
gone_no_call [] i = cc
gone_no_call (r ∷ xs) i = cc

by_op : (op : Op) (os : List Operand) → has_form op os ≡ true → is_call (row_by op os) ≡ true → (o r : ℕ) → defined true (slice_get os o) ≡ Some r →
    is_clobbered r ≡ true
by_op PseudoCall (Symbol name ∷ Mask ∷ rest) e i zero r d = cc
by_op PseudoCall (Symbol name ∷ Mask ∷ rest) e i (suc zero) r d = cc
by_op PseudoCall (Symbol name ∷ Mask ∷ rest) e i (suc (suc o)) r d = argument rest o r e d
by_op PseudoRet os e i o r d = cc
by_op (Registers op) (Def rd ∷ Use a ∷ Use b ∷ rest) e i o r d = cc
by_op (Immediate op) (Def rd ∷ Use a ∷ Imm n ∷ rest) e i o r d =
    absurd (not_both (immediate_plain op rd a (word n)) (call_implicit (immediate_row op rd a (word n)) i))
by_op (Immediate op) (Def rd ∷ Object n ∷ Imm z ∷ rest) e i o r d =
    absurd (not_both (object_plain op rd n (word z)) (call_implicit (object_row op rd n (word z)) i))
by_op Lui (Def rd ∷ Imm n ∷ rest) e i o r d = cc
by_op (Branch op) (Use a ∷ Use b ∷ Block n ∷ rest) e i o r d = cc
by_op (Load op) (Def rd ∷ Use a ∷ Imm n ∷ rest) e i o r d = cc
by_op (Load op) (Def rd ∷ Slot n ∷ Imm z ∷ rest) e i o r d = cc
by_op (Load op) (Def rd ∷ Object n ∷ Imm z ∷ rest) e i o r d = cc
by_op (Store op) (Use a ∷ Use b ∷ Imm n ∷ rest) e i o r d = cc
by_op (Store op) (Use a ∷ Slot n ∷ Imm z ∷ rest) e i o r d = cc
by_op (Store op) (Use a ∷ Object n ∷ Imm z ∷ rest) e i o r d = cc
by_op Copy (Def rd ∷ Use a ∷ rest) e i o r d = absurd (not_both (move_plain rd a) (call_implicit (move_row rd a) i))
by_op PseudoBr (Block n ∷ rest) e i o r d = cc
by_op PseudoCallIndirect (Use q ∷ Mask ∷ rest) e i zero r d = cc
by_op PseudoCallIndirect (Use q ∷ Mask ∷ rest) e i (suc zero) r d = cc
by_op PseudoCallIndirect (Use q ∷ Mask ∷ rest) e i (suc (suc o)) r d = argument rest o r e d
by_op PseudoTail (Symbol name ∷ rest) e i o r d = cc
by_op PseudoTailIndirect os e i o r d = absurd (tail_no_call (implicit_uses os) i)
by_op NoReturnCall (Symbol name ∷ rest) e i o r d = cc
by_op NoReturnCallIndirect os e i o r d = absurd (gone_no_call (implicit_uses os) i)
by_op _ _ e i o r d = cc

-- it is caller-saved, or x0 or x2
pub call_clobbers : (op : Op) (os : List Operand) → has_form op os ≡ true → is_call (row_by op os) ≡ true → (o r : ℕ) →
    defined true (slice_get os o) ≡ Some r → is_clobbered r ≡ true
call_clobbers = by_op

pub call_sets : (r : Row) → is_call r ≡ true → sets r ≡ caller_saved
call_sets (Calls call) e = refl
call_sets _ e = cc
