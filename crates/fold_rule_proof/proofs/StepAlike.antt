-- What folded items do.
use Rattle.std.proofs.Common.{◌≡◌, ◌⊎◌, ℕ, zero, suc, List, [], ◌∷◌, Option, Some, None, Bool, true, false, cond, not, nat_eq, nat_lt, int_lt}
use Rattle.std.proofs.Common.{slice_get, refl, sym, ap, ◌∙◌, subst, inl, inr}
use Rattle.rv64_instr.specs.declared.op.Op.{Op}
use Rattle.rv64_instr.specs.declared.op.BranchOp.{BranchOp}
use Rattle.rv64_instr.specs.declared.op.BranchOp.TheVariants.{Bne, Bge, Bgeu}
use Rattle.rv64_instr.specs.declared.operand.Operand.{Operand}
use Rattle.rv64_instr.specs.declared.operand.Operand.TheVariants.{Use, Block as OfBlock}
use Rattle.rv64_instr.specs.Arithmetic.{taken, signed}
use Rattle.rv64_instr.specs.Row.{Branches, Jumps, row_of, row_by}
use Rattle.rv64_instr.specs.LocationEffects.{is_call}
use Rattle.rv64_instr.specs.Inverse.{inverse_op, inverse}
use Rattle.mir_func.specs.declared.exit.Exit.{Exit}
use Rattle.mir_func.specs.declared.exit.Exit.TheVariants.{Onward, Perhaps, Always}
use Rattle.mir_func.specs.declared.item.ItemKind.{ItemKind}
use Rattle.mir_func.specs.declared.item.ItemKind.TheVariants.{Code, Mark, Phi}
use Rattle.mir_func.specs.Exits.{row_exit, exit_of}
use Rattle.mir_func.specs.Graph.{Program}
use Rattle.sem_mir.specs.State.{Core, updated}
use Rattle.sem_mir.specs.Step.{Outcome, Falls, Goes, Gives, Traps, Asks, Breaks, read, are_written, does, act, with_core, numbered, given, defined, do_item}
use Rattle.fold_rule.specs.Turned.{aimed, to_block, inverse_to, with_code}
use Rattle.fold_rule_proof.proofs.Rows.{Leads, IsEnding, branch, jump, is_ending}
use Rattle.fold_rule_proof.specs.Alike.{aimed_at, swapped, FoldedItemsDoAlike}

-- a target defines nothing, so what a number gets is the same whatever the target
same_branch_defines : (a b t n : ℕ) (rest : List Operand) (o : ℕ) →
    defined false (slice_get (Use a ∷ Use b ∷ OfBlock n ∷ rest) o) ≡ defined false (slice_get (Use a ∷ Use b ∷ OfBlock t ∷ rest) o)
same_branch_defines a b t n rest zero = refl
same_branch_defines a b t n rest (suc zero) = refl
same_branch_defines a b t n rest (suc (suc zero)) = refl
same_branch_defines a b t n rest (suc (suc (suc o))) = refl

same_jump_defines : (t n : ℕ) (rest : List Operand) (o : ℕ) →
    defined false (slice_get (OfBlock n ∷ rest) o) ≡ defined false (slice_get (OfBlock t ∷ rest) o)
same_jump_defines t n rest zero = refl
same_jump_defines t n rest (suc o) = refl

numbered_same : (sp : Bool) (k : Option ℕ) (os ps : List Operand) → ((o : ℕ) → defined false (slice_get os o) ≡ defined false (slice_get ps o)) →
    (c : Core) → numbered sp false k os c ≡ numbered sp false k ps c
numbered_same sp None os ps e c = refl
numbered_same sp (Some k) os ps e c = λ i. record c { pairs = updated k (λ o. given sp (e o i) (c.pairs k o) c) c.pairs }

not_not : (z : Bool) → z ≡ not (not z)
not_not true = refl
not_not false = refl

inverse_taken : (op : BranchOp) (a b : ℕ) → taken (inverse op) a b ≡ not (taken op a b)
inverse_taken Bne a b = unfold taken in not_not (nat_eq a b)
inverse_taken Bge a b = unfold taken in not_not (int_lt (signed a) (signed b))
inverse_taken Bgeu a b = unfold taken in not_not (nat_lt a b)
inverse_taken _ a b = unfold taken in refl

-- ---- outcomes

branch_aimed : (f : Core → Core) (t n : ℕ) (c : Core) (written goes : Bool) →
    with_core f (cond written (cond goes (Goes n c) (Falls c)) Traps) ≡ aimed_at n (with_core f (cond written (cond goes (Goes t c) (Falls c)) Traps))
branch_aimed f t n c true true = refl
branch_aimed f t n c true false = refl
branch_aimed f t n c false goes = refl

branch_swapped : (f : Core → Core) (t n : ℕ) (c : Core) (written goes : Bool) →
    with_core f (cond written (cond (not goes) (Goes n c) (Falls c)) Traps) ≡ swapped n (with_core f (cond written (cond goes (Goes t c) (Falls c)) Traps))
branch_swapped f t n c true true = refl
branch_swapped f t n c true false = refl
branch_swapped f t n c false goes = refl

same_outcome : (f g : Core → Core) → ((c : Core) → f c ≡ g c) → (x : Outcome) → with_core f x ≡ with_core g x
same_outcome f g e (Falls c) = ap Falls (e c)
same_outcome f g e (Goes n c) = ap (Goes n) (e c)
same_outcome f g e (Gives v) = refl
same_outcome f g e Traps = refl
same_outcome f g e Asks = refl
same_outcome f g e Breaks = refl

branch_act : (f : Core → Core) (op : BranchOp) (a b t n : ℕ) (c : Core) →
    (with_core f (act (Branches op a b n) c) ≡ aimed_at n (with_core f (act (Branches op a b t) c))) ×
    (with_core f (act (Branches (inverse op) a b n) c) ≡ swapped n (with_core f (act (Branches op a b t) c)))
branch_act f op a b t n c = unfold act in unfold does in (
  branch_aimed f t n c (are_written c (a ∷ b ∷ [])) (taken op (read c a) (read c b)),
  ap (λ (z : Bool). with_core f (cond (are_written c (a ∷ b ∷ [])) (cond z (Goes n c) (Falls c)) Traps)) (inverse_taken op (read c a) (read c b)) ∙
      branch_swapped f t n c (are_written c (a ∷ b ∷ [])) (taken op (read c a) (read c b)),
)

jump_act : (f : Core → Core) (t n : ℕ) (c : Core) → with_core f (act (Jumps n) c) ≡ aimed_at n (with_core f (act (Jumps t) c))
jump_act f t n c = unfold act in unfold does in refl

-- ---- instructions

sent_by : (sp : Bool) (k : Option ℕ) (op : Op) (os : List Operand) (n : ℕ) (c : Core) → IsEnding op os →
    with_core (numbered sp (is_call (row_by op (aimed op n os))) k (aimed op n os)) (act (row_by op (aimed op n os)) c) ≡
    aimed_at n (with_core (numbered sp (is_call (row_by op os)) k os) (act (row_by op os) c))
sent_by sp k _ _ n c (branch {op} {a} {b} {t} {rest}) =
    same_outcome (numbered sp false k (Use a ∷ Use b ∷ OfBlock n ∷ rest)) (numbered sp false k (Use a ∷ Use b ∷ OfBlock t ∷ rest))
    (numbered_same sp k _ _ (same_branch_defines a b t n rest)) (act (Branches op a b n) c) ∙
    (branch_act (numbered sp false k (Use a ∷ Use b ∷ OfBlock t ∷ rest)) op a b t n c).0
sent_by sp k _ _ n c (jump {t} {rest}) =
    same_outcome (numbered sp false k (OfBlock n ∷ rest)) (numbered sp false k (OfBlock t ∷ rest))
    (numbered_same sp k _ _ (same_jump_defines t n rest)) (act (Jumps n) c) ∙
    jump_act (numbered sp false k (OfBlock t ∷ rest)) t n c

turned_by : (sp : Bool) (k : Option ℕ) (op : Op) (os : List Operand) (u n : ℕ) (c : Core) → IsEnding op os → row_exit (row_by op os) ≡ Perhaps u →
    with_core (numbered sp (is_call (row_by (inverse_op op) (aimed op n os))) k (aimed op n os)) (act (row_by (inverse_op op) (aimed op n os)) c) ≡
    swapped n (with_core (numbered sp (is_call (row_by op os)) k os) (act (row_by op os) c))
turned_by sp k _ _ u n c (branch {op} {a} {b} {t} {rest}) e =
    same_outcome (numbered sp false k (Use a ∷ Use b ∷ OfBlock n ∷ rest)) (numbered sp false k (Use a ∷ Use b ∷ OfBlock t ∷ rest))
    (numbered_same sp k _ _ (same_branch_defines a b t n rest)) (act (Branches (inverse op) a b n) c) ∙
    (branch_act (numbered sp false k (Use a ∷ Use b ∷ OfBlock t ∷ rest)) op a b t n c).1
turned_by sp k _ _ u n c jump e = cc

pub leads_either : (e : Exit) (t : ℕ) → (e ≡ Perhaps t) ⊎ (e ≡ Always t) → Leads e
leads_either e t (inl h) = subst Leads (sym h) tt
leads_either e t (inr h) = subst Leads (sym h) tt

sent_does : (g : Program) (k : ItemKind) (t n : ℕ) (c : Core) → (exit_of k ≡ Perhaps t) ⊎ (exit_of k ≡ Always t) →
    do_item g (with_code (to_block n) k) c ≡ aimed_at n (do_item g k c)
sent_does g (Code i m) t n c h = sent_by g.sees_pointer m i.op i.operands n c (is_ending i.op i.operands (leads_either (row_exit (row_of i)) t h))
sent_does g (Mark v m) t n c h = absurd (leads_either Onward t h)
sent_does g (Phi p m) t n c h = absurd (leads_either Onward t h)

turned_does : (g : Program) (k : ItemKind) (t n : ℕ) (c : Core) → exit_of k ≡ Perhaps t →
    do_item g (with_code (inverse_to n) k) c ≡ swapped n (do_item g k c)
turned_does g (Code i m) t n c h =
    turned_by g.sees_pointer m i.op i.operands t n c (is_ending i.op i.operands (leads_either (row_exit (row_of i)) t (inl h))) h
turned_does g (Mark v m) t n c h = cc
turned_does g (Phi p m) t n c h = cc

pub items_do_alike : FoldedItemsDoAlike
items_do_alike = record {
  sent = λ g x t n c h. sent_does g x.kind t n c h;
  turned = λ g x t n c h. turned_does g x.kind t n c h;
  made = λ g n o l c. (unfold act in unfold does in refl);
}
