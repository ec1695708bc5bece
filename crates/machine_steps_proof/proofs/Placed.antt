-- Rows placed at addresses: no word of one is the return's, and its target is the exit's. The lines at addresses.
use Rattle.std.proofs.Common.{◌≡◌, ◌⊎◌, ℕ, ◌+◌, ◌%◌, ◌^◌, ◌<◌, ℤ, pos, negsuc, ◌-ℤ◌, ◌-◌, List, ◌∷◌}
use Rattle.std.proofs.Common.{Option, Some, None, Bool}
use Rattle.std.proofs.Common.{true, false, cond, not, nat_eq, IsSome, IsTrue, IfSome, refl, sym, ap, ◌∙◌, subst, inl, inr, eq-eqb}
use Rattle.std.proofs.Common.{ne_eqb, arith}
use Rattle.std.proofs.lemmas.Int.{ints}
use Rattle.rv64_instr.specs.declared.op.BranchOp.{BranchOp}
use Rattle.rv64_instr.specs.declared.op.BranchOp.TheVariants.{Bne, Bge, Bgeu}
use Rattle.rv64_instr.specs.Arithmetic.{taken}
use Rattle.rv64_instr.specs.Row.{Row, Fixes, Moves, Sets, Addresses, Loads, Stores, LoadsSlot, StoresSlot, Branches, Jumps, Calls, Returns, Unfit}
use Rattle.rv64_word.specs.declared.machine_op.MachineOp.{MachineOp}
use Rattle.rv64_word.specs.MachineOp.{is_encodable, word_of}
use Rattle.rv64_word.specs.MachineRow.{Does, LinksTo, machine_row, placed, at_offset}
use Rattle.rv64_instr.specs.Inverse.{inverse}
use Rattle.rv64_word.specs.Decoded.{decoded}
use Rattle.rv64_word.specs.Lowering.{return_op}
use Rattle.rv64_word.proofs.Decoding.{is_decoded}
use Rattle.mir_func.specs.declared.exit.Exit.TheVariants.{Perhaps, Always}
use Rattle.mir_func.specs.Exits.{row_exit}
use Rattle.sem_machine.specs.Image.{CodeLine, line_at}
use Rattle.sem_machine.specs.MachineStep.{return_word}
use Rattle.sem_machine.specs.MachineStep.{left_by}
use Rattle.machine_steps_proof.specs.Laid.{target_of}
use Rattle.machine_steps_proof.proofs.Rows.{IsWordRow}

-- code of one word doesn't leave the function
pub word_stays : (r : Row) → IsWordRow r → left_by r ≡ None
word_stays (Returns ending) w = absurd w
word_stays _ w = refl

-- a word of an operation that does a row isn't the return's
pub does_not_return : (m : MachineOp) (a : ℕ) (target object : ℕ) (part : ℤ) (r : Row) → IsTrue (is_encodable m) →
    machine_row a m ≡ placed target object part r → IsWordRow r → word_of m ≡ return_word → ⊥
does_not_return m a target object part r fits row is e =
    let mine = is_decoded m (word_of m) fits refl in
    let ret = is_decoded return_op return_word refl (unfold word_of in refl) in
    let both : Some m ≡ Some return_op = sym mine ∙ ap decoded e ∙ ret in
    let same : m ≡ return_op = cc in
    let links : placed target object part r ≡ LinksTo 0 1 0 = sym row ∙ ap (machine_row a) same in
    by_row r is links where
      by_row : (r : Row) → IsWordRow r → placed target object part r ≡ LinksTo 0 1 0 → ⊥
      by_row (Calls call) is k = absurd is
      by_row (Returns ending) is k = absurd is
      by_row Unfit is k = absurd is
      by_row _ is k = cc

pub some_of : (o : Option MachineOp) → IsSome o → (m : MachineOp) × (o ≡ Some m)
some_of None h = cc
some_of (Some m) h = (m, refl)

pub if_some : (P : MachineOp → Type 0) (o : Option MachineOp) (m : MachineOp) → IfSome o P → o ≡ Some m → P m
if_some P o m h e = subst (λ (x : Option MachineOp). IfSome x P) e h

-- an offset leads to its address
pub leads_to : (a s : ℕ) → a < 2 ^ 64 → s < 2 ^ 64 → at_offset a (pos s -ℤ pos a) ≡ s
leads_to a s la ls = elim (Rattle.std.proofs.lemmas.Bool.cases_lt s a) as (λ _. at_offset a (pos s -ℤ pos a) ≡ s) [
  | inl lt ↦
      (let e : pos s -ℤ pos a ≡ negsuc (a - s - 1) = omega (arith, ints, lt) in
      ap (at_offset a) e ∙ (let k : (a + (2 ^ 64 - 1 - (a - s - 1) % 2 ^ 64)) % 2 ^ 64 ≡ s = omega (arith, lt, la, ls) in k))
  | inr ge ↦
      (let e : pos s -ℤ pos a ≡ pos (s - a) = omega (arith, ints, ge) in
      ap (at_offset a) e ∙ (let k : (a + (s - a) % 2 ^ 64) % 2 ^ 64 ≡ s = omega (arith, ge, la, ls) in k))
]

pub inverted_taken : (op : BranchOp) (x y : ℕ) → taken (inverse op) x y ≡ not (taken op x y)
unfolding taken
inverted_taken Bne x y = twice (nat_eq x y) where
  twice : (b : Bool) → b ≡ not (not b)
  twice true = refl
  twice false = refl
inverted_taken Bge x y = twice _ where
  twice : (b : Bool) → b ≡ not (not b)
  twice true = refl
  twice false = refl
inverted_taken Bgeu x y = twice _ where
  twice : (b : Bool) → b ≡ not (not b)
  twice true = refl
  twice false = refl
inverted_taken _ x y = refl

-- the target counts for branches alone
pub same_place : (r : Row) (t u object : ℕ) (part : ℤ) → ((n : ℕ) → (row_exit r ≡ Perhaps n) ⊎ (row_exit r ≡ Always n) → t ≡ u) →
    placed t object part r ≡ placed u object part r
same_place (Branches op a b n) t u object part h = ap (λ (x : ℕ). Does (Branches op a b x)) (h n (inl refl))
same_place (Jumps n) t u object part h = ap (λ (x : ℕ). Does (Jumps x)) (h n (inr refl))
same_place _ t u object part h = refl

pub exit_target : (r : Row) (n : ℕ) → (row_exit r ≡ Perhaps n) ⊎ (row_exit r ≡ Always n) → target_of r ≡ n
exit_target (Branches op a b t) n (inl e) = cc
exit_target (Branches op a b t) n (inr e) = cc
exit_target (Jumps t) n (inl e) = cc
exit_target (Jumps t) n (inr e) = cc
exit_target (Fixes rd m) n (inl e) = cc
exit_target (Fixes rd m) n (inr e) = cc
exit_target (Moves rd rs) n (inl e) = cc
exit_target (Moves rd rs) n (inr e) = cc
exit_target (Sets rd op a b) n (inl e) = cc
exit_target (Sets rd op a b) n (inr e) = cc
exit_target (Addresses rd m o) n (inl e) = cc
exit_target (Addresses rd m o) n (inr e) = cc
exit_target (Loads rd op b o) n (inl e) = cc
exit_target (Loads rd op b o) n (inr e) = cc
exit_target (Stores op rs b o) n (inl e) = cc
exit_target (Stores op rs b o) n (inr e) = cc
exit_target (LoadsSlot rd m) n (inl e) = cc
exit_target (LoadsSlot rd m) n (inr e) = cc
exit_target (StoresSlot rs m) n (inl e) = cc
exit_target (StoresSlot rs m) n (inr e) = cc
exit_target (Calls call) n (inl e) = cc
exit_target (Calls call) n (inr e) = cc
exit_target (Returns ending) n (inl e) = cc
exit_target (Returns ending) n (inr e) = cc
exit_target Unfit n (inl e) = cc
exit_target Unfit n (inr e) = cc

pub line_first : (x : CodeLine) (more : List CodeLine) (a : ℕ) → x.address ≡ a → line_at (x ∷ more) a ≡ Some x
line_first x more a e = ap (λ (b : Bool). cond b (Some x) (line_at more a)) (eq-eqb x.address a e)

pub line_second : (x y : CodeLine) (more : List CodeLine) (a : ℕ) → (x.address ≡ a → ⊥) → y.address ≡ a → line_at (x ∷ y ∷ more) a ≡ Some y
line_second x y more a ne e = ap (λ (b : Bool). cond b (Some x) (line_at (y ∷ more) a)) (ne_eqb x.address a ne) ∙ line_first y more a e
