-- Code in whose place a constant is set: how it was and is.
use Rattle.std.proofs.Common.{◌≡◌, ℕ, zero, suc, pos, List, [], ◌∷◌, filter, slice_get, Option, Some, None, Bool, true}
use Rattle.std.proofs.Common.{false, cond, refl, sym, ap, ◌∙◌, subst, inl}
use Rattle.std.specs.List.{list_all}
use Rattle.std.proofs.lemmas.Bool.{and_parts}
use Rattle.rv64_instr.specs.declared.op.Op.TheVariants.{Immediate, Lui}
use Rattle.rv64_instr.specs.declared.op.ImmediateOp.TheVariants.{Addi}
use Rattle.rv64_instr.specs.declared.operand.Operand.{Operand}
use Rattle.rv64_instr.specs.declared.operand.Operand.TheVariants.{Def, Use, ImplicitDef, ImplicitUse, Imm}
use Rattle.rv64_instr.specs.declared.place.Place.TheVariants.{Slot}
use Rattle.rv64_instr.specs.Instruction.{Instruction, is_volatile_load}
use Rattle.rv64_instr.specs.Arithmetic.{signed}
use Rattle.rv64_instr.specs.Form.{has_12_bits, is_implicit}
use Rattle.rv64_instr.specs.Row.{Row, Fixes, Moves, LoadsSlot, Branches, Jumps, Returns, row_of}
use Rattle.mir_func.specs.declared.item.ItemKind.{ItemKind}
use Rattle.mir_func.specs.declared.item.ItemKind.TheVariants.{Code, Mark, Phi}
use Rattle.sem_mir.specs.Step.{defined}
use Rattle.sem_mir.specs.Follow.{SameEnd}
use Rattle.pass_salvage.proofs.Kin.{RowKin, Kin, code_kin, kin_itself}
use Rattle.remat_pass.specs.Known.{Known, number_in}
use Rattle.remat_pass.specs.Remat.{constant_code, set_to, constant_set, constant_for, set_or_same, set_in, upper_part}
use Rattle.remat_pass.proofs.Forms.{all_implicit}
use Rattle.remat_pass.proofs.Constants.{constant_row}

-- what becomes of code: it stays, or it copied or loaded what holds a number that is known
pub data Replaced (known : Known) (i : Instruction) : Instruction → Type 0 where
  same : Replaced known i i
  moved : {rd rs n : ℕ} → is_volatile_load i ≡ false → row_of i ≡ Moves (suc rd) rs → number_in known rs ≡ Some n →
      Replaced known i (constant_code (suc rd) n (filter is_implicit i.operands))
  loaded : {rd s n : ℕ} → is_volatile_load i ≡ false → row_of i ≡ LoadsSlot rd s → known (Slot s) ≡ Some n →
      Replaced known i (constant_code rd n (filter is_implicit i.operands))

pub replaced : (known : Known) (i : Instruction) → Replaced known i (set_or_same (constant_for known i) i)
replaced known i = by_volatile (is_volatile_load i) refl where
  by_move : is_volatile_load i ≡ false → (rd rs : ℕ) → row_of i ≡ Moves (suc rd) rs → (x : Option ℕ) → number_in known rs ≡ x →
      Replaced known i (set_or_same (set_to (suc rd) x) i)
  by_move plain rd rs e None w = same
  by_move plain rd rs e (Some n) w = moved plain e w

  by_load : is_volatile_load i ≡ false → (rd s : ℕ) → row_of i ≡ LoadsSlot rd s → (x : Option ℕ) → known (Slot s) ≡ x →
      Replaced known i (set_or_same (set_to rd x) i)
  by_load plain rd s e None w = same
  by_load plain rd s e (Some n) w = loaded plain e w

  by_row : is_volatile_load i ≡ false → (r : Row) → row_of i ≡ r → Replaced known i (set_or_same (constant_set known r) i)
  by_row plain (Moves zero rs) e = same
  by_row plain (Moves (suc rd) rs) e = by_move plain rd rs e (number_in known rs) refl
  by_row plain (LoadsSlot rd s) e = by_load plain rd s e (known (Slot s)) refl
  by_row plain _ e = same

  by_volatile : (v : Bool) → is_volatile_load i ≡ v → Replaced known i (set_or_same (cond v None (constant_set known (row_of i))) i)
  by_volatile true e = same
  by_volatile false e = by_row e (row_of i) refl

-- ---- rows

-- what holds of each row and of constant definitions holds of the row of what is set
pub row_replaced : (P : Row → Type 0) → ((rd n : ℕ) → P (Fixes rd n)) → (known : Known) (i j : Instruction) → Replaced known i j → P (row_of i) → P (row_of j)
row_replaced P fixed known i j same h = h
row_replaced P fixed known i j (moved {rd} {rs} {n} plain e w) h =
    let c = constant_row (suc rd) n (filter is_implicit i.operands) in
    subst P (sym c.1) (fixed (suc rd) c.0)
row_replaced P fixed known i j (loaded {rd} {s} {n} plain e w) h =
    let c = constant_row rd n (filter is_implicit i.operands) in
    subst P (sym c.1) (fixed rd c.0)

-- and what is one for a copy, a slot load and a constant definition stays
pub row_stays : {A : Type 0} (h : Row → A) (v : A) → ((rd rs : ℕ) → h (Moves rd rs) ≡ v) → ((rd s : ℕ) → h (LoadsSlot rd s) ≡ v) →
    ((rd n : ℕ) → h (Fixes rd n) ≡ v) → (known : Known) (i j : Instruction) → Replaced known i j → h (row_of j) ≡ h (row_of i)
row_stays h v move load fix known i j same = refl
row_stays h v move load fix known i j (moved {rd} {rs} {n} plain e w) =
    let c = constant_row (suc rd) n (filter is_implicit i.operands) in
    ap h c.1 ∙ (fix (suc rd) c.0 ∙ sym (ap h e ∙ move (suc rd) rs))
row_stays h v move load fix known i j (loaded {rd} {s} {n} plain e w) =
    let c = constant_row rd n (filter is_implicit i.operands) in
    ap h c.1 ∙ (fix rd c.0 ∙ sym (ap h e ∙ load rd s))

no_end_moves : (rd rs rd' m : ℕ) (t : Row) → SameEnd t (Moves rd rs) → SameEnd t (Fixes rd' m)
no_end_moves rd rs rd' m (Branches op a b t) h = absurd h
no_end_moves rd rs rd' m (Jumps t) h = absurd h
no_end_moves rd rs rd' m (Returns v) h = absurd h
no_end_moves rd rs rd' m _ h = absurd h

no_end_loads : (rd s rd' m : ℕ) (t : Row) → SameEnd t (LoadsSlot rd s) → SameEnd t (Fixes rd' m)
no_end_loads rd s rd' m (Branches op a b t) h = absurd h
no_end_loads rd s rd' m (Jumps t) h = absurd h
no_end_loads rd s rd' m (Returns v) h = absurd h
no_end_loads rd s rd' m _ h = absurd h

moves_kin : (rd rs rd' m : ℕ) → RowKin (Moves rd rs) (Fixes rd' m)
moves_kin rd rs rd' m = record {
  class = refl;
  jump = refl;
  may = λ k source_end h. absurd h;
  goes = λ n h. absurd h;
  end = no_end_moves rd rs rd' m;
  is_end = λ h. absurd h;
  save = λ h. absurd h;
  edge = λ p q p' e. inl (e, refl);
}

loads_kin : (rd s rd' m : ℕ) → RowKin (LoadsSlot rd s) (Fixes rd' m)
loads_kin rd s rd' m = record {
  class = refl;
  jump = refl;
  may = λ k source_end h. h;
  goes = λ n h. absurd h;
  end = no_end_loads rd s rd' m;
  is_end = λ h. absurd h;
  save = λ h. absurd h;
  edge = λ p q p' e. inl (e, refl);
}

-- a constant definition is no load
constant_no_load : (rd n : ℕ) (rest : List Operand) → is_volatile_load (constant_code rd n rest) ≡ false
constant_no_load rd n rest = by_bits (has_12_bits (signed n)) where
  by_bits : (b : Bool) → is_volatile_load (cond {A = Instruction} b
      (record { op = Immediate Addi; operands = Def rd ∷ Use 0 ∷ Imm (signed n) ∷ rest; volatile = false })
      (record { op = Lui; operands = Def rd ∷ Imm (pos (upper_part n)) ∷ rest; volatile = false })) ≡ false
  by_bits true = refl
  by_bits false = refl

code_replaced : (known : Known) (i j : Instruction) (n : Option ℕ) → Replaced known i j → Kin (Code i n) (Code j n)
code_replaced known i j n same = kin_itself (Code i n)
code_replaced known i j k (moved {rd} {rs} {n} plain e w) =
    let c = constant_row (suc rd) n (filter is_implicit i.operands) in
    code_kin (subst (RowKin (row_of i)) (sym c.1) (subst (λ (r : Row). RowKin r (Fixes (suc rd) c.0)) (sym e) (moves_kin (suc rd) rs (suc rd) c.0)))
    (plain ∙ sym (constant_no_load (suc rd) n (filter is_implicit i.operands)))
code_replaced known i j k (loaded {rd} {s} {n} plain e w) =
    let c = constant_row rd n (filter is_implicit i.operands) in
    code_kin (subst (RowKin (row_of i)) (sym c.1) (subst (λ (r : Row). RowKin r (Fixes rd c.0)) (sym e) (loads_kin rd s rd c.0)))
    (plain ∙ sym (constant_no_load rd n (filter is_implicit i.operands)))

-- a constant stands where code of its kind stood
pub kin_set : (known : Known) (k : ItemKind) → Kin k (set_in known k)
kin_set known (Code i n) = code_replaced known i (set_or_same (constant_for known i) i) n (replaced known i)
kin_set known (Mark v m) = kin_itself (Mark v m)
kin_set known (Phi p n) = kin_itself (Phi p n)

-- ---- operands

abbrev pub first_only : (rd operand : ℕ) → Option ℕ
first_only rd zero = Some rd
first_only rd (suc o) = None

-- the register is defined by operand 0, and nothing else is
abbrev pub DefinesAlone : ℕ → List Operand → Type 0
DefinesAlone rd os = (o : ℕ) → defined false (slice_get os o) ≡ first_only rd o

implicit_defines : (x : Operand) → is_implicit x ≡ true → defined false (Some x) ≡ None
implicit_defines (ImplicitDef r) h = refl
implicit_defines (ImplicitUse r) h = refl
implicit_defines _ h = cc

none_defined : (xs : List Operand) → list_all is_implicit xs ≡ true → (o : ℕ) → defined false (slice_get xs o) ≡ None
none_defined [] h zero = refl
none_defined [] h (suc o) = refl
none_defined (x ∷ xs) h zero = implicit_defines x (and_parts (is_implicit x) (list_all is_implicit xs) h).0
none_defined (x ∷ xs) h (suc o) = none_defined xs (and_parts (is_implicit x) (list_all is_implicit xs) h).1 o

pub alone_two : (rd : ℕ) (x : Operand) (rest : List Operand) → defined false (Some x) ≡ None → list_all is_implicit rest ≡ true →
    DefinesAlone rd (Def rd ∷ x ∷ rest)
alone_two rd x rest none h zero = refl
alone_two rd x rest none h (suc zero) = none
alone_two rd x rest none h (suc (suc o)) = none_defined rest h o

pub alone_three : (rd : ℕ) (x y : Operand) (rest : List Operand) → defined false (Some x) ≡ None → defined false (Some y) ≡ None →
    list_all is_implicit rest ≡ true → DefinesAlone rd (Def rd ∷ x ∷ y ∷ rest)
alone_three rd x y rest none also h zero = refl
alone_three rd x y rest none also h (suc zero) = none
alone_three rd x y rest none also h (suc (suc zero)) = also
alone_three rd x y rest none also h (suc (suc (suc o))) = none_defined rest h o

-- a constant definition does so
pub constant_alone : (rd n : ℕ) (os : List Operand) → DefinesAlone rd (constant_code rd n (filter is_implicit os)).operands
constant_alone rd n os = by_bits (has_12_bits (signed n)) where
  by_bits : (b : Bool) → DefinesAlone rd (cond {A = Instruction} b
      (record { op = Immediate Addi; operands = Def rd ∷ Use 0 ∷ Imm (signed n) ∷ filter is_implicit os; volatile = false })
      (record { op = Lui; operands = Def rd ∷ Imm (pos (upper_part n)) ∷ filter is_implicit os; volatile = false })).operands
  by_bits true = alone_three rd (Use 0) (Imm (signed n)) (filter is_implicit os) refl refl (all_implicit os)
  by_bits false = alone_two rd (Imm (pos (upper_part n))) (filter is_implicit os) refl (all_implicit os)
