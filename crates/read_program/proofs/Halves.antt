-- What the two instructions of an address keep, by the operands of their line.
use Rattle.std.proofs.Common.{◌≡◌, ℕ, Bool, true, false, cond, List, [], ◌∷◌, All, Option, Some, None, refl, ap, subst, inl, inr}
use Rattle.std.specs.List.{list_all}
use Rattle.std.proofs.lemmas.Bool.{and_parts}
use Rattle.std.proofs.lemmas.List.Elements.{All-nil, All-cons, All-head, All-tail, All-weaker}
use Rattle.rv64_instr.specs.declared.op.Op.{Op}
use Rattle.rv64_instr.specs.declared.op.Op.TheVariants.{Immediate, Lui}
use Rattle.rv64_instr.specs.declared.op.ImmediateOp.TheVariants.{Addi}
use Rattle.rv64_instr.specs.declared.operand.Operand.{Operand}
use Rattle.rv64_instr.specs.declared.operand.Operand.TheVariants.{Def, Use, Slot, Object, Part, Outgoing, GlobalRegisters}
use Rattle.rv64_instr.specs.declared.symbol.Half.TheVariants.{Upper, Lower}
use Rattle.rv64_instr.specs.Form.{is_implicit, has_form}
use Rattle.rv64_instr.specs.Instruction.{Instruction}
use Rattle.mir_func.specs.Sound.{IsNotPointer}
use Rattle.read_item.specs.Address.{is_same_address, formed, both, halves_of}
use Rattle.read_item.specs.Opcode.{is_read}
use Rattle.read_program.proofs.Forms.{if_some}
use Rattle.read_program.proofs.Operands.{NamesAmong, IsLimitedIn, IsReadOperand}

pub record IsReadCode (linked : Bool) (entries : List ℕ) (i : Instruction) : Type 0 where
  pub form : has_form i.op i.operands ≡ true
  pub limited : All (IsLimitedIn linked) i.operands
  pub named : All (NamesAmong entries) i.operands
  pub pointer : All IsNotPointer i.operands
  pub read : is_read linked i.op ≡ true
  pub plain : i.volatile ≡ false

pub formed_some : (op : Op) (os : List Operand) (i : Instruction) → formed op os ≡ Some i → (record { op = op; operands = os; volatile = false } ≡ i) × (has_form op os ≡ true)
formed_some op os i e = by (has_form op os) refl e where
  by : (b : Bool) → has_form op os ≡ b → cond b (Some (record { op = op; operands = os; volatile = false })) None ≡ Some i →
      (record { op = op; operands = os; volatile = false } ≡ i) × (has_form op os ≡ true)
  by true is e = (cc, is)
  by false is e = absurd cc

pub both_some : (a b : Option Instruction) (p : Instruction × Instruction) → both a b ≡ Some p → (a ≡ Some p.0) × (b ≡ Some p.1)
both_some None b p e = absurd cc
both_some (Some a) None p e = absurd cc
both_some (Some a) (Some b) p e =
    let same : (a, b) ≡ p = cc in
    (ap (λ (q : Instruction × Instruction). Some q.0) same, ap (λ (q : Instruction × Instruction). Some q.1) same)

implicit_names : (entries : List ℕ) (o : Operand) → is_implicit o ≡ true → NamesAmong entries o
implicit_names entries (Slot n) e = absurd cc
implicit_names entries (Object n) e = absurd cc
implicit_names entries (Outgoing n) e = absurd cc
implicit_names entries GlobalRegisters e = absurd cc
implicit_names entries o e = tt

implicits_name : (entries : List ℕ) (os : List Operand) → list_all is_implicit os ≡ true → All (NamesAmong entries) os
implicits_name entries [] e = All-nil (NamesAmong entries)
implicits_name entries (o ∷ os) e =
    let parts = and_parts (is_implicit o) (list_all is_implicit os) e in
    All-cons (NamesAmong entries) o os (implicit_names entries o parts.0) (implicits_name entries os parts.1)

module _ (linked : Bool) (entries others : List ℕ) where
  abbrev R : Operand → Type 0
  R o = IsReadOperand linked others o

  abbrev Limited : Operand → Type 0
  Limited o = IsLimitedIn linked o

  abbrev Names : Operand → Type 0
  Names o = NamesAmong entries o

  pub halves_read : (os : List Operand) (p : Instruction × Instruction) → All R os → halves_of os ≡ Some p →
      IsReadCode linked entries p.0 × IsReadCode linked entries p.1
  halves_read (Def rd ∷ Part Upper y ∷ Part Lower z ∷ rest) p all e =
      elim (if_some (is_same_address y z) (both (formed Lui upper) (formed (Immediate Addi) lower)) None p e) [
        | inl is ↦ made is.1
        | inr no' ↦ absurd (let it = no'.1 in cc)
      ]
    where
      upper : List Operand
      upper = Def rd ∷ Part Upper y ∷ []

      lower : List Operand
      lower = Def rd ∷ Use rd ∷ Part Lower z ∷ rest

      set' : R (Def rd)
      set' = All-head R (Def rd) (Part Upper y ∷ Part Lower z ∷ rest) all

      behind_set : All R (Part Upper y ∷ Part Lower z ∷ rest)
      behind_set = All-tail R (Def rd) (Part Upper y ∷ Part Lower z ∷ rest) all

      behind_upper : All R (Part Lower z ∷ rest)
      behind_upper = All-tail R (Part Upper y) (Part Lower z ∷ rest) behind_set

      first_half : R (Part Upper y)
      first_half = All-head R (Part Upper y) (Part Lower z ∷ rest) behind_set

      made : both (formed Lui upper) (formed (Immediate Addi) lower) ≡ Some p → IsReadCode linked entries p.0 × IsReadCode linked entries p.1
      made both_are =
          let two = both_some (formed Lui upper) (formed (Immediate Addi) lower) p both_are in
          let one = formed_some Lui upper p.0 two.0 in
          let other = formed_some (Immediate Addi) lower p.1 two.1 in
          let rest_limited = All-weaker R Limited (λ o r. r.limited) (Part Lower z ∷ rest) behind_upper in
          let rest_pointer = All-weaker R IsNotPointer (λ o r. r.pointer) (Part Lower z ∷ rest) behind_upper in (
            subst (IsReadCode linked entries) one.0 (record {
              form = one.1;
              limited = All-cons Limited (Def rd) (Part Upper y ∷ []) set'.limited (All-cons Limited (Part Upper y) [] first_half.limited (All-nil Limited));
              named = All-cons Names (Def rd) (Part Upper y ∷ []) tt (All-cons Names (Part Upper y) [] tt (All-nil Names));
              pointer = All-cons IsNotPointer (Def rd) (Part Upper y ∷ []) set'.pointer (All-cons IsNotPointer (Part Upper y) [] tt (All-nil IsNotPointer));
              read = refl;
              plain = refl;
            }),
            subst (IsReadCode linked entries) other.0 (record {
              form = other.1;
              limited = All-cons Limited (Def rd) (Use rd ∷ Part Lower z ∷ rest) set'.limited
                  (All-cons Limited (Use rd) (Part Lower z ∷ rest) set'.limited rest_limited);
              named = All-cons Names (Def rd) (Use rd ∷ Part Lower z ∷ rest) tt (All-cons Names (Use rd) (Part Lower z ∷ rest) tt
                  (All-cons Names (Part Lower z) rest tt (implicits_name entries rest other.1)));
              pointer = All-cons IsNotPointer (Def rd) (Use rd ∷ Part Lower z ∷ rest) set'.pointer
                  (All-cons IsNotPointer (Use rd) (Part Lower z ∷ rest) set'.pointer rest_pointer);
              read = refl;
              plain = refl;
            }),
          )
  halves_read os p all e = absurd cc
