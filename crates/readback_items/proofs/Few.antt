-- An instruction has as many operands as its line.
use Rattle.std.proofs.Common.{◌≡◌, ℕ, suc, ◌+◌, ◌≤◌, Bool, true, false, cond, List, [], ◌∷◌, ◌++◌, length, Option, Some, None, refl, sym, ap, ◌∙◌, subst, arith}
use Rattle.std.proofs.Common.{inl, inr}
use Rattle.std.proofs.lemmas.Bool.{ltb-false}
use Rattle.std.proofs.lemmas.List.{length-append}
use Rattle.rv64_instr.specs.declared.op.Op.{Op}
use Rattle.rv64_instr.specs.declared.op.Op.TheVariants.{Immediate, Lui}
use Rattle.rv64_instr.specs.declared.op.ImmediateOp.TheVariants.{Addi}
use Rattle.rv64_instr.specs.declared.operand.Operand.{Operand}
use Rattle.rv64_instr.specs.declared.operand.Operand.TheVariants.{Def, Use, Part}
use Rattle.rv64_instr.specs.declared.symbol.Half.TheVariants.{Upper, Lower}
use Rattle.rv64_instr.specs.Form.{has_form}
use Rattle.rv64_instr.specs.Instruction.{Instruction}
use Rattle.read_line.specs.declared.form.ItemForm.{ItemForm}
use Rattle.read_line.specs.declared.form.OperandForm.{OperandForm}
use Rattle.read_line.specs.declared.form.RegisterForm.{RegisterForm}
use Rattle.read_item.specs.declared.place.OperandKind.{OperandKind}
use Rattle.read_item.specs.declared.place.OperandKind.TheVariants.{Number}
use Rattle.read_item.specs.Address.{is_same_address, formed, both, halves_of, halves_in, address_operands}
use Rattle.read_item.specs.Code.{MAX_OPERANDS, operand_at, before, joined, definition, definitions, placed, places_of, operands_of}
use Rattle.read_item.specs.Code.{callee_operand, placed_behind_callee, has_implicit_callee, placed_by}
use Rattle.read_item.specs.Place.{front, behind}
use Rattle.read_program.proofs.Forms.{if_some}
use Rattle.read_program.proofs.Halves.{formed_some, both_some}
use Rattle.read_program.proofs.Judged.{IsCodeLine, IsAddressLine}

-- an operand before others
record Longer (rest : Option (List Operand)) (xs : List Operand) : Type 0 where
  behind : List Operand
  is : rest ≡ Some behind
  longer : length xs ≡ suc (length behind)

longer_by : (o : Option Operand) (rest : Option (List Operand)) (xs : List Operand) → before o rest ≡ Some xs → Longer rest xs
longer_by None rest xs e = absurd cc
longer_by (Some o) None xs e = absurd cc
longer_by (Some o) (Some ys) xs e = let same : o ∷ ys ≡ xs = cc in record { behind = ys; is = refl; longer = ap length (sym same) }

sets_counted : (rs : List RegisterForm) (xs : List Operand) → definitions rs ≡ Some xs → length xs ≡ length rs
unfolding definitions
sets_counted [] xs e = let none : List Operand = [] in let same : none ≡ xs = cc in ap length (sym same)
sets_counted (r ∷ rs) xs e =
    let more = longer_by (definition r) (definitions rs) xs e in more.longer ∙ ap suc (sets_counted rs more.behind more.is)

uses_counted : (ps : List OperandKind) (os : List OperandForm) (xs : List Operand) → placed ps os ≡ Some xs → length xs ≡ length os
unfolding placed
uses_counted ps [] xs e = let none : List Operand = [] in let same : none ≡ xs = cc in ap length (sym same)
uses_counted ps (o ∷ os) xs e =
    let more = longer_by (operand_at (front ps) o) (placed (behind ps) os) xs e in
    more.longer ∙ ap suc (uses_counted (behind ps) os more.behind more.is)

joined_counted : (a b : Option (List Operand)) (m n : ℕ) (xs : List Operand) → joined a b ≡ Some xs →
    ((ys : List Operand) → a ≡ Some ys → length ys ≡ m) → ((ys : List Operand) → b ≡ Some ys → length ys ≡ n) → length xs ≡ m + n
joined_counted None b m n xs e first more = absurd cc
joined_counted (Some ys) None m n xs e first more = absurd cc
joined_counted (Some ys) (Some zs) m n xs e first more =
    let same : ys ++ zs ≡ xs = cc in
    let a = first ys refl in
    let b = more zs refl in
    omega (arith, ap length same, length-append ys zs, a, b)

behind_callee_counted : (ps : List OperandKind) (os : List OperandForm) (xs : List Operand) → placed_behind_callee ps os ≡ Some xs →
    length xs ≡ length os
behind_callee_counted ps [] xs e = let none : List Operand = [] in let same : none ≡ xs = cc in ap length (sym same)
behind_callee_counted ps (o ∷ os) xs e =
    let more = longer_by (callee_operand o) (placed (behind ps) os) xs e in
    more.longer ∙ ap suc (uses_counted (behind ps) os more.behind more.is)

placed_by_counted : (op : Op) (ps : List OperandKind) (os : List OperandForm) (xs : List Operand) → placed_by op ps os ≡ Some xs → length xs ≡ length os
placed_by_counted op ps os xs e = by (has_implicit_callee op) e where
  by : (b : Bool) → cond b (placed_behind_callee ps os) (placed ps os) ≡ Some xs → length xs ≡ length os
  by true e = behind_callee_counted ps os xs e
  by false e = uses_counted ps os xs e

counted : (op : Op) (line : ItemForm) (xs : List Operand) → operands_of op line ≡ Some xs →
    length xs ≡ length line.definitions + length line.operands
unfolding operands_of
counted op line xs e = joined_counted (definitions line.definitions) (placed_by op (places_of op line) line.operands) (length line.definitions)
    (length line.operands) xs e (λ ys is. sets_counted line.definitions ys is) (λ ys is. placed_by_counted op (places_of op line) line.operands ys is)

pub few_operands : (op : Op) (line : ItemForm) (instr : Instruction) → IsCodeLine op line instr → length instr.operands ≤ MAX_OPERANDS
few_operands op line instr is =
    let all = counted op line instr.operands is.operands in
    let few = ltb-false 64 (length line.definitions + length line.operands) is.short in
    omega (arith, all, few)

-- ---- the two instructions of an address

-- the first has two operands, and the second has as many as the line
record AreHalves (os : List Operand) (p : Instruction × Instruction) : Type 0 where
  upper_form : has_form p.0.op p.0.operands ≡ true
  lower_form : has_form p.1.op p.1.operands ≡ true
  upper_two : length p.0.operands ≡ 2
  lower_all : length p.1.operands ≡ length os

are_halves : (os : List Operand) (p : Instruction × Instruction) → halves_of os ≡ Some p → AreHalves os p
are_halves (Def rd ∷ Part Upper y ∷ Part Lower z ∷ rest) p e =
    elim (if_some (is_same_address y z) (both (formed Lui upper) (formed (Immediate Addi) lower)) None p e) [
      | inl is ↦ made is.1
      | inr no' ↦ absurd (let it = no'.1 in cc)
    ]
  where
    upper : List Operand
    upper = Def rd ∷ Part Upper y ∷ []

    lower : List Operand
    lower = Def rd ∷ Use rd ∷ Part Lower z ∷ rest

    made : both (formed Lui upper) (formed (Immediate Addi) lower) ≡ Some p → AreHalves (Def rd ∷ Part Upper y ∷ Part Lower z ∷ rest) p
    made both_are =
        let two = both_some (formed Lui upper) (formed (Immediate Addi) lower) p both_are in
        let one = formed_some Lui upper p.0 two.0 in
        let other = formed_some (Immediate Addi) lower p.1 two.1 in
        record {
          upper_form = subst (λ (i : Instruction). has_form i.op i.operands ≡ true) one.0 one.1;
          lower_form = subst (λ (i : Instruction). has_form i.op i.operands ≡ true) other.0 other.1;
          upper_two = ap (λ (i : Instruction). length i.operands) (sym one.0);
          lower_all = ap (λ (i : Instruction). length i.operands) (sym other.0);
        }
are_halves os p e = absurd cc

pub record FitHalves (p : Instruction × Instruction) : Type 0 where
  pub upper_form : has_form p.0.op p.0.operands ≡ true
  pub lower_form : has_form p.1.op p.1.operands ≡ true
  pub upper_few : length p.0.operands ≤ MAX_OPERANDS
  pub lower_few : length p.1.operands ≤ MAX_OPERANDS

pub halves_fit : (line : ItemForm) (p : Instruction × Instruction) → IsAddressLine line p → FitHalves p
halves_fit line p is = by (address_operands line) refl is.halves where
  by : (o : Option (List Operand)) → address_operands line ≡ o → halves_in o ≡ Some p → FitHalves p
  by None e halves = absurd cc
  by (Some xs) e halves =
      let two = are_halves xs p halves in
      let all = joined_counted (definitions line.definitions) (placed (Number ∷ Number ∷ []) line.operands) (length line.definitions)
      (length line.operands) xs e (λ ys set. sets_counted line.definitions ys set) (λ ys used. uses_counted (Number ∷ Number ∷ []) line.operands ys used) in
      let few = ltb-false 64 (length line.definitions + length line.operands) is.short in
      let upper_two = two.upper_two in
      let lower_all = two.lower_all in
      record {
        upper_form = two.upper_form;
        lower_form = two.lower_form;
        upper_few = omega (arith, upper_two);
        lower_few = omega (arith, lower_all, all, few);
      }
