-- Opcodes, by their texts.
use Rattle.std.proofs.Common.{◌≡◌, ℕ, Bool, true, false, ◌&&◌, ◌||◌, nat_le, nat_eq, List, [], ◌∷◌, ◌++◌, refl, sym, ap, ◌∙◌}
use Rattle.std.specs.Prelude.{codes}
use Rattle.std.specs.List.{list_all}
use Rattle.rv64_instr.specs.declared.op.Op.{Op}
use Rattle.rv64_instr.specs.declared.op.RegisterOp.TheVariants.{Add}
use Rattle.rv64_instr.specs.declared.op.ImmediateOp.TheVariants.{Addi}
use Rattle.rv64_instr.specs.declared.op.BranchOp.TheVariants.{Beq}
use Rattle.rv64_instr.specs.declared.op.LoadOp.TheVariants.{Lb}
use Rattle.rv64_instr.specs.declared.op.StoreOp.TheVariants.{Sb}
use Rattle.rv64_instr.specs.declared.op.Op.TheVariants.{Registers, Immediate, Branch, Load, Store, NoReturnCall, NoReturnCallIndirect}
use Rattle.rv64_instr.specs.Mnemonic.{mnemonic_of}
use Rattle.rv64_instr.proofs.Names.{mnemonic_of-injective}
use Rattle.mir_printer.proofs.Cuts.{front_one, Stops, run_one}

abbrev pub is_letter : ℕ → Bool
is_letter b = (nat_le 65 b && nat_le b 90) || (nat_le 97 b && nat_le b 122)

abbrev begins_flag : List ℕ → Bool
begins_flag [] = false
begins_flag (b ∷ bs) = nat_eq 110 b

-- an opcode is one word, or the flag `noreturn` and one word
data Shape (op : Op) : Type 0 where
  word : list_all is_letter (mnemonic_of op) ≡ true → ((r : List ℕ) → begins_flag (mnemonic_of op ++ r) ≡ false) → Shape op
  flagged : (name : List ℕ) → mnemonic_of op ≡ codes "noreturn " ++ name → list_all is_letter name ≡ true → Shape op

shape : (op : Op) → Shape op
shape (Registers Add) = word refl (λ r. refl)
shape (Immediate Addi) = word refl (λ r. refl)
shape (Branch Beq) = word refl (λ r. refl)
shape (Load Lb) = word refl (λ r. refl)
shape (Store Sb) = word refl (λ r. refl)
shape NoReturnCall = flagged (codes "PseudoCALL") refl refl
shape NoReturnCallIndirect = flagged (codes "PseudoCALLIndirect") refl refl
shape op = word refl (λ r. refl)

flag_apart : (a b : Op) (name r s : List ℕ) → mnemonic_of a ≡ codes "noreturn " ++ name → ((t : List ℕ) → begins_flag (mnemonic_of b ++ t) ≡ false) →
    mnemonic_of a ++ r ≡ mnemonic_of b ++ s → ⊥
flag_apart a b name r s is plain e =
    let both : true ≡ false = ap begins_flag (ap (λ (t : List ℕ). t ++ r) (sym is) ∙ e) ∙ plain s in
    cc

shapes_one : (a b : Op) (r s : List ℕ) → Shape a → Shape b → Stops is_letter r → Stops is_letter s → mnemonic_of a ++ r ≡ mnemonic_of b ++ s →
    (mnemonic_of a ≡ mnemonic_of b) × (r ≡ s)
shapes_one a b r s (word letters plain) (word others bare) stop stops e = run_one is_letter (mnemonic_of a) (mnemonic_of b) r s letters others stop stops e
shapes_one a b r s (flagged m is letters) (flagged n are others) stop stops e =
    let tails : m ++ r ≡ n ++ s =
    front_one (codes "noreturn ") (m ++ r) (n ++ s) (ap (λ (t : List ℕ). t ++ r) (sym is) ∙ (e ∙ ap (λ (t : List ℕ). t ++ s) are)) in
    let found = run_one is_letter m n r s letters others stop stops tails in
    (is ∙ (ap (λ (name : List ℕ). codes "noreturn " ++ name) found.0 ∙ sym are), found.1)
shapes_one a b r s (flagged m is letters) (word others bare) stop stops e = absurd (flag_apart a b m r s is bare e)
shapes_one a b r s (word letters plain) (flagged n are others) stop stops e = absurd (flag_apart b a n s r are plain (sym e))

pub opcode_one : (a b : Op) (r s : List ℕ) → Stops is_letter r → Stops is_letter s → mnemonic_of a ++ r ≡ mnemonic_of b ++ s → (a ≡ b) × (r ≡ s)
opcode_one a b r s stop stops e =
    let found = shapes_one a b r s (shape a) (shape b) stop stops e in
    (mnemonic_of-injective a b found.0, found.1)
