-- The operation that codes name has them.
use Rattle.std.proofs.Common.{◌≡◌, ℕ, ◌/◌, Bool, true, false, cond, Option, Some, None, refl}
use Rattle.std.specs.Prelude.{IfSome, nat_eq}
use Rattle.std.proofs.lemmas.Bool.{eqb-true}
use Rattle.std.specs.Option.{option_map}
use Rattle.rv64_instr.specs.declared.op.RegisterOp.{RegisterOp}
use Rattle.rv64_instr.specs.declared.op.ImmediateOp.{ImmediateOp}
use Rattle.rv64_instr.specs.declared.op.BranchOp.{BranchOp}
use Rattle.rv64_instr.specs.declared.op.LoadOp.{LoadOp}
use Rattle.rv64_instr.specs.declared.op.StoreOp.{StoreOp}
use Rattle.rv64_word.specs.declared.word_op.WordOp.{WordOp}
use Rattle.rv64_word.specs.declared.word_op.WordOp.TheVariants as op
use Rattle.rv64_word.specs.Operation.{encoding_of}
use Rattle.rv64_word.specs.Codes.{branch_of, load_of, store_of, immediate_of, register_of, word_immediate_of, word_register_of, operation_of}
use Rattle.rv64_word.proofs.Operations.{Matches}

-- the codes are the operation's, as far as its format has them
abbrev pub HasCodes : (opcode funct3 funct7 : ℕ) → WordOp → Type 0
HasCodes opcode funct3 funct7 op = (opcode ≡ (encoding_of op).opcode) × Matches (encoding_of op).format (encoding_of op) funct3 funct7

chosen_at : {T : Type 0} (P : T → Type 0) (b : Bool) (here later : Option T) → (b ≡ true → IfSome here P) → IfSome later P → IfSome (cond b here later) P
chosen_at P true here later h k = h refl
chosen_at P false here later h k = k

-- a line of a listing holds where its number is the code
line : {T : Type 0} (P : T → Type 0) (code number : ℕ) (here later : Option T) → (code ≡ number → IfSome here P) → IfSome later P →
    IfSome (cond (nat_eq code number) here later) P
line P code number here later h k = chosen_at P (nat_eq code number) here later (λ e. h (eqb-true code number e)) k

-- what holds of each operation of a class holds of the word's operation
mapped : {T : Type 0} (make : T → WordOp) (P : WordOp → Type 0) (found : Option T) → IfSome found (λ o. P (make o)) → IfSome (option_map make found) P
mapped make P None h = tt
mapped make P (Some o) h = h

branch_codes : (opcode funct3 funct7 : ℕ) → opcode ≡ 0x63 → IfSome (branch_of funct3) (λ o. HasCodes opcode funct3 funct7 (op.Branch o))
branch_codes opcode funct3 funct7 opcode_is =
    let P = λ (o : BranchOp). HasCodes opcode funct3 funct7 (op.Branch o) in
    line P funct3 0 _ _ (λ a. (opcode_is, a))
    (line P funct3 1 _ _ (λ a. (opcode_is, a))
    (line P funct3 4 _ _ (λ a. (opcode_is, a))
    (line P funct3 5 _ _ (λ a. (opcode_is, a))
    (line P funct3 6 _ _ (λ a. (opcode_is, a))
    (line P funct3 7 _ _ (λ a. (opcode_is, a))
    (tt))))))

load_codes : (opcode funct3 funct7 : ℕ) → opcode ≡ 0x03 → IfSome (load_of funct3) (λ o. HasCodes opcode funct3 funct7 (op.Load o))
load_codes opcode funct3 funct7 opcode_is =
    let P = λ (o : LoadOp). HasCodes opcode funct3 funct7 (op.Load o) in
    line P funct3 0 _ _ (λ a. (opcode_is, a))
    (line P funct3 1 _ _ (λ a. (opcode_is, a))
    (line P funct3 2 _ _ (λ a. (opcode_is, a))
    (line P funct3 3 _ _ (λ a. (opcode_is, a))
    (line P funct3 4 _ _ (λ a. (opcode_is, a))
    (line P funct3 5 _ _ (λ a. (opcode_is, a))
    (line P funct3 6 _ _ (λ a. (opcode_is, a))
    (tt)))))))

store_codes : (opcode funct3 funct7 : ℕ) → opcode ≡ 0x23 → IfSome (store_of funct3) (λ o. HasCodes opcode funct3 funct7 (op.Store o))
store_codes opcode funct3 funct7 opcode_is =
    let P = λ (o : StoreOp). HasCodes opcode funct3 funct7 (op.Store o) in
    line P funct3 0 _ _ (λ a. (opcode_is, a))
    (line P funct3 1 _ _ (λ a. (opcode_is, a))
    (line P funct3 2 _ _ (λ a. (opcode_is, a))
    (line P funct3 3 _ _ (λ a. (opcode_is, a))
    (tt))))

immediate_codes : (opcode funct3 funct7 : ℕ) → opcode ≡ 0x13 → IfSome (immediate_of funct3 funct7) (λ o. HasCodes opcode funct3 funct7 (op.Immediate o))
immediate_codes opcode funct3 funct7 opcode_is =
    let P = λ (o : ImmediateOp). HasCodes opcode funct3 funct7 (op.Immediate o) in
    line P funct3 0 _ _ (λ a. (opcode_is, a))
    (line P funct3 1 _ _ (λ a. line P (funct7 / 2) 0 _ _ (λ b. (opcode_is, (a, b))) (tt))
    (line P funct3 2 _ _ (λ a. (opcode_is, a))
    (line P funct3 3 _ _ (λ a. (opcode_is, a))
    (line P funct3 4 _ _ (λ a. (opcode_is, a))
    (line P funct3 5 _ _ (λ a. line P (funct7 / 2) 0 _ _ (λ b. (opcode_is, (a, b))) (line P (funct7 / 2) 16 _ _ (λ b. (opcode_is, (a, b))) (tt)))
    (line P funct3 6 _ _ (λ a. (opcode_is, a))
    (line P funct3 7 _ _ (λ a. (opcode_is, a))
    (tt))))))))

register_codes : (opcode funct3 funct7 : ℕ) → opcode ≡ 0x33 → IfSome (register_of funct3 funct7) (λ o. HasCodes opcode funct3 funct7 (op.Registers o))
register_codes opcode funct3 funct7 opcode_is =
    let P = λ (o : RegisterOp). HasCodes opcode funct3 funct7 (op.Registers o) in
    line P funct3 0 _ _ (λ a. line P funct7 0 _ _ (λ b. (opcode_is, (a, b))) (line P funct7 32 _ _ (λ b. (opcode_is, (a, b))) (tt)))
    (line P funct3 1 _ _ (λ a. line P funct7 0 _ _ (λ b. (opcode_is, (a, b))) (tt))
    (line P funct3 2 _ _ (λ a. line P funct7 0 _ _ (λ b. (opcode_is, (a, b))) (tt))
    (line P funct3 3 _ _ (λ a. line P funct7 0 _ _ (λ b. (opcode_is, (a, b))) (tt))
    (line P funct3 4 _ _ (λ a. line P funct7 0 _ _ (λ b. (opcode_is, (a, b))) (tt))
    (line P funct3 5 _ _ (λ a. line P funct7 0 _ _ (λ b. (opcode_is, (a, b))) (line P funct7 32 _ _ (λ b. (opcode_is, (a, b))) (tt)))
    (line P funct3 6 _ _ (λ a. line P funct7 0 _ _ (λ b. (opcode_is, (a, b))) (tt))
    (line P funct3 7 _ _ (λ a. line P funct7 0 _ _ (λ b. (opcode_is, (a, b))) (tt))
    (tt))))))))

word_immediate_codes : (opcode funct3 funct7 : ℕ) → opcode ≡ 0x1b →
    IfSome (word_immediate_of funct3 funct7) (λ o. HasCodes opcode funct3 funct7 (op.Immediate o))
word_immediate_codes opcode funct3 funct7 opcode_is =
    let P = λ (o : ImmediateOp). HasCodes opcode funct3 funct7 (op.Immediate o) in
    line P funct3 0 _ _ (λ a. (opcode_is, a))
    (line P funct3 1 _ _ (λ a. line P funct7 0 _ _ (λ b. (opcode_is, (a, b))) (tt))
    (line P funct3 5 _ _ (λ a. line P funct7 0 _ _ (λ b. (opcode_is, (a, b))) (line P funct7 32 _ _ (λ b. (opcode_is, (a, b))) (tt)))
    (tt)))

word_register_codes : (opcode funct3 funct7 : ℕ) → opcode ≡ 0x3b → IfSome (word_register_of funct3 funct7) (λ o. HasCodes opcode funct3 funct7 (op.Registers o))
word_register_codes opcode funct3 funct7 opcode_is =
    let P = λ (o : RegisterOp). HasCodes opcode funct3 funct7 (op.Registers o) in
    line P funct3 0 _ _ (λ a. line P funct7 0 _ _ (λ b. (opcode_is, (a, b))) (line P funct7 32 _ _ (λ b. (opcode_is, (a, b))) (tt)))
    (line P funct3 1 _ _ (λ a. line P funct7 0 _ _ (λ b. (opcode_is, (a, b))) (tt))
    (line P funct3 5 _ _ (λ a. line P funct7 0 _ _ (λ b. (opcode_is, (a, b))) (line P funct7 32 _ _ (λ b. (opcode_is, (a, b))) (tt)))
    (tt)))

pub operation_codes : (opcode funct3 funct7 : ℕ) → IfSome (operation_of opcode funct3 funct7) (HasCodes opcode funct3 funct7)
unfolding operation_of
operation_codes opcode funct3 funct7 =
    let P = HasCodes opcode funct3 funct7 in
    line P opcode 0x37 _ _ (λ o. (o, tt))
    (line P opcode 0x6f _ _ (λ o. (o, tt))
    (line P opcode 0x67 _ _ (λ o. line P funct3 0 _ _ (λ a. (o, a)) (tt))
    (line P opcode 0x63 _ _ (λ e. mapped (λ o. op.Branch o) P _ (branch_codes opcode funct3 funct7 e))
    (line P opcode 0x03 _ _ (λ e. mapped (λ o. op.Load o) P _ (load_codes opcode funct3 funct7 e))
    (line P opcode 0x23 _ _ (λ e. mapped (λ o. op.Store o) P _ (store_codes opcode funct3 funct7 e))
    (line P opcode 0x13 _ _ (λ e. mapped (λ o. op.Immediate o) P _ (immediate_codes opcode funct3 funct7 e))
    (line P opcode 0x33 _ _ (λ e. mapped (λ o. op.Registers o) P _ (register_codes opcode funct3 funct7 e))
    (line P opcode 0x1b _ _ (λ e. mapped (λ o. op.Immediate o) P _ (word_immediate_codes opcode funct3 funct7 e))
    (line P opcode 0x3b _ _ (λ e. mapped (λ o. op.Registers o) P _ (word_register_codes opcode funct3 funct7 e))
    (tt))))))))))
