-- The callee and the arguments of a call, for each operand.
use Rattle.std.specs.Prelude.{ℕ, ◌<◌, Option, Some, None, cond, nat_eq}
use Rattle.rv64_instr.specs.declared.operand.Operand.{Operand}
use Rattle.rv64_instr.specs.declared.operand.Operand.TheVariants.{Use, ImplicitUse, Symbol, Outgoing}
use Rattle.rv64_instr.specs.Row.{Callee, Named, Held}

-- the register that an operand uses implicitly, except x2
abbrev pub argument_of : Operand → Option ℕ
argument_of (ImplicitUse r) = cond (nat_eq r 2) None (Some r)
argument_of _ = None

-- the slot that an operand passes
abbrev pub word_of : Operand → Option ℕ
word_of (Outgoing n) = Some n
word_of _ = None

-- the callee that the first operand of a call names
abbrev pub callee_named : Operand → Option Callee
callee_named (Symbol name) = Some (Named name)
callee_named (Use r) = Some (Held r)
callee_named (ImplicitUse r) = Some (Held r)
callee_named _ = None

-- the operand names a callee, a function or a register from x0 to x31
abbrev pub NamesCallee : Operand → Type 0
NamesCallee (Symbol name) = Unit {0}
NamesCallee (Use r) = r < 32
NamesCallee (ImplicitUse r) = r < 32
NamesCallee _ = ⊥
