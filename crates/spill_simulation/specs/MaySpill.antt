-- The conditions under which registers may be spilled.
use Rattle.std.specs.Prelude.{◌≡◌, ◌⊎◌, ℕ, ◌<◌, List, [], ◌∷◌, Contains, Some, None, IsTrue, true}
use Rattle.rv64_instr.specs.declared.operand.Operand.{Operand}
use Rattle.rv64_instr.specs.declared.operand.Operand.TheVariants.{Def, Use, ImplicitDef, ImplicitUse}
use Rattle.rv64_instr.specs.declared.place.Place.TheVariants.{Register, Slot, Const}
use Rattle.rv64_instr.specs.DefsAndUses.{caller_saved}
use Rattle.rv64_instr.specs.Form.{has_form}
use Rattle.rv64_instr.specs.Instruction.{Instruction}
use Rattle.rv64_instr.specs.LocationEffects.{has_implicit_uses, is_global_register}
use Rattle.rv64_instr.specs.Row.{row_of}
use Rattle.mir_func.specs.declared.position.Pos.{Pos}
use Rattle.mir_func.specs.declared.position.Origin.{Origin}
use Rattle.mir_func.specs.declared.position.Origin.TheVariants.{Before}
use Rattle.mir_func.specs.declared.variable.MarkValue.TheVariants.{Nothing, Constant, At, Pair}
use Rattle.mir_func.specs.declared.item.ItemKind.{ItemKind}
use Rattle.mir_func.specs.declared.item.ItemKind.TheVariants.{Code, Mark, Phi}
use Rattle.spill_code.specs.declared.spilling.Spilling.{Spilling}
use Rattle.spill_code.specs.Rewrite.{slot_of}

-- the registers that explicit uses read
abbrev pub uses_in : List Operand → List ℕ
uses_in [] = []
uses_in (Use r ∷ os) = r ∷ uses_in os
uses_in (_ ∷ os) = uses_in os

-- the registers that explicit definitions set
abbrev pub defs_in : List Operand → List ℕ
defs_in [] = []
defs_in (Def r ∷ os) = r ∷ defs_in os
defs_in (_ ∷ os) = defs_in os

-- the registers that implicit operands name
abbrev pub implicits_in : List Operand → List ℕ
implicits_in [] = []
implicits_in (ImplicitDef r ∷ os) = r ∷ implicits_in os
implicits_in (ImplicitUse r ∷ os) = r ∷ implicits_in os
implicits_in (_ ∷ os) = implicits_in os

-- the register is neither scratch register
abbrev pub IsNoScratch : Spilling → ℕ → Type 0
IsNoScratch s r = (r ≡ s.first → ⊥) × (r ≡ s.second → ⊥)

-- the register is neither spilled nor a scratch register
abbrev pub IsUntouched : Spilling → ℕ → Type 0
IsUntouched s r = (slot_of s.homes r ≡ None) × IsNoScratch s r

-- The conditions on code: its operands have the form of its opcode; it names no scratch register, and a spilled one only in an
-- explicit operand, and only if the code isn't added
pub record FitsCode (s : Spilling) (i : Instruction) (o : Origin) : Type 0 where
  pub form : IsTrue (has_form i.op i.operands)
  pub uses : (r : ℕ) → Contains (uses_in i.operands) r → IsNoScratch s r
  pub defs : (r : ℕ) → Contains (defs_in i.operands) r → IsNoScratch s r
  pub implicits : has_implicit_uses (row_of i) ≡ true → (r : ℕ) → Contains (implicits_in i.operands) r → IsUntouched s r
  pub kept : (p : Pos) → o ≡ Before p → (r : ℕ) → Contains (uses_in i.operands) r ⊎ Contains (defs_in i.operands) r → slot_of s.homes r ≡ None

-- debug values name no spilled or scratch register, and DBG_PHIs no scratch register
abbrev pub Fits : Spilling → ItemKind → Origin → Type 0
Fits s (Code i k) o = FitsCode s i o
Fits s (Mark v Nothing) o = Unit {0}
Fits s (Mark v (Constant n)) o = Unit {0}
Fits s (Mark v (At r)) o = IsUntouched s r
Fits s (Mark v (Pair q)) o = Unit {0}
Fits s (Phi None k) o = Unit {0}
Fits s (Phi (Some (Register r)) k) o = IsNoScratch s r
Fits s (Phi (Some (Slot n)) k) o = Unit {0}
Fits s (Phi (Some (Const c)) k) o = Unit {0}

-- The conditions on the registers: the scratch registers are distinct and caller-saved, spilled registers, physical or virtual,
-- aren't caller-saved, neither x0 nor x2 is spilled, and each spilled register has a slot of its own that is new to the function
pub record AreHomes (s : Spilling) (slots : List ℕ) : Type 0 where
  pub first : Contains caller_saved s.first
  pub second : Contains caller_saved s.second
  pub apart : s.first ≡ s.second → ⊥
  pub kept : (r n : ℕ) → slot_of s.homes r ≡ Some n → Contains caller_saved r → ⊥
  pub no_zero : slot_of s.homes 0 ≡ None
  pub no_pointer : slot_of s.homes 2 ≡ None
  pub no_global : (r : ℕ) → is_global_register r ≡ true → slot_of s.homes r ≡ None
  pub own : (q r n : ℕ) → slot_of s.homes q ≡ Some n → slot_of s.homes r ≡ Some n → q ≡ r
  pub fresh : (r n : ℕ) → slot_of s.homes r ≡ Some n → Contains slots n → ⊥
