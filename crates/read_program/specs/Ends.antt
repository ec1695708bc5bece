-- The ends of a body's blocks in the linked language, once all its lines are read: a call at the end of the last block, or of a block that control doesn't
-- leave, doesn't return; and debug items behind a call that doesn't return are passed over.
use Rattle.std.specs.Prelude.{ℕ, ◌+◌, Bool, true, false, nat_lt, if◌then◌else◌, List, [], ◌∷◌, ◌++◌, map, take, length, Option, Some, None}
use Rattle.std.specs.Option.{option_map}
use Rattle.std.specs.List.{slice_get}
use Rattle.rv64_instr.specs.declared.op.Op.{Op}
use Rattle.rv64_instr.specs.declared.op.Op.TheVariants.{PseudoCallIndirect, NoReturnCall, NoReturnCallIndirect}
use Rattle.rv64_instr.specs.declared.operand.Operand.{Operand}
use Rattle.rv64_instr.specs.declared.operand.Operand.TheVariants.{Use, ImplicitUse}
use Rattle.rv64_instr.specs.Form.{has_form}
use Rattle.rv64_instr.specs.Instruction.{Instruction}
use Rattle.mir_func.specs.declared.block.Block.{Block}
use Rattle.mir_func.specs.declared.item.Item.{Item}
use Rattle.mir_func.specs.declared.item.ItemKind.{ItemKind}
use Rattle.mir_func.specs.declared.item.ItemKind.TheVariants.{Code, Mark, Phi}
use Rattle.read_item.specs.Opcode.{without_return}
use Rattle.read_body.specs.declared.body.Body.{Body}
use Rattle.read_body.specs.FirstUseOrder.{is_met}

-- ---- items

-- whether an item is code
abbrev pub is_code : ItemKind → Bool
is_code (Code i k) = true
is_code (Mark v m) = false
is_code (Phi p k) = false

-- whether an opcode is one of a call that doesn't return
abbrev pub is_gone : Op → Bool
is_gone NoReturnCall = true
is_gone NoReturnCallIndirect = true
is_gone _ = false

-- whether an item is a call that doesn't return
abbrev pub is_gone_call : ItemKind → Bool
is_gone_call (Code i k) = is_gone i.op
is_gone_call (Mark v m) = false
is_gone_call (Phi p k) = false

-- the operands of a call that doesn't return: the register of a callee is an implicit use
abbrev pub gone_operands : Op → List Operand → List Operand
gone_operands PseudoCallIndirect (Use r ∷ rest) = ImplicitUse r ∷ rest
gone_operands op operands = operands

-- an instruction as one that doesn't return, if it is a call
abbrev pub gone_instruction : Instruction → Instruction
gone_instruction i = record i { op = without_return i.op; operands = gone_operands i.op i.operands }

-- an instruction, which doesn't return if it is a call that may not return
abbrev pub not_returning : Instruction → Instruction
not_returning i = if has_form (without_return i.op) (gone_operands i.op i.operands) then gone_instruction i else i

-- an item, which doesn't return if it is a call
abbrev pub kind_not_returning : ItemKind → ItemKind
kind_not_returning (Code i k) = Code (not_returning i) k
kind_not_returning (Mark v m) = Mark v m
kind_not_returning (Phi p k) = Phi p k

-- the last item of code of a block; `closed` is whether control doesn't leave it
abbrev pub last_kind : (closed : Bool) → ItemKind → ItemKind
last_kind closed kind = if closed then kind_not_returning kind else kind

-- ---- blocks

-- an index, if there is code, and else what was found before
abbrev pub newer : (code : Bool) → (index : ℕ) → (found : Option ℕ) → Option ℕ
newer code index found = if code then Some index else found

-- the index of the last item of code among these items, of which the first has index `n`; `found` is that of one before them
unfoldable pub last_from : (n : ℕ) → (found : Option ℕ) → List Item → Option ℕ
last_from n found [] = found
last_from n found (i ∷ is) = last_from (n + 1) (newer (is_code i.kind) n found) is

-- the index of the last item of code
abbrev pub last_code : List Item → Option ℕ
last_code items = last_from 0 None items

-- items up to one, which takes the place of the one that is there
abbrev pub cut_behind : List Item → (n : ℕ) → Item → List Item
cut_behind items n i = take n items ++ i ∷ []

-- the last item of code of a block, if it is a call that doesn't return
abbrev pub last_item : (closed : Bool) → Option Item → Option Item
last_item closed None = None
last_item closed (Some i) = if is_gone_call (last_kind closed i.kind) then Some (record i { kind = last_kind closed i.kind }) else None

-- items up to this one, if there is one, which takes the place of the one that is there
abbrev pub cut_at : List Item → (n : ℕ) → Option Item → List Item
cut_at items n None = items
cut_at items n (Some i) = cut_behind items n i

-- the same, where there is an item of code
abbrev pub cut_by : (closed : Bool) → List Item → Option ℕ → List Item
cut_by closed items None = items
cut_by closed items (Some n) = cut_at items n (last_item closed (slice_get items n))

-- the items of a block
abbrev pub ended_items : (closed : Bool) → List Item → List Item
ended_items closed items = cut_by closed items (last_code items)

-- the number of items that were read, of which so many are left
abbrev pub shorter : (source_end left : ℕ) → ℕ
shorter source_end left = if nat_lt left source_end then left else source_end

-- a block
unfoldable pub ended_block : (closed : Bool) → Block → Block
ended_block closed b = record {
  id = b.id;
  items = ended_items closed b.items;
  source_end = shorter b.source_end (length (ended_items closed b.items));
}

-- the blocks before the last, of which those with these numbers are closed
abbrev pub ended_blocks : (closed : List ℕ) → List Block → List Block
ended_blocks closed blocks = map (λ b. ended_block (is_met b.id closed) b) blocks

-- a body
abbrev pub with_ends : Body → Body
with_ends body = record body { before = ended_blocks body.closed body.before; last = option_map (ended_block true) body.last }
