-- What the words and entries of an item are computed from, in a plan.
use Rattle.std.specs.Prelude.{◌≡◌, ℕ, ◌+◌, ◌<◌, ℤ, List, length, get_or, slice_index, Option}
use Rattle.rv64_instr.specs.Inverse.{inverse}
use Rattle.mir_func.specs.declared.item.Item.{Item}
use Rattle.mir_func.specs.declared.position.Pos.{Pos}
use Rattle.mir_func.specs.declared.position.ProgramPoint.{ProgramPoint}
use Rattle.mir_func.specs.Successors.{pos_in}
use Rattle.mir_func.specs.Sound.{HasForm}
use Rattle.rv64_word.specs.declared.machine_op.MachineOp.{MachineOp}
use Rattle.rv64_word.specs.declared.word_op.WordOp.TheVariants.{Registers, Immediate, Lui, Branch, Load, Store, Jal, Jalr}
use Rattle.rv64_word.specs.declared.word_op.WordOp.{WordOp}
use Rattle.rv64_word.specs.Lowering.{in_range, machine_op}
use Rattle.emit_code.specs.declared.plan.ItemLayout.{ItemLayout}
use Rattle.emit_code.specs.declared.span.Span.TheVariants.{Nothing}
use Rattle.emit_code.specs.Rule.{Layout, Site, address_in}
use Rattle.emit_code.specs.steps.Spans.{site_span}

-- at this index the plan has the span and the address of an item of a layout
pub record StandsAt (l : Layout) (p : ItemLayout) (index : ℕ) (s : Site) : Type 0 where
  pub span : get_or p.spans index Nothing ≡ site_span l.framed.blocks l.long s
  pub address : p.base + slice_index p.sums index ≡ address_in l s.point

-- the plan has the spans and addresses of all items of a block, from this index on
abbrev pub AllStandAt : Layout → ItemLayout → (first block : ℕ) → List Item → Type 0
AllStandAt l p first b items = (n : ℕ) (i : Item) → n < length items → i ≡ get_or items n i →
    StandsAt l p (first + n) (record { point = pos_in b n; item = i })

abbrev pub point_of : Pos → ProgramPoint
point_of p = record { block = p.block; item = p.item }

-- an item whose code has the form of its opcode
abbrev pub IsFormed : Item → Type 0
IsFormed i = HasForm i.kind

-- the operation of the inverted branch. Other operations stay
abbrev pub inverted_word : WordOp → WordOp
inverted_word (Registers op) = Registers op
inverted_word (Immediate op) = Immediate op
inverted_word Lui = Lui
inverted_word (Branch op) = Branch (inverse op)
inverted_word (Load op) = Load op
inverted_word (Store op) = Store op
inverted_word Jal = Jal
inverted_word Jalr = Jalr

-- a jump to an offset, if that is in range
abbrev pub jump_by : ℤ → Option MachineOp
jump_by offset = in_range (machine_op Jal 0 0 0 offset)
