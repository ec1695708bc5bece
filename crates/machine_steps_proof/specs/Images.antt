-- The image of a laid-out function.
use Rattle.std.specs.Prelude.{◌≡◌, ℕ, ◌+◌, ◌^◌, ◌<◌, List, ◌++◌, drop, map, Option}
use Rattle.std.specs.List.{flat_map}
use Rattle.std.specs.Int.{w32, to_le_bytes}
use Rattle.rv64_instr.specs.Instruction.{Instruction}
use Rattle.rv64_instr.specs.Row.{Unfit, row_of}
use Rattle.mir_func.specs.declared.position.Pos.{Pos}
use Rattle.mir_func.specs.declared.item.Item.{Item}
use Rattle.mir_func.specs.declared.item.ItemKind.TheVariants.{Code}
use Rattle.mir_func.specs.Graph.{Here}
use Rattle.mir_func.specs.Objects.{area_of}
use Rattle.sem_machine.specs.Image.{CodeLine, Image}
use Rattle.emit_code.specs.Listed.{Line, lines_of}
use Rattle.emit_code.specs.Rule.{Layout, form_of, address_in}
use Rattle.emit_code.specs.Rule.{words_of}
use Rattle.emit_code.specs.Laid.{FormWorded}
use Rattle.machine_steps_proof.specs.Laid.{fetched, IsLaidAt}

-- a code line of the layout, as the image has it
abbrev pub code_line : Line → CodeLine
code_line l = record { address = l.address; origin = l.origin; instruction = l.instruction }

-- each instruction of the layout is encodable, and its addresses fit in 64 bits
pub record HasAllWords (l : Layout) : Type 0 where
  pub words : (p : Pos) (i : Item) (c : Instruction) (k : Option ℕ) → fetched l.framed p ≡ Here i → i.kind ≡ Code c k →
      FormWorded l (address_in l p) c (form_of (l.long p) (Code c k))
  pub fits : (p : Pos) (i : Item) (c : Instruction) (k : Option ℕ) → fetched l.framed p ≡ Here i → i.kind ≡ Code c k → row_of c ≡ Unfit → ⊥
  pub small : (p : Pos) → address_in l p + 8 < 2 ^ 64

-- the image has the layout's first address, its words from there on, its lines, and the size of its stack objects
pub record IsImageOf (l : Layout) (image : Image) : Type 0 where
  pub low : image.low ≡ l.base
  pub area : image.area ≡ area_of l.framed.objects
  pub more : List ℕ
  pub text : drop l.base image.text ≡ flat_map (to_le_bytes w32) (words_of l) ++ more
  pub lines : image.lines ≡ map code_line (lines_of l)

-- The image of an encodable layout has the function's code at the layout's addresses (`IsLaidAt`).
abbrev pub ImagesAreLaid : Type 0
ImagesAreLaid = (l : Layout) (image : Image) → HasAllWords l → IsImageOf l image → IsLaidAt l.framed image
