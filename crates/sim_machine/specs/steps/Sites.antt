-- The instruction at a point, and how control goes to a callee from there.
use Rattle.std.specs.Prelude.{◌≡◌, ℕ, Option, Some, None, true, drop}
use Rattle.rv64_instr.specs.Decoded.{ShowsCallee, ShowsWay}
use Rattle.rv64_instr.specs.Instruction.{Instruction}
use Rattle.rv64_instr.specs.Row.{CallSite, Callee, Ending}
use Rattle.mir_func.specs.declared.item.ItemKind.{ItemKind}
use Rattle.mir_func.specs.declared.item.ItemKind.TheVariants.{Code, Mark, Phi}
use Rattle.mir_func.specs.declared.position.ProgramPoint.{ProgramPoint}
use Rattle.mir_func.specs.Function.{FramedFunction}
use Rattle.mir_func.specs.Graph.{Fetch, Here, EndOfBlock, Outside, fetch_in}
use Rattle.sem_machine.specs.Image.{Image, word_at}
use Rattle.sem_machine.specs.MachineStep.{goes_to}
use Rattle.emit_code.specs.declared.code.EncodedInstruction.{EncodedInstruction}
use Rattle.emit_code.specs.Laid.{LaidCode}
use Rattle.sim_machine.specs.Shown.{ShowsCode, entry_call}
use Rattle.sim_machine.specs.declared.site.Transfer.{Transfer}
use Rattle.sim_machine.specs.declared.site.Transfer.TheVariants.{Call, Departure, Nothing}

abbrev pub kind_instruction : ItemKind → Option Instruction
kind_instruction (Code i k) = Some i
kind_instruction (Mark v m) = None
kind_instruction (Phi p k) = None

abbrev pub fetch_instruction : Fetch → Option Instruction
fetch_instruction (Here i) = kind_instruction i.kind
fetch_instruction (EndOfBlock k n) = None
fetch_instruction Outside = None

abbrev pub instruction_in : FramedFunction → ProgramPoint → Option Instruction
instruction_in f p = fetch_instruction (fetch_in (drop p.block f.blocks) p.item)

-- control goes to a callee so: by a call, by leaving the function, or not at all
abbrev pub TransfersSo : Transfer → (call : Option CallSite) → (left : Option (Ending Callee)) → Type 0
TransfersSo (Call callee) call left = (site : CallSite) × (call ≡ Some site) × ShowsCallee callee site.callee
TransfersSo (Departure way) call left = (ending : Ending Callee) × (left ≡ Some ending) × (call ≡ None) × ShowsWay way ending.way
TransfersSo Nothing call left = (call ≡ None) × (left ≡ None)

-- the word of a call goes to its callee
abbrev pub GoesThere : LaidCode → EncodedInstruction → Type 0
GoesThere c e = (image : Image) (site : CallSite) (counter : ℕ) → ShowsCode c image → entry_call c.framed e ≡ Some site →
    goes_to 1 site.callee counter (word_at image.text e.address) ≡ true
