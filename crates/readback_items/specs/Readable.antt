-- Conditions that every item meets that was read.
use Rattle.std.specs.Prelude.{Ok}
use Rattle.read_metadata.specs.Maps.{Maps}
use Rattle.read_documents.specs.declared.parts.FunctionDocument.{FunctionDocument}
use Rattle.mir_func.specs.Sound.{AllItems}
use Rattle.read_program.specs.declared.closing.Parsed.{Parsed}
use Rattle.read_program.specs.Closing.{Parses}
use Rattle.readback_items.specs.Code.{IsReadable}

-- Each item of a function that was read meets the conditions under which its line is read back: an instruction has the form of its opcode, doesn't name the
-- stack pointer explicitly and has at most MAX_OPERANDS operands; the `inlinedAt` of a debug value's variable is that of its debug location; and debug
-- values and DBG_PHIs name neither x0 nor x2.
abbrev pub ItemsAreReadable : Type 0
ItemsAreReadable = (meta : Maps) (doc : FunctionDocument) (p : Parsed) → Parses meta doc (Ok p) →
    AllItems (λ i. IsReadable meta i.loc i.kind) p.func.blocks
