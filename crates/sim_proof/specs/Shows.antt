-- Images of a layout are images of the machine code that the simulator runs.
use Rattle.std.specs.Prelude.{ℕ}
use Rattle.mir_func.specs.Function.{FramedFunction}
use Rattle.sem_machine.specs.Image.{Image}
use Rattle.emit_code.specs.Laid.{LaidCode, IsCodeOf}
use Rattle.machine_steps_proof.specs.Images.{IsImageOf}
use Rattle.sim_machine.specs.Shown.{ShowsCode}

-- An image of a layout is an image of the layout's machine code: its text has the words from the code's first address on, and it has a code line for
-- each entry, with the entry's address and origin, which is a call exactly if the entry is one.
abbrev pub ImagesShowCode : Type 0
ImagesShowCode = (f : FramedFunction) (base : ℕ) (c : LaidCode) (is : IsCodeOf f base c) (image : Image) → IsImageOf is.layout image → ShowsCode c image
