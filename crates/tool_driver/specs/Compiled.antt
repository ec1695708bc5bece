-- What the commands `compile`, `listing` and `object` write for a program, and programs without an object.
use Rattle.std.specs.Prelude.{◌≡◌, ℕ, Bool, false, List, Option, Some, None, cond, is_some}
use Rattle.listing_text.specs.declared.output.Output.{Output}
use Rattle.listing_text.specs.Output.{spelling, listing_text}
use Rattle.cli.specs.declared.command.LinkableForm.{LinkableForm}
use Rattle.cli.specs.declared.command.PassPipeline.{PassPipeline}
use Rattle.elf_object.specs.Standard.{EF_RISCV_FLOAT_ABI_DOUBLE}
use Rattle.linkable_program.specs.linkable_command.Linkable.{HaveLinkableNames}
use Rattle.linkable_program.specs.Program.{IsLinkableOf, IsLinkableLarge}
use Rattle.read_metadata.specs.read_lexer.declared.line.Line.{Line}
use Rattle.read_program.specs.declared.program.Program.{Program}
use Rattle.object_command.specs.Object.{HaveSymbolNames, IsObjectOf, HasLargeObject}
use Rattle.selftest_command.specs.run_command.Runs.{Compilation}
use Rattle.selftest_command.specs.run_command.Program.{ExposedSteps, IsOutputOf, IsCompilationOf, steps_of}

-- the steps of a plan: its passes, with the registers that may be spilled
abbrev pub plan_steps : PassPipeline → ExposedSteps
plan_steps plan = steps_of plan.reserve plan.passes

-- the text is that of an output of the program after these passes: its sections, `.debug_frame` among them exactly if it is asked for, `.debug_rnglists`
-- exactly if inlined functions are, and its listing
pub record IsCompiledText (with_frame with_inline : Bool) (steps : ExposedSteps) (program : Program) (text : List ℕ) : Type 0 where
  pub output : Output
  pub is : IsOutputOf steps program output
  pub frame : is_some output.frame ≡ with_frame
  pub ranges : is_some output.ranges ≡ with_inline
  pub spelled : text ≡ spelling output

-- an output of the program after these passes without `.debug_frame` and inlined functions, which `compile` alone can be asked for
pub record IsPlainOutputOf (steps : ExposedSteps) (program : Program) (output : Output) : Type 0 where
  pub made : IsOutputOf steps program output
  pub no_frame : is_some output.frame ≡ false
  pub no_ranges : is_some output.ranges ≡ false

-- the text is the listing alone of such an output
pub record IsListingText (steps : ExposedSteps) (program : Program) (text : List ℕ) : Type 0 where
  pub output : Output
  pub is : IsPlainOutputOf steps program output
  pub spelled : text ≡ listing_text output.functions

-- the bytes are the object of such an output
pub record IsObjectFile (steps : ExposedSteps) (program : Program) (bytes : List ℕ) : Type 0 where
  pub output : Output
  pub is : IsPlainOutputOf steps program output
  pub object : IsObjectOf output bytes

-- the name of a function or of a call in such an output can't be a symbol's
pub record HasInvalidName (steps : ExposedSteps) (program : Program) : Type 0 where
  pub output : Output
  pub is : IsPlainOutputOf steps program output
  pub invalid : HaveSymbolNames output.functions → ⊥

-- the object of such an output would be too large
pub record IsLargeObjectOf (steps : ExposedSteps) (program : Program) : Type 0 where
  pub output : Output
  pub is : IsPlainOutputOf steps program output
  pub large : HasLargeObject output

-- ---- objects that a linker places

-- the flags of the processor of such an object
abbrev pub flags_of : LinkableForm → ℕ
flags_of form = cond form.float_abi EF_RISCV_FLOAT_ABI_DOUBLE 0

-- the program, compiled by a plan, without `.debug_frame` and inlined functions
pub record IsCompiledBy (plan : PassPipeline) (program : Program) (c : Compilation) : Type 0 where
  pub is : IsPlainOutputOf (plan_steps plan) program c.output
  pub compiled : IsCompilationOf plan.reserve plan.passes program c

-- the bytes are the object of such a compilation that a linker places, where the program's IR block has these lines
pub record IsLinkableFileOf (form : LinkableForm) (plan : PassPipeline) (lines : List Line) (program : Program) (bytes : List ℕ) : Type 0 where
  pub compilation : Compilation
  pub by_plan : IsCompiledBy plan program compilation
  pub object : IsLinkableOf lines program compilation form.frame (flags_of form) bytes

-- the name of a function, or one to which code refers, can't be a symbol's
pub record HasUnlinkableName (plan : PassPipeline) (program : Program) : Type 0 where
  pub compilation : Compilation
  pub by_plan : IsCompiledBy plan program compilation
  pub invalid : HaveLinkableNames compilation.output.functions → ⊥

-- the object, or a section of it, would be too large
pub record IsLargeLinkableOf (form : LinkableForm) (plan : PassPipeline) (lines : List Line) (program : Program) : Type 0 where
  pub compilation : Compilation
  pub by_plan : IsCompiledBy plan program compilation
  pub large : IsLinkableLarge lines program compilation form.frame (flags_of form)

-- ---- the object that is asked for

abbrev pub IsObjectAsked : Option LinkableForm → PassPipeline → List Line → Program → (bytes : List ℕ) → Type 0
IsObjectAsked None plan lines program bytes = IsObjectFile (plan_steps plan) program bytes
IsObjectAsked (Some form) plan lines program bytes = IsLinkableFileOf form plan lines program bytes

abbrev pub HasInvalidNameAsked : Option LinkableForm → PassPipeline → Program → Type 0
HasInvalidNameAsked None plan program = HasInvalidName (plan_steps plan) program
HasInvalidNameAsked (Some form) plan program = HasUnlinkableName plan program
