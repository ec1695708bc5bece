-- Parts of variables (LLVM Language Reference, `DW_OP_LLVM_fragment`; DWARF 5, section 2.6.1.2).
use Rattle.std.specs.Prelude.{ℕ, ◌+◌, ◌≤◌}
use Rattle.mir_func.specs.Limits.{MAX_PART, MAX_PART_END}

-- some bytes of a variable, from an offset on
pub record Bytes : Type 0 where
  pub offset : ℕ
  pub length : ℕ

-- the bytes may be a part
abbrev pub IsPart : Bytes → Type 0
IsPart b = (1 ≤ b.length) × (b.length ≤ MAX_PART) × (b.offset + b.length ≤ MAX_PART_END)
