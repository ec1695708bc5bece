-- The constants of a function that was read, their printed lines, and what these are read as.
use Rattle.std.specs.Prelude.{◌≡◌, ℕ, ◌≤◌, Bool, true, codes, List, [], ◌∷◌, ◌++◌, All, None, Ok}
use Rattle.std.specs.List.{flat_map}
use Rattle.std.specs.Fmt.{decimal}
use Rattle.base_ids.specs.Limits.{MAX_NUMBER}
use Rattle.mir_func.specs.Sound.{AreApart}
use Rattle.mir_pool.specs.declared.constant.PoolConstant.{PoolConstant}
use Rattle.mir_pool.specs.Pool.{bits_of, FitsType, constant_ids}
use Rattle.mir_func_printer.specs.FuncText.{pool_text}
use Rattle.read_declarations.specs.Stack.{is_alignment}
use Rattle.read_declarations.specs.Constants.{pool_of}
use Rattle.read_program.specs.declared.closing.Parsed.{Parsed}
use Rattle.read_program.specs.declared.program.Program.{Program}
use Rattle.read_program.specs.Program.{ReadsText}
use Rattle.readback_functions.specs.Document.{lines_from, text_of_lines}

-- the line of a constant's number
abbrev pub id_line : ℕ → List ℕ
id_line n = codes "  - id: " ++ decimal n

-- the line of its type and value
abbrev pub value_line : (bits value : ℕ) → List ℕ
value_line bits value = codes "    value: i" ++ (decimal bits ++ (codes " " ++ decimal value))

-- the line of its alignment
abbrev pub alignment_line : ℕ → List ℕ
alignment_line n = codes "    alignment: " ++ decimal n

-- the lines of a constant
abbrev pub constant_lines : PoolConstant → List (List ℕ)
constant_lines c = id_line c.id ∷ value_line (bits_of c.integer) c.value ∷ alignment_line c.alignment ∷ []

-- the lines of `constants`; none if there are no constants
abbrev pub pool_lines : List PoolConstant → List (List ℕ)
pool_lines [] = []
pool_lines (c ∷ cs) = codes "constants:" ∷ flat_map constant_lines (c ∷ cs)

-- a constant within the limits of reading
pub record IsConstant (c : PoolConstant) : Type 0 where
  pub id : c.id ≤ MAX_NUMBER
  pub fits : FitsType c
  pub aligned : is_alignment c.alignment ≡ true

-- constants within the limits of reading, of which no two have the same number
pub record AreConstants (pool : List PoolConstant) : Type 0 where
  pub each : All IsConstant pool
  pub apart : AreApart (constant_ids pool)

-- The text of constants is that of their lines, and a function of the linked language with these lines has these constants.
pub record IsPoolReadBack (n : ℕ) (pool : List PoolConstant) : Type 0 where
  pub printed : text_of_lines (pool_lines pool) ≡ pool_text pool
  pub reads : pool_of true (lines_from n (pool_lines pool)) ≡ record { constants = pool; refused = None }

abbrev pub PoolsReadBack : Type 0
PoolsReadBack = (n : ℕ) (pool : List PoolConstant) → AreConstants pool → IsPoolReadBack n pool

-- The constants of each function of a program that was read are such ones.
abbrev pub PoolsAreKnown : Type 0
PoolsAreKnown = (linked : Bool) (text : List ℕ) (p : Program) → ReadsText linked text (Ok p) → All (λ (q : Parsed). AreConstants q.pool) p.functions
