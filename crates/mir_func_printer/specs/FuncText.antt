-- The text of a function (LLVM, Machine IR (MIR) Format Reference Manual, "High Level Structure"). The stack and the
-- substitutions are YAML lists of maps.
use Rattle.std.specs.Prelude.{ℕ, ℤ, Bool, true, false, not, cond, ◌&&◌, ◌||◌, nat_eq, nat_le, List, [], ◌∷◌, ◌++◌, Option, Some, None, is_some, is_none}
use Rattle.std.specs.Prelude.{codes}
use Rattle.std.specs.List.{flat_map, list_all, list_any}
use Rattle.std.specs.Fmt.{decimal, signed_decimal}
use Rattle.base_ids.specs.Limits.{text_number}
use Rattle.mir_exposure.specs.declared.exposure.Exposure.{Exposure}
use Rattle.mir_exposure.specs.declared.exposure.Exposure.TheVariants.{Nothing, Globals, Everything}
use Rattle.mir_func.specs.Function.{Function}
use Rattle.mir_func.specs.declared.object.Object.{Object}
use Rattle.mir_func.specs.declared.debug_substitution.OperandPair.{OperandPair}
use Rattle.mir_func.specs.declared.debug_substitution.DebugSubstitution.{DebugSubstitution}
use Rattle.mir_func.specs.declared.block.Block.{Block}
use Rattle.mir_func.specs.declared.item.Item.{Item}
use Rattle.mir_pool.specs.declared.constant.PoolConstant.{PoolConstant}
use Rattle.mir_pool.specs.Pool.{bits_of}
use Rattle.mir_printer.specs.Spelling.{quoted_byte, item_text}

-- a letter or `_`
abbrev pub is_name_start : ℕ → Bool
is_name_start b = (nat_le 65 b && nat_le b 90) || (nat_le 97 b && nat_le b 122) || nat_eq b 95

-- a letter, a digit, `_` or `.`
abbrev pub is_name_byte : ℕ → Bool
is_name_byte b = is_name_start b || (nat_le 48 b && nat_le b 57) || nat_eq b 46

-- a name that needs no quotes
abbrev pub is_plain_name : List ℕ → Bool
is_plain_name [] = false
is_plain_name (b ∷ bs) = is_name_start b && list_all is_name_byte bs

-- a name in double quotes
abbrev pub quoted_text : List ℕ → List ℕ
quoted_text name = 34 ∷ [] ++ flat_map quoted_byte name ++ 34 ∷ []

-- the name of a function, in double quotes unless it begins with a letter or `_` and goes on with letters, digits, `_` and `.`
abbrev pub name_text : List ℕ → List ℕ
name_text name = cond (is_plain_name name) name (quoted_text name)

-- the line of a frame slot
abbrev pub slot_line : ℕ → List ℕ
slot_line n = codes "  - { id: " ++ decimal n ++ (codes ", size: 8 }" ++ 10 ∷ [])

-- the field of a local offset, if there is one
abbrev pub local_text : Option ℕ → List ℕ
local_text None = []
local_text (Some n) = codes ", local-offset: -" ++ decimal n

-- the beginning of the line of a stack object: its number, size and alignment
abbrev pub object_numbers : Object → List ℕ
object_numbers o = codes "  - { id: " ++ decimal o.id ++ codes ", size: " ++ decimal o.size ++ codes ", alignment: " ++ decimal o.align

-- the line of a stack object
abbrev pub object_line : Object → List ℕ
object_line o = object_numbers o ++ local_text o.local_offset ++ (codes " }" ++ 10 ∷ [])

-- the line of a stack object in `stack`: a fixed one has none
abbrev pub own_line : Object → (fixed : Option ℤ) → List ℕ
own_line o None = object_line o
own_line o (Some d) = []

-- the line of a stack object in `fixedStack`: one that isn't fixed has none
abbrev pub fixed_line : Object → (fixed : Option ℤ) → List ℕ
fixed_line o None = []
fixed_line o (Some d) = codes "  - { id: " ++ decimal (text_number o.id) ++ codes ", offset: " ++ signed_decimal d ++ codes ", size: " ++ decimal o.size
    ++ (codes " }" ++ 10 ∷ [])

-- the same by the object alone
abbrev pub stack_line : Object → List ℕ
stack_line o = own_line o o.fixed_offset

abbrev pub fixed_stack_line : Object → List ℕ
fixed_stack_line o = fixed_line o o.fixed_offset

-- whether an object is fixed
abbrev pub is_fixed : Object → Bool
is_fixed o = is_some o.fixed_offset

-- whether it isn't
abbrev pub is_own : Object → Bool
is_own o = is_none o.fixed_offset

-- the fixed objects, unless there are none
abbrev pub fixed_text : List Object → List ℕ
fixed_text objects = cond (list_any is_fixed objects) (codes "fixedStack:" ++ 10 ∷ [] ++ flat_map fixed_stack_line objects) []

-- the list is empty
abbrev pub is_nothing : {A : Type 0} → List A → Bool
is_nothing [] = true
is_nothing (x ∷ xs) = false

-- the stack, slots before objects that aren't fixed, unless there is neither
abbrev pub stack_text : List ℕ → List Object → List ℕ
stack_text slots objects =
    cond (is_nothing slots && not (list_any is_own objects)) [] (codes "stack:" ++ 10 ∷ [] ++ flat_map slot_line slots ++ flat_map stack_line objects)

-- a line of a label and a number
abbrev pub numbered_line : List ℕ → ℕ → List ℕ
numbered_line label n = label ++ decimal n ++ 10 ∷ []

-- the line with the type and the value of a constant
abbrev pub value_line : (bits value : ℕ) → List ℕ
value_line bits value = codes "    value: i" ++ decimal bits ++ codes " " ++ decimal value ++ 10 ∷ []

-- a constant of the pool: its number, its type and value, and its alignment
abbrev pub constant_text : PoolConstant → List ℕ
constant_text c = numbered_line (codes "  - id: ") c.id ++ value_line (bits_of c.integer) c.value ++ numbered_line (codes "    alignment: ") c.alignment

-- the constants of the pool, unless there are none
abbrev pub pool_text : List PoolConstant → List ℕ
pool_text [] = []
pool_text (c ∷ cs) = codes "constants:" ++ 10 ∷ [] ++ flat_map constant_text (c ∷ cs)

-- the key of a function that calls one that may return twice
abbrev pub exposure_text : Exposure → List ℕ
exposure_text Nothing = []
exposure_text Globals = []
exposure_text Everything = codes "exposesReturnsTwice: true" ++ 10 ∷ []

-- a pair, with words before its number and before its operand
abbrev pub pair_text : List ℕ → List ℕ → OperandPair → List ℕ
pair_text number operand p = number ++ decimal p.number ++ operand ++ decimal p.operand

-- the line of a substitution
unfoldable pub entry_line : DebugSubstitution → List ℕ
entry_line e = pair_text (codes "  - { srcinst: ") (codes ", srcop: ") e.src ++ pair_text (codes ", dstinst: ") (codes ", dstop: ") e.dst
    ++ codes ", subreg: " ++ decimal e.subreg ++ (codes " }" ++ 10 ∷ [])

-- substitutions, after the line of their key
unfoldable pub some_substitutions : List DebugSubstitution → List ℕ
some_substitutions entries = codes "debugValueSubstitutions:" ++ 10 ∷ [] ++ flat_map entry_line entries

-- the substitutions, unless there are none
abbrev pub substitutions_text : List DebugSubstitution → List ℕ
substitutions_text entries = cond (is_nothing entries) [] (some_substitutions entries)

-- the line of an item
abbrev pub item_line : Item → List ℕ
item_line i = codes "    " ++ item_text i ++ 10 ∷ []

-- a block: its label, and its items
abbrev pub block_text : Block → List ℕ
block_text b = codes "  bb." ++ decimal b.id ++ (codes ":" ++ 10 ∷ []) ++ flat_map item_line b.items

-- what begins the document of a function, up to what stands behind its name
abbrev pub document_with : Function → List ℕ → List ℕ
document_with f rest = codes "---" ++ 10 ∷ [] ++ codes "name: " ++ name_text f.name ++ 10 ∷ [] ++ rest

-- the document of a function from its stack on
abbrev pub stack_and_body : Function → List DebugSubstitution → List ℕ
stack_and_body f entries = stack_text f.slots f.objects ++ substitutions_text entries ++ (codes "body: |" ++ 10 ∷ []) ++ flat_map block_text f.blocks
    ++ (codes "..." ++ 10 ∷ [])

-- The text of a function and its substitutions.
unfoldable pub func_text : Function → List DebugSubstitution → List ℕ
func_text f entries = document_with f (fixed_text f.objects ++ stack_and_body f entries)

-- The text of a function, the constants of its pool, its substitutions and what it exposes.
unfoldable pub linked_func_text : Function → List PoolConstant → List DebugSubstitution → Exposure → List ℕ
linked_func_text f pool entries exposure = document_with f (exposure_text exposure ++ (fixed_text f.objects ++ (pool_text pool ++ stack_and_body f entries)))
