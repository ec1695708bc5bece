-- The layout of stack objects (LLVM, Machine IR (MIR) Format Reference Manual, "Stack Objects" and "Fixed Stack Objects").
use Rattle.std.specs.Prelude.{◌≡◌, ℕ, suc, ◌+◌, ◌-◌, ◌*◌, ◌/◌, max, ℤ, pos, negsuc, List, [], ◌∷◌, map, Option, Some, None, nat_eq, cond, All}
use Rattle.mir_func.specs.declared.object.Object.{Object}

-- the alignments that an object may have, in bytes
abbrev pub ALIGNMENTS : List ℕ
ALIGNMENTS = 1 ∷ 2 ∷ 4 ∷ 8 ∷ 16 ∷ []

-- the first object with a number
abbrev pub object_of : List Object → ℕ → Option Object
object_of [] n = None
object_of (o ∷ os) n = cond (nat_eq o.id n) (Some o) (object_of os n)

-- the least multiple of an alignment that isn't below a number
abbrev pub up_to : (align n : ℕ) → ℕ
up_to align n = (n + align - 1) / align * align

-- ---- the local block: the objects that LLVM has placed before register allocation (LocalStackSlotAllocation), since code goes from one of them to another

-- the greater of a number and a local offset, if there is one
abbrev pub reach_after : ℕ → Option ℕ → ℕ
reach_after n None = n
reach_after n (Some m) = max n m

-- the greatest of a number and local offsets
abbrev pub reach_from : ℕ → List (Option ℕ) → ℕ
reach_from n [] = n
reach_from n (l ∷ ls) = reach_from (reach_after n l) ls

-- the size of the local block with these local offsets: a multiple of 16
abbrev pub block_size : List (Option ℕ) → ℕ
block_size ls = up_to 16 (reach_from 0 ls)

-- one for a local offset
abbrev pub counted : Option ℕ → ℕ
counted None = 0
counted (Some n) = 1

-- how many local offsets there are
abbrev pub local_count : List (Option ℕ) → ℕ
local_count [] = 0
local_count (l ∷ ls) = counted l + local_count ls

-- the local offsets of objects
abbrev pub local_offsets : List Object → List (Option ℕ)
local_offsets objects = map (λ o. o.local_offset) objects

-- ---- fixed objects: those at a given offset from the stack pointer at entry, as the arguments that the caller passes on the stack

-- how far below the stack pointer at entry an object at this offset begins, or 0
abbrev pub depth_of : Option ℤ → ℕ
depth_of None = 0
depth_of (Some (pos n)) = 0
depth_of (Some (negsuc n)) = suc n

-- the greatest depth of objects, or n
abbrev pub depth_from : ℕ → List Object → ℕ
depth_from n [] = n
depth_from n (o ∷ os) = depth_from (max n (depth_of o.fixed_offset)) os

-- the bytes from the deepest fixed object up to the stack pointer at entry: a multiple of 16
abbrev pub fixed_area : List Object → ℕ
fixed_area objects = up_to 16 (depth_from 0 objects)

-- no object is fixed
abbrev pub HasNoFixed : List Object → Type 0
HasNoFixed objects = All (λ o. o.fixed_offset ≡ None) objects

-- ---- all objects

-- where an object begins: by its local offset in a local block of this size; without one, at the least multiple of its alignment that isn't below `end`
abbrev pub place_of : (block end align : ℕ) → (local : Option ℕ) → ℕ
place_of block end align None = up_to align end
place_of block end align (Some n) = block - n

-- the end of the objects above the local block, after an object that ends at `past`
abbrev pub next_end : (end past : ℕ) → (local : Option ℕ) → ℕ
next_end end past None = past
next_end end past (Some n) = end

-- an object that isn't fixed begins there
abbrev pub IsPlaced : (block end : ℕ) → Object → (fixed : Option ℤ) → Type 0
IsPlaced block end o None = o.offset ≡ place_of block end o.align o.local_offset
IsPlaced block end o (Some d) = Unit {0}

-- the end of the objects above the local block, after an object; a fixed one isn't among them
abbrev pub end_past : (end : ℕ) → Object → (fixed : Option ℤ) → ℕ
end_past end o None = next_end end (o.offset + o.size) o.local_offset
end_past end o (Some d) = end

-- each object that isn't fixed is where it begins by its local offset, or comes after `end` and after those before it that have none
abbrev pub AreLaidFrom : (block end : ℕ) → List Object → Type 0
AreLaidFrom block end [] = Unit {0}
AreLaidFrom block end (o ∷ os) = IsPlaced block end o o.fixed_offset × AreLaidFrom block (end_past end o o.fixed_offset) os

-- the end of an object that isn't fixed, if that is greater than n
abbrev pub own_end : ℕ → Object → (fixed : Option ℤ) → ℕ
own_end n o None = max n (o.offset + o.size)
own_end n o (Some d) = n

-- the greatest end of objects that aren't fixed, or n
abbrev pub end_from : ℕ → List Object → ℕ
end_from n [] = n
end_from n (o ∷ os) = end_from (own_end n o o.fixed_offset) os

-- the bytes that the objects take together below the stack pointer at entry, a multiple of 16: at the top those from the deepest fixed object on
abbrev pub area_of : List Object → ℕ
area_of objects = up_to 16 (end_from 0 objects) + fixed_area objects

-- a fixed object begins so far above or below the end of the area, which is at the stack pointer at entry
abbrev pub IsFixedAt : (area offset : ℕ) → (fixed : Option ℤ) → Type 0
IsFixedAt area offset None = Unit {0}
IsFixedAt area offset (Some (pos n)) = offset ≡ area + n
IsFixedAt area offset (Some (negsuc n)) = offset + suc n ≡ area

-- the same by the local block of the objects
abbrev pub ArePlaced : List Object → Type 0
ArePlaced objects = AreLaidFrom (block_size (local_offsets objects)) (block_size (local_offsets objects)) objects

-- Objects are where they must be: fixed ones at their offsets from the stack pointer at entry, those with a local offset in the local block, the others
-- above it. An object alone is in no local block.
pub record AreLaid (objects : List Object) : Type 0 where
  pub each : ArePlaced objects
  pub several : local_count (local_offsets objects) ≡ 1 → ⊥
  pub fixed : All (λ o. IsFixedAt (area_of objects) o.offset o.fixed_offset) objects

-- the greatest end of all objects, or n
abbrev pub extent_from : ℕ → List Object → ℕ
extent_from n [] = n
extent_from n (o ∷ os) = extent_from (max n (o.offset + o.size)) os

-- the bytes from the lowest byte of the objects up to the end of the area, or of a fixed object that ends above it
abbrev pub extent_of : List Object → ℕ
extent_of objects = extent_from (area_of objects) objects

-- an object's offset, or 0 without one
abbrev pub offset_or_zero : Option Object → ℕ
offset_or_zero None = 0
offset_or_zero (Some o) = o.offset

-- the offset of the object with a number from the lowest byte of the area
abbrev pub offset_of : List Object → ℕ → ℕ
offset_of objects n = offset_or_zero (object_of objects n)
