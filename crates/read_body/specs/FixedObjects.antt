-- The fixed objects of a function, behind the objects among its stack entries.
use Rattle.std.specs.Prelude.{ℕ, ◌+◌, ◌-◌, ◌≤◌, suc, max, ℤ, pos, negsuc, unsigned_abs, List, [], ◌∷◌, ◌++◌, map, Some, None}
use Rattle.base_ids.specs.Limits.{MAX_NUMBER}
use Rattle.mir_func.specs.declared.object.Object.{Object}
use Rattle.mir_func.specs.Objects.{up_to, depth_of, area_of}
use Rattle.read_declarations.specs.declared.fixed.FixedEntry.{FixedEntry}

-- the limits of a fixed object
pub record IsFixedEntry (e : FixedEntry) : Type 0 where
  pub size : e.size ≤ MAX_NUMBER
  pub offset : unsigned_abs e.offset ≤ MAX_NUMBER

-- the place, from the lowest byte of an area, of what begins so far above or below the end of the area
abbrev pub from_end : (area : ℕ) → ℤ → ℕ
from_end area (pos n) = area + n
from_end area (negsuc n) = area - suc n

-- the object of an entry, where the area of all objects has this size
abbrev pub fixed_object : (area : ℕ) → FixedEntry → Object
fixed_object area e = record {
  id = e.id;
  size = e.size;
  align = 1;
  local_offset = None;
  fixed_offset = Some e.offset;
  offset = from_end area e.offset;
}

-- the greatest depth of entries below the stack pointer at entry, or n
unfoldable pub fixed_depth : ℕ → List FixedEntry → ℕ
fixed_depth n [] = n
fixed_depth n (e ∷ es) = fixed_depth (max n (depth_of (Some e.offset))) es

-- the area of these objects and these entries
abbrev pub area_with : List Object → List FixedEntry → ℕ
area_with objects es = area_of objects + up_to 16 (fixed_depth 0 es)

-- Objects, none of them fixed, and behind them those of fixed entries, if there are some.
abbrev pub with_fixed : List Object → List FixedEntry → List Object
with_fixed objects [] = objects
with_fixed objects (e ∷ es) = objects ++ map (fixed_object (area_with objects (e ∷ es))) (e ∷ es)
