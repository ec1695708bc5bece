-- The section of constants (System V gABI, chapter 4, "Special Sections": `.rodata`): constants in their order, each at the next multiple of its alignment,
-- with zeros between them.
use Rattle.std.specs.Prelude.{◌≡◌, ℕ, ◌+◌, ◌-◌, ◌%◌, ◌<◌, max, List, [], ◌∷◌, ◌++◌, take, drop, length, replicate, slice_get}
use Rattle.std.specs.Prelude.{Some, All}
use Rattle.std.specs.Int.{bytes_low_first}
use Rattle.mir_pool.specs.declared.constant.PoolConstant.{PoolConstant}
use Rattle.mir_pool.specs.Pool.{bytes_of}

-- the bytes of a constant, the lowest first
abbrev pub constant_bytes : PoolConstant → List ℕ
constant_bytes c = bytes_low_first 0 (bytes_of c.integer) c.value

-- how many bytes stand between an offset and the next multiple of an alignment
abbrev pub padding : (align at : ℕ) → ℕ
padding align at = (align - at % align) % align

-- where a constant stands behind so many bytes
abbrev pub place_at : (at : ℕ) → PoolConstant → ℕ
place_at at c = at + padding c.alignment at

-- bytes, and a constant behind them
abbrev pub with_constant : List ℕ → PoolConstant → List ℕ
with_constant bytes c = bytes ++ replicate (padding c.alignment (length bytes)) 0 ++ constant_bytes c

-- bytes, and constants behind them
unfoldable pub with_constants : List ℕ → List PoolConstant → List ℕ
with_constants bytes [] = bytes
with_constants bytes (c ∷ cs) = with_constants (with_constant bytes c) cs

-- where these stand
unfoldable pub places_behind : List ℕ → List PoolConstant → List ℕ
places_behind bytes [] = []
places_behind bytes (c ∷ cs) = place_at (length bytes) c ∷ places_behind (with_constant bytes c) cs

-- the greatest of an alignment and those of constants
unfoldable pub greatest_alignment : ℕ → List PoolConstant → ℕ
greatest_alignment n [] = n
greatest_alignment n (c ∷ cs) = greatest_alignment (max n c.alignment) cs

-- the alignment isn't 0
abbrev pub HasAlignment : PoolConstant → Type 0
HasAlignment c = 0 < c.alignment

-- bytes have a constant at a place, which is a multiple of its alignment
pub record StandsAt (bytes : List ℕ) (c : PoolConstant) (place : ℕ) : Type 0 where
  pub has : take (bytes_of c.integer) (drop place bytes) ≡ constant_bytes c
  pub aligned : place % c.alignment ≡ 0

-- The bytes with constants behind them begin with the bytes alone, and each constant stands at its place.
pub record AreStanding (bytes : List ℕ) (cs : List PoolConstant) : Type 0 where
  pub kept : take (length bytes) (with_constants bytes cs) ≡ bytes
  pub stands : (i : ℕ) (c : PoolConstant) (place : ℕ) → slice_get cs i ≡ Some c → slice_get (places_behind bytes cs) i ≡ Some place →
      StandsAt (with_constants bytes cs) c place

abbrev pub ConstantsStand : Type 0
ConstantsStand = (bytes : List ℕ) (cs : List PoolConstant) → All HasAlignment cs → AreStanding bytes cs
