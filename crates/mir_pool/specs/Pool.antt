-- The constants of a function's pool.
use Rattle.std.specs.Prelude.{ℕ, ◌<◌, ◌^◌, ◌/◌, List, map}
use Rattle.mir_pool.specs.declared.constant.IntegerType.{IntegerType}
use Rattle.mir_pool.specs.declared.constant.IntegerType.TheVariants.{Bits8, Bits16, Bits32, Bits64, Bits128}
use Rattle.mir_pool.specs.declared.constant.PoolConstant.{PoolConstant}

-- how many bits a type has
abbrev pub bits_of : IntegerType → ℕ
bits_of Bits8 = 8
bits_of Bits16 = 16
bits_of Bits32 = 32
bits_of Bits64 = 64
bits_of Bits128 = 128

-- how many bytes it has
abbrev pub bytes_of : IntegerType → ℕ
bytes_of t = bits_of t / 8

-- a constant has the bits of its type alone
abbrev pub FitsType : PoolConstant → Type 0
FitsType c = c.value < 2 ^ bits_of c.integer

-- the numbers of constants
abbrev pub constant_ids : List PoolConstant → List ℕ
constant_ids constants = map (λ c. c.id) constants
