-- Equality of functions, and of functions with their frames, up to debug items.
use Rattle.std.specs.Prelude.{◌≡◌, map}
use Rattle.mir_func.specs.Function.{Function, FramedFunction}
use Rattle.mir_func.specs.Strip.{stripped_blocks, stripped}
use Rattle.pass_trait.specs.Code.{originless_block, AreAlike}
use Rattle.frame_rule.specs.Rule.{framed_of}

-- ---- functions

-- Without debug items, both have the same names, slots, stack objects, block numbers and code in order, of which the same items are kept and added.
abbrev pub HaveAlikeCode : Function → Function → Type 0
HaveAlikeCode f g = AreAlike (stripped f) (stripped g)

-- Without debug items, both are equal, including origins.
abbrev pub HaveSameCode : Function → Function → Type 0
HaveSameCode f g = stripped f ≡ stripped g

-- ---- functions with their frames

-- the function with its frame without its debug values, DBG_PHIs and debug instruction numbers
abbrev pub stripped_framed : FramedFunction → FramedFunction
stripped_framed f = record f { blocks = stripped_blocks f.blocks }

-- The function with its frame without positions, silent indices and debug locations. These depend on where debug items were.
abbrev pub originless_framed : FramedFunction → FramedFunction
originless_framed f = record f { blocks = map originless_block f.blocks }

-- Without debug items, both have the same names, frames, stack objects, block numbers and code in order, of which the same items are kept and added.
abbrev pub AreFramedAlike : FramedFunction → FramedFunction → Type 0
AreFramedAlike f g = originless_framed (stripped_framed f) ≡ originless_framed (stripped_framed g)

-- Without debug items, both are equal, including origins.
abbrev pub AreFramedSame : FramedFunction → FramedFunction → Type 0
AreFramedSame f g = stripped_framed f ≡ stripped_framed g

-- ---- theorems

-- Adding the frame after removing debug items is the same as removing debug items after adding the frame.
abbrev pub FramesStrip : Type 0
FramesStrip = (f : Function) → framed_of (stripped f) ≡ stripped_framed (framed_of f)

-- Functions with equal code up to positions have, with their frames, equal code up to positions.
abbrev pub FramesAlike : Type 0
FramesAlike = (f g : Function) → HaveAlikeCode f g → AreFramedAlike (framed_of f) (framed_of g)

-- Functions with equal code and origins have, with their frames, equal code and origins.
abbrev pub FramesSame : Type 0
FramesSame = (f g : Function) → HaveSameCode f g → AreFramedSame (framed_of f) (framed_of g)
