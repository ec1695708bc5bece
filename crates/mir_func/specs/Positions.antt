-- Positions of a source: of origins, and whether two are the same.
use Rattle.std.specs.Prelude.{Bool, ◌&&◌, nat_eq}
use Rattle.mir_func.specs.declared.position.Pos.{Pos}
use Rattle.mir_func.specs.declared.position.Origin.{Origin}
use Rattle.mir_func.specs.declared.position.Origin.TheVariants.{Kept, Before}

-- the position that an origin names
abbrev pub position_of : Origin → Pos
position_of (Kept p) = p
position_of (Before p) = p

-- the two positions are equal
abbrev pub is_same_position : Pos → Pos → Bool
is_same_position p q = nat_eq p.block q.block && nat_eq p.item q.item
