-- Sets of kills, as sets of keys.
use Rattle.std.specs.Prelude.{ℕ, Option, Some, None, Bool, ◌&&◌, nat_eq}
use Rattle.std.specs.Option.{option_eq}
use Rattle.std.specs.HashSet.{HashSet, contains}
use Rattle.mir_func.specs.declared.variable.VarId.{VarId}
use Rattle.mir_func.specs.Parts.{Bytes}
use Rattle.fold_undef.specs.declared.kill.Kill.{Kill}
use Rattle.fold_undef.specs.declared.kill.Kill.TheVariants.{Part, Number}

abbrev pub Key : Type 0
Key = (ℕ × Option ℕ) × Option (ℕ × ℕ)

abbrev pub is_key : Key → Key → Bool
is_key x y = (nat_eq x.0.0 y.0.0 && option_eq nat_eq x.0.1 y.0.1) && option_eq (λ (a : ℕ × ℕ) (b : ℕ × ℕ). nat_eq a.0 b.0 && nat_eq a.1 b.1) x.1 y.1

abbrev pub fragment_key : Option Bytes → Option (ℕ × ℕ)
fragment_key (Some b) = Some (b.offset, b.length)
fragment_key None = None

abbrev pub key_of : VarId → Key
key_of v = ((v.node, v.inlined_at), fragment_key v.fragment)

-- the sets have a kill of the same variable fragment or number
abbrev pub is_seen : {S T : Type 0} → HashSet Key S → HashSet ℕ T → Kill → Bool
is_seen parts numbers (Part v l) = contains is_key parts (key_of v)
is_seen parts numbers (Number k) = contains nat_eq numbers k
