-- The numbers of the pairs of classes that a join has met.
use Rattle.std.specs.Prelude.{◌≡◌, ◌⊎◌, ℕ, suc, ◌<◌, length, Bool, ◌&&◌, cond, nat_eq, Option, Some, None, slice_index_or}
use Rattle.std.specs.HashMap.{get}
use Rattle.value_solver.specs.declared.meet.First.{First}
use Rattle.value_solver.specs.declared.meet.Pairs.{Pairs}

abbrev pub is_pair : ℕ × ℕ → ℕ × ℕ → Bool
is_pair p q = nat_eq p.0 q.0 && nat_eq p.1 q.1

-- the number of the first pair of a class, if it is the one with this class of the other list, or else the other number
abbrev pub number_at : Option First → (class : ℕ) → (other : Option ℕ) → Option ℕ
number_at None a other = other
number_at (Some first) a other = cond (nat_eq first.class a) (Some first.number) other

-- the number of a pair that isn't the first one of its second class, if it was met
abbrev pub number_behind : Pairs → ℕ × ℕ → Option ℕ
number_behind pairs k = number_at (slice_index_or pairs.seconds.items k.0 None) k.1 (get is_pair pairs.others k)

-- the number of a pair, if it was met
abbrev pub number_in : Pairs → ℕ × ℕ → Option ℕ
number_in pairs k = number_at (slice_index_or pairs.firsts.items k.1 None) k.0 (number_behind pairs k)

-- where a class has no first pair but a place for one, no pair of it was met
abbrev pub IsTidy : Pairs → Type 0
IsTidy pairs = (k : ℕ × ℕ) → k.1 < length pairs.firsts.items → slice_index_or pairs.firsts.items k.1 None ≡ None → number_behind pairs k ≡ None

-- the number n of a pair: that which it had, or else the next one, which it has from then on
abbrev pub IsNumber : (before after : ℕ × ℕ → Option ℕ) → (pair : ℕ × ℕ) → (next next_after n : ℕ) → Type 0
IsNumber before after k next next_after n =
    ((before k ≡ Some n) × ((w : ℕ × ℕ) → after w ≡ before w) × (next_after ≡ next)) ⊎
    ((before k ≡ None) × ((w : ℕ × ℕ) → after w ≡ cond (is_pair k w) (Some next) (before w)) × (next_after ≡ suc next) × (n ≡ next))
