-- How the loop that spells a number goes on, and what its bytes stand for.
use Rattle.std.proofs.Common.{◌≡◌, ℕ, zero, suc, ◌+◌, ◌*◌, ◌/◌, ◌%◌, ◌^◌, ◌<◌, ◌≤◌, Bool, List, [], ◌∷◌, ◌++◌, length, take, set, arith, ap, sym, ◌∙◌, refl}
use Rattle.std.proofs.Common.{length-set, append_assoc, pow-suc}
use Rattle.std.proofs.lemmas.List.{take_more_set}
use Rattle.std.proofs.lemmas.Bool.Decides.{nat_tests}
use Rattle.dwarf_base.specs.Leb.{groups, group}

-- a number below the limit is one group
pub groups_last : (most limit : ℕ) (complement : Bool) (n : ℕ) → n < limit → groups most limit complement n ≡ group complement n ∷ []
unfolding groups
groups_last zero limit complement n below = refl
groups_last (suc most) limit complement n below = grind (arith, nat_tests)

-- any other has a group before the groups of the rest
pub groups_more : (most limit : ℕ) (complement : Bool) (n : ℕ) → limit ≤ n
    → groups (suc most) limit complement n ≡ (128 + group complement (n % 128)) ∷ groups most limit complement (n / 128)
unfolding groups
groups_more most limit complement n above = grind (arith, nat_tests)

-- what the loop keeps: the bytes so far, and the groups of the rest, are those of the number
pub record Going (limit : ℕ) (complement : Bool) (v : ℕ) (bytes : List ℕ) (len rest : ℕ) : Type 0 where
  pub most : ℕ
  pub room : len + most ≡ 9
  pub ten : length bytes ≡ 10
  pub below : rest < 128 ^ most * limit
  pub so_far : take len bytes ++ groups most limit complement rest ≡ groups 9 limit complement v

pub starts : (limit : ℕ) (complement : Bool) (v : ℕ) (bytes : List ℕ) → length bytes ≡ 10 → v < 128 ^ 9 * limit → Going limit complement v bytes 0 v
starts limit complement v bytes ten below = record { most = 9; room = refl; ten = ten; below = below; so_far = refl }

pub shorter : (most limit rest : ℕ) → rest < 128 ^ suc most * limit → rest / 128 < 128 ^ most * limit
shorter most limit rest below =
    let e : 128 ^ suc most * limit ≡ 128 ^ most * limit * 128 = rw (pow-suc 128 most) (swapped (128 ^ most) limit) in
    quotient (128 ^ most * limit) rest (rw e at below)
  where
    swapped : (a b : ℕ) → a * 128 * b ≡ a * b * 128
    swapped a b = omega arith

    quotient : (m rest : ℕ) → rest < m * 128 → rest / 128 < m
    quotient m rest h = omega arith

pub goes : (limit : ℕ) (complement : Bool) (v : ℕ) (bytes : List ℕ) (len rest x : ℕ) → Going limit complement v bytes len rest → limit ≤ rest
    → x ≡ group complement (rest % 128) → Going limit complement v (set bytes len (128 + x)) (len + 1) (rest / 128)
goes limit complement v bytes len rest x going above e = step going.most going.room going.ten going.below going.so_far
  where
    step : (most : ℕ) → len + most ≡ 9 → length bytes ≡ 10 → rest < 128 ^ most * limit → take len bytes ++ groups most limit complement rest
        ≡ groups 9 limit complement v
        → Going limit complement v (set bytes len (128 + x)) (len + 1) (rest / 128)
    step zero room ten below so_far = absurd (omega arith)
    step (suc most) room ten below so_far = record {
      most = most;
      room = omega arith;
      ten = length-set _ _ _ ∙ ten;
      below = shorter most limit rest below;
      so_far =
          rw (take_more_set bytes len (128 + x) (omega arith), e, append_assoc)
          (ap (λ ys. take len bytes ++ ys) (sym (groups_more most limit complement rest above)) ∙ so_far);
    }

pub ends : (limit : ℕ) (complement : Bool) (v : ℕ) (bytes : List ℕ) (len rest x : ℕ) → Going limit complement v bytes len rest → rest < limit
    → x ≡ group complement rest → take (len + 1) (set bytes len x) ≡ groups 9 limit complement v
ends limit complement v bytes len rest x going below e =
    rw (take_more_set bytes len x (omega (arith, going.room, going.ten)), e)
    (ap (λ ys. take len bytes ++ ys) (sym (groups_last going.most limit complement rest below)) ∙ going.so_far)
