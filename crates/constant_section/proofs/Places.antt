-- Where constants stand in their section.
use Rattle.std.proofs.Common.{◌≡◌, ℕ, zero, suc, ◌+◌, ◌-◌, ◌*◌, ◌/◌, ◌%◌, ◌<◌, ◌≤◌, List, [], ◌∷◌, ◌++◌, length, get_or, take, drop, All, Some}
use Rattle.std.proofs.Common.{refl, sym, ap, subst, ◌∙◌, arith, append_assoc, append-nil}
use Rattle.std.specs.Prelude.{max, replicate, slice_get}
use Rattle.std.specs.Int.{w128, to_le_bytes, bytes_low_first}
use Rattle.std.proofs.Math.Nat.{add-mod-mod, add-mul-mod_self_right, mod_self}
use Rattle.std.proofs.lemmas.Nat.{div-add-mod', mod_below}
use Rattle.std.proofs.lemmas.List.{length-append, length-replicate, take_at, drop_at, drop_more, drop_all}
use Rattle.std.proofs.lemmas.List.Elements.{All-head, All-tail}
use Rattle.mir_pool.specs.declared.constant.IntegerType.{IntegerType}
use Rattle.mir_pool.specs.declared.constant.IntegerType.TheVariants.{Bits8, Bits16, Bits32, Bits64, Bits128}
use Rattle.mir_pool.specs.declared.constant.PoolConstant.{PoolConstant}
use Rattle.mir_pool.specs.Pool.{bytes_of}
use Rattle.constant_section.specs.Section.{constant_bytes, padding, place_at, with_constant, with_constants, places_behind, greatest_alignment, HasAlignment}
use Rattle.constant_section.specs.Section.{StandsAt, ConstantsStand}

-- ---- a constant

pub low_bytes : (t : IntegerType) (v : ℕ) → take (bytes_of t) (to_le_bytes w128 v) ≡ bytes_low_first 0 (bytes_of t) v
low_bytes Bits8 v = refl
low_bytes Bits16 v = refl
low_bytes Bits32 v = refl
low_bytes Bits64 v = refl
low_bytes Bits128 v = refl

bytes_length : (t : IntegerType) (v : ℕ) → length (bytes_low_first 0 (bytes_of t) v) ≡ bytes_of t
bytes_length Bits8 v = refl
bytes_length Bits16 v = refl
bytes_length Bits32 v = refl
bytes_length Bits64 v = refl
bytes_length Bits128 v = refl

aligned_at : (a at : ℕ) → 0 < a → (at + padding a at) % a ≡ 0
aligned_at a at positive =
    add-mod-mod at (a - at % a) a ∙ (ap (λ (n : ℕ). n % a) whole ∙ (add-mul-mod_self_right a (at / a) a ∙ mod_self a))
  where
    whole : at + (a - at % a) ≡ a + at / a * a
    whole = let split = div-add-mod' at a in let below = mod_below at a positive in omega (arith, split, below)

pub padded_length : (bytes : List ℕ) (n : ℕ) → length (bytes ++ replicate n 0) ≡ length bytes + n
padded_length bytes n = length-append bytes (replicate n 0) ∙ ap (λ (k : ℕ). length bytes + k) (length-replicate n 0)

-- ---- constants

-- what stood before stays in front
behind : (bytes : List ℕ) (cs : List PoolConstant) → (rest : List ℕ) × (with_constants bytes cs ≡ bytes ++ rest)
unfolding with_constants
behind bytes [] = ([], sym (append-nil bytes))
behind bytes (c ∷ cs) =
    let more = behind (with_constant bytes c) cs in
    let zeros : List ℕ = replicate (padding c.alignment (length bytes)) 0 in (
      zeros ++ (constant_bytes c ++ more.0),
      more.1 ∙ (append_assoc (bytes ++ zeros) (constant_bytes c) more.0 ∙ append_assoc bytes zeros (constant_bytes c ++ more.0)),
    )

stands_first : (bytes : List ℕ) (c : PoolConstant) (cs : List PoolConstant) → HasAlignment c →
    StandsAt (with_constants (with_constant bytes c) cs) c (place_at (length bytes) c)
stands_first bytes c cs aligned =
    let more = behind (with_constant bytes c) cs in
    let front : List ℕ = bytes ++ replicate (padding c.alignment (length bytes)) 0 in
    let place = place_at (length bytes) c in
    record {
      has = ap (λ (l : List ℕ). take (bytes_of c.integer) (drop place l)) (more.1 ∙ append_assoc front (constant_bytes c) more.0)
          ∙ (ap (take (bytes_of c.integer)) (drop_at front (constant_bytes c ++ more.0) place (padded_length bytes (padding c.alignment (length bytes))))
          ∙ take_at (constant_bytes c) more.0 (bytes_of c.integer) (bytes_length c.integer c.value));
      aligned = aligned_at c.alignment (length bytes) aligned;
    }

stands : (bytes : List ℕ) (cs : List PoolConstant) → All HasAlignment cs → (i : ℕ) (c : PoolConstant) (place : ℕ) → slice_get cs i ≡ Some c →
    slice_get (places_behind bytes cs) i ≡ Some place → StandsAt (with_constants bytes cs) c place
unfolding with_constants places_behind
stands bytes [] all i c place is at = absurd cc
stands bytes (d ∷ ds) all zero c place is at =
    let same : d ≡ c = cc in
    let here : place_at (length bytes) d ≡ place = cc in
    subst (λ (x : PoolConstant). StandsAt (with_constants (with_constant bytes d) ds) x place) same
    (subst (StandsAt (with_constants (with_constant bytes d) ds) d) here (stands_first bytes d ds (All-head HasAlignment d ds all)))
stands bytes (d ∷ ds) all (suc i) c place is at = stands (with_constant bytes d) ds (All-tail HasAlignment d ds all) i c place is at

pub constants_stand : ConstantsStand
constants_stand bytes cs all = record {
  kept = (let more = behind bytes cs in ap (take (length bytes)) more.1 ∙ take_at bytes more.0 (length bytes) refl);
  stands = stands bytes cs all;
}

-- ---- walks

-- one more constant is taken
pub bytes_more : (cs : List PoolConstant) (i : ℕ) (none : PoolConstant) (bytes next whole : List ℕ) → i < length cs →
    next ≡ with_constant bytes (get_or cs i none) → with_constants bytes (drop i cs) ≡ whole → with_constants next (drop (i + 1) cs) ≡ whole
unfolding with_constants
bytes_more cs i none bytes next whole lt made so_far =
    ap (λ (l : List ℕ). with_constants l (drop (i + 1) cs)) made ∙ (ap (with_constants bytes) (sym (drop_more cs i none lt)) ∙ so_far)

pub bytes_all : (cs : List PoolConstant) (i : ℕ) (bytes whole : List ℕ) → length cs ≤ i → with_constants bytes (drop i cs) ≡ whole → bytes ≡ whole
unfolding with_constants
bytes_all cs i bytes whole all so_far = ap (with_constants bytes) (sym (drop_all i cs all)) ∙ so_far

pub places_more : (cs : List PoolConstant) (i : ℕ) (none : PoolConstant) (bytes next places more whole : List ℕ) (place : ℕ) → i < length cs →
    next ≡ with_constant bytes (get_or cs i none) → place ≡ place_at (length bytes) (get_or cs i none) → more ≡ places ++ place ∷ [] →
    places ++ places_behind bytes (drop i cs) ≡ whole → more ++ places_behind next (drop (i + 1) cs) ≡ whole
unfolding places_behind
places_more cs i none bytes next places more whole place lt made at longer so_far =
    (λ j. longer j ++ places_behind (made j) (drop (i + 1) cs))
    ∙ (append_assoc places (place ∷ []) (places_behind (with_constant bytes (get_or cs i none)) (drop (i + 1) cs))
    ∙ (ap (λ (n : ℕ). places ++ n ∷ places_behind (with_constant bytes (get_or cs i none)) (drop (i + 1) cs)) at
    ∙ (ap (λ (l : List PoolConstant). places ++ places_behind bytes l) (sym (drop_more cs i none lt)) ∙ so_far)))

pub places_all : (cs : List PoolConstant) (i : ℕ) (bytes places whole : List ℕ) → length cs ≤ i → places ++ places_behind bytes (drop i cs) ≡ whole →
    places ≡ whole
unfolding places_behind
places_all cs i bytes places whole all so_far =
    sym (append-nil places) ∙ (ap (λ (l : List PoolConstant). places ++ places_behind bytes l) (sym (drop_all i cs all)) ∙ so_far)

pub greatest_more : (cs : List PoolConstant) (i : ℕ) (none : PoolConstant) (most next whole : ℕ) → i < length cs →
    next ≡ max most (get_or cs i none).alignment → greatest_alignment most (drop i cs) ≡ whole → greatest_alignment next (drop (i + 1) cs) ≡ whole
unfolding greatest_alignment
greatest_more cs i none most next whole lt made so_far =
    ap (λ (n : ℕ). greatest_alignment n (drop (i + 1) cs)) made ∙ (ap (greatest_alignment most) (sym (drop_more cs i none lt)) ∙ so_far)

pub greatest_all : (cs : List PoolConstant) (i most whole : ℕ) → length cs ≤ i → greatest_alignment most (drop i cs) ≡ whole → most ≡ whole
unfolding greatest_alignment
greatest_all cs i most whole all so_far = ap (greatest_alignment most) (sym (drop_all i cs all)) ∙ so_far
