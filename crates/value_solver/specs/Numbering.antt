-- Class numbers in the order of first appearance.
use Rattle.std.specs.Prelude.{◌≡◌, ◌↔◌, ◌⊎◌, ℕ, zero, suc, ◌<◌, List, [], ◌∷◌, length, slice_index}

-- the class of an entity by its number: 0 is no entity and has class 0, and i + 1 is the entity with index i
abbrev pub class_in : List ℕ → ℕ → ℕ
class_in cs zero = 0
class_in cs (suc i) = slice_index cs i

-- the classes are numbered by first appearance: each is below the count of those used so far or equals it. The count is n at
-- first and m last
abbrev pub IsNumbered : (n : ℕ) → List ℕ → (m : ℕ) → Type 0
IsNumbered n [] m = n ≡ m
IsNumbered n (c ∷ cs) m = ((c < n) × IsNumbered n cs m) ⊎ ((c ≡ n) × IsNumbered (suc n) cs m)

-- the meet of two partitions: two entities have the same class if and only if they have the same class in both a and b
pub record IsMeet (a b c : List ℕ) : Type 0 where
  pub long : length c ≡ length a
  pub one : (x y : ℕ) → (class_in c x ≡ class_in c y) ↔ ((class_in a x ≡ class_in a y) × (class_in b x ≡ class_in b y))
  pub numbered : (m : ℕ) × IsNumbered 1 c m

-- the same partition, numbered by first appearance: two entities have the same class in c if and only if they have in b
pub record IsRenumbered (b c : List ℕ) : Type 0 where
  pub long : length c ≡ length b
  pub one : (x y : ℕ) → (class_in c x ≡ class_in c y) ↔ (class_in b x ≡ class_in b y)
  pub numbered : (m : ℕ) × IsNumbered 1 c m
