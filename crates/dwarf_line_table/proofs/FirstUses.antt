-- Things numbered in the order of their first use.
-- Plan: a thing that was known keeps its number when more become known, since a first match stays the first; one that joins gets the
-- length, which is its number from then on. First uses only lengthen what is known, so a number once given is that at the end.
use Rattle.std.proofs.Common.{◌≡◌, ℕ, ◌+◌, ◌≤◌, Bool, true, false, cond, ◌||◌, if◌then◌else◌, List, [], ◌∷◌, ◌++◌, length, refl, sym, ◌∙◌, ap, arith, not}
use Rattle.std.proofs.Common.{true≢false, append_assoc, append-nil, eqb}
use Rattle.std.specs.List.{list_any, position_or_len}
use Rattle.std.proofs.lemmas.Bool.{eqb-true}
use Rattle.std.proofs.lemmas.List.Sums.{prefix_len-le-length}
use Rattle.std.proofs.lemmas.List.Folds.{list_any-append, position_or_len_push}
use Rattle.dwarf_line_table.specs.Files.{with_new, first_uses}

-- a first match stays the first
pub position_kept : {X : Type 0} (p : X → Bool) (xs ys : List X) → list_any p xs ≡ true → position_or_len p (xs ++ ys) ≡ position_or_len p xs
position_kept p [] ys h = absurd (true≢false (sym h))
position_kept p (x ∷ xs) ys h = by (p x) h (position_kept p xs ys)
  where
    by : (b : Bool) → (b || list_any p xs) ≡ true → (list_any p xs ≡ true → position_or_len p (xs ++ ys) ≡ position_or_len p xs)
        → cond (not b) (1 + position_or_len p (xs ++ ys)) 0 ≡ cond (not b) (1 + position_or_len p xs) 0
    by true found rest = refl
    by false found rest = ap (λ n. 1 + n) (rest found)

seam : (n m : ℕ) → n ≤ m → cond (eqb n m) (m + 0) n ≡ n
seam n m le = by (eqb n m) refl
  where
    by : (b : Bool) → eqb n m ≡ b → cond b (m + 0) n ≡ n
    by true e = let k : n ≡ m = eqb-true n m e in omega (arith, k)
    by false e = refl

pub position_le : {X : Type 0} (p : X → Bool) (xs : List X) → position_or_len p xs ≤ length xs
position_le p xs = prefix_len-le-length _ xs

module _ {X : Type 0} (is : X → X → Bool) (same : (x : X) → is x x ≡ true) where
  -- what joins is there
  pub joined : (known : List X) (x : X) → list_any (is x) (with_new is known x) ≡ true
  joined known x = by (list_any (is x) known) refl
    where
      by : (b : Bool) → list_any (is x) known ≡ b → list_any (is x) (if b then known else known ++ x ∷ []) ≡ true
      by true e = e
      by false e = rw (list_any-append, e, same) refl

  -- it has the first place where it was, or the length
  pub place_of_joined : (known : List X) (x : X) → position_or_len (is x) (with_new is known x) ≡ position_or_len (is x) known
  place_of_joined known x = by (list_any (is x) known)
    where
      by : (b : Bool) → position_or_len (is x) (if b then known else known ++ x ∷ []) ≡ position_or_len (is x) known
      by true = refl
      by false = rw (position_or_len_push, same) (seam _ _ (position_le (is x) known))

  -- and keeps it
  pub number_kept : (known rest : List X) (x : X) → position_or_len (is x) (with_new is known x ++ rest) ≡ position_or_len (is x) known
  number_kept known rest x = position_kept (is x) (with_new is known x) rest (joined known x) ∙ place_of_joined known x

module _ {X : Type 0} (is : X → X → Bool) where
  -- what is known with one more
  pub joined_only : (known : List X) (x : X) → (more : List X) × (with_new is known x ≡ known ++ more)
  joined_only known x = (cond (list_any (is x) known) [] (x ∷ []), by (list_any (is x) known))
    where
      by : (b : Bool) → (if b then known else known ++ x ∷ []) ≡ known ++ cond b [] (x ∷ [])
      by true = sym (append-nil known)
      by false = refl

  -- first uses lengthen what is known
  pub lengthened : (known xs : List X) → (more : List X) × (first_uses is known xs ≡ known ++ more)
  lengthened known [] = ([], sym (append-nil known))
  lengthened known (x ∷ xs) =
      let one = joined_only known x in
      let rest = lengthened (with_new is known x) xs in
      (one.0 ++ rest.0, rest.1 ∙ ap (λ k. k ++ rest.0) one.1 ∙ append_assoc known one.0 rest.0)

  pub uses_append : (known xs ys : List X) → first_uses is known (xs ++ ys) ≡ first_uses is (first_uses is known xs) ys
  uses_append known [] ys = refl
  uses_append known (x ∷ xs) ys = uses_append (with_new is known x) xs ys
