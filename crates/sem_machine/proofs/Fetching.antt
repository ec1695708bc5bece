-- The word that stands at an address.
use Rattle.std.proofs.Common.{◌≡◌, ℕ, ◌<◌, ◌^◌, List, [], ◌∷◌, ◌++◌, take, drop, Some, refl, ap, ◌∙◌}
use Rattle.std.specs.Int.{w32, to_le_bytes}
use Rattle.std.proofs.lemmas.Nat.{from_le_bytes-to_le_bytes_4}
use Rattle.sem_machine.specs.Image.{word_of_bytes, word_at}

-- the bytes of a word are read back
pub word_here : (text rest : List ℕ) (a w : ℕ) → w < 2 ^ 32 → drop a text ≡ to_le_bytes w32 w ++ rest → word_at text a ≡ Some w
word_here text rest a w small e = ap (λ (bs : List ℕ). word_of_bytes (take 4 bs)) e ∙ ap Some (from_le_bytes-to_le_bytes_4 w small)

pub drop_zero : {X : Type 0} (xs : List X) → drop 0 xs ≡ xs
drop_zero [] = refl
drop_zero (x ∷ xs) = refl
