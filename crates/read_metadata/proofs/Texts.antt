-- A text is read from its front.
use Rattle.std.proofs.Common.{◌≡◌, ℕ, zero, suc, ◌-◌, ◌<◌, List, [], ◌∷◌, length, get_or, take, drop, Some, None, refl, ap, arith}
use Rattle.std.proofs.lemmas.List.{take_rest}
use Rattle.read_metadata.specs.Text.{escape, unescaped, unescaped_behind}

-- to pass over bytes is to drop them
unescaped_behind-drop : (skip : ℕ) (bs : List ℕ) → unescaped_behind skip bs ≡ unescaped (drop skip bs)
unfolding unescaped_behind
unescaped_behind-drop zero [] = refl
unescaped_behind-drop (suc skip) [] = refl
unescaped_behind-drop zero (b ∷ bs) = refl
unescaped_behind-drop (suc skip) (b ∷ bs) = unescaped_behind-drop skip bs

-- an escape is at the front
pub reads_escape : (text : List ℕ) (byte : ℕ) → 0 < length text → Some byte ≡ escape text →
    unescaped text ≡ byte ∷ unescaped (take (length text - 3) (drop 3 text))
unfolding unescaped_behind
reads_escape [] byte some is = absurd (omega arith)
reads_escape (b ∷ bs) byte some is = rw (take_rest (b ∷ bs) 3, ← is) (ap (λ (r : List ℕ). byte ∷ r) (unescaped_behind-drop 2 bs))

-- no escape is at the front
pub reads_byte : (text : List ℕ) → 0 < length text → None ≡ escape text → unescaped text ≡ get_or text 0 0 ∷ unescaped (take (length text - 1) (drop 1 text))
unfolding unescaped_behind
reads_byte [] some is = absurd (omega arith)
reads_byte (b ∷ bs) some is = rw (take_rest (b ∷ bs) 1, ← is) refl

-- at a text's end nothing is left
pub unescaped-nil : (text : List ℕ) → length text ≡ 0 → unescaped text ≡ []
unfolding unescaped_behind
unescaped-nil [] none = refl
unescaped-nil (b ∷ bs) none = absurd (omega arith)
