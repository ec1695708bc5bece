-- The offsets of stack objects by number.
use Rattle.std.proofs.Common.{◌≡◌, ℕ, List, [], ◌∷◌, ◌++◌, map, reverse, Option, Some, None, Bool, true, false, cond, refl, sym, ap, ◌∙◌}
use Rattle.std.specs.Prelude.{nat_eq, unwrap_or}
use Rattle.std.specs.Map.{lookup, update_all}
use Rattle.std.proofs.lemmas.List.{map-append, reverse-append}
use Rattle.std.proofs.lemmas.List.Sums.{fold-append}
use Rattle.mir_func.specs.declared.object.Object.{Object}
use Rattle.mir_func.specs.Objects.{object_of, offset_of, offset_or_zero}
use Rattle.sem_interpreter.specs.Memory.{number_in}

-- ---- offsets by number

abbrev pub offset_pair : Object → ℕ × ℕ
offset_pair o = (o.id, o.offset)

abbrev Made : List (ℕ × ℕ) → ℕ → Option ℕ
Made pairs n = update_all nat_eq (λ _. None) pairs n

made_more : (pairs : List (ℕ × ℕ)) (p : ℕ × ℕ) (n : ℕ) → Made (pairs ++ p ∷ []) n ≡ cond (nat_eq p.0 n) (Some p.1) (Made pairs n)
made_more pairs p n = ap (λ (f : ℕ → Option ℕ). f n) (fold-append _ (λ _. None) pairs (p ∷ []))

by_test : (b : Bool) (o : Object) (x : Option ℕ) (rest : Option Object) → unwrap_or x 0 ≡ offset_or_zero rest →
    unwrap_or (cond b (Some o.offset) x) 0 ≡ offset_or_zero (cond b (Some o) rest)
by_test true o x rest h = refl
by_test false o x rest h = h

-- inserted last to first, the first object of a number counts
made_offsets : (objects : List Object) (n : ℕ) → unwrap_or (Made (map offset_pair (reverse objects)) n) 0 ≡ offset_of objects n
made_offsets [] n = refl
made_offsets (o ∷ os) n =
    let last : map offset_pair (reverse (o ∷ os)) ≡ map offset_pair (reverse os) ++ offset_pair o ∷ [] =
    ap (map offset_pair) (reverse-append (o ∷ []) os) ∙ map-append offset_pair (reverse os) (o ∷ []) in
    ap (λ (ps : List (ℕ × ℕ)). unwrap_or (Made ps n) 0) last
    ∙ (ap (λ (x : Option ℕ). unwrap_or x 0) (made_more (map offset_pair (reverse os)) (offset_pair o) n)
    ∙ by_test (nat_eq o.id n) o (Made (map offset_pair (reverse os)) n) (object_of os n) (made_offsets os n))

pub offsets_found : (objects : List Object) (es : List (ℕ × ℕ)) → ((n : ℕ) → lookup (nat_eq n) es ≡ Made (map offset_pair (reverse objects)) n) → (n : ℕ) →
    offset_of objects n ≡ number_in es n
offsets_found objects es found n = sym (ap (λ (x : Option ℕ). unwrap_or x 0) (found n) ∙ made_offsets objects n)
