-- Bytes with others in place of some of theirs.
use Rattle.std.proofs.Common.{◌≡◌, ℕ, ◌+◌, ◌-◌, ◌≤◌, ◌<◌, ◌⊎◌, List, ◌++◌, length, take, drop, get_or}
use Rattle.std.proofs.Common.{arith, ap, sym, ◌∙◌, refl, inl, inr, append_assoc, length-append}
use Rattle.std.proofs.lemmas.List.{length-take-le, length-drop, take-append-le, take-take, take_at, drop-append-le, drop-drop, drop-take, drop_at}
use Rattle.std.proofs.lemmas.List.{get_or-take, get_or-drop, get_or_append_left, get_or-append_right}
use Rattle.elf_relocation.specs.Applied.{patched}

pub length-patched : (at : ℕ) (part bytes : List ℕ) → at + length part ≤ length bytes → length (patched at part bytes) ≡ length bytes
length-patched at part bytes within =
    omega (
      arith,
      length-append (take at bytes ++ part) (drop (at + length part) bytes),
      length-append (take at bytes) part,
      length-take-le at bytes (omega (arith, within)),
      length-drop (at + length part) bytes,
      within,
    )

-- the bytes before the end of the part
front_long : (at : ℕ) (part bytes : List ℕ) → at + length part ≤ length bytes → length (take at bytes ++ part) ≡ at + length part
front_long at part bytes within =
    length-append (take at bytes) part ∙ ap (λ (k : ℕ). k + length part) (length-take-le at bytes (omega (arith, within)))

-- the part, where it stands
pub part_here : (at : ℕ) (part bytes : List ℕ) → at + length part ≤ length bytes → take (length part) (drop at (patched at part bytes)) ≡ part
part_here at part bytes within =
    let rest : List ℕ = drop (at + length part) bytes in
    ap (λ (ys : List ℕ). take (length part) (drop at ys)) (append_assoc (take at bytes) part rest)
    ∙ ap (take (length part)) (drop_at (take at bytes) (part ++ rest) at (length-take-le at bytes (omega (arith, within))))
    ∙ take_at part rest (length part) refl

-- bytes beside it
pub bytes_kept : (n at b : ℕ) (part bytes : List ℕ) → at + length part ≤ length bytes → (b + n ≤ at) ⊎ (at + length part ≤ b)
    → take n (drop b (patched at part bytes)) ≡ take n (drop b bytes)
bytes_kept n at b part bytes within (inl le) =
    let front : List ℕ = take at bytes in
    let rest : List ℕ = drop (at + length part) bytes in
    let long : length front ≡ at = length-take-le at bytes (omega (arith, within)) in
    let parts : at ≡ b + (at - b) = omega (arith, le) in
    ap (λ (ys : List ℕ). take n (drop b ys)) (append_assoc front part rest)
    ∙ ap (take n) (drop-append-le b front (part ++ rest) (omega (arith, long, le)))
    ∙ take-append-le n (drop b front) (part ++ rest) (omega (arith, long, le, length-drop b front))
    ∙ ap (λ (k : ℕ). take n (drop b (take k bytes))) parts ∙ ap (take n) (drop-take b (at - b) bytes)
    ∙ take-take n (at - b) (drop b bytes) (omega (arith, le))
bytes_kept n at b part bytes within (inr ge) =
    let end : ℕ = at + length part in
    let front : List ℕ = take at bytes ++ part in
    let k : ℕ = b - end in
    let is : b ≡ end + k = omega (arith, ge) in
    ap (λ (j : ℕ). take n (drop j (front ++ drop end bytes))) is
    ∙ ap (take n) (sym (drop-drop k end (front ++ drop end bytes))
    ∙ ap (drop k) (drop_at front (drop end bytes) end (front_long at part bytes within)))
    ∙ ap (take n) (drop-drop k end bytes ∙ ap (λ (j : ℕ). drop j bytes) (sym is))

-- a byte beside it
pub byte_kept : (at k : ℕ) (part bytes : List ℕ) → at + length part ≤ length bytes → (k < at) ⊎ (at + length part ≤ k)
    → get_or (patched at part bytes) k 0 ≡ get_or bytes k 0
byte_kept at k part bytes within (inl lt) =
    let front : List ℕ = take at bytes in
    let rest : List ℕ = drop (at + length part) bytes in
    ap (λ (ys : List ℕ). get_or ys k 0) (append_assoc front part rest)
    ∙ get_or_append_left front (part ++ rest) 0 k (omega (arith, length-take-le at bytes (omega (arith, within)), lt))
    ∙ get_or-take at bytes k 0 lt
byte_kept at k part bytes within (inr ge) =
    let end : ℕ = at + length part in
    let front : List ℕ = take at bytes ++ part in
    let is : end + (k - end) ≡ k = omega (arith, ge) in
    get_or-append_right front (drop end bytes) end k 0 (front_long at part bytes within) ge
    ∙ get_or-drop end bytes (k - end) 0 ∙ ap (λ (j : ℕ). get_or bytes j 0) is

-- two parts, the second right behind the first, are one
pub two_parts : (at : ℕ) (a b bytes : List ℕ) → at + (length a + length b) ≤ length bytes
    → patched (at + length a) b (patched at a bytes) ≡ patched at (a ++ b) bytes
two_parts at a b bytes within =
    let end : ℕ = at + length a in
    let front : List ℕ = take at bytes ++ a in
    let rest : List ℕ = drop end bytes in
    let long : length front ≡ end = front_long at a bytes (omega (arith, within)) in
    let behind : drop (end + length b) (front ++ rest) ≡ drop (at + length (a ++ b)) bytes =
    sym (drop-drop (length b) end (front ++ rest)) ∙ ap (drop (length b)) (drop_at front rest end long) ∙ drop-drop (length b) end bytes
    ∙ ap (λ (k : ℕ). drop k bytes) (omega (arith, length-append a b)) in
    ap (λ (ys : List ℕ). (ys ++ b) ++ drop (end + length b) (front ++ rest)) (take_at front rest end long)
    ∙ ap (λ (ys : List ℕ). (front ++ b) ++ ys) behind
    ∙ ap (λ (ys : List ℕ). ys ++ drop (at + length (a ++ b)) bytes) (append_assoc (take at bytes) a b)
