-- Bytes with others in place of some of theirs.
use Rattle.std.specs.Int.{w32, to_le_bytes}
use Rattle.std.proofs.Common.{◌≡◌, ℕ, ◌+◌, ◌-◌, ◌≤◌, ◌<◌, ◌⊎◌, List, ◌++◌, length, take, drop, get_or}
use Rattle.std.proofs.Common.{arith, ap, sym, ◌∙◌, refl, inl, inr, append_assoc, length-append}
use Rattle.std.proofs.lemmas.List.{length-take-le, length-drop, take-append-drop, take-append-le, take-take, take_at, drop-append-le, drop-drop, drop-take, drop_at}
use Rattle.std.proofs.lemmas.List.{get_or-take, get_or-drop, get_or_append_left, get_or-append_right}
use Rattle.rv64_word.specs.MachineOp.{word_of}
use Rattle.elf_load.specs.steps.CallWords.{upper_word, jump, patched, call_patched}

-- ---- one part

pub length-patched : (at : ℕ) (part bytes : List ℕ) → at + length part ≤ length bytes → length (patched at part bytes) ≡ length bytes
length-patched at part bytes within =
    omega (
      arith,
      length-append (take at bytes ++ part) (drop (at + length part) bytes),
      length-append (take at bytes) part,
      length-take-le at bytes (omega (arith, within)),
      length-drop (at + length part) bytes,
      within,
    )

part_here : (at : ℕ) (part bytes : List ℕ) → at + length part ≤ length bytes
    → drop at (patched at part bytes) ≡ part ++ drop (at + length part) bytes
part_here at part bytes within =
    let rest : List ℕ = drop (at + length part) bytes in
    ap (drop at) (append_assoc (take at bytes) part rest) ∙ drop_at (take at bytes) (part ++ rest) at (length-take-le at bytes (omega (arith, within)))

-- eight bytes beside it
eight_kept : (at b : ℕ) (part bytes : List ℕ) → at + length part ≤ length bytes → (b + 8 ≤ at) ⊎ (at + length part ≤ b)
    → take 8 (drop b (patched at part bytes)) ≡ take 8 (drop b bytes)
eight_kept at b part bytes within (inl le) =
    let front : List ℕ = take at bytes in
    let rest : List ℕ = drop (at + length part) bytes in
    let long : length front ≡ at = length-take-le at bytes (omega (arith, within)) in
    let parts : at ≡ b + (at - b) = omega (arith, le) in
    ap (λ (ys : List ℕ). take 8 (drop b ys)) (append_assoc front part rest)
    ∙ ap (take 8) (drop-append-le b front (part ++ rest) (omega (arith, long, le)))
    ∙ take-append-le 8 (drop b front) (part ++ rest) (omega (arith, long, le, length-drop b front))
    ∙ ap (λ (n : ℕ). take 8 (drop b (take n bytes))) parts ∙ ap (take 8) (drop-take b (at - b) bytes)
    ∙ take-take 8 (at - b) (drop b bytes) (omega (arith, le))
eight_kept at b part bytes within (inr ge) =
    let end : ℕ = at + length part in
    let front : List ℕ = take at bytes ++ part in
    let n : ℕ = b - end in
    let long : length front ≡ end =
    length-append (take at bytes) part ∙ ap (λ (k : ℕ). k + length part) (length-take-le at bytes (omega (arith, within))) in
    let is : b ≡ end + n = omega (arith, ge) in
    ap (λ (k : ℕ). take 8 (drop k (front ++ drop end bytes))) is
    ∙ ap (take 8) (sym (drop-drop n end (front ++ drop end bytes)) ∙ ap (drop n) (drop_at front (drop end bytes) end long))
    ∙ ap (take 8) (drop-drop n end bytes ∙ ap (λ (k : ℕ). drop k bytes) (sym is))

-- a byte beside it
byte_kept : (at k : ℕ) (part bytes : List ℕ) → at + length part ≤ length bytes → (k < at) ⊎ (at + length part ≤ k)
    → get_or (patched at part bytes) k 0 ≡ get_or bytes k 0
byte_kept at k part bytes within (inl lt) =
    let front : List ℕ = take at bytes in
    let rest : List ℕ = drop (at + length part) bytes in
    ap (λ (ys : List ℕ). get_or ys k 0) (append_assoc front part rest)
    ∙ get_or_append_left front (part ++ rest) 0 k (omega (arith, length-take-le at bytes (omega (arith, within)), lt))
    ∙ get_or-take at bytes k 0 lt
byte_kept at k part bytes within (inr ge) =
    let end : ℕ = at + length part in
    let front : List ℕ = take at bytes ++ part in
    let long : length front ≡ end =
    length-append (take at bytes) part ∙ ap (λ (n : ℕ). n + length part) (length-take-le at bytes (omega (arith, within))) in
    let is : end + (k - end) ≡ k = omega (arith, ge) in
    get_or-append_right front (drop end bytes) end k 0 long ge ∙ get_or-drop end bytes (k - end) 0 ∙ ap (λ (j : ℕ). get_or bytes j 0) is

-- what was written, by the parts around it
pub patched_is : (at : ℕ) (part new bytes : List ℕ) → take (at + length part) new ≡ take at bytes ++ part
    → drop (at + length part) new ≡ drop (at + length part) bytes → new ≡ patched at part bytes
patched_is at part new bytes front back =
    sym (take-append-drop (at + length part) new) ∙ ap (λ (ys : List ℕ). ys ++ drop (at + length part) new) front
    ∙ ap (λ (ys : List ℕ). (take at bytes ++ part) ++ ys) back

-- ---- a call site

abbrev first_word : (d : ℕ) → List ℕ
first_word d = to_le_bytes w32 (upper_word d)

abbrev second_word : (d : ℕ) → List ℕ
second_word d = to_le_bytes w32 (word_of (jump d))

four : (x : ℕ) → length (to_le_bytes w32 x) ≡ 4
four x = refl

length-first : (at d : ℕ) (bytes : List ℕ) → at + 8 ≤ length bytes → length (patched at (first_word d) bytes) ≡ length bytes
length-first at d bytes within = length-patched at (first_word d) bytes (omega (arith, within, four (upper_word d)))

second_fits : (at d : ℕ) (bytes : List ℕ) → at + 8 ≤ length bytes → at + 4 + 4 ≤ length (patched at (first_word d) bytes)
second_fits at d bytes within = omega (arith, length-first at d bytes within, within)

pub length-call : (at d : ℕ) (bytes : List ℕ) → at + 8 ≤ length bytes → length (call_patched at d bytes) ≡ length bytes
length-call at d bytes within =
    length-patched (at + 4) (second_word d) (patched at (first_word d) bytes) (second_fits at d bytes within) ∙ length-first at d bytes within

pub words_here : (at d : ℕ) (bytes : List ℕ) → at + 8 ≤ length bytes
    → take 8 (drop at (call_patched at d bytes)) ≡ first_word d ++ second_word d
words_here at d bytes within =
    let a : List ℕ = first_word d in
    let b : List ℕ = second_word d in
    let once : List ℕ = patched at a bytes in
    let front : List ℕ = take (at + 4) once in
    let rest : List ℕ = drop (at + 4 + 4) once in
    let long : length front ≡ at + 4 = length-take-le (at + 4) once (omega (arith, second_fits at d bytes within)) in
    let here : drop at front ≡ a =
    drop-take at 4 once ∙ ap (take 4) (part_here at a bytes (omega (arith, within, four (upper_word d)))) ∙ take_at a (drop (at + 4) bytes) 4 refl in
    ap (λ (ys : List ℕ). take 8 (drop at ys)) (append_assoc front b rest)
    ∙ ap (take 8) (drop-append-le at front (b ++ rest) (omega (arith, long)) ∙ ap (λ (ys : List ℕ). ys ++ (b ++ rest)) here
    ∙ sym (append_assoc a b rest))
    ∙ take_at (a ++ b) rest 8 refl

pub eight_kept_by_call : (at b d : ℕ) (bytes : List ℕ) → at + 8 ≤ length bytes → (b + 8 ≤ at) ⊎ (at + 8 ≤ b)
    → take 8 (drop b (call_patched at d bytes)) ≡ take 8 (drop b bytes)
eight_kept_by_call at b d bytes within (inl le) =
    eight_kept (at + 4) b (second_word d) (patched at (first_word d) bytes) (second_fits at d bytes within) (inl (omega (arith, le)))
    ∙ eight_kept at b (first_word d) bytes (omega (arith, within, four (upper_word d))) (inl le)
eight_kept_by_call at b d bytes within (inr ge) =
    eight_kept (at + 4) b (second_word d) (patched at (first_word d) bytes) (second_fits at d bytes within) (inr (omega (arith, ge, four (word_of (jump d)))))
    ∙ eight_kept at b (first_word d) bytes (omega (arith, within, four (upper_word d))) (inr (omega (arith, ge, four (upper_word d))))

pub byte_kept_by_call : (at k d : ℕ) (bytes : List ℕ) → at + 8 ≤ length bytes → (k < at) ⊎ (at + 8 ≤ k)
    → get_or (call_patched at d bytes) k 0 ≡ get_or bytes k 0
byte_kept_by_call at k d bytes within (inl lt) =
    byte_kept (at + 4) k (second_word d) (patched at (first_word d) bytes) (second_fits at d bytes within) (inl (omega (arith, lt)))
    ∙ byte_kept at k (first_word d) bytes (omega (arith, within, four (upper_word d))) (inl lt)
byte_kept_by_call at k d bytes within (inr ge) =
    byte_kept (at + 4) k (second_word d) (patched at (first_word d) bytes) (second_fits at d bytes within) (inr (omega (arith, ge, four (word_of (jump d)))))
    ∙ byte_kept at k (first_word d) bytes (omega (arith, within, four (upper_word d))) (inr (omega (arith, ge, four (upper_word d))))
