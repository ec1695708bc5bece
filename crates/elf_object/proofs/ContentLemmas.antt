-- The sections' bytes and names, one section after the other, and how long they are.
use Rattle.std.proofs.Common.{◌≡◌, ℕ, zero, suc, ◌+◌, ◌≤◌, ◌<◌, List, [], ◌∷◌, ◌++◌, length, take, drop, get_or, arith, ap, sym, ◌∙◌, refl, length-append, append_assoc}
use Rattle.std.specs.Prelude.{replicate}
use Rattle.std.specs.List.{flat_map}
use Rattle.std.proofs.lemmas.List.{append-nil, length-replicate, drop_more}
use Rattle.elf_object.specs.declared.object.Section.{Section}
use Rattle.elf_object.specs.Spelling.{padding, aligned, text, names_of, contents}

pub take-replicate : (n m x : ℕ) → n ≤ m → take n (replicate m x) ≡ replicate n x
take-replicate zero m x within = refl
take-replicate (suc n) zero x within = absurd (omega arith)
take-replicate (suc n) (suc m) x within = ap (λ ys. x ∷ ys) (take-replicate n m x (omega arith))

-- what is left from one of the items on
pub next_is : {X : Type 0} (xs : List X) (i : ℕ) (x : X) → i < length xs → x ≡ get_or xs i x → drop i xs ≡ x ∷ drop (i + 1) xs
next_is xs i x inside at = drop_more xs i x inside ∙ ap (λ y. y ∷ drop (i + 1) xs) (sym at)

pub all_dropped : {X : Type 0} (xs : List X) (i : ℕ) → length xs ≤ i → drop i xs ≡ []
all_dropped [] zero end = refl
all_dropped [] (suc i) end = refl
all_dropped (x ∷ xs) zero end = absurd (omega arith)
all_dropped (x ∷ xs) (suc i) end = all_dropped xs i (omega arith)

-- ---- the bytes

-- where the bytes of a section and the rest end
pub length-contents : (at : ℕ) (s : Section) (rest : List Section)
    → at + length (contents at (s ∷ rest)) ≡ (aligned at + length s.bytes) + length (contents (aligned at + length s.bytes) rest)
length-contents at s rest =
    let zeros : List ℕ = replicate (padding at) 0 in
    let after : List ℕ = contents (aligned at + length s.bytes) rest in
    let whole : length ((zeros ++ s.bytes) ++ after) ≡ (padding at + length s.bytes) + length after =
    length-append (zeros ++ s.bytes) after
    ∙ ap (λ n. n + length after) (length-append zeros s.bytes ∙ ap (λ n. n + length s.bytes) (length-replicate {A = ℕ} (padding at) 0)) in
    ap (λ n. at + n) whole ∙ regrouped at (padding at) (length s.bytes) (length after)
  where
    regrouped : (a b c d : ℕ) → a + (b + c + d) ≡ a + b + c + d
    regrouped a b c d = omega arith

-- with one more section at the end
pub length-contents-last : (at : ℕ) (ss : List Section) (last : Section)
    → at + length (contents at (ss ++ last ∷ [])) ≡ aligned (at + length (contents at ss)) + length last.bytes
length-contents-last at [] last =
    length-contents at last [] ∙ none (aligned at + length last.bytes) ∙ ap (λ n. aligned n + length last.bytes) (sym (none at))
  where
    none : (n : ℕ) → n + 0 ≡ n
    none n = omega arith
length-contents-last at (s ∷ ss) last =
    length-contents at s (ss ++ last ∷ []) ∙ length-contents-last (aligned at + length s.bytes) ss last
    ∙ ap (λ n. aligned n + length last.bytes) (sym (length-contents at s ss))

-- the bytes of a section are written, and then those of the rest
pub placed : (out new : List ℕ) (s : Section) (rest : List Section) → new ≡ out ++ replicate (padding (length out)) 0 ++ s.bytes
    → new ++ contents (length new) rest ≡ out ++ contents (length out) (s ∷ rest)
placed out new s rest is =
    let zeros : List ℕ = replicate (padding (length out)) 0 in
    let end : ℕ = aligned (length out) + length s.bytes in
    let long : length new ≡ end =
    ap length is ∙ length-append (out ++ zeros) s.bytes
    ∙ ap (λ n. n + length s.bytes) (length-append out zeros ∙ ap (λ n. length out + n) (length-replicate {A = ℕ} (padding (length out)) 0)) in
    ap (λ n. new ++ contents n rest) long ∙ ap (λ ys. ys ++ contents end rest) is
    ∙ append_assoc (out ++ zeros) s.bytes (contents end rest)
    ∙ append_assoc out zeros (s.bytes ++ contents end rest)
    ∙ ap (λ ys. out ++ ys) (sym (append_assoc zeros s.bytes (contents end rest)))

pub contents_more : (out new whole : List ℕ) (ss : List Section) (i : ℕ) (s last : Section) → i < length ss → s ≡ get_or ss i s
    → new ≡ out ++ replicate (padding (length out)) 0 ++ s.bytes → out ++ contents (length out) (drop i ss ++ last ∷ []) ≡ whole
    → new ++ contents (length new) (drop (i + 1) ss ++ last ∷ []) ≡ whole
contents_more out new whole ss i s last inside at is so_far =
    placed out new s (drop (i + 1) ss ++ last ∷ []) is
    ∙ ap (λ ys. out ++ contents (length out) (ys ++ last ∷ [])) (sym (next_is ss i s inside at)) ∙ so_far

pub contents_all : (out new whole : List ℕ) (ss : List Section) (i : ℕ) (last : Section) → length ss ≤ i
    → new ≡ out ++ replicate (padding (length out)) 0 ++ last.bytes → out ++ contents (length out) (drop i ss ++ last ∷ []) ≡ whole → new ≡ whole
contents_all out new whole ss i last end is so_far =
    sym (append-nil new) ∙ placed out new last [] is
    ∙ ap (λ ys. out ++ contents (length out) (ys ++ last ∷ [])) (sym (all_dropped ss i end)) ∙ so_far

-- where the bytes end, with what is left of the sections
pub end_more : (at next : ℕ) (ss more : List Section) (i : ℕ) (s : Section) → i < length ss → s ≡ get_or ss i s → next ≡ aligned at + length s.bytes
    → at + length (contents at (drop i ss ++ more)) ≡ next + length (contents next (drop (i + 1) ss ++ more))
end_more at next ss more i s inside at_is next_is_at =
    ap (λ ys. at + length (contents at (ys ++ more))) (next_is ss i s inside at_is) ∙ length-contents at s (drop (i + 1) ss ++ more)
    ∙ ap (λ n. n + length (contents n (drop (i + 1) ss ++ more))) (sym next_is_at)

-- ---- the names

pub length-text : (name : List ℕ) → length (text name) ≡ length name + 1
length-text name = length-append name (0 ∷ [])

pub names_more : (ss : List Section) (more : List (List ℕ)) (i : ℕ) (s : Section) → i < length ss → s ≡ get_or ss i s
    → flat_map text (names_of (drop i ss) ++ more) ≡ text s.name ++ flat_map text (names_of (drop (i + 1) ss) ++ more)
names_more ss more i s inside at = ap (λ ys. flat_map text (names_of ys ++ more)) (next_is ss i s inside at)

-- how long the names are, with what is left of the sections
pub length-names_more : (ss : List Section) (more : List (List ℕ)) (i : ℕ) (s : Section) → i < length ss → s ≡ get_or ss i s
    → length (flat_map text (names_of (drop i ss) ++ more)) ≡ length s.name + 1 + length (flat_map text (names_of (drop (i + 1) ss) ++ more))
length-names_more ss more i s inside at =
    ap length (names_more ss more i s inside at) ∙ length-append (text s.name) (flat_map text (names_of (drop (i + 1) ss) ++ more))
    ∙ ap (λ n. n + length (flat_map text (names_of (drop (i + 1) ss) ++ more))) (length-text s.name)

-- the last of several strings is among them
pub last_within : (ss : List Section) (last : List ℕ) → length last + 1 ≤ length (flat_map text (names_of ss ++ last ∷ []))
last_within [] last = omega (arith, length-append (text last) [], length-text last)
last_within (s ∷ ss) last =
    omega (arith, length-append (text s.name) (flat_map text (names_of ss ++ last ∷ [])), last_within ss last)

-- where the bytes end, with what is left of the sections and no more
pub end_next : (at next : ℕ) (ss : List Section) (i : ℕ) (s : Section) → i < length ss → s ≡ get_or ss i s → next ≡ aligned at + length s.bytes
    → at + length (contents at (drop i ss)) ≡ next + length (contents next (drop (i + 1) ss))
end_next at next ss i s inside at_is next_is_at =
    ap (λ ys. at + length (contents at ys)) (next_is ss i s inside at_is) ∙ length-contents at s (drop (i + 1) ss)
    ∙ ap (λ n. n + length (contents n (drop (i + 1) ss))) (sym next_is_at)

pub end_last : (at : ℕ) (ss : List Section) (i : ℕ) → length ss ≤ i → at + length (contents at (drop i ss)) ≡ at
end_last at ss i end = ap (λ ys. at + length (contents at ys)) (all_dropped ss i end) ∙ none at
  where
    none : (n : ℕ) → n + 0 ≡ n
    none n = omega arith

pub names_last : (ss : List Section) (i : ℕ) (last : List ℕ) → length ss ≤ i
    → length (flat_map text (names_of (drop i ss) ++ last ∷ [])) ≡ length last + 1
names_last ss i last end =
    ap (λ ys. length (flat_map text (names_of ys ++ last ∷ []))) (all_dropped ss i end) ∙ ap length (append-nil (text last)) ∙ length-text last

-- a name is written, and then the rest
pub table_more : (out new whole name : List ℕ) (ss : List Section) (more : List (List ℕ)) (i : ℕ) (s : Section) → i < length ss → s ≡ get_or ss i s
    → name ≡ s.name → new ≡ out ++ text name → out ++ flat_map text (names_of (drop i ss) ++ more) ≡ whole
    → new ++ flat_map text (names_of (drop (i + 1) ss) ++ more) ≡ whole
table_more out new whole name ss more i s inside at same is so_far =
    let after : List ℕ = flat_map text (names_of (drop (i + 1) ss) ++ more) in
    ap (λ ys. ys ++ after) (is ∙ ap (λ n. out ++ text n) same) ∙ append_assoc out (text s.name) after
    ∙ ap (λ ys. out ++ ys) (sym (names_more ss more i s inside at)) ∙ so_far

pub table_all : (out new whole last : List ℕ) (ss : List Section) (i : ℕ) → length ss ≤ i → new ≡ out ++ text last
    → out ++ flat_map text (names_of (drop i ss) ++ last ∷ []) ≡ whole → new ≡ whole
table_all out new whole last ss i end is so_far =
    is ∙ ap (λ ys. out ++ ys) (sym (append-nil (text last)))
    ∙ ap (λ ys. out ++ flat_map text (names_of ys ++ last ∷ [])) (sym (all_dropped ss i end)) ∙ so_far
