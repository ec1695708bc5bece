-- Stack objects: their alignments, where they lie, and how their sizes are found.
use Rattle.std.proofs.Common.{◌≡◌, ◌↔◌, ℕ, zero, suc, ◌+◌, ◌<◌, ◌≤◌, Bool, true, false, cond, List, [], ◌∷◌, ◌++◌, map, reverse, nat_eq, Option, Some, None}
use Rattle.std.proofs.Common.{refl, sym, ap, ◌∙◌, subst, ℤ, arith}
use Rattle.std.specs.Prelude.{Contains, option_map}
use Rattle.std.specs.Bool.{Decides}
use Rattle.std.specs.List.{list_any}
use Rattle.std.specs.Map.{update_all}
use Rattle.std.specs.Ordering.{nat_cmp, eq_by_cmp}
use Rattle.std.proofs.lemmas.Bool.Decides.{nat_tests, same_from_decides, Decides-eqb}
use Rattle.std.proofs.lemmas.List.{map-append, reverse-append}
use Rattle.std.proofs.lemmas.List.Sums.{fold-append}
use Rattle.std.proofs.lemmas.Map.Made.{is_member-Decides}
use Rattle.mir_func.specs.declared.object.Object.{Object}
use Rattle.mir_func.specs.Objects.{ALIGNMENTS, object_of, up_to, place_of, next_end, IsPlaced, end_past, AreLaidFrom}
use Rattle.mir_func.specs.Sound.{HasBytes}
use Rattle.mir_func.proofs.Apart.{same}

-- ---- alignments

swapped : (a b : ℕ) → Decides (nat_eq b a) (a ≡ b)
swapped a b = (grind (arith, nat_tests), grind (arith, nat_tests))

-- what `contains` answers of numbers
pub listed : (ns : List ℕ) (n : ℕ) → Decides (list_any (λ y. nat_eq y n) ns) (Contains ns n)
listed ns n = is_member-Decides {eq = λ a b. nat_eq b a} swapped ns n

pub alignment_is_few : (a : ℕ) → Contains ALIGNMENTS a → (1 ≤ a) × (a ≤ 16)
alignment_is_few a (zero, l, e) = (omega arith, omega arith)
alignment_is_few a (suc zero, l, e) = (omega arith, omega arith)
alignment_is_few a (suc (suc zero), l, e) = (omega arith, omega arith)
alignment_is_few a (suc (suc (suc zero)), l, e) = (omega arith, omega arith)
alignment_is_few a (suc (suc (suc (suc zero))), l, e) = (omega arith, omega arith)
alignment_is_few a (suc (suc (suc (suc (suc k)))), l, e) = absurd (omega arith)

-- ---- where objects lie

-- the padding is less than the alignment
pub up_to-le : (align n : ℕ) → 0 < align → up_to align n < n + align
up_to-le align n l = omega arith

pub ruleset padding = (up_to-le)

-- one more object is where it must be
pub laid_turn : (block end : ℕ) (o : Object) (rest : List Object) (all : Type 0) → AreLaidFrom block end (o ∷ rest) ↔ all →
    IsPlaced block end o o.fixed_offset → AreLaidFrom block (end_past end o o.fixed_offset) rest ↔ all
laid_turn block end o rest all both e = (λ h. both.0 (e, h), λ w. let r = both.1 w in r.1)

-- an object begins less than 16 bytes above the local block and the objects before it
pub place_low : (block end align : ℕ) (l : Option ℕ) → 0 < align → align ≤ 16 → place_of block end align l ≤ block + end + 15
place_low block end align None some few = omega (arith, up_to-le align end some, few)
place_low block end align (Some n) some few = omega arith

-- an object moves the end of those above the local block by less than 2 ^ 31
pub next_low : (block end align size : ℕ) (l : Option ℕ) → 0 < align → align ≤ 16 → size ≤ 1073741823 →
    next_end end (place_of block end align l + size) l ≤ end + 2147483648
next_low block end align size None some few small = omega (arith, up_to-le align end some, few, small)
next_low block end align size (Some n) some few small = omega arith

-- so does any object
pub past_low : (block end : ℕ) (o : Object) (fixed : Option ℤ) → 0 < o.align → o.align ≤ 16 → o.size ≤ 1073741823 → IsPlaced block end o fixed →
    end_past end o fixed ≤ end + 2147483648
past_low block end o None some few small at =
    subst (λ (x : ℕ). next_end end (x + o.size) o.local_offset ≤ end + 2147483648) (sym at)
    (next_low block end o.align o.size o.local_offset some few small)
past_low block end o (Some d) some few small at = omega arith

-- and one that isn't fixed ends less than 2 ^ 31 above both
pub placed_low : (block end : ℕ) (o : Object) (fixed : Option ℤ) → 0 < o.align → o.align ≤ 16 → o.size ≤ 1073741823 → IsPlaced block end o fixed →
    fixed ≡ None → o.offset + o.size ≤ block + end + 2147483648
placed_low block end o None some few small at is = omega (arith, at, place_low block end o.align o.local_offset some few, small)
placed_low block end o (Some d) some few small at is = cc

-- ---- sizes by number

abbrev pub size_pair : Object → ℕ × ℕ
size_pair o = (o.id, o.size)

abbrev Found : List Object → ℕ → Option ℕ
Found objects q = option_map (λ o. o.size) (object_of objects q)

found_by : (b : Bool) (o : Object) (rest : Option Object) →
    cond b (Some o.size) (option_map (λ (x : Object). x.size) rest) ≡ option_map (λ (x : Object). x.size) (cond b (Some o) rest)
found_by true o rest = refl
found_by false o rest = refl

same_test : (a b : ℕ) → eq_by_cmp nat_cmp a b ≡ nat_eq a b
same_test a b = same_from_decides (eq_by_cmp nat_cmp a b) (nat_eq a b) (same a b) (Decides-eqb a b)

abbrev Made : List (ℕ × ℕ) → ℕ → Option ℕ
Made pairs q = update_all (eq_by_cmp nat_cmp) (λ _. None) pairs q

made_more : (pairs : List (ℕ × ℕ)) (p : ℕ × ℕ) (q : ℕ) → Made (pairs ++ p ∷ []) q ≡ cond (eq_by_cmp nat_cmp p.0 q) (Some p.1) (Made pairs q)
made_more pairs p q = ap (λ (f : ℕ → Option ℕ). f q) (fold-append _ (λ _. None) pairs (p ∷ []))

-- inserted last to first, the first object of a number counts
pub sizes_found : (objects : List Object) (q : ℕ) → Made (map size_pair (reverse objects)) q ≡ Found objects q
sizes_found [] q = refl
sizes_found (o ∷ os) q =
    let last : map size_pair (reverse (o ∷ os)) ≡ map size_pair (reverse os) ++ size_pair o ∷ [] =
    ap (map size_pair) (reverse-append (o ∷ []) os) ∙ map-append size_pair (reverse os) (o ∷ []) in
    ap (λ (ps : List (ℕ × ℕ)). Made ps q) last
    ∙ (made_more (map size_pair (reverse os)) (size_pair o) q
    ∙ (ap (λ (b : Bool). cond b (Some o.size) (Made (map size_pair (reverse os)) q)) (same_test o.id q)
    ∙ (ap (λ (r : Option ℕ). cond (nat_eq o.id q) (Some o.size) r) (sizes_found os q) ∙ found_by (nat_eq o.id q) o (object_of os q))))

bytes_by : (objects : List Object) (n bytes size : ℕ) (r : Option Object) → object_of objects n ≡ r → option_map (λ o. o.size) r ≡ Some size →
    (bytes ≤ size) ↔ HasBytes objects n bytes
bytes_by objects n bytes size None e f = absurd cc
bytes_by objects n bytes size (Some o) e f =
    let same_size : o.size ≡ size = cc in (
      λ l. (o, e, omega arith),
      λ h.
          let one : Some h.0 ≡ Some o = sym h.1 ∙ e in
          let same_object : h.0 ≡ o = cc in
          let s : h.0.size ≡ size = ap (λ (x : Object). x.size) same_object ∙ same_size in
          let l : bytes ≤ h.0.size = h.2 in omega arith,
    )

-- an object's size says whether it has so many bytes
pub has_bytes_by : (objects : List Object) (n bytes size : ℕ) → Found objects n ≡ Some size → (bytes ≤ size) ↔ HasBytes objects n bytes
has_bytes_by objects n bytes size f = bytes_by objects n bytes size (object_of objects n) refl f
