-- What the search for a wrong field keeps.
use Rattle.std.specs.Prelude.{nat_eq, nat_lt, nat_le, ◌==◌, ◌&&◌, replicate, Option, Some, if◌then◌else◌}
use Rattle.std.specs.List.{starts_with}
use Rattle.std.proofs.Common.{◌≡◌, ℕ, zero, suc, ◌+◌, ◌*◌, ◌%◌, ◌^◌, ◌≤◌, ◌<◌, Bool, true, false, List, ◌++◌, length, take, drop, get_or}
use Rattle.std.proofs.Common.{arith, ap, sym, ◌∙◌, refl, inl, inr}
use Rattle.std.proofs.lemmas.Bool.{cases_Bool, leb-true, eqb-true, lt-leb}
use Rattle.std.proofs.lemmas.Bool.Decides.{Decides-eqb}
use Rattle.std.proofs.lemmas.Slice.Eq.{starts_is}
use Rattle.std.proofs.lemmas.List.{drop_at, drop_more, take-replicate, length-replicate}
use Rattle.elf_object.specs.Spelling.{padding, aligned}
use Rattle.elf_object.specs.FirstFault.{constants, zeros, table_in, count_in, ends_file, name_in, size_in, bytes_end, is_names_size}
use Rattle.elf_object.specs.steps.Told.{total}

-- a field is right, and the rest is left
pub constants_more : (place i : ℕ) (sizes left rest field later after : List ℕ) (whole : Option ℕ) → i < length sizes
    → constants place (drop i sizes) left rest ≡ whole → field ≡ take (get_or sizes i 0) left → later ≡ drop (get_or sizes i 0) left
    → length field ≡ get_or sizes i 0 → rest ≡ field ++ after
    → constants (place + get_or sizes i 0) (drop (i + 1) sizes) later after ≡ whole
constants_more place i sizes left rest field later after whole inside so_far front back long e =
    let n : ℕ = get_or sizes i 0 in
    let more : List ℕ = drop (i + 1) sizes in
    let stands : starts_with nat_eq rest (take n left) ≡ true =
    (starts_is Decides-eqb rest (take n left) (starts_with nat_eq rest (take n left)) refl).1 after (e ∙ ap (λ x. x ++ after) front) in
    let next : drop n rest ≡ after = ap (drop n) e ∙ drop_at field after n long in
    ap (λ x. constants (place + n) more x after) back ∙ ap (λ x. constants (place + n) more (drop n left) x) (sym next)
    ∙ sym (ap (λ b. if b then constants (place + n) more (drop n left) (drop n rest) else Some place) stands)
    ∙ ap (λ ss. constants place ss left rest) (sym (drop_more sizes i 0 inside)) ∙ so_far

-- a field is wrong
pub constants_stop : (place i : ℕ) (sizes left rest field : List ℕ) (whole : Option ℕ) → i < length sizes
    → constants place (drop i sizes) left rest ≡ whole → field ≡ take (get_or sizes i 0) left
    → ((x : List ℕ) → rest ≡ field ++ x → ⊥) → Some place ≡ whole
constants_stop place i sizes left rest field whole inside so_far front none =
    let n : ℕ = get_or sizes i 0 in
    let more : List ℕ = drop (i + 1) sizes in
    let wrong : starts_with nat_eq rest (take n left) ≡ false =
    elim (cases_Bool (starts_with nat_eq rest (take n left))) [
      | inl is ↦ absurd (none (drop (length (take n left)) rest) (
          (starts_is Decides-eqb rest (take n left) (starts_with nat_eq rest (take n left)) refl).0 is
          ∙ ap (λ x. x ++ drop (length (take n left)) rest) (sym front)))
      | inr is ↦ is
    ] in
    sym (ap (λ b. if b then constants (place + n) more (drop n left) (drop n rest) else Some place) wrong)
    ∙ ap (λ ss. constants place ss left rest) (sym (drop_more sizes i 0 inside)) ∙ so_far

pub total_more : (sizes : List ℕ) (i : ℕ) → i < length sizes → total (drop i sizes) ≡ get_or sizes i 0 + total (drop (i + 1) sizes)
total_more sizes i inside = ap total (drop_more sizes i 0 inside)

pub total-ones : (n : ℕ) → total (replicate n 1) ≡ n
total-ones zero = refl
total-ones (suc n) = omega (arith, total-ones n)

-- the fields of one byte up to a multiple of 8
pub ones_fit : (n : ℕ) → n < 8 → total (take n (replicate 10 1)) ≤ length {A = ℕ} (take n (replicate 8 0))
ones_fit n small =
    let a : total (take n (replicate 10 1)) ≡ n = ap total (take-replicate n 10 1 (omega (arith, small))) ∙ total-ones n in
    let b : length {A = ℕ} (take n (replicate 8 0)) ≡ n = ap (length {A = ℕ}) (take-replicate n 8 0 (omega (arith, small))) ∙ length-replicate {A = ℕ} n 0 in
    omega (arith, a, b)

pub zeros_are : (at n : ℕ) (bytes : List ℕ) → n ≡ padding at → n < 8
    → constants at (take n (replicate 10 1)) (take n (replicate 8 0)) (drop at bytes) ≡ zeros at bytes
unfolding zeros
zeros_are at n bytes e small =
    ap (λ x. constants at x (take n (replicate 8 0)) (drop at bytes)) (take-replicate n 10 1 (omega (arith, small)))
    ∙ ap (λ x. constants at (replicate n 1) x (drop at bytes)) (take-replicate n 8 0 (omega (arith, small)))
    ∙ ap (λ k. constants at (replicate k 1) (replicate k 0) (drop at bytes)) e

-- ---- what tests say

pub both_right : (a b : Bool) → (a && b) ≡ true → (a ≡ true) × (b ≡ true)
both_right true b e = (refl, e)
both_right false b e = absurd cc

-- a file without an ELF header has no section header table
pub short_table : (bytes : List ℕ) → length bytes < 64 → nat_le 64 (length bytes) ≡ ends_file bytes
unfolding ends_file
short_table bytes short =
    elim (cases_Bool (ends_file bytes)) [
      | inl is ↦
          (let ends = both_right (table_in bytes + 64 * count_in bytes == length bytes) (nat_le 64 (table_in bytes) && table_in bytes % 8 == 0) is in
          let placed = both_right (nat_le 64 (table_in bytes)) (table_in bytes % 8 == 0) ends.1 in
          absurd (omega (arith, short, eqb-true (table_in bytes + 64 * count_in bytes) (length bytes) ends.0, leb-true 64 (table_in bytes) placed.0)))
      | inr wrong ↦ lt-leb 64 (length bytes) short ∙ sym wrong
    ]

-- the bytes of the section of the names, by its size
pub record NamesSize (table header : ℕ) (bytes : List ℕ) : Type 0 where
  pub within : bytes_end header bytes ≤ table
  pub size : size_in header bytes ≡ name_in header bytes + 10

pub names_size : (table header : ℕ) (bytes : List ℕ) → is_names_size table header bytes ≡ true → NamesSize table header bytes
unfolding is_names_size
names_size table header bytes is =
    let small : Bool = nat_lt (size_in header bytes) (2 ^ 32) in
    let ended : Bool = aligned (bytes_end header bytes) == table in
    let sized = both_right (size_in header bytes == name_in header bytes + 10) (small && ended) is in
    let limits = both_right small ended sized.1 in
    record {
      within = omega (arith, eqb-true (aligned (bytes_end header bytes)) table limits.1);
      size = eqb-true (size_in header bytes) (name_in header bytes + 10) sized.0;
    }
