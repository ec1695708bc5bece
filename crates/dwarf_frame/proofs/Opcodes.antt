-- The opcodes of a row are read where they are spelled, each in both directions: the advance of the address, and the changes of
-- saved registers.
use Rattle.std.specs.Prelude.{◌&&◌}
use Rattle.std.specs.Int.{w32, to_le_bytes}
use Rattle.std.specs.List.{AllByRecursion}
use Rattle.std.proofs.Common.{◌≡◌, ◌⊎◌, ℕ, zero, suc, ◌+◌, ◌-◌, ◌*◌, ◌/◌, ◌^◌, ◌<◌, ◌≤◌, Bool, true, false, cond, eqb, ltb, List, [], ◌∷◌, ◌++◌}
use Rattle.std.proofs.Common.{length, replicate, get_or, Option, Some, None, Result, Ok, Err, arith, ap, subst, sym, ◌∙◌, refl}
use Rattle.std.proofs.Common.{inl, inr, append_assoc, eq-eqb, eqb-true}
use Rattle.std.proofs.lemmas.Bool.{or_cases, true≢false, false≢true, ne_eqb, cases_Bool, cases_lt, ltb-true, ltb-false, lt-ltb, le-ltb, le-leb, lt-leb}
use Rattle.std.proofs.lemmas.Bool.{and_parts}
use Rattle.dwarf_base.specs.Leb.{uleb_of}
use Rattle.dwarf_line.specs.Fields.{◌>>=◌, constants_at, number_at, uleb_at}
use Rattle.dwarf_line.proofs.Groups.{bind_ok, chosen, ok_is, not_ok, constants_take, constants_again, Other, step}
use Rattle.dwarf_line.proofs.Fixed.{IsBytes, IsBytes-rest, wide32, number_takes, number_again}
use Rattle.dwarf_line.proofs.Numbers.{uleb_takes, uleb_again}
use Rattle.dwarf_frame.specs.Table.{is_saved, is_fixed, none_saved, IsDistance}
use Rattle.dwarf_frame.specs.Spelling.{advance, saves, restores, registers}
use Rattle.dwarf_frame.specs.FirstFault.{advanced_at, address_at, distance_at, save_at, saves_at, begins_restore}
use Rattle.dwarf_frame.specs.FirstFault.{registers_at}

abbrev pub number : ℕ → List ℕ → Result (ℕ × List ℕ) ℕ
number n rest = Ok (n, rest)

abbrev wrong : ℕ → Result (ℕ × List ℕ) ℕ
wrong left = Err left

not_none : (distance : ℕ) → Some distance ≡ None → ⊥
not_none distance e = cc

-- ---- the advance

pub short_is : (words : ℕ) → words < 64 → advance words ≡ (64 + words) ∷ []
short_is words small = ap (λ b. cond b ((64 + words) ∷ []) (4 ∷ to_le_bytes w32 words)) (lt-ltb words 64 small)

pub long_is : (words : ℕ) → 64 ≤ words → advance words ≡ 4 ∷ to_le_bytes w32 words
long_is words large = ap (λ b. cond b ((64 + words) ∷ []) (4 ∷ to_le_bytes w32 words)) (le-ltb words 64 large)

record Advances (from end words : ℕ) (behind : List ℕ) (to : ℕ) (rest : List ℕ) : Type 0 where
  is : to ≡ from + 4 * words
  inside : to < end
  same : behind ≡ rest

advanced_takes : (from end words left : ℕ) (behind : List ℕ) (to : ℕ) (rest : List ℕ) → advanced_at from end words left behind ≡ Ok (to, rest)
    → Advances from end words behind to rest
unfolding advanced_at
advanced_takes from end words left behind to rest e =
    elim (chosen (ltb (from + 4 * words) end) (number (from + 4 * words) behind) (wrong left) (number to rest) e) [
      | inl inside ↦
          (let same = ok_is (from + 4 * words, behind) (to, rest) inside.1 in
          let to_is : from + 4 * words ≡ to = ap (λ (p : ℕ × List ℕ). p.0) same in
          record {
            is = sym to_is;
            inside = subst (λ n. n < end) to_is (ltb-true (from + 4 * words) end inside.0);
            same = ap (λ (p : ℕ × List ℕ). p.1) same;
          })
      | inr past ↦ absurd (not_ok left (to, rest) past.1)
    ]

-- what an address is that is read after an advance
pub record IsAdvance (from end : ℕ) (bytes : List ℕ) (to : ℕ) (rest : List ℕ) : Type 0 where
  pub words : ℕ
  pub some : 0 < words
  pub fits : words < 2 ^ 32
  pub is : to ≡ from + 4 * words
  pub inside : to < end
  pub spelled : bytes ≡ advance words ++ rest

abbrev long_advance : (from end : ℕ) → List ℕ → ℕ × List ℕ → Result (ℕ × List ℕ) ℕ
long_advance from end bytes words = cond (ltb words.0 64) (wrong (length bytes)) (advanced_at from end words.0 (length bytes) words.1)

long_takes : (from end b : ℕ) (bytes : List ℕ) (words : ℕ) (after : List ℕ) (to : ℕ) (rest : List ℕ) → eqb b 4 ≡ true
    → (bytes ≡ to_le_bytes w32 words ++ after) × (words < 2 ^ 32) → long_advance from end bytes (words, after) ≡ number to rest
    → IsAdvance from end (b ∷ bytes) to rest
long_takes from end b bytes words after to rest is operand e =
    elim (chosen (ltb words 64) (wrong (length bytes)) (advanced_at from end words (length bytes) after) (number to rest) e) [
      | inl small ↦ absurd (not_ok (length bytes) (to, rest) small.1)
      | inr large ↦
          (let moves = advanced_takes from end words (length bytes) after to rest large.1 in
          let many : 64 ≤ words = ltb-false words 64 large.0 in
          let head : b ≡ 4 = eqb-true b 4 is in
          record {
            words = words;
            some = omega arith;
            fits = operand.1;
            is = moves.is;
            inside = moves.inside;
            spelled =
                ap (λ k. k ∷ bytes) head ∙ ap (λ x. 4 ∷ x) (operand.0 ∙ ap (λ x. to_le_bytes w32 words ++ x) moves.same)
                ∙ ap (λ x. x ++ rest) (sym (long_is words many));
          })
    ]

short_takes : (from end b : ℕ) (bytes : List ℕ) (left to : ℕ) (rest : List ℕ) → 64 < b → b < 128
    → advanced_at from end (b - 64) left bytes ≡ Ok (to, rest) → IsAdvance from end (b ∷ bytes) to rest
short_takes from end b bytes left to rest above below e =
    let moves = advanced_takes from end (b - 64) left bytes to rest e in
    let back : b ≡ 64 + (b - 64) = omega arith in
    record {
      words = b - 64;
      some = omega arith;
      fits = omega arith;
      is = moves.is;
      inside = moves.inside;
      spelled =
          ap (λ k. k ∷ bytes) back ∙ ap (λ x. (64 + (b - 64)) ∷ x) moves.same ∙ ap (λ x. x ++ rest) (sym (short_is (b - 64) (omega arith)));
    }

pub address_takes : (from end : ℕ) (bytes : List ℕ) (to : ℕ) (rest : List ℕ) → IsBytes bytes → address_at from end bytes ≡ Ok (to, rest)
    → IsAdvance from end bytes to rest
unfolding address_at
address_takes from end [] to rest are e = absurd (not_ok 0 (to, rest) e)
address_takes from end (b ∷ bytes) to rest are e =
    elim (chosen (eqb b 4) (number_at w32 bytes >>= long_advance from end bytes)
    (cond (ltb 64 b && ltb b 128) (advanced_at from end (b - 64) (suc (length bytes)) bytes) (wrong (suc (length bytes)))) (number to rest) e) [
      | inl long ↦
          (let operand = bind_ok (number_at w32 bytes) (long_advance from end bytes) (to, rest) long.1 in
          long_takes from end b bytes operand.0.0 operand.0.1 to rest long.0
          (number_takes w32 (2 ^ 32) wide32 bytes operand.0.0 operand.0.1 (IsBytes-rest (b ∷ []) bytes are) operand.1) operand.2)
      | inr short ↦
          elim (chosen (ltb 64 b && ltb b 128) (advanced_at from end (b - 64) (suc (length bytes)) bytes) (wrong (suc (length bytes)))
          (number to rest) short.1) [
            | inl opcode ↦
                (let range = and_parts (ltb 64 b) (ltb b 128) opcode.0 in
                short_takes from end b bytes (suc (length bytes)) to rest (ltb-true 64 b range.0) (ltb-true b 128 range.1) opcode.1)
            | inr other ↦ absurd (not_ok (suc (length bytes)) (to, rest) other.1)
          ]
    ]

pub address_again : (from end words : ℕ) (rest : List ℕ) → 0 < words → words < 2 ^ 32 → from + 4 * words < end
    → address_at from end (advance words ++ rest) ≡ Ok (from + 4 * words, rest)
unfolding address_at advanced_at
address_again from end words rest some fits inside =
    let within : ltb (from + 4 * words) end ≡ true = lt-ltb (from + 4 * words) end inside in
    elim (cases_lt words 64) [
      | inl small ↦
          (let other : eqb (64 + words) 4 ≡ false = ne_eqb (64 + words) 4 (λ e. omega arith) in
          let above : ltb 64 (64 + words) ≡ true = lt-ltb 64 (64 + words) (omega arith) in
          let below : ltb (64 + words) 128 ≡ true = lt-ltb (64 + words) 128 (omega arith) in
          let operand : (64 + words) - 64 ≡ words = omega arith in
          ap (λ x. address_at from end (x ++ rest)) (short_is words small) ∙ rw (other, above, below, operand, within) refl)
      | inr large ↦
          (let many : ltb words 64 ≡ false = le-ltb words 64 large in
          ap (λ x. address_at from end (x ++ rest)) (long_is words large)
          ∙ rw (number_again w32 (2 ^ 32) wide32 words rest fits, many, within) refl)
    ]

-- ---- saved registers

abbrev one : ℕ → Option ℕ → List ℕ
one register None = []
one register (Some distance) = (128 + register) ∷ uleb_of (distance / 8)

saves_more : (register : ℕ) (o : Option ℕ) (saved : List (Option ℕ)) → saves register (o ∷ saved) ≡ one register o ++ saves (suc register) saved
saves_more register None saved = refl
saves_more register (Some distance) saved = refl

abbrev one_of : Option ℕ → List ℕ → Option ℕ × List ℕ
one_of o rest = (o, rest)

abbrev kept : Option ℕ → List ℕ → Result (Option ℕ × List ℕ) ℕ
kept o rest = Ok (o, rest)

abbrev at_distance : ℕ × List ℕ → Result (Option ℕ × List ℕ) ℕ
at_distance distance = Ok (Some (8 * distance.0), distance.1)

unsaved : (register : ℕ) (bytes : List ℕ) (o : Option ℕ) (rest : List ℕ) → kept None bytes ≡ kept o rest → (bytes ≡ one register o ++ rest) × IsDistance o
unsaved register bytes o rest e =
    subst (λ (p : Option ℕ × List ℕ). (bytes ≡ one register p.0 ++ p.1) × IsDistance p.0) (ok_is (one_of None bytes) (one_of o rest) e) (refl, tt)

saved_at : (register b : ℕ) (bytes : List ℕ) (n : ℕ) (after : List ℕ) (o : Option ℕ) (rest : List ℕ) → eqb b (128 + register) ≡ true
    → (bytes ≡ uleb_of n ++ after) × (n < 2 ^ 29) → kept (Some (8 * n)) after ≡ kept o rest → (b ∷ bytes ≡ one register o ++ rest) × IsDistance o
saved_at register b bytes n after o rest is operand e =
    subst (λ (p : Option ℕ × List ℕ). (b ∷ bytes ≡ one register p.0 ++ p.1) × IsDistance p.0)
    (ok_is (one_of (Some (8 * n)) after) (one_of o rest) e) (
      let head : b ≡ 128 + register = eqb-true b (128 + register) is in
          let eighth : n ≡ 8 * n / 8 = omega arith in
          ap (λ k. k ∷ bytes) head ∙ ap (λ x. (128 + register) ∷ x) (operand.0 ∙ ap (λ k. uleb_of k ++ after) eighth),
      (omega arith, omega (arith, operand.1)),
    )

distance_takes : (register : ℕ) (bytes : List ℕ) (o : Option ℕ) (rest : List ℕ) → distance_at register bytes ≡ Ok (o, rest)
    → (bytes ≡ one register o ++ rest) × IsDistance o
unfolding distance_at
distance_takes register [] o rest e = unsaved register [] o rest e
distance_takes register (b ∷ bytes) o rest e =
    elim (chosen (eqb b (128 + register)) (uleb_at (2 ^ 29) bytes >>= at_distance) (kept None (b ∷ bytes)) (kept o rest) e) [
      | inl saved ↦
          (let operand = bind_ok (uleb_at (2 ^ 29) bytes) at_distance (o, rest) saved.1 in
          saved_at register b bytes operand.0.0 operand.0.1 o rest saved.0 (uleb_takes (2 ^ 29) bytes operand.0.0 operand.0.1 operand.1) operand.2)
      | inr other ↦ unsaved register (b ∷ bytes) o rest other.1
    ]

-- a register that is saved may be
abbrev MayBe : ℕ → Option ℕ → Type 0
MayBe register None = Unit {0}
MayBe register (Some distance) = is_fixed register ≡ false

free_may : (register : ℕ) (o : Option ℕ) → is_fixed register ≡ false → MayBe register o
free_may register None free = tt
free_may register (Some distance) free = free

save_takes : (register : ℕ) (bytes : List ℕ) (o : Option ℕ) (rest : List ℕ) → save_at register bytes ≡ Ok (o, rest)
    → (bytes ≡ one register o ++ rest) × IsDistance o × MayBe register o
unfolding save_at
save_takes register bytes o rest e =
    elim (chosen (is_fixed register) (kept None bytes) (distance_at register bytes) (kept o rest) e) [
      | inl fixed ↦
          subst (λ (p : Option ℕ × List ℕ). (bytes ≡ one register p.0 ++ p.1) × IsDistance p.0 × MayBe register p.0)
          (ok_is (one_of None bytes) (one_of o rest) fixed.1) (refl, tt, tt)
      | inr free ↦ (let is = distance_takes register bytes o rest free.1 in (is.0, is.1, free_may register o free.0))
    ]

-- each register that is saved may be
abbrev pub MayBeSaved : (register : ℕ) → List (Option ℕ) → Type 0
MayBeSaved register [] = Unit {0}
MayBeSaved register (o ∷ saved) = MayBe register o × MayBeSaved (suc register) saved

-- what distances are that are read
pub record AreSaves (count register : ℕ) (bytes : List ℕ) (saved : List (Option ℕ)) (rest : List ℕ) : Type 0 where
  pub spelled : bytes ≡ saves register saved ++ rest
  pub count_is : length saved ≡ count
  pub distances : AllByRecursion IsDistance saved
  pub may : MayBeSaved register saved

abbrev all_of : List (Option ℕ) → List ℕ → List (Option ℕ) × List ℕ
all_of saved rest = (saved, rest)

abbrev kept_all : List (Option ℕ) → List ℕ → Result (List (Option ℕ) × List ℕ) ℕ
kept_all saved rest = Ok (saved, rest)

abbrev joined : Option ℕ → List (Option ℕ) × List ℕ → Result (List (Option ℕ) × List ℕ) ℕ
joined o others = Ok (o ∷ others.0, others.1)

abbrev others_after : (count register : ℕ) → Option ℕ × List ℕ → Result (List (Option ℕ) × List ℕ) ℕ
others_after count register first = saves_at count (suc register) first.1 >>= joined first.0

pub saves_take : (count register : ℕ) (bytes : List ℕ) (saved : List (Option ℕ)) (rest : List ℕ) → saves_at count register bytes ≡ Ok (saved, rest)
    → AreSaves count register bytes saved rest
unfolding saves_at
saves_take zero register bytes saved rest e =
    subst (λ (p : List (Option ℕ) × List ℕ). AreSaves 0 register bytes p.0 p.1) (ok_is (all_of [] bytes) (all_of saved rest) e)
    (record { spelled = refl; count_is = refl; distances = tt; may = tt })
saves_take (suc count) register bytes saved rest e =
    let first = bind_ok (save_at register bytes) (others_after count register) (saved, rest) e in
    let others = bind_ok (saves_at count (suc register) first.0.1) (joined first.0.0) (saved, rest) first.2 in
    let this = save_takes register bytes first.0.0 first.0.1 first.1 in
    let next = saves_take count (suc register) first.0.1 others.0.0 others.0.1 others.1 in
    subst (λ (p : List (Option ℕ) × List ℕ). AreSaves (suc count) register bytes p.0 p.1)
    (ok_is (all_of (first.0.0 ∷ others.0.0) others.0.1) (all_of saved rest) others.2)
    (record {
      spelled =
          this.0 ∙ ap (λ x. one register first.0.0 ++ x) next.spelled
          ∙ sym (append_assoc (one register first.0.0) (saves (suc register) others.0.0) others.0.1)
          ∙ ap (λ x. x ++ others.0.1) (sym (saves_more register first.0.0 others.0.0));
      count_is = ap suc next.count_is;
      distances = (this.1, next.distances);
      may = (this.2, next.may);
    })

-- the next byte is no opcode of a register
abbrev pub Below : List ℕ → Type 0
Below [] = Unit {0}
Below (b ∷ bytes) = b < 128

saves_other : (saved : List (Option ℕ)) (k register : ℕ) (rest : List ℕ) → k < register → Below rest → Other (128 + k) (saves register saved ++ rest)
saves_other [] k register [] above below = tt
saves_other [] k register (b ∷ rest) above below = λ e. omega arith
saves_other (None ∷ saved) k register rest above below = saves_other saved k (suc register) rest (omega arith) below
saves_other (Some distance ∷ saved) k register rest above below = λ e. omega arith

distance_other : (register : ℕ) (bytes : List ℕ) → Other (128 + register) bytes → distance_at register bytes ≡ Ok (None, bytes)
unfolding distance_at
distance_other register [] other = refl
distance_other register (b ∷ bytes) other = rw (ne_eqb b (128 + register) other) refl

save_other : (register : ℕ) (bytes : List ℕ) → Other (128 + register) bytes → save_at register bytes ≡ Ok (None, bytes)
unfolding save_at
save_other register bytes other =
    elim (cases_Bool (is_fixed register)) [
      | inl fixed ↦ ap (λ b. cond b (kept None bytes) (distance_at register bytes)) fixed
      | inr free ↦ ap (λ b. cond b (kept None bytes) (distance_at register bytes)) free ∙ distance_other register bytes other
    ]

distance_again : (register distance : ℕ) (rest : List ℕ) → IsDistance (Some distance)
    → distance_at register (((128 + register) ∷ uleb_of (distance / 8)) ++ rest) ≡ Ok (Some distance, rest)
unfolding distance_at
distance_again register distance rest is =
    let back : 8 * (distance / 8) ≡ distance = omega (arith, is.0) in
    rw (eq-eqb (128 + register) (128 + register) refl, uleb_again (2 ^ 29) (distance / 8) rest (omega (arith, is.1)), back) refl

save_again : (register distance : ℕ) (rest : List ℕ) → is_fixed register ≡ false → IsDistance (Some distance)
    → save_at register (((128 + register) ∷ uleb_of (distance / 8)) ++ rest) ≡ Ok (Some distance, rest)
unfolding save_at
save_again register distance rest free is =
    let bytes : List ℕ = ((128 + register) ∷ uleb_of (distance / 8)) ++ rest in
    ap (λ b. cond b (kept None bytes) (distance_at register bytes)) free ∙ distance_again register distance rest is

pub saves_again : (saved : List (Option ℕ)) (register : ℕ) (rest : List ℕ) → AllByRecursion IsDistance saved → MayBeSaved register saved → Below rest
    → saves_at (length saved) register (saves register saved ++ rest) ≡ Ok (saved, rest)
unfolding saves_at
saves_again [] register rest are may below = refl
saves_again (None ∷ saved) register rest are may below =
    let after : List ℕ = saves (suc register) saved ++ rest in
    step (save_at register after) (others_after (length saved) register) (one_of None after)
    (save_other register after (saves_other saved register (suc register) rest (omega arith) below))
    ∙ step (saves_at (length saved) (suc register) after) (joined None) (all_of saved rest) (saves_again saved (suc register) rest are.1 may.1 below)
saves_again (Some distance ∷ saved) register rest are may below =
    let after : List ℕ = saves (suc register) saved ++ rest in
    ap (saves_at (suc (length saved)) register) (append_assoc ((128 + register) ∷ uleb_of (distance / 8)) (saves (suc register) saved) rest)
    ∙ step (save_at register (((128 + register) ∷ uleb_of (distance / 8)) ++ after)) (others_after (length saved) register) (one_of (Some distance) after)
    (save_again register distance after may.0 are.0)
    ∙ step (saves_at (length saved) (suc register) after) (joined (Some distance)) (all_of saved rest)
    (saves_again saved (suc register) rest are.1 may.1 below)

-- ---- changes of saved registers

none_is : (saved : List (Option ℕ)) → is_saved saved ≡ false → saved ≡ replicate (length saved) None
none_is [] none = refl
none_is (None ∷ saved) none = ap (λ x. None ∷ x) (none_is saved none)
none_is (Some distance ∷ saved) none = absurd (true≢false none)

none_all : (saved : List (Option ℕ)) → length saved ≡ 32 → is_saved saved ≡ false → saved ≡ none_saved
none_all saved count none = none_is saved none ∙ ap (λ n. replicate n None) count

pub none_fit : (n : ℕ) → AllByRecursion IsDistance (replicate n None)
none_fit zero = tt
none_fit (suc n) = (tt, none_fit n)

pub none_may : (n register : ℕ) → MayBeSaved register (replicate n None)
none_may zero register = tt
none_may (suc n) register = (tt, none_may n (suc register))

-- the registers that are never saved are two
fixed_is : (register : ℕ) → is_fixed register ≡ true → (register ≡ 0) ⊎ (register ≡ 2)
fixed_is register fixed =
    elim (or_cases (eqb register 0) (eqb register 2) fixed) [
      | inl first ↦ inl (eqb-true register 0 first)
      | inr third ↦ inr (eqb-true register 2 third)
    ]

-- the places of registers that are never saved are empty
pub may_at : (saved : List (Option ℕ)) (register k : ℕ) → MayBeSaved register saved → is_fixed (register + k) ≡ true → get_or saved k None ≡ None
may_at [] register k may fixed = refl
may_at (None ∷ saved) register zero may fixed = refl
may_at (Some distance ∷ saved) register zero may fixed =
    let same : register ≡ register + 0 = omega arith in
    absurd (true≢false (sym fixed ∙ subst (λ n. is_fixed n ≡ false) same may.0))
may_at (o ∷ saved) register (suc k) may fixed =
    let next : register + suc k ≡ suc register + k = omega arith in
    may_at saved (suc register) k may.1 (subst (λ n. is_fixed n ≡ true) next fixed)

may_from : (saved : List (Option ℕ)) (register : ℕ) → ((k : ℕ) → is_fixed (register + k) ≡ true → get_or saved k None ≡ None)
    → MayBeSaved register saved
may_from [] register empty = tt
may_from (o ∷ saved) register empty = (first o (empty 0), may_from saved (suc register) later) where
  some : (distance : ℕ) (b : Bool) → b ≡ is_fixed register → (is_fixed (register + 0) ≡ true → Some distance ≡ None) → b ≡ false
  some distance false is none = refl
  some distance true is none =
      let same : register ≡ register + 0 = omega arith in absurd (not_none distance (none (subst (λ n. is_fixed n ≡ true) same (sym is))))

  first : (o : Option ℕ) → (is_fixed (register + 0) ≡ true → o ≡ None) → MayBe register o
  first None none = tt
  first (Some distance) none = some distance (is_fixed register) refl none

  later : (k : ℕ) → is_fixed (suc register + k) ≡ true → get_or saved k None ≡ None
  later k fixed = let next : suc register + k ≡ register + suc k = omega arith in empty (suc k) (subst (λ n. is_fixed n ≡ true) next fixed)

pub may_be : (saved : List (Option ℕ)) → get_or saved 0 None ≡ None → get_or saved 2 None ≡ None → MayBeSaved 0 saved
may_be saved none_zero none_pointer = may_from saved 0 (λ k fixed. at k (fixed_is (0 + k) fixed)) where
  at : (k : ℕ) → (0 + k ≡ 0) ⊎ (0 + k ≡ 2) → get_or saved k None ≡ None
  at k (inl first) = let is : k ≡ 0 = omega (arith, first) in ap (λ n. get_or saved n None) is ∙ none_zero
  at k (inr third) = let is : k ≡ 2 = omega (arith, third) in ap (λ n. get_or saved n None) is ∙ none_pointer

none_spelled : (saved : List (Option ℕ)) (register : ℕ) → is_saved saved ≡ false → saves register saved ≡ []
none_spelled [] register none = refl
none_spelled (None ∷ saved) register none = none_spelled saved (suc register) none
none_spelled (Some distance ∷ saved) register none = absurd (true≢false none)

spelled_none : (saved : List (Option ℕ)) (register : ℕ) → saves register saved ≡ [] → is_saved saved ≡ false
spelled_none [] register e = refl
spelled_none (None ∷ saved) register e = spelled_none saved (suc register) e
spelled_none (Some distance ∷ saved) register e = absurd cc

restores_begin : (saved : List (Option ℕ)) (register : ℕ) (rest : List ℕ) → is_saved saved ≡ true → begins_restore (restores register saved ++ rest) ≡ true
restores_begin [] register rest some = absurd (false≢true some)
restores_begin (None ∷ saved) register rest some = restores_begin saved (suc register) rest some
restores_begin (Some distance ∷ saved) register rest some = le-leb 192 (192 + register) (omega arith)

below_restore : (rest : List ℕ) → Below rest → begins_restore rest ≡ false
below_restore [] below = refl
below_restore (b ∷ rest) below = lt-leb 192 b (omega arith)

-- what is spelled, by whether registers were saved and are
still_is : (saved new : List (Option ℕ)) → is_saved saved ≡ true → is_saved new ≡ true → registers saved new ≡ []
still_is saved new some still = rw (some, still) refl

gone_is : (saved new : List (Option ℕ)) → is_saved saved ≡ true → is_saved new ≡ false → registers saved new ≡ restores 0 saved
gone_is saved new some gone = rw (some, gone) refl

saves_is : (saved new : List (Option ℕ)) → is_saved saved ≡ false → registers saved new ≡ saves 0 new
saves_is saved new none = rw none refl

-- what distances are that are read after changes of saved registers
pub record AreRegisters (saved : List (Option ℕ)) (bytes : List ℕ) (new : List (Option ℕ)) (rest : List ℕ) : Type 0 where
  pub spelled : bytes ≡ registers saved new ++ rest
  pub count : length new ≡ 32
  pub distances : AllByRecursion IsDistance new
  pub may : MayBeSaved 0 new
  pub keeps : is_saved saved ≡ true → is_saved new ≡ true → new ≡ saved

abbrev restored : List ℕ → Result (List (Option ℕ) × List ℕ) ℕ
restored rest = Ok (none_saved, rest)

pub registers_take : (saved : List (Option ℕ)) (bytes : List ℕ) (new : List (Option ℕ)) (rest : List ℕ) → length saved ≡ 32
    → AllByRecursion IsDistance saved → MayBeSaved 0 saved → registers_at saved bytes ≡ Ok (new, rest) → AreRegisters saved bytes new rest
unfolding registers_at
registers_take saved bytes new rest count are may e =
    elim (chosen (is_saved saved) (cond (begins_restore bytes) (constants_at (restores 0 saved) bytes >>= restored) (kept_all saved bytes))
    (saves_at 32 0 bytes) (kept_all new rest) e) [
      | inl some ↦
          elim (chosen (begins_restore bytes) (constants_at (restores 0 saved) bytes >>= restored) (kept_all saved bytes) (kept_all new rest) some.1) [
            | inl restore ↦
                (let opcodes = bind_ok (constants_at (restores 0 saved) bytes) restored (new, rest) restore.1 in
                subst (λ (p : List (Option ℕ) × List ℕ). AreRegisters saved bytes p.0 p.1)
                (ok_is (all_of none_saved opcodes.0) (all_of new rest) opcodes.2)
                (record {
                  spelled = constants_take (restores 0 saved) bytes opcodes.0 opcodes.1
                      ∙ ap (λ x. x ++ opcodes.0) (sym (gone_is saved none_saved some.0 refl));
                  count = refl;
                  distances = none_fit 32;
                  may = none_may 32 0;
                  keeps = λ was is. absurd (false≢true is);
                }))
            | inr stays ↦
                subst (λ (p : List (Option ℕ) × List ℕ). AreRegisters saved bytes p.0 p.1) (ok_is (all_of saved bytes) (all_of new rest) stays.1)
                (record {
                  spelled = ap (λ x. x ++ bytes) (sym (still_is saved saved some.0 some.0));
                  count = count;
                  distances = are;
                  may = may;
                  keeps = λ was is. refl;
                })
          ]
      | inr none ↦
          (let taken = saves_take 32 0 bytes new rest none.1 in
          record {
            spelled = taken.spelled ∙ ap (λ x. x ++ rest) (sym (saves_is saved new none.0));
            count = taken.count_is;
            distances = taken.distances;
            may = taken.may;
            keeps = λ was is. absurd (true≢false (sym was ∙ none.0));
          })
    ]

pub registers_again : (saved new : List (Option ℕ)) (rest : List ℕ) → length new ≡ 32 → AllByRecursion IsDistance new → MayBeSaved 0 new
    → (is_saved saved ≡ true → is_saved new ≡ true → new ≡ saved) → Below rest → registers_at saved (registers saved new ++ rest) ≡ Ok (new, rest)
unfolding registers_at
registers_again saved new rest count are may keeps below =
    elim (cases_Bool (is_saved saved)) [
      | inl some ↦
          elim (cases_Bool (is_saved new)) [
            | inl still ↦
                ap (λ x. registers_at saved (x ++ rest)) (still_is saved new some still)
                ∙ rw (some, below_restore rest below) (ap (λ x. kept_all x rest) (sym (keeps some still)))
            | inr gone ↦
                ap (λ x. registers_at saved (x ++ rest)) (gone_is saved new some gone)
                ∙ rw (some, restores_begin saved 0 rest some, constants_again (restores 0 saved) rest)
                (ap (λ x. kept_all x rest) (sym (none_all new count gone)))
          ]
      | inr none ↦
          ap (λ x. registers_at saved (x ++ rest)) (saves_is saved new none)
          ∙ rw none (ap (λ n. saves_at n 0 (saves 0 new ++ rest)) (sym count) ∙ saves_again new 0 rest are may below)
    ]

-- nothing is spelled exactly where nothing changes
pub unchanged : (saved new : List (Option ℕ)) → length saved ≡ 32 → length new ≡ 32 → (is_saved saved ≡ true → is_saved new ≡ true → new ≡ saved)
    → registers saved new ≡ [] → new ≡ saved
unchanged saved new count count_new keeps nothing =
    elim (cases_Bool (is_saved saved)) [
      | inl some ↦
          elim (cases_Bool (is_saved new)) [
            | inl still ↦ keeps some still
            | inr gone ↦
                (let empty : restores 0 saved ≡ [] = sym (gone_is saved new some gone) ∙ nothing in
                absurd (false≢true (sym (ap (λ x. begins_restore (x ++ [])) empty) ∙ restores_begin saved 0 [] some)))
          ]
      | inr none ↦
          (let none_new = spelled_none new 0 (sym (saves_is saved new none) ∙ nothing) in
          none_all new count_new none_new ∙ sym (none_all saved count none))
    ]

pub nothing_changes : (saved : List (Option ℕ)) → registers saved saved ≡ []
nothing_changes saved =
    elim (cases_Bool (is_saved saved)) [
      | inl some ↦ still_is saved saved some some
      | inr none ↦ saves_is saved saved none ∙ none_spelled saved 0 none
    ]
