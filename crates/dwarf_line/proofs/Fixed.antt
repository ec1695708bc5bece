-- A number of so many bytes is read where its little-endian spelling stands.
use Rattle.std.specs.Int.{Width, w16, w32, w64, byte_len, from_le_bytes, to_le_bytes}
use Rattle.std.proofs.Common.{◌≡◌, ℕ, ◌+◌, ◌^◌, ◌<◌, ◌≤◌, false, ltb, List, ◌++◌, length, get_or, take, drop, Result, Ok, Err, refl, sym, ap, ◌∙◌, arith, inl}
use Rattle.std.proofs.Common.{inr}
use Rattle.std.proofs.lemmas.Bool.{cases_lt, ltb-false, le-ltb}
use Rattle.std.proofs.lemmas.List.{take_at, drop_at, take-append-drop, length-append, length-take, get_or-take, get_or_past, get_or-append-add}
use Rattle.std.proofs.lemmas.Nat.{le_bytes_2, le_bytes_4, le_bytes_8, from_le_bytes-to_le_bytes_2, from_le_bytes-to_le_bytes_4, from_le_bytes-to_le_bytes_8}
use Rattle.dwarf_line.specs.Fields.{number_at}
use Rattle.dwarf_line.proofs.Groups.{chosen, ok_is, not_ok}

abbrev pub IsBytes : List ℕ → Type 0
IsBytes bytes = (i : ℕ) → get_or bytes i 0 < 256

pub IsBytes-rest : (x rest : List ℕ) → IsBytes (x ++ rest) → IsBytes rest
IsBytes-rest x rest are i = rw (← get_or-append-add x rest i 0) (are (length x + i))

pub IsBytes-behind : (bytes x rest : List ℕ) → bytes ≡ x ++ rest → IsBytes bytes → IsBytes rest
IsBytes-behind bytes x rest is are = IsBytes-rest x rest (rw is at are)

IsBytes-take : (n : ℕ) (bytes : List ℕ) → IsBytes bytes → IsBytes (take n bytes)
IsBytes-take n bytes are i =
    elim (cases_lt i n) [
      | inl lt ↦ rw (get_or-take n bytes i 0 lt) (are i)
      | inr le ↦ rw (get_or_past (take n bytes) i 0 (omega (arith, length-take n bytes))) (omega arith)
    ]

-- what holds of the numbers of a width
pub record IsWide (w : Width) (limit : ℕ) : Type 0 where
  pub len : (n : ℕ) → length (to_le_bytes w n) ≡ byte_len w
  pub back : (bytes : List ℕ) → length bytes ≡ byte_len w → IsBytes bytes → to_le_bytes w (from_le_bytes w bytes) ≡ bytes
  pub again : (n : ℕ) → n < limit → from_le_bytes w (to_le_bytes w n) ≡ n
  pub below : (bytes : List ℕ) → IsBytes bytes → from_le_bytes w bytes < limit

pub wide16 : IsWide w16 (2 ^ 16)
wide16 = record {
  len = λ n. refl;
  back = λ bytes len are. le_bytes_2 bytes _ len are refl;
  again = λ n lt. from_le_bytes-to_le_bytes_2 n lt;
  below = λ bytes are. omega (arith, are 0, are 1);
}

pub wide32 : IsWide w32 (2 ^ 32)
wide32 = record {
  len = λ n. refl;
  back = λ bytes len are. le_bytes_4 bytes _ len are refl;
  again = λ n lt. from_le_bytes-to_le_bytes_4 n lt;
  below = λ bytes are. omega (arith, are 0, are 1, are 2, are 3);
}

pub wide64 : IsWide w64 (2 ^ 64)
wide64 = record {
  len = λ n. refl;
  back = λ bytes len are. le_bytes_8 bytes _ len are refl;
  again = λ n lt. from_le_bytes-to_le_bytes_8 n lt;
  below = λ bytes are. omega (arith, are 0, are 1, are 2, are 3, are 4, are 5, are 6, are 7);
}

abbrev number : ℕ → List ℕ → Result (ℕ × List ℕ) ℕ
number n rest = Ok (n, rest)

abbrev wrong : ℕ → Result (ℕ × List ℕ) ℕ
wrong left = Err left

pub number_takes : (w : Width) (limit : ℕ) → IsWide w limit → (bytes : List ℕ) (n : ℕ) (rest : List ℕ) → IsBytes bytes → number_at w bytes ≡ Ok (n, rest)
    → (bytes ≡ to_le_bytes w n ++ rest) × (n < limit)
number_takes w limit wide bytes n rest are e =
    elim (chosen (ltb (length bytes) (byte_len w)) (wrong (length bytes))
    (number (from_le_bytes w (take (byte_len w) bytes)) (drop (byte_len w) bytes)) (number n rest) e) [
      | inl short ↦ absurd (not_ok (length bytes) (n, rest) short.1)
      | inr enough ↦
          (let long : byte_len w ≤ length bytes = ltb-false _ _ enough.0 in
          let same = ok_is (from_le_bytes w (take (byte_len w) bytes), drop (byte_len w) bytes) (n, rest) enough.1 in
          let n_is : from_le_bytes w (take (byte_len w) bytes) ≡ n = ap (λ (p : ℕ × List ℕ). p.0) same in
          let rest_is : drop (byte_len w) bytes ≡ rest = ap (λ (p : ℕ × List ℕ). p.1) same in
          let front : to_le_bytes w (from_le_bytes w (take (byte_len w) bytes)) ≡ take (byte_len w) bytes =
          wide.back (take (byte_len w) bytes) (omega (arith, length-take (byte_len w) bytes)) (IsBytes-take (byte_len w) bytes are) in (
            sym (take-append-drop (byte_len w) bytes) ∙ ap (λ x. x ++ drop (byte_len w) bytes) (sym front)
                ∙ ap (λ k. to_le_bytes w k ++ drop (byte_len w) bytes) n_is ∙ ap (λ x. to_le_bytes w n ++ x) rest_is,
            rw (← n_is) (wide.below (take (byte_len w) bytes) (IsBytes-take (byte_len w) bytes are)),
          ))
    ]

pub number_again : (w : Width) (limit : ℕ) → IsWide w limit → (n : ℕ) (rest : List ℕ) → n < limit → number_at w (to_le_bytes w n ++ rest) ≡ Ok (n, rest)
number_again w limit wide n rest lt =
    let len = wide.len n in
    let long : ltb (length (to_le_bytes w n ++ rest)) (byte_len w) ≡ false = le-ltb _ _ (omega (arith, length-append (to_le_bytes w n) rest)) in
    rw (long, take_at (to_le_bytes w n) rest (byte_len w) len, drop_at (to_le_bytes w n) rest (byte_len w) len, wide.again n lt) refl
