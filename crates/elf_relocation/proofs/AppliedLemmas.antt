-- The bytes of a section with its relocations applied.
use Rattle.std.specs.Prelude.{All}
use Rattle.std.specs.List.{AllByRecursion}
use Rattle.std.proofs.Common.{◌≡◌, ℕ, ◌+◌, ◌≤◌, ◌<◌, ◌⊎◌, List, [], ◌∷◌, length, drop, get_or, arith, ap, sym, ◌∙◌, refl, inl, inr}
use Rattle.std.proofs.lemmas.List.{drop_more, drop_all}
use Rattle.std.proofs.lemmas.List.Elements.{All-from_recursion, recursion_from_All}
use Rattle.elf_object.specs.declared.relocations.Relocation.{Relocation}
use Rattle.elf_relocation.specs.Kinds.{kind_of}
use Rattle.elf_relocation.specs.Applied.{size_of, target_of, one_applied, applied, field_of, IsApplicable, IsApart, AreApart, IsOutside}
use Rattle.elf_relocation.proofs.FieldLemmas.{length-by, bytes_kept-by, byte_kept-by, field_alike}

module _ (base : ℕ) (addresses : List ℕ) where
  -- ---- one more relocation

  length-one : (r : Relocation) (bytes : List ℕ) → r.offset + size_of r ≤ length bytes → length (one_applied base addresses r bytes) ≡ length bytes
  length-one r bytes within = length-by (kind_of r.relocation_type) (target_of addresses r) r.addend (base + r.offset) r.offset bytes within

  turned : (r q : Relocation) → IsApart r q → (q.offset + size_of q ≤ r.offset) ⊎ (r.offset + size_of r ≤ q.offset)
  turned r q (inl le) = inr le
  turned r q (inr le) = inl le

  field_kept : (r q : Relocation) (bytes : List ℕ) → r.offset + size_of r ≤ length bytes → IsApart r q
      → field_of q (one_applied base addresses r bytes) ≡ field_of q bytes
  field_kept r q bytes within apart =
      bytes_kept-by (kind_of r.relocation_type) (target_of addresses r) r.addend (base + r.offset) r.offset (size_of q) q.offset bytes within
      (turned r q apart)

  -- ---- all of them

  module _ (n symbols : ℕ) where
    still_long : (r : Relocation) (bytes : List ℕ) → n ≡ length bytes → IsApplicable n symbols r → n ≡ length (one_applied base addresses r bytes)
    still_long r bytes long can = long ∙ sym (length-one r bytes (omega (arith, long, can.within)))

    length-applied : (rs : List Relocation) (bytes : List ℕ) → n ≡ length bytes → AllByRecursion (IsApplicable n symbols) rs
        → length (applied base addresses rs bytes) ≡ n
    length-applied [] bytes long can = sym long
    length-applied (r ∷ rest) bytes long can =
        length-applied rest (one_applied base addresses r bytes) (still_long r bytes long can.0) can.1

    byte_kept : (rs : List Relocation) (k : ℕ) (bytes : List ℕ) → n ≡ length bytes → AllByRecursion (IsApplicable n symbols) rs
        → AllByRecursion (IsOutside k) rs → get_or (applied base addresses rs bytes) k 0 ≡ get_or bytes k 0
    byte_kept [] k bytes long can outside = refl
    byte_kept (r ∷ rest) k bytes long can outside =
        byte_kept rest k (one_applied base addresses r bytes) (still_long r bytes long can.0) can.1 outside.1
        ∙ byte_kept-by (kind_of r.relocation_type) (target_of addresses r) r.addend (base + r.offset) r.offset k bytes
        (omega (arith, long, can.0.within)) outside.0

    rest_kept : (rs : List Relocation) (q : Relocation) (bytes : List ℕ) → n ≡ length bytes → AllByRecursion (IsApplicable n symbols) rs
        → AllByRecursion (IsApart q) rs → field_of q (applied base addresses rs bytes) ≡ field_of q bytes
    rest_kept [] q bytes long can apart = refl
    rest_kept (r ∷ rest) q bytes long can apart =
        rest_kept rest q (one_applied base addresses r bytes) (still_long r bytes long can.0) can.1 apart.1
        ∙ field_kept r q bytes (omega (arith, long, can.0.within)) (turned q r apart.0)

    -- the fields of some relocations are as they were at first
    fields_kept : (rs : List Relocation) (r : Relocation) (start bytes : List ℕ) → n ≡ length bytes → IsApplicable n symbols r
        → AllByRecursion (IsApart r) rs → AllByRecursion (λ q. field_of q bytes ≡ field_of q start) rs
        → AllByRecursion (λ q. field_of q (one_applied base addresses r bytes) ≡ field_of q start) rs
    fields_kept [] r start bytes long can apart same = tt
    fields_kept (q ∷ rest) r start bytes long can apart same = (
      field_kept r q bytes (omega (arith, long, can.within)) apart.0 ∙ same.0,
      fields_kept rest r start bytes long can apart.1 same.1,
    )

    all_filled : (rs : List Relocation) (start bytes whole : List ℕ) → n ≡ length start → n ≡ length bytes
        → whole ≡ applied base addresses rs bytes → AllByRecursion (IsApplicable n symbols) rs → AreApart rs
        → AllByRecursion (λ q. field_of q bytes ≡ field_of q start) rs
        → AllByRecursion (λ r. field_of r whole ≡ field_of r (one_applied base addresses r start)) rs
    all_filled [] start bytes whole first long is can apart same = tt
    all_filled (r ∷ rest) start bytes whole first long is can apart same =
        let others = recursion_from_All (IsApart r) rest apart.0 in (
          ap (field_of r) is ∙ rest_kept rest r (one_applied base addresses r bytes) (still_long r bytes long can.0) can.1 others
              ∙ field_alike (kind_of r.relocation_type) (target_of addresses r) r.addend (base + r.offset) r.offset bytes start
              (omega (arith, long, can.0.within)) (omega (arith, first, can.0.within)) same.0,
          all_filled rest start (one_applied base addresses r bytes) whole first (still_long r bytes long can.0) is can.1 apart.1
              (fields_kept rest r start bytes long can.0 others same.1),
        )

  all_same : (rs : List Relocation) (bytes : List ℕ) → AllByRecursion (λ q. field_of q bytes ≡ field_of q bytes) rs
  all_same [] bytes = tt
  all_same (r ∷ rest) bytes = (refl, all_same rest bytes)

-- ---- for the laws

pub applied_long : (base : ℕ) (addresses : List ℕ) (rs : List Relocation) (bytes : List ℕ)
    → All (IsApplicable (length bytes) (length addresses)) rs → length (applied base addresses rs bytes) ≡ length bytes
applied_long base addresses rs bytes can =
    length-applied base addresses (length bytes) (length addresses) rs bytes refl
    (recursion_from_All (IsApplicable (length bytes) (length addresses)) rs can)

pub outside_kept : (base : ℕ) (addresses : List ℕ) (rs : List Relocation) (bytes : List ℕ) (k : ℕ)
    → All (IsApplicable (length bytes) (length addresses)) rs → All (IsOutside k) rs
    → get_or (applied base addresses rs bytes) k 0 ≡ get_or bytes k 0
outside_kept base addresses rs bytes k can outside =
    byte_kept base addresses (length bytes) (length addresses) rs k bytes refl
    (recursion_from_All (IsApplicable (length bytes) (length addresses)) rs can) (recursion_from_All (IsOutside k) rs outside)

pub beside_kept : (base : ℕ) (addresses : List ℕ) (rs : List Relocation) (bytes : List ℕ) (q : Relocation)
    → All (IsApplicable (length bytes) (length addresses)) rs → All (IsApart q) rs → field_of q (applied base addresses rs bytes) ≡ field_of q bytes
beside_kept base addresses rs bytes q can apart =
    rest_kept base addresses (length bytes) (length addresses) rs q bytes refl
    (recursion_from_All (IsApplicable (length bytes) (length addresses)) rs can) (recursion_from_All (IsApart q) rs apart)

pub fields_filled : (base : ℕ) (addresses : List ℕ) (rs : List Relocation) (bytes : List ℕ)
    → All (IsApplicable (length bytes) (length addresses)) rs → AreApart rs
    → All (λ r. field_of r (applied base addresses rs bytes) ≡ field_of r (one_applied base addresses r bytes)) rs
fields_filled base addresses rs bytes can apart =
    All-from_recursion (λ (r : Relocation). field_of r (applied base addresses rs bytes) ≡ field_of r (one_applied base addresses r bytes)) rs
    (all_filled base addresses (length bytes) (length addresses) rs bytes bytes (applied base addresses rs bytes) refl refl refl
    (recursion_from_All (IsApplicable (length bytes) (length addresses)) rs can) apart (all_same base addresses rs bytes))

-- ---- for the loop

pub applied_more : (base : ℕ) (addresses : List ℕ) (rs : List Relocation) (i : ℕ) (d : Relocation) (now new whole : List ℕ) → i < length rs
    → applied base addresses (drop i rs) now ≡ whole → new ≡ one_applied base addresses (get_or rs i d) now
    → applied base addresses (drop (i + 1) rs) new ≡ whole
applied_more base addresses rs i d now new whole inside so_far is =
    ap (applied base addresses (drop (i + 1) rs)) is
    ∙ sym (ap (λ (xs : List Relocation). applied base addresses xs now) (drop_more rs i d inside)) ∙ so_far

pub applied_all : (base : ℕ) (addresses : List ℕ) (rs : List Relocation) (i : ℕ) (now whole : List ℕ) → length rs ≤ i
    → applied base addresses (drop i rs) now ≡ whole → now ≡ whole
applied_all base addresses rs i now whole end so_far =
    sym (ap (λ (xs : List Relocation). applied base addresses xs now) (drop_all i rs end)) ∙ so_far
