-- The content of a section after its relocations.
use Rattle.std.specs.Prelude.{All, IsSome}
use Rattle.std.specs.List.{AllByRecursion}
use Rattle.std.proofs.Common.{◌≡◌, ℕ, ◌+◌, ◌≤◌, List, [], ◌∷◌, ◌++◌, length, take, drop, arith, ap, sym, ◌∙◌, refl, subst, inl}
use Rattle.std.proofs.Common.{append_assoc, length-append}
use Rattle.std.proofs.lemmas.List.{take_at, drop_at, drop-drop}
use Rattle.std.proofs.lemmas.List.Elements.{All-from_recursion, recursion_from_All}
use Rattle.elf_object.specs.declared.relocations.Relocation.{Relocation}
use Rattle.elf_relocation.specs.Kinds.{kind_of, number_of}
use Rattle.elf_relocation.specs.Fields.{field_size, value_of, filled}
use Rattle.elf_relocation.specs.Applied.{patched, filled_by, size_by, size_of, applied, AreApart, IsApart, IsApplicable}
use Rattle.elf_relocation.proofs.FieldLemmas.{kind_back, length-filled}
use Rattle.elf_content.specs.declared.piece.Field.{Field}
use Rattle.elf_content.specs.declared.piece.Piece.{Piece}
use Rattle.elf_content.specs.declared.piece.Piece.TheVariants.{Fixed, Relocated}
use Rattle.elf_content.specs.Content.{written, relocation_at, relocations_from, symbol_address, filled_field, placed}
use Rattle.elf_content.specs.Content.{IsWhole, HasSymbol}

-- ---- one field behind others

-- bytes in place of others between a front and a rest
between : (front before part rest : List ℕ) → length before ≡ length part
    → patched (length front) part (front ++ (before ++ rest)) ≡ (front ++ part) ++ rest
between front before part rest e =
    let whole : List ℕ = front ++ (before ++ rest) in
    let behind : drop (length front + length part) whole ≡ rest =
    sym (drop-drop (length part) (length front) whole) ∙ ap (drop (length part)) (drop_at front (before ++ rest) (length front) refl)
    ∙ drop_at before rest (length part) e in
    ap (λ (ys : List ℕ). (ys ++ part) ++ drop (length front + length part) whole) (take_at front (before ++ rest) (length front) refl)
    ∙ ap (λ (ys : List ℕ). (front ++ part) ++ ys) behind

field_placed : (base : ℕ) (addresses : List ℕ) (f : Field) (front rest : List ℕ) → length f.before ≡ field_size f.kind
    → filled_by (kind_of (number_of f.kind)) (symbol_address addresses f.symbol) f.addend (base + length front) (length front) (front ++ (f.before ++ rest))
    ≡ (front ++ filled_field (base + length front) addresses f) ++ rest
field_placed base addresses f front rest whole =
    let at : ℕ = length front in
    let v : ℕ = value_of f.kind (symbol_address addresses f.symbol) f.addend (base + at) in
    let bytes : List ℕ = front ++ (f.before ++ rest) in
    let here : take (field_size f.kind) (drop at bytes) ≡ f.before =
    ap (take (field_size f.kind)) (drop_at front (f.before ++ rest) at refl) ∙ take_at f.before rest (field_size f.kind) whole in
    ap (λ o. filled_by o (symbol_address addresses f.symbol) f.addend (base + at) at bytes) (kind_back f.kind)
    ∙ ap (λ (ys : List ℕ). patched at (filled f.kind v ys) bytes) here
    ∙ between front f.before (filled f.kind v f.before) rest (whole ∙ sym (length-filled f.kind v f.before))

-- ---- all of them

placed_behind : (base : ℕ) (addresses : List ℕ) (pieces : List Piece) (front : List ℕ) (at : ℕ) → at ≡ length front → AllByRecursion IsWhole pieces
    → applied base addresses (relocations_from at pieces) (front ++ written pieces) ≡ front ++ placed (base + at) addresses pieces
placed_behind base addresses [] front at e whole = refl
placed_behind base addresses (Fixed bytes ∷ rest) front at e whole =
    let more : List ℕ = front ++ bytes in
    let next : at + length bytes ≡ length more = omega (arith, e, length-append front bytes) in
    ap (applied base addresses (relocations_from (at + length bytes) rest)) (sym (append_assoc front bytes (written rest)))
    ∙ placed_behind base addresses rest more (at + length bytes) next whole.1
    ∙ ap (λ (n : ℕ). more ++ placed n addresses rest) (omega arith)
    ∙ append_assoc front bytes (placed (base + at + length bytes) addresses rest)
placed_behind base addresses (Relocated f ∷ rest) front at e whole =
    let part : List ℕ = filled_field (base + at) addresses f in
    let more : List ℕ = front ++ part in
    let long : length f.before ≡ length part =
    whole.0 ∙ sym (length-filled f.kind (value_of f.kind (symbol_address addresses f.symbol) f.addend (base + at)) f.before) in
    let next : at + length f.before ≡ length more = omega (arith, e, long, length-append front part) in
    ap (applied base addresses (relocations_from (at + length f.before) rest)) (filled_here f front at e whole.0 (written rest))
    ∙ placed_behind base addresses rest more (at + length f.before) next whole.1
    ∙ ap (λ (n : ℕ). more ++ placed n addresses rest) (omega arith)
    ∙ append_assoc front part (placed (base + at + length f.before) addresses rest)
  where
    filled_here : (f : Field) (front : List ℕ) (at : ℕ) → at ≡ length front → length f.before ≡ field_size f.kind → (rest : List ℕ)
        → filled_by (kind_of (number_of f.kind)) (symbol_address addresses f.symbol) f.addend (base + at) at (front ++ (f.before ++ rest))
        ≡ (front ++ filled_field (base + at) addresses f) ++ rest
    filled_here f front at e whole rest =
        subst (λ (n : ℕ). filled_by (kind_of (number_of f.kind)) (symbol_address addresses f.symbol) f.addend (base + n) n (front ++ (f.before ++ rest))
        ≡ (front ++ filled_field (base + n) addresses f) ++ rest) (sym e) (field_placed base addresses f front rest whole)

pub content_placed : (base : ℕ) (addresses : List ℕ) (pieces : List Piece) → All IsWhole pieces
    → applied base addresses (relocations_from 0 pieces) (written pieces) ≡ placed base addresses pieces
content_placed base addresses pieces whole =
    placed_behind base addresses pieces [] 0 refl (recursion_from_All IsWhole pieces whole)
    ∙ ap (λ (n : ℕ). placed n addresses pieces) (omega arith)

-- ---- the relocations

size_is : (at : ℕ) (f : Field) → size_of (relocation_at at f) ≡ field_size f.kind
size_is at f = ap size_by (kind_back f.kind)

can_be : (symbols total at : ℕ) (pieces : List Piece) → at + length (written pieces) ≡ total → AllByRecursion IsWhole pieces
    → AllByRecursion (HasSymbol symbols) pieces → AllByRecursion (IsApplicable total symbols) (relocations_from at pieces)
can_be symbols total at [] e whole has = tt
can_be symbols total at (Fixed bytes ∷ rest) e whole has =
    can_be symbols total (at + length bytes) rest (omega (arith, e, length-append bytes (written rest))) whole.1 has.1
can_be symbols total at (Relocated f ∷ rest) e whole has = (
  record {
    kind = subst (λ o. IsSome o) (sym (kind_back f.kind)) refl;
    some = has.0.0;
    symbol = has.0.1;
    within = omega (arith, e, size_is at f, whole.0, length-append f.before (written rest));
  },
  can_be symbols total (at + length f.before) rest (omega (arith, e, length-append f.before (written rest))) whole.1 has.1,
)

pub all_applicable : (symbols : ℕ) (pieces : List Piece) → All IsWhole pieces → All (HasSymbol symbols) pieces
    → All (IsApplicable (length (written pieces)) symbols) (relocations_from 0 pieces)
all_applicable symbols pieces whole has =
    All-from_recursion (IsApplicable (length (written pieces)) symbols) (relocations_from 0 pieces)
    (can_be symbols (length (written pieces)) 0 pieces (omega arith) (recursion_from_All IsWhole pieces whole)
    (recursion_from_All (HasSymbol symbols) pieces has))

-- the relocations from an offset on are behind what ends there
behind : (r : Relocation) (at : ℕ) (pieces : List Piece) → r.offset + size_of r ≤ at → AllByRecursion (IsApart r) (relocations_from at pieces)
behind r at [] le = tt
behind r at (Fixed bytes ∷ rest) le = behind r (at + length bytes) rest (omega (arith, le))
behind r at (Relocated f ∷ rest) le = (inl le, behind r (at + length f.before) rest (omega (arith, le)))

apart_from : (at : ℕ) (pieces : List Piece) → AllByRecursion IsWhole pieces → AreApart (relocations_from at pieces)
apart_from at [] whole = tt
apart_from at (Fixed bytes ∷ rest) whole = apart_from (at + length bytes) rest whole.1
apart_from at (Relocated f ∷ rest) whole =
    let next : ℕ = at + length f.before in
    let r : Relocation = relocation_at at f in (
      All-from_recursion (IsApart r) (relocations_from next rest) (behind r next rest (omega (arith, size_is at f, whole.0))),
      apart_from next rest whole.1,
    )

pub all_apart : (pieces : List Piece) → All IsWhole pieces → AreApart (relocations_from 0 pieces)
all_apart pieces whole = apart_from 0 pieces (recursion_from_All IsWhole pieces whole)
