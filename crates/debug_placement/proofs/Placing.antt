-- Pieces at their places.
use Rattle.std.specs.Int.{w32, w64, to_le_bytes}
use Rattle.std.proofs.Common.{◌≡◌, ℕ, ◌+◌, ◌^◌, ◌<◌, List, [], ◌∷◌, ◌++◌, length, arith, ap, sym, ◌∙◌, append_assoc, length-append}
use Rattle.elf_content.specs.declared.piece.Piece.{Piece}
use Rattle.elf_content.specs.Content.{bytes_of, written, placed, placed_piece, symbol_address}
use Rattle.debug_placement.specs.Fields.{address_field, offset_field}

pub placed-append : (place : ℕ) (addresses : List ℕ) (front rest : List Piece)
    → placed place addresses (front ++ rest) ≡ placed place addresses front ++ placed (place + length (written front)) addresses rest
placed-append place addresses [] rest = ap (λ (n : ℕ). placed n addresses rest) (omega arith)
placed-append place addresses (p ∷ front) rest =
    let next : ℕ = place + length (bytes_of p) in
    ap (λ (ys : List ℕ). placed_piece place addresses p ++ ys) (placed-append next addresses front rest)
    ∙ sym (append_assoc (placed_piece place addresses p) (placed next addresses front) (placed (next + length (written front)) addresses rest))
    ∙ ap (λ (n : ℕ). (placed_piece place addresses p ++ placed next addresses front) ++ placed n addresses rest)
    (omega (arith, length-append (bytes_of p) (written front)))

-- what the fields have
pub address_placed : (place : ℕ) (addresses : List ℕ) (symbol a : ℕ) → symbol_address addresses symbol + a < 2 ^ 64
    → placed_piece place addresses (address_field symbol a) ≡ to_le_bytes w64 (symbol_address addresses symbol + a)
address_placed place addresses symbol a lt = ap (to_le_bytes w64) (omega (arith, lt))

pub offset_placed : (place : ℕ) (addresses : List ℕ) (symbol o : ℕ) → symbol_address addresses symbol + o < 2 ^ 32
    → placed_piece place addresses (offset_field symbol o) ≡ to_le_bytes w32 (symbol_address addresses symbol + o)
offset_placed place addresses symbol o lt = ap (to_le_bytes w32) (omega (arith, lt))
