-- Content as pieces are appended to it one after the other.
use Rattle.std.specs.List.{flat_map}
use Rattle.std.proofs.Common.{◌≡◌, ℕ, ◌+◌, ◌<◌, List, [], ◌∷◌, ◌++◌, length, take, get_or, arith, ap, sym, subst, ◌∙◌, append_assoc, append-nil}
use Rattle.std.proofs.Common.{length-append}
use Rattle.std.proofs.lemmas.List.{take_more}
use Rattle.std.proofs.lemmas.List.Concat.{flat_map-append}
use Rattle.elf_object.specs.declared.relocations.Relocation.{Relocation}
use Rattle.elf_content.specs.declared.piece.Piece.{Piece}
use Rattle.elf_content.specs.declared.piece.Piece.TheVariants.{Fixed}
use Rattle.elf_content.specs.Content.{bytes_of, written, relocations_in, relocations_from}
use Rattle.entry_placement.proofs.Growth.{Grows}

relocations-append : (at : ℕ) (p q : List Piece)
    → relocations_from at (p ++ q) ≡ relocations_from at p ++ relocations_from (at + length (written p)) q
relocations-append at [] q = ap (λ (n : ℕ). relocations_from n q) (omega arith)
relocations-append at (x ∷ p) q =
    let next : ℕ = at + length (bytes_of x) in
    let long : next + length (written p) ≡ at + length (bytes_of x ++ written p) = omega (arith, length-append (bytes_of x) (written p)) in
    ap (λ (rs : List Relocation). relocations_in at x ++ rs) (relocations-append next p q)
    ∙ sym (append_assoc (relocations_in at x) (relocations_from next p) (relocations_from (next + length (written p)) q))
    ∙ ap (λ (n : ℕ). (relocations_in at x ++ relocations_from next p) ++ relocations_from n q) long

-- nothing was appended
pub grows_none : (b : List ℕ) (r : List Relocation) → Grows b r [] b r
grows_none b r = record { written_are = sym (append-nil b); relocated = sym (append-nil r) }

-- bytes that stay
pub grows_fixed : (b : List ℕ) (r : List Relocation) (bytes b_new : List ℕ) (r_new : List Relocation) → b_new ≡ b ++ bytes → r_new ≡ r
    → Grows b r (Fixed bytes ∷ []) b_new r_new
grows_fixed b r bytes b_new r_new e same = record {
  written_are = e ∙ ap (λ (ys : List ℕ). b ++ ys) (sym (append-nil bytes));
  relocated = same ∙ sym (append-nil r);
}

-- pieces behind others
pub grows_more : (b : List ℕ) (r : List Relocation) (p : List Piece) (b1 : List ℕ) (r1 : List Relocation) (q : List Piece) (b2 : List ℕ) (r2 : List Relocation)
    → Grows b r p b1 r1 → Grows b1 r1 q b2 r2 → Grows b r (p ++ q) b2 r2
grows_more b r p b1 r1 q b2 r2 first second =
    let long : length b1 ≡ length b + length (written p) = ap length first.written_are ∙ length-append b (written p) in
    record {
      written_are =
          second.written_are ∙ ap (λ (ys : List ℕ). ys ++ written q) first.written_are ∙ append_assoc b (written p) (written q)
          ∙ ap (λ (ys : List ℕ). b ++ ys) (sym (flat_map-append bytes_of p q));
      relocated =
          second.relocated ∙ ap (λ (n : ℕ). r1 ++ relocations_from n q) long
          ∙ ap (λ (rs : List Relocation). rs ++ relocations_from (length b + length (written p)) q) first.relocated
          ∙ append_assoc r (relocations_from (length b) p) (relocations_from (length b + length (written p)) q)
          ∙ ap (λ (rs : List Relocation). r ++ rs) (sym (relocations-append (length b) p q));
    }

-- the pieces of one more item of a list
pub grows_step : {X : Type 0} (f : X → List Piece) (xs : List X) (i : ℕ) (x : X) (b : List ℕ) (r : List Relocation) (b1 : List ℕ) (r1 : List Relocation)
    (b2 : List ℕ) (r2 : List Relocation) → i < length xs → x ≡ get_or xs i x → Grows b r (flat_map f (take i xs)) b1 r1 → Grows b1 r1 (f x) b2 r2
    → Grows b r (flat_map f (take (i + 1) xs)) b2 r2
grows_step f xs i x b r b1 r1 b2 r2 inside is first second =
    let more : take (i + 1) xs ≡ take i xs ++ x ∷ [] = take_more xs i x inside ∙ ap (λ y. take i xs ++ y ∷ []) (sym is) in
    let pieces : flat_map f (take (i + 1) xs) ≡ flat_map f (take i xs) ++ f x =
    ap (flat_map f) more ∙ flat_map-append f (take i xs) (x ∷ []) ∙ ap (λ ys. flat_map f (take i xs) ++ ys) (append-nil (f x)) in
    subst (λ (ps : List Piece). Grows b r ps b2 r2) (sym pieces) (grows_more b r (flat_map f (take i xs)) b1 r1 (f x) b2 r2 first second)
