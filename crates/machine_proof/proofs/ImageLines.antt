-- A line of an image stands where an entry of its layout begins: the lines are the layout's, which go side by side with its entries.
use Rattle.std.proofs.Common.{◌≡◌, ℕ, zero, suc, List, [], ◌∷◌, map, slice_get, Some, Bool, true, false, cond, nat_eq, refl, sym, ap, ◌∙◌}
use Rattle.std.proofs.lemmas.Bool.{eqb-true}
use Rattle.mir_func.specs.declared.position.Origin.{Origin}
use Rattle.sem_machine.specs.Image.{CodeLine, line_at}
use Rattle.emit_code.specs.declared.code.EncodedInstruction.{EncodedInstruction}
use Rattle.emit_code.specs.Listed.{Line, lines_of}
use Rattle.emit_code.specs.Rule.{entries_of}
use Rattle.machine_steps_proof.proofs.Points.{got}
use Rattle.machine_steps_proof.specs.Images.{code_line}
use Rattle.machine_proof.specs.Entries.{place_of_line, place_of_entry, ImageLinesAreEntries}
use Rattle.machine_proof.proofs.Entries.{lines_are_entries}

abbrev place : CodeLine → ℕ × Origin
place x = (x.address, x.origin)

line_found : (ls : List CodeLine) (a : ℕ) (x : CodeLine) → line_at ls a ≡ Some x → (k : ℕ) × (slice_get ls k ≡ Some x) × (x.address ≡ a)
line_found [] a x e = cc
line_found (l ∷ ls) a x e = by_test (nat_eq l.address a) refl e (λ h. line_found ls a x h) where
  by_test : (b : Bool) → nat_eq l.address a ≡ b → cond b (Some l) (line_at ls a) ≡ Some x →
      (line_at ls a ≡ Some x → (k : ℕ) × (slice_get ls k ≡ Some x) × (x.address ≡ a)) → (k : ℕ) × (slice_get (l ∷ ls) k ≡ Some x) × (x.address ≡ a)
  by_test true t h more =
      let same : l ≡ x = cc in
      (zero, ap Some same, ap (λ (z : CodeLine). z.address) (sym same) ∙ eqb-true l.address a t)
  by_test false t h more = let r = more h in (suc r.0, r.1, r.2)

-- the entry beside a line
beside : (ls : List CodeLine) (es : List EncodedInstruction) → map place ls ≡ map place_of_entry es → (k : ℕ) (x : CodeLine) → slice_get ls k ≡ Some x →
    (e : EncodedInstruction) × (slice_get es k ≡ Some e) × (place_of_entry e ≡ place x)
beside [] es same k x g = cc
beside (l ∷ ls) [] same k x g = cc
beside (l ∷ ls) (e ∷ es) same zero x g =
    let one : l ≡ x = cc in
    let both : place_of_entry e ≡ place l = cc in
    (e, refl, both ∙ ap place one)
beside (l ∷ ls) (e ∷ es) same (suc k) x g = let rest : map place ls ≡ map place_of_entry es = cc in beside ls es rest k x g

map_lines : (xs : List Line) → map place (map code_line xs) ≡ map place_of_line xs
map_lines [] = refl
map_lines (x ∷ xs) = ap (λ (ys : List (ℕ × Origin)). place_of_line x ∷ ys) (map_lines xs)

pub image_lines_are_entries : ImageLinesAreEntries
image_lines_are_entries l image is a x e =
    let same = ap (map place) is.lines ∙ map_lines (lines_of l) ∙ lines_are_entries l in
    let found = line_found image.lines a x e in
    let b = beside image.lines (entries_of l) same found.0 x found.1 in (
      record { block = b.0.point.block; item = b.0.point.item },
      record {
        entry = b.0;
        among = got (entries_of l) found.0 b.0 b.1;
        begins = ap (λ (z : ℕ × Origin). z.0) b.2 ∙ found.2;
        point = refl;
      },
      ap (λ (z : ℕ × Origin). z.1) b.2,
    )
