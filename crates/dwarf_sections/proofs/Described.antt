-- The descriptions of functions, one after the other.
use Rattle.std.specs.List.{AllZip}
use Rattle.std.proofs.Common.{◌≡◌, ℕ, ◌+◌, ◌<◌, List, [], ◌∷◌, ◌++◌, map, length, get_or, take, All, sym, ap, ◌∙◌, subst}
use Rattle.std.proofs.lemmas.List.{take_more, map-append}
use Rattle.std.proofs.lemmas.List.Elements.{All-nil, All-cons, All-append}
use Rattle.frame_table.specs.emit_code.Laid.{LaidCode}
use Rattle.dwarf_frame.specs.declared.table.FrameDescription.{FrameDescription}
use Rattle.dwarf_frame.specs.Table.{IsDescription}
use Rattle.dwarf_unit.specs.dwarf_line_table.declared.source_and_code.SourceAndCode.{SourceAndCode}
use Rattle.frame_table.specs.Table.{Describes}

-- what is described so far, and can be written
pub record SoFar (functions : List SourceAndCode) (i : ℕ) (table : List FrameDescription) : Type 0 where
  pub describe : AllZip Describes (map (λ c. c.code.now) (take i functions)) table
  pub writable : All IsDescription table

pub zip_push : {A B : Type 0} (R : A → B → Type 0) (xs : List A) (ys : List B) (x : A) (y : B) → AllZip R xs ys → R x y
    → AllZip R (xs ++ x ∷ []) (ys ++ y ∷ [])
zip_push R [] [] x y each is = (is, each)
zip_push R [] (z ∷ ys) x y each is = absurd each
zip_push R (z ∷ xs) [] x y each is = absurd each
zip_push R (z ∷ xs) (w ∷ ys) x y each is = (each.0, zip_push R xs ys x y each.1 is)

pub begin : (functions : List SourceAndCode) → SoFar functions 0 []
begin functions = record { describe = tt; writable = All-nil IsDescription }

pub more : (functions : List SourceAndCode) (i : ℕ) (table next : List FrameDescription) (c : SourceAndCode) (d : FrameDescription) → i < length functions
    → c ≡ get_or functions i c → SoFar functions i table → Describes c.code.now d → IsDescription d → next ≡ table ++ d ∷ [] → SoFar functions (i + 1) next
more functions i table next c d inside at so describes writable pushed =
    let codes : List SourceAndCode → List LaidCode = map (λ (x : SourceAndCode). x.code.now) in
    let longer : codes (take (i + 1) functions) ≡ codes (take i functions) ++ c.code.now ∷ [] =
    ap codes (take_more functions i c inside ∙ ap (λ (x : SourceAndCode). take i functions ++ x ∷ []) (sym at))
    ∙ map-append (λ (x : SourceAndCode). x.code.now) (take i functions) (c ∷ []) in
    subst (SoFar functions (i + 1)) (sym pushed)
    (record {
      describe =
          subst (λ (cs : List LaidCode). AllZip Describes cs (table ++ d ∷ [])) (sym longer)
          (zip_push Describes (codes (take i functions)) table c.code.now d so.describe describes);
      writable = All-append IsDescription table (d ∷ []) so.writable (All-cons IsDescription d [] writable (All-nil IsDescription));
    })
