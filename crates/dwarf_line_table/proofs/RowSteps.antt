-- The rows of a function, as its entries are gone through.
-- Plan: what is listed, with the changes among the rows of the entries left, is the changes among all rows. Files that join later change
-- no number, so this is said for whatever files join; a step takes it at the files that the step itself adds.
use Rattle.std.proofs.Common.{◌≡◌, ◌+◌, ◌≤◌, ◌<◌, Bool, true, false, cond, List, [], ◌∷◌, ◌++◌, length, refl, sym, ◌∙◌, ap, arith, append_assoc, Some}
use Rattle.std.proofs.Common.{None, suc, subst}
use Rattle.std.specs.Prelude.{Option}
use Rattle.dwarf_line.specs.declared.table.Row.{Row}
use Rattle.read_metadata.specs.Maps.{Maps}
use Rattle.mir_func.specs.declared.block.Block.{Block}
use Rattle.mir_func.specs.declared.location.Loc.{Loc}
use Rattle.mir_func.specs.Positions.{position_of}
use Rattle.emit_code.specs.declared.code.EncodedInstruction.{EncodedInstruction}
use Rattle.dwarf_line_table.specs.declared.file.SourceFile.{SourceFile}
use Rattle.dwarf_line_table.specs.declared.debug_locations.DebugLocations.{DebugLocations}
use Rattle.dwarf_line_table.specs.Files.{with_new, first_uses, is_file, unit_in}
use Rattle.dwarf_line_table.specs.SourcePosition.{line_at, loc_of}
use Rattle.dwarf_line_table.specs.Table.{row_of_line, is_place_before, changes, uses_in, rows_in}
use Rattle.dwarf_line_table.specs.steps.DebugLocations.{AreDebugLocations}
use Rattle.dwarf_line_table.proofs.FirstUses.{joined_only}
use Rattle.dwarf_line_table.proofs.Keys.{unit_stays}

pub record SoFar (meta : Maps) (places : DebugLocations) (first files : List SourceFile) (entries rest : List EncodedInstruction) (before : Option Row)
    (rows : List Row) : Type
    0 where
  pub unit : 0 < length files
  pub led : unit_in files ≡ unit_in first
  pub few : length files + length rest ≤ length first + length entries
  pub known : (blocks : List Block) → AreDebugLocations blocks places
      → first_uses is_file files (uses_in meta (unit_in first) blocks rest) ≡ first_uses is_file first (uses_in meta (unit_in first) blocks entries)
  pub listed : (blocks : List Block) (more : List SourceFile) → AreDebugLocations blocks places
      → rows ++ changes before (rows_in (files ++ more) meta (unit_in first) blocks rest) ≡ changes None
      (rows_in (files ++ more) meta (unit_in first) blocks entries)

pub starts : (meta : Maps) (places : DebugLocations) (first : List SourceFile) (entries : List EncodedInstruction) → 0 < length first →
    SoFar meta places first first entries
    entries None []
starts meta places first entries unit = record { unit = unit; led = refl; few = omega arith; known = λ blocks are. refl; listed = λ blocks more are. refl }

row_step : (before : Option Row) (rows : List Row) (r : Row) (rr : List Row)
    → rows ++ changes before (r ∷ rr)
    ≡ cond (is_place_before before r) rows (rows ++ r ∷ []) ++ changes (cond (is_place_before before r) before (Some r)) rr
row_step before rows r rr = by (is_place_before before r)
  where
    by : (b : Bool) → rows ++ cond b (changes before rr) (r ∷ changes (Some r) rr) ≡ cond b rows (rows ++ r ∷ []) ++ changes (cond b before (Some r)) rr
    by true = refl
    by false = sym (append_assoc rows (r ∷ []) (changes (Some r) rr))

pub next : (meta : Maps) (places : DebugLocations) (first files files_ : List SourceFile) (entries rest : List EncodedInstruction) (e : EncodedInstruction)
    (before before_ : Option Row)
    (rows rows_ : List Row)
    (r : Row) (loc : Loc)
    → SoFar meta places first files entries (e ∷ rest) before rows
    → ((blocks : List Block) → AreDebugLocations blocks places → loc ≡ loc_of blocks (position_of e.origin))
    → files_ ≡ with_new is_file files (line_at meta (unit_in files) loc).file
    → ((more : List SourceFile) → r ≡ row_of_line (files_ ++ more) e.address (line_at meta (unit_in files) loc))
    → length files_ ≤ length files + 1
    → before_ ≡ cond (is_place_before before r) before (Some r)
    → rows_ ≡ cond (is_place_before before r) rows (rows ++ r ∷ [])
    → SoFar meta places first files_ entries rest before_ rows_
next meta places first files files_ entries rest e before before_ rows rows_ r loc so found joins row few before_is rows_is =
    let file = (line_at meta (unit_in files) loc).file in
    let stays = unit_stays files file so.unit in
    let more_files = joined_only is_file files file in
    let led_line : (blocks : List Block) → AreDebugLocations blocks places → line_at meta (unit_in files) loc ≡ line_at meta (unit_in first)
    (loc_of blocks (position_of e.origin)) =
    λ blocks are. λ i. line_at meta (so.led i) (found blocks are i) in
    record {
      unit = let P : List SourceFile → Type 0 = λ fs. 0 < length fs in subst P (sym joins) stays.1;
      led = ap unit_in joins ∙ stays.0 ∙ so.led;
      few = let so_few : length files + suc (length rest) ≤ length first + length entries = so.few in omega (arith, so_few, few);
      known = λ blocks are.
          ap (λ fs. first_uses is_file fs (uses_in meta (unit_in first) blocks rest)) (joins ∙ ap (λ l. with_new is_file files l.file) (led_line blocks are))
          ∙ so.known blocks are;
      listed = λ blocks more are.
          let all = files_ ++ more in
          let longer : all ≡ files ++ (more_files.0 ++ more) = ap (λ fs. fs ++ more) (joins ∙ more_files.1) ∙ append_assoc files more_files.0 more in
          let left = rows_in all meta (unit_in first) blocks rest in
          let P : List SourceFile → Type 0 = λ fs.
          rows ++ changes before (rows_in fs meta (unit_in first) blocks (e ∷ rest)) ≡ changes None (rows_in fs meta (unit_in first) blocks entries) in
          (λ i. rows_is i ++ changes (before_is i) left)
          ∙ sym (row_step before rows r left)
          ∙ ap (λ x. rows ++ changes before (x ∷ left)) (row more ∙ ap (row_of_line all e.address) (led_line blocks are))
          ∙ subst P (sym longer) (so.listed blocks (more_files.0 ++ more) are);
    }
