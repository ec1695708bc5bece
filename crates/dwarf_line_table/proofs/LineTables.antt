-- What the line number table of functions that lie one after the other says of the addresses of their code.
use Rattle.std.proofs.Common.{◌≡◌, ℕ, List, [], ◌∷◌, ◌++◌, map, sym, subst, ap, ◌∙◌, Contains}
use Rattle.std.specs.Prelude.{Option}
use Rattle.std.proofs.lemmas.List.Elements.{Contains-append_left}
use Rattle.std.specs.List.{flat_map}
use Rattle.mir_func.specs.Positions.{position_of}
use Rattle.emit_code.specs.declared.code.EncodedInstruction.{EncodedInstruction}
use Rattle.dwarf_line.specs.declared.table.Row.{Row}
use Rattle.read_metadata.specs.Maps.{Maps}
use Rattle.dwarf_line_table.specs.declared.source_and_code.SourceAndCode.{SourceAndCode}
use Rattle.dwarf_line_table.specs.declared.file.SourceFile.{SourceFile}
use Rattle.dwarf_line_table.specs.Files.{number_in, is_file, files_of, dirs_of, entries_of}
use Rattle.dwarf_line_table.specs.SourcePosition.{SourceLine, no_line, in_file, scope_line, scope_file, loc_of}
use Rattle.dwarf_line_table.specs.Program.{program_file, function_uses, files_with, table_with}
use Rattle.dwarf_line_table.specs.Table.{entry_line}
use Rattle.dwarf_line_table.specs.Laws.{LieFrom, HasCodeAt, IsNoLine, TablesGiveLines, NothingOutside, NoneIsLineZero, UnitIsFileOne}
use Rattle.dwarf_line_table.specs.Rows.{IsRowAt, NamesFile, Says, GivesLine}
use Rattle.dwarf_line_table.proofs.Members.{mapped_member, flat_member}
use Rattle.dwarf_line_table.proofs.FirstUses.{uses_append}
use Rattle.dwarf_line_table.proofs.LineNames.{used_named, unit_is_one}
use Rattle.dwarf_line_table.proofs.LineRows.{SamePlace, last_in, last_at}
use Rattle.dwarf_line_table.proofs.Sequences.{all, entry_row, some_row, each_row, row_has_code}

module _ (meta : Maps) (functions : List SourceAndCode) (further : List (Option ℕ)) where
  abbrev unit : SourceFile
  unit = program_file meta functions

  abbrev files : List SourceFile
  files = files_with meta functions further

  abbrev uses : List SourceFile
  uses = flat_map (function_uses meta unit) functions

  -- the files of further scopes
  abbrev others : List SourceFile
  others = map (scope_file meta unit) further

  files_are : files_of unit (uses ++ others) ≡ files
  files_are = uses_append is_file (unit ∷ []) uses others

  -- the place of an entry
  abbrev place : SourceAndCode → EncodedInstruction → SourceLine
  place f e = entry_line meta unit f.source.now.blocks e

  module _ (base : ℕ) (lie : LieFrom base functions) (a : ℕ) (f : SourceAndCode) (e : EncodedInstruction) (has : HasCodeAt functions a f e) where
    same_place : (r : Row) → IsRowAt (table_with meta functions further) a r → SamePlace r (entry_row files meta unit f e)
    unfolding table_with
    same_place r is = each_row files meta unit base functions lie f has.function e has.entry a has.from has.below is.sequence is.among r
        (last_in is.sequence.rows a r is.last) is.inside

    file_used : Contains uses (place f e).file
    file_used = flat_member (function_uses meta unit) functions f (place f e).file has.function
        (mapped_member (λ (x : EncodedInstruction). (place f x).file) f.code.now.entries e has.entry)

    says : (r : Row) → IsRowAt (table_with meta functions further) a r → Says (table_with meta functions further) r (place f e)
    unfolding table_with
    says r is =
        let same = same_place r is in
        record {
          file = subst (λ (n : ℕ). NamesFile (table_with meta functions further) n (place f e).file) (sym same.file)
              (subst (λ (fs : List SourceFile). NamesFile (record { dirs = dirs_of fs; files = entries_of fs; sequences = all files meta unit functions })
              (number_in fs (place f e).file) (place f e).file) files_are
              (used_named unit (uses ++ others) (all files meta unit functions) (place f e).file
              (Contains-append_left uses others (place f e).file file_used)));
          line = same.line;
          column = same.column;
        }

    gives : GivesLine (table_with meta functions further) a (place f e)
    unfolding table_with
    gives =
        let some = some_row files meta unit base functions lie f has.function e has.entry a has.from has.below in
        record {
          row = some.2;
          at = record { sequence = some.0; among = some.1; last = last_at some.0.rows a some.2 some.3; inside = some.4 };
          each = says;
        }

    in_file_one : (place f e).file ≡ unit → (r : Row) → IsRowAt (table_with meta functions further) a r → r.file ≡ 1
    in_file_one at r is = (same_place r is).file ∙ ap (number_in files) at
        ∙ ap (λ (fs : List SourceFile). number_in fs unit) (sym files_are) ∙ unit_is_one unit (uses ++ others) (all files meta unit functions)

    is_no_line : scope_line meta (loc_of f.source.now.blocks (position_of e.origin)) ≡ no_line → (r : Row)
        → IsRowAt (table_with meta functions further) a r → IsNoLine r
    is_no_line none r is =
        let same = same_place r is in
        let at : place f e ≡ in_file meta unit no_line = ap (in_file meta unit) none in
        record {
          file = in_file_one (ap (λ (l : SourceLine). l.file) at) r is;
          line = same.line ∙ ap (λ (l : SourceLine). l.line) at;
          column = same.column ∙ ap (λ (l : SourceLine). l.column) at;
        }

pub tables_give_lines : TablesGiveLines
tables_give_lines meta functions further base lie a f e has = gives meta functions further base lie a f e has

pub none_is_line_zero : NoneIsLineZero
none_is_line_zero meta functions further base lie a f e has none r is = is_no_line meta functions further base lie a f e has none r is

pub unit_is_file_one : UnitIsFileOne
unit_is_file_one meta functions further base lie a f e has at r is = in_file_one meta functions further base lie a f e has at r is

pub nothing_outside : NothingOutside
unfolding table_with
nothing_outside meta functions further base lie a none r is =
    let found = row_has_code (files_with meta functions further) meta (program_file meta functions) base functions lie is.sequence is.among a r
    (last_in is.sequence.rows a r is.last) is.inside in
    none found.0 found.2 (record { function = found.1; entry = found.3; from = found.4; below = found.5 })
