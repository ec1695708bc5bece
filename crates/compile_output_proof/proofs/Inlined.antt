-- What is compiled of a program that was read tells which of its lines were inlined. Plan: the listed function with an index is the one that has code and
-- instances at the same index, a listed line is an entry of its code, and the law of instances speaks of entries.
use Rattle.std.proofs.Common.{◌≡◌, ℕ, zero, suc, ◌+◌, List, [], ◌∷◌, ◌++◌, map, length, Option, Some, None, IfSome, sym, ap, ◌∙◌, subst, arith, slice_get}
use Rattle.std.proofs.Common.{option_map}
use Rattle.std.proofs.lemmas.List.{length-map}
use Rattle.std.proofs.lemmas.Option.{slice_get-map}
use Rattle.listing_text.specs.declared.output.Line.{Line}
use Rattle.listing_text.specs.declared.output.Output.{Output}
use Rattle.dwarf_line_table.proofs.Members.{got_member}
use Rattle.dwarf_line_table.proofs.Sequences.{stands_of}
use Rattle.dwarf_line_table.specs.SourcePosition.{loc_of}
use Rattle.dwarf_line_table.specs.declared.source_and_code.SourceAndCode.{SourceAndCode}
use Rattle.dwarf_rnglists.proofs.OneReading.{one_section}
use Rattle.dwarf_rnglists.specs.Ranges.{Cover}
use Rattle.dwarf_rnglists.specs.declared.range.AddressRange.{AddressRange}
use Rattle.compile_program.specs.dwarf_sections.Inlined.{HaveInstances, AreInlinedSections, range_lists}
use Rattle.emit_code.specs.declared.code.EncodedInstruction.{EncodedInstruction}
use Rattle.inline_instances.specs.Calls.{AreCallsFrom, call_at}
use Rattle.inline_instances.specs.Laws.{IsInlinedThrough}
use Rattle.inline_instances.proofs.Members.{get_left}
use Rattle.inline_instances.proofs.Ways.{none_is_some, some_is_some}
use Rattle.compile_program.specs.inline_subroutines.declared.subroutine.InlinedSubroutine.{InlinedSubroutine}
use Rattle.compile_program.specs.inline_subroutines.Subroutines.{AreSubroutines}
use Rattle.compile_program.proofs.inline_subroutines.Made.{of_subroutines}
use Rattle.mir_func.specs.Function.{Function}
use Rattle.mir_func.specs.Positions.{position_of}
use Rattle.mir_func.specs.declared.position.Origin.{Origin}
use Rattle.read_item.specs.Debug.{inlined_at}
use Rattle.read_metadata.specs.Maps.{Maps}
use Rattle.read_program.specs.declared.program.Program.{Program}
use Rattle.compile_program.specs.compile_theorem.Compiled.{IsCompiledProgram}
use Rattle.compile_program.specs.compile_theorem.Source.{PassedFunction}
use Rattle.compile_program.specs.Program.{ArePassed, HasSections, Describe, names_of}
use Rattle.compile_program.proofs.Passed.{passed_at}
use Rattle.compile_output_proof.specs.Lines.{origin_of}
use Rattle.compile_output_proof.specs.Inlined.{IsLineInlinedThrough, first_list, TellsInlinedLines, OutputsTellInlinedLines}
use Rattle.compile_output_proof.proofs.Lines.{functions, codes_lie, paired, entered, source_is}

-- ---- instances and their lists by their indices

get_behind : {X : Type 0} (xs ys : List X) (k : ℕ) → slice_get (xs ++ ys) (length xs + k) ≡ slice_get ys k
get_behind [] ys k = ap (slice_get ys) (let e : 0 + k ≡ k = omega arith in e)
get_behind (x ∷ xs) ys k =
    ap (slice_get (x ∷ (xs ++ ys))) (let e : suc (length xs) + k ≡ suc (length xs + k) = omega arith in e) ∙ get_behind xs ys k

abbrev ranges_of : InlinedSubroutine → List AddressRange
ranges_of i = i.ranges

list_at : (instances : List (List InlinedSubroutine)) (n m : ℕ) (is : List InlinedSubroutine) (i : InlinedSubroutine) → slice_get instances n ≡ Some is
    → slice_get is m ≡ Some i → slice_get (range_lists instances) (first_list instances n + m) ≡ Some i.ranges
list_at [] n m is i at within = absurd (none_is_some is at)
list_at (js ∷ others) zero m is i at within =
    let own : slice_get js m ≡ Some i = subst (λ (ks : List InlinedSubroutine). slice_get ks m ≡ Some i) (sym (some_is_some js is at)) within in
    let list : slice_get (map ranges_of js) m ≡ Some i.ranges = slice_get-map ranges_of js m ∙ ap (option_map ranges_of) own in
    ap (slice_get (range_lists (js ∷ others))) (let e : 0 + m ≡ m = omega arith in e) ∙ get_left (map ranges_of js) (range_lists others) m i.ranges list
list_at (js ∷ others) (suc n) m is i at within =
    let many = length-map js ranges_of in
    let later : length js + first_list others n + m ≡ length (map ranges_of js) + (first_list others n + m) = omega (arith, many) in
    ap (slice_get (range_lists (js ∷ others))) later ∙ get_behind (map ranges_of js) (range_lists others) (first_list others n + m)
    ∙ list_at others n m is i at within

instances_at : (meta : Maps) (cs : List SourceAndCode) (instances : List (List InlinedSubroutine)) → HaveInstances meta cs instances → (n : ℕ)
    (c : SourceAndCode) (is : List InlinedSubroutine) → slice_get cs n ≡ Some c → slice_get instances n ≡ Some is → AreSubroutines meta c is
instances_at meta [] instances have n c is at within = absurd (none_is_some c at)
instances_at meta (d ∷ cs) [] have n c is at within = absurd have
instances_at meta (d ∷ cs) (js ∷ others) have zero c is at within =
    subst (λ (x : SourceAndCode). AreSubroutines meta x is) (some_is_some d c at) (subst (AreSubroutines meta d) (some_is_some js is within) have.0)
instances_at meta (d ∷ cs) (js ∷ others) have (suc n) c is at within = instances_at meta cs others have.1 n c is at within

-- ---- lines

-- a listed line was inlined through the calls of its entry
module _ (meta : Maps) (c : SourceAndCode) (e : EncodedInstruction) (source : Function) (line : Line) (source_same : c.source.now ≡ source)
    (origin_same : e.origin ≡ origin_of line) (n : ℕ) where
  at_same : inlined_at meta (loc_of c.source.now.blocks (position_of e.origin)) ≡ inlined_at meta (loc_of source.blocks (position_of (origin_of line)))
  at_same =
      ap (λ (g : Function). inlined_at meta (loc_of g.blocks (position_of e.origin))) source_same
      ∙ ap (λ (o : Origin). inlined_at meta (loc_of source.blocks (position_of o))) origin_same

  line_of_entry : IsInlinedThrough meta c e n → IsLineInlinedThrough meta source line n
  line_of_entry through = record {
    calls = through.calls;
    are = subst (λ (at : Option ℕ). AreCallsFrom meta (call_at meta at) through.calls) at_same through.are;
    among = through.among;
  }

  entry_of_line : IsLineInlinedThrough meta source line n → IsInlinedThrough meta c e n
  entry_of_line through = record {
    calls = through.calls;
    are = subst (λ (at : Option ℕ). AreCallsFrom meta (call_at meta at) through.calls) (sym at_same) through.are;
    among = through.among;
  }

module _ (p : Program) (ps : List PassedFunction) (o : Output) (passed : ArePassed p.meta p.functions ps) (compiled : IsCompiledProgram (names_of p.meta) ps o)
    (has : HasSections p.meta ps o) where
  lines_are : (ranges : List ℕ) → AreInlinedSections p.meta (length o.text) has.compiled o.info o.rows ranges → TellsInlinedLines p ps o ranges
  lines_are ranges are = record {
    compiled = has.compiled;
    coded = has.coded;
    instances = are.instances;
    have = are.have;
    entries = are.info_is;
    covers = λ n m source f is i s_is f_is is_is i_is address line byte.
        let at = passed_at p.meta p.functions ps passed n source s_is in
        let pair =
        paired (names_of p.meta) 0 0 o.text compiled.lists ps o.functions has.compiled has.coded.sources has.coded.coded compiled.functions n at.passed f
        at.at f_is in
        let entry = entered p ps passed has.compiled has.coded [] source at.passed f n at.source at.is pair address line byte in
        let source_same : pair.code.source.now ≡ source.func =
        source_is p ps passed has.compiled has.coded [] source at.passed f n at.source at.is pair in
        let own = instances_at p.meta has.compiled are.instances are.have n pair.code is pair.at is_is in
        let stand = stands_of 0 has.compiled (codes_lie 0 (functions ps) has.compiled has.coded.coded) pair.code pair.among in
        let tells =
        of_subroutines p.meta pair.code is own stand entry.0 address entry.1.entry entry.1.from entry.1.below i (got_member is m i i_is) in
        let list = list_at are.instances n m is i is_is i_is in (
          λ r.
              let same : r.lists ≡ range_lists are.instances = one_section ranges r.lists (range_lists are.instances) r.section are.section in
              let own_ranges : r.ranges ≡ i.ranges =
              some_is_some r.ranges i.ranges
              (sym r.list ∙ ap (λ (ls : List (List AddressRange)). slice_get ls (first_list are.instances n + m)) same ∙ list) in
              line_of_entry p.meta pair.code entry.0 source.func line source_same entry.2 i.call
              (tells.0 (subst (λ (rs : List AddressRange). Cover rs address) own_ranges r.covered)),
          λ through. record {
            lists = range_lists are.instances;
            ranges = i.ranges;
            section = are.section;
            list = list;
            covered = tells.1 (entry_of_line p.meta pair.code entry.0 source.func line source_same entry.2 i.call through);
          },
        );
  }

  by_ranges : (ranges : Option (List ℕ)) → Describe p.meta (length o.text) has.compiled o.abbreviations o.info o.rows ranges →
      IfSome ranges (TellsInlinedLines p ps o)
  by_ranges None is = tt
  by_ranges (Some ranges) is = lines_are ranges is.1

pub tell_inlined_lines : OutputsTellInlinedLines
tell_inlined_lines p ps o passed compiled has = by_ranges p ps o passed compiled has o.ranges has.described
