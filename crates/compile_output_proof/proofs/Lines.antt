-- What is compiled of a program that was read tells its lines.
use Rattle.std.proofs.Common.{◌≡◌, inl, inr, length-append, ℕ, zero, suc, ◌+◌, ◌*◌, ◌<◌, ◌≤◌, Bool, true, false, List, [], ◌∷◌, length, map, Option, Some, None}
use Rattle.std.proofs.Common.{refl, ap, sym, ◌∙◌, subst, arith, Contains}
use Rattle.std.specs.Prelude.{slice_get}
use Rattle.emit_code.specs.declared.code.EncodedInstruction.{EncodedInstruction}
use Rattle.emit_code.specs.Laid.{StandFrom, LaidCode, IsCodeOf}
use Rattle.emit_code.specs.BranchRelaxation.{IsSettled}
use Rattle.emit_code.specs.Rule.{Layout, entries_of, words_of}
use Rattle.emit_code.specs.steps.Emitted.{IsFormed}
use Rattle.emit_code.proofs.Stand.{stands, words_fill}
use Rattle.listing_text.specs.declared.output.Line.{Line}
use Rattle.listing_text.specs.declared.output.ListedFunction.{ListedFunction}
use Rattle.dwarf_line.specs.declared.table.Row.{Row}
use Rattle.dwarf_loclists.specs.declared.range.Range.{Range}
use Rattle.frame_rule.specs.Rule.{framed_of}
use Rattle.frame_rule.proofs.Reach.{size_fits}
use Rattle.dwarf_line_table.specs.Laws.{LieFrom, HasCodeAt}
use Rattle.dwarf_line_table.specs.Rows.{IsRowAt, GivesLine}
use Rattle.dwarf_line_table.proofs.Members.{no_member, head_member, later_member, member_cases}
use Rattle.dwarf_line_table.proofs.LineRows.{last_in, entry_from}
use Rattle.dwarf_line_table.proofs.Sequences.{stands_of, row_has_code}
use Rattle.dwarf_line_table.proofs.LineTables.{tables_give_lines, none_is_line_zero}
use Rattle.mir_func.specs.declared.position.Origin.{Origin}
use Rattle.mir_func.specs.Function.{Function, FramedFunction}
use Rattle.mir_func.specs.Sound.{AllItems}
use Rattle.mir_func.specs.Positions.{position_of}
use Rattle.read_program.specs.declared.closing.Parsed.{Parsed}
use Rattle.read_program.specs.declared.program.Program.{Program}
use Rattle.compile_program.specs.compile_theorem.Compiled.{bytes_of, IsCompiledFunction, AreCompiled}
use Rattle.compile_program.specs.compile_theorem.OutputProperties.{variable_lines}
use Rattle.compile_program.proofs.compile_theorem.Framing.{forms_framed}
use Rattle.compile_program.proofs.compile_theorem.Functions.{words_length}
use Rattle.compile_program.specs.compile_theorem.Source.{SourceFunction, PassedFunction}
use Rattle.compile_program.proofs.Passed.{passed_functions, passed_at}
use Rattle.compile_program.specs.Program.{ArePassed, AreCoded, HaveCode, Describe, source_of, IsCompilable, names_of}
use Rattle.dwarf_line_table.specs.declared.source_and_code.SourceAndCode.{SourceAndCode}
use Rattle.dwarf_line_table.specs.declared.file.SourceFile.{SourceFile}
use Rattle.dwarf_line_table.specs.Files.{unit_file}
use Rattle.dwarf_line_table.specs.SourcePosition.{scope_line, loc_of, line_of}
use Rattle.dwarf_line_table.specs.Program.{program_file, files_with, function_end, table_with}
use Rattle.dwarf_line_table.proofs.SourceTables.{no_further}
use Rattle.dwarf_line.specs.Spelling.{spelling as rows_spelling}
use Rattle.read_metadata.specs.Maps.{Maps}
use Rattle.compile_program.specs.dwarf_unit.Inlined.{call_scopes}
use Rattle.compile_program.specs.dwarf_unit.Variables.{variables_of_function}
use Rattle.compile_output_proof.specs.Lines.{origin_of, HasByte, file_of, TellsLinesOf, OutputsTellLines}
use Rattle.compile_output_proof.proofs.Listed.{listing_entered}

-- ---- layouts

same_long : (x y : Bool) → (x ≡ true → y ≡ true) → (y ≡ true → x ≡ true) → x ≡ y
same_long true y there back = sym (there refl)
same_long false true there back = back refl
same_long false false there back = refl

-- of a function and its first address one layout is settled
one_layout : (f : FramedFunction) (base : ℕ) (long other : _) → IsSettled (record { framed = f; base = base; long = long }) →
    IsSettled (record { framed = f; base = base; long = other }) →
    ◌≡◌ {A = Layout} (record { framed = f; base = base; long = long }) (record { framed = f; base = base; long = other })
one_layout f base long other is others = λ i. record {
  framed = f;
  base = base;
  long = λ p. same_long (long p) (other p) (is.least other others.closed p) (others.least long is.closed p) i;
}

same_layout : (l m : Layout) → l.framed ≡ m.framed → l.base ≡ m.base → IsSettled l → IsSettled m → l ≡ m
same_layout l m framed base is others =
    let as_m : ◌≡◌ {A = Layout} (record { framed = l.framed; base = l.base; long = m.long }) m = λ i. record
    { framed = framed i; base = base i; long = m.long } in
    one_layout l.framed l.base l.long m.long is (subst IsSettled (sym as_m) others) ∙ as_m

-- ---- functions that lie one after the other

code_stands : (f : Function) (base : ℕ) (c : SourceAndCode) → IsCodeOf (framed_of f) base c.code.now → StandFrom base c.code.now.entries (function_end c)
code_stands f base c is =
    let l = is.layout in
    let filled = words_fill l is.worded in
    let words : length c.code.now.words ≡ length (words_of l) = ap length is.words in
    let from = is.from in
    let kept = is.base_kept in
    let end : l.base + _ ≡ function_end c = omega (arith, filled, words, from, kept) in
    subst (λ (a : ℕ). StandFrom a c.code.now.entries (function_end c)) from
    (subst (λ (es : List EncodedInstruction). StandFrom l.base es (function_end c)) (sym is.entries)
    (subst (λ (x : ℕ). StandFrom l.base (entries_of l) x) end (stands l)))

pub codes_lie : (base : ℕ) (fs : List Function) (cs : List SourceAndCode) → AreCoded base fs (map (λ (c : SourceAndCode). c.code.now) cs) → LieFrom base cs
codes_lie base [] [] are = tt
codes_lie base [] (c ∷ cs) are = absurd are
codes_lie base (f ∷ fs) [] are = absurd are
codes_lie base (f ∷ fs) (c ∷ cs) are =
    let kept = are.0.base_kept in
    let end : base + 4 * length c.code.now.words ≡ function_end c = omega (arith, kept) in
    (kept, code_stands f base c are.0, subst (λ (x : ℕ). LieFrom x cs) end (codes_lie (base + 4 * length c.code.now.words) fs cs are.1))

-- ---- each function with its code

-- a function that passes made, what is compiled of it, and its machine code, by its index
pub record Paired (names : ℕ → List ℕ) (passed : PassedFunction) (f : ListedFunction) (all : List SourceAndCode) (n : ℕ) : Type 0 where
  pub base : ℕ
  pub first : ℕ
  pub function : IsCompiledFunction names passed base first f
  pub code : SourceAndCode
  pub at : slice_get all n ≡ Some code
  pub among : Contains all code
  pub source_is : code.source.now ≡ passed.source.function
  pub entries : code.code.now.entries ≡ entries_of function.layout

abbrev pub sources : List SourceAndCode → List Function
sources cs = map (λ (c : SourceAndCode). c.source.now) cs

abbrev pub codes : List SourceAndCode → List LaidCode
codes cs = map (λ (c : SourceAndCode). c.code.now) cs

abbrev pub functions : List PassedFunction → List Function
functions ps = map (λ (p : PassedFunction). p.function) ps

abbrev pub read_of : List PassedFunction → List Function
read_of ps = map (λ (p : PassedFunction). p.source.function) ps

pub paired : (names : ℕ → List ℕ) (base first : ℕ) (text : List ℕ) (lists : List (List Range)) (ps : List PassedFunction) (fs : List ListedFunction)
    (cs : List SourceAndCode) →
    sources cs ≡ read_of ps → AreCoded base (functions ps) (codes cs) → AreCompiled names base first text lists ps fs →
    (n : ℕ) (passed : PassedFunction) (f : ListedFunction) → slice_get ps n ≡ Some passed → slice_get fs n ≡ Some f → Paired names passed f cs n
paired names base first text lists [] fs cs same coded are n passed f s_is f_is = absurd cc
paired names base first text lists (p ∷ ps) [] cs same coded are n passed f s_is f_is = absurd cc
paired names base first text lists (p ∷ ps) (g ∷ fs) [] same coded are n passed f s_is f_is = absurd coded
paired names base first text lists (p ∷ ps) (g ∷ fs) (c ∷ cs) same coded (made, more, rest, text_is, lists_is, onward) zero passed f s_is f_is =
    let passed_same : p ≡ passed = cc in
    let listed_same : g ≡ f = cc in
    let func_same : c.source.now ≡ p.source.function = cc in
    let is = coded.0 in
    let layout : is.layout ≡ made.layout = same_layout is.layout made.layout (is.of ∙ sym made.laid.framed) (is.from ∙ sym made.laid.from) is.settled
    made.laid.settled in
    subst (λ (x : PassedFunction). Paired names x f (c ∷ cs) 0) passed_same (subst (λ (x : ListedFunction). Paired names p x (c ∷ cs) 0) listed_same (record {
      base = base;
      first = first;
      function = made;
      code = c;
      at = refl;
      among = head_member c cs;
      source_is = func_same;
      entries = is.entries ∙ ap entries_of layout;
    }))
paired names base first text lists (p ∷ ps) (g ∷ fs) (c ∷ cs) same coded (made, more, rest, text_is, lists_is, onward) (suc n) passed f s_is f_is =
    let is = coded.0 in
    let layout : is.layout ≡ made.layout = same_layout is.layout made.layout (is.of ∙ sym made.laid.framed) (is.from ∙ sym made.laid.from) is.settled
    made.laid.settled in
    let words : length c.code.now.words ≡ length (words_of made.layout) = ap length (is.words ∙ ap words_of layout) in
    let high : g.high ≡ made.layout.base + 4 * length (words_of made.layout) = ap (λ (x : ListedFunction). x.high) made.listed in
    let from = made.laid.from in
    let next : base + 4 * length c.code.now.words ≡ g.high = omega (arith, words, high, from) in
    let tails : sources cs ≡ read_of ps = cc in
    let found = paired names g.high (first + length made.lists) more rest ps fs cs tails
    (subst (λ (x : ℕ). AreCoded x (functions ps) (codes cs)) next coded.1) onward n passed f s_is f_is in
    record {
      base = found.base;
      first = found.first;
      function = found.function;
      code = found.code;
      at = found.at;
      among = later_member c found.code cs found.among;
      source_is = found.source_is;
      entries = found.entries;
    }

-- the code of each ends within the text
ends_within : (names : ℕ → List ℕ) (base first : ℕ) (text : List ℕ) (lists : List (List Range)) (ps : List PassedFunction) (fs : List ListedFunction)
    (cs : List SourceAndCode) → AreCoded base (functions ps) (codes cs) → AreCompiled names base first text lists ps fs →
    (c : SourceAndCode) → Contains cs c → function_end c ≤ base + length text
ends_within names base first text lists ps fs [] coded are c is = absurd (no_member c is)
ends_within names base first text lists [] fs (d ∷ cs) coded are c is = absurd coded
ends_within names base first text lists (p ∷ ps) [] (d ∷ cs) coded are c is = absurd are
ends_within names base first text lists (p ∷ ps) (g ∷ fs) (d ∷ cs) coded (made, more, rest, text_is, lists_is, onward) c is =
    let code = coded.0 in
    let layout : code.layout ≡ made.layout = same_layout code.layout made.layout (code.of ∙ sym made.laid.framed) (code.from ∙ sym made.laid.from) code.settled
    made.laid.settled in
    let words : length d.code.now.words ≡ length (words_of made.layout) = ap length (code.words ∙ ap words_of layout) in
    let high : g.high ≡ made.layout.base + 4 * length (words_of made.layout) = ap (λ (x : ListedFunction). x.high) made.listed in
    let from = made.laid.from in
    let kept = code.base_kept in
    let both : length text ≡ length (bytes_of made.layout) + length more = ap length text_is ∙ length-append (bytes_of made.layout) more in
    let size = words_length (words_of made.layout) in
    let next : base + 4 * length d.code.now.words ≡ g.high = omega (arith, words, high, from) in
    elim (member_cases d c cs is) [
      | inl same ↦ subst (λ (x : SourceAndCode). function_end x ≤ base + length text) same (omega (arith, kept, words, both, size))
      | inr later ↦ (let more_within = ends_within names g.high (first + length made.lists) more rest ps fs cs
          (subst (λ (x : ℕ). AreCoded x (functions ps) (codes cs)) next coded.1) onward c later in
          omega (arith, more_within, high, from, both, size))
    ]

-- ---- lines

names_same : (cs : List SourceAndCode) (ps : List Parsed) → sources cs ≡ map (λ (p : Parsed). p.func) ps →
    map (λ (c : SourceAndCode). c.source.now.name) cs ≡ map (λ (p : Parsed). p.func.name) ps
names_same [] [] same = refl
names_same [] (p ∷ ps) same = absurd cc
names_same (c ∷ cs) [] same = absurd cc
names_same (c ∷ cs) (p ∷ ps) same =
    let func_same : c.source.now ≡ p.func = cc in
    let tails : sources cs ≡ map (λ (q : Parsed). q.func) ps = cc in
    ap (λ (f : Function). f.name ∷ map (λ (x : SourceAndCode). x.source.now.name) cs) func_same
    ∙ ap (λ (ns : List (List ℕ)). p.func.name ∷ ns) (names_same cs ps tails)

module _ (p : Program) (ps : List PassedFunction) (passed : ArePassed p.meta p.functions ps) (cs : List SourceAndCode) (coded : HaveCode ps cs)
    (further : List (Option ℕ)) where
  lie : LieFrom 0 cs
  lie = codes_lie 0 (functions ps) cs coded.coded

  unit_same : program_file p.meta cs ≡ file_of p
  unit_same = ap (unit_file p.meta) (names_same cs p.functions (coded.sources ∙ sym (passed_functions p.meta p.functions ps passed)))

  module _ (source : Parsed) (made : PassedFunction) (f : ListedFunction) (n : ℕ) (of : made.source ≡ source_of source) (is : IsCompilable p.meta made)
      (pair : Paired (names_of p.meta) made f cs n) where
    pub source_is : pair.code.source.now ≡ source.func
    source_is = pair.source_is ∙ ap (λ (s : SourceFunction). s.function) of

    forms : AllItems IsFormed pair.function.layout.framed.blocks
    forms = subst (λ (x : FramedFunction). AllItems IsFormed x.blocks) (sym pair.function.laid.framed)
        (forms_framed made.function (size_fits made.function 2032 pair.function.laid.small) is.passed.follower.form)

    pub entered : (a : ℕ) (line : Line) → HasByte f a line → (e : EncodedInstruction) × HasCodeAt cs a pair.code e × (e.origin ≡ origin_of line)
    entered a line has =
        let found = listing_entered a pair.function.layout
        (variable_lines (names_of p.meta) pair.first (variables_of_function made.source.function.blocks)) made.substitutions forms line
        (subst (λ (x : ListedFunction). Contains (Rattle.compile_program.specs.listing_meaning.Program.lines_of x) line) pair.function.listed has.stands) has.first has.begins
        has.from has.within in (
          found.0,
          record {
            function = pair.among;
            entry = subst (λ (es : List EncodedInstruction). Contains es found.0) (sym pair.entries) found.1;
            from = found.2;
            below = found.3;
          },
          found.4,
        )

    tells : TellsLinesOf p (table_with p.meta cs further) source f
    tells = record {
      gives = λ a line has.
          let at = entered a line has in
          subst (λ (u : SourceFile). GivesLine (table_with p.meta cs further) a (line_of p.meta u source.func.blocks (origin_of line))) unit_same
          (subst (λ (o : Origin). GivesLine (table_with p.meta cs further) a (line_of p.meta (program_file p.meta cs) source.func.blocks o)) at.2
          (subst (λ (g : Function). GivesLine (table_with p.meta cs further) a (line_of p.meta (program_file p.meta cs) g.blocks at.0.origin)) source_is
          (tables_give_lines p.meta cs further 0 lie a pair.code at.0 at.1)));
      none = λ a line has no row at_row.
          let at = entered a line has in
          none_is_line_zero p.meta cs further 0 lie a pair.code at.0 at.1
          (ap (λ (g : Function). scope_line p.meta (loc_of g.blocks (position_of at.0.origin))) source_is
          ∙ ap (λ (o : Origin). scope_line p.meta (loc_of source.func.blocks (position_of o))) at.2 ∙ no) row at_row;
    }

-- a row is of an address below the end of one of the functions
nothing_beyond : (p : Program) (ps : List PassedFunction) (cs : List SourceAndCode) (further : List (Option ℕ)) → HaveCode ps cs → (a : ℕ) (row : Row) →
    IsRowAt (table_with p.meta cs further) a row →
    (c : SourceAndCode) × Contains cs c × (a < function_end c)
unfolding table_with
nothing_beyond p ps cs further coded a row is =
    let lies = codes_lie 0 (functions ps) cs coded.coded in
    let found = row_has_code (files_with p.meta cs further) p.meta (program_file p.meta cs) 0 cs lies is.sequence is.among a row
    (last_in is.sequence.rows a row is.last) is.inside in
    let within = (entry_from found.0.code.now.base found.0.code.now.entries (function_end found.0) (stands_of 0 cs lies found.0 found.1) found.2 found.3).1 in
    let below = found.5 in
    (found.0, found.1, omega (arith, within, below))

-- the table of a program's rows, which has the files of further scopes where the sections are those of inlined functions
rows_table : (meta : Maps) (text_len : ℕ) (cs : List SourceAndCode) (abbreviated info rows : List ℕ) (ranges : Option (List ℕ))
    → Describe meta text_len cs abbreviated info rows ranges → (further : List (Option ℕ)) × (rows ≡ rows_spelling (table_with meta cs further))
rows_table meta text_len cs abbreviated info rows None is = ([], is.2 ∙ ap rows_spelling (sym (no_further meta cs)))
rows_table meta text_len cs abbreviated info rows (Some ranges) is = (call_scopes meta is.1.instances, is.1.rows_are)

pub tell_lines : OutputsTellLines
tell_lines p ps o passed compiled has = record {
  table = table_with p.meta has.compiled is.0;
  spelled = is.1;
  each = λ n source f s_is f_is.
      let at = passed_at p.meta p.functions ps passed n source s_is in
      tells p ps passed has.compiled has.coded is.0 source at.passed f n at.source at.is
      (paired (names_of p.meta) 0 0 o.text compiled.lists ps o.functions has.compiled has.coded.sources has.coded.coded compiled.functions n at.passed f
      at.at f_is);
  beyond = λ a behind row at_row.
      let found = nothing_beyond p ps has.compiled is.0 has.coded a row at_row in
      let within = ends_within (names_of p.meta) 0 0 o.text compiled.lists ps o.functions has.compiled has.coded.coded compiled.functions found.0
      found.1 in
      let below = found.2 in
      omega (arith, behind, within, below);
}
  where
    is : (further : List (Option ℕ)) × (o.rows ≡ rows_spelling (table_with p.meta has.compiled further))
    is = rows_table p.meta (length o.text) has.compiled o.abbreviations o.info o.rows o.ranges has.described
