-- A function that is compiled behind others, in an output's words: its layout is that of its machine code.
use Rattle.std.proofs.Common.{◌≡◌, ℕ, ◌+◌, ◌<◌, ◌≤◌, List, [], ◌∷◌, ◌++◌, length, refl, sym, ap, ◌∙◌, subst, arith}
use Rattle.std.specs.List.{flat_map}
use Rattle.std.specs.Int.{w32, to_le_bytes}
use Rattle.emit_code.specs.Counts.{MAX_WORDS, MAX_BASE, count_of}
use Rattle.emit_code.specs.declared.code.EncodedInstruction.{EncodedInstruction}
use Rattle.emit_code.specs.Rule.{Layout, entries_of}
use Rattle.dwarf_sections.specs.listing_text.declared.output.ListedFunction.{ListedFunction}
use Rattle.pass_trait.specs.declared.loss.Loss.{Loss}
use Rattle.frame_rule.specs.Rule.{framed_of}
use Rattle.compile_function.specs.declared.compiled_function.CompiledFunction.{CompiledFunction}
use Rattle.compile_passes.specs.listing_function.Laid.{IsLaid}
use Rattle.compile_passes.specs.listing_function.Variables.{variables_listed}
use Rattle.read_metadata.specs.Maps.{Maps}
use Rattle.compile_passes.specs.read_body.Limits.{MAX_ITEMS}
use Rattle.mir_func.specs.declared.variable.VarId.{VarId}
use Rattle.mir_func.specs.Function.{FramedFunction}
use Rattle.mir_func.specs.Graph.{block_start, framed_program}
use Rattle.mir_func.specs.Resolve.{resolve}
use Rattle.compile_passes.specs.read_program.declared.closing.Parsed.{Parsed}
use Rattle.compile_passes.specs.compile_theorem.Compiled.{IsLayoutOf}
use Rattle.compile_passes.specs.compile_theorem.OutputProperties.{variable_lines}
use Rattle.compile_passes.specs.compile_theorem.Source.{SourceFunction, PassedFunction}
use Rattle.compile_function.proofs.Listed.{variables_few, lines_same}
use Rattle.compile_function.proofs.Located.{places}
use Rattle.compile_function.specs.declared.emit.EmittedFunctions.{EmittedFunctions}
use Rattle.compile_function.specs.Emitted.{names_of, IsOneCompiled, IsPushed}
use Rattle.compile_passes.specs.Passed.{source_of}
use Rattle.compile_passes.specs.read_proof.Read.{IsReadFunction}
use Rattle.compile_passes.specs.listing_meaning.Listing.{listing_of}
use Rattle.compile_passes.specs.location_ranges.Lists.{AreListsOf}
use Rattle.dwarf_sections.specs.dwarf_unit.Variables.{variables_of_function}

-- it has as many variables as its source has items or fewer
pub few_variables : (meta : Maps) (q : Parsed) (p : PassedFunction) (losses : List Loss) (base : ℕ) (c : CompiledFunction) → p.source ≡ source_of q →
    IsReadFunction meta q.func → IsOneCompiled p losses base c → length c.variables ≤ MAX_ITEMS
few_variables meta q p losses base c of read one =
    let is : length c.variables ≡ length (variables_of_function q.func.blocks) =
    ap length one.variables ∙ ap (λ (s : SourceFunction). length (variables_of_function s.function.blocks)) of in
    let few = variables_few q.func.blocks in
    let items = read.few_items in
    omega (arith, is, few, items)

-- and as many lists as variables
pub few_lists : (meta : Maps) (q : Parsed) (p : PassedFunction) (losses : List Loss) (base : ℕ) (c : CompiledFunction) → p.source ≡ source_of q →
    IsReadFunction meta q.func → IsOneCompiled p losses base c → length c.lists ≤ MAX_ITEMS
few_lists meta q p losses base c of read one =
    let same = one.lists.for_all in
    let below = few_variables meta q p losses base c of read one in
    omega (arith, same, below)

module _ (meta : Maps) (q : Parsed) (p : PassedFunction) (losses : List Loss) (m : EmittedFunctions) (c : CompiledFunction) (of : p.source ≡ source_of q)
    (read : IsReadFunction meta q.func)
    (one : IsOneCompiled p losses (length m.text) c) (low : length m.text < MAX_BASE) where
  abbrev vs : List VarId
  vs = variables_of_function p.source.function.blocks

  abbrev layout : Layout
  layout = one.code.layout

  is_laid : IsLaid layout c.code
  is_laid = record {
    framed = one.code.framed ∙ sym one.code.of;
    base = one.code.base_kept ∙ sym one.code.from;
    entries = one.code.entries;
    words = one.code.words;
  }

  layout_of : IsLayoutOf p.function (length m.text) layout
  layout_of = record {
    framed = one.code.of;
    from = one.code.from;
    settled = one.code.settled;
    worded = one.code.worded;
    low = subst (λ (b : ℕ). b < MAX_BASE) (sym one.code.from) low;
    few = subst (λ (f : FramedFunction). count_of f.blocks < MAX_WORDS) (sym one.code.of) one.few;
    small = one.fits;
  }

  are_located : AreListsOf (framed_program layout.framed.blocks (resolve p.substitutions)) (block_start 0) (entries_of layout) vs c.lists
  are_located =
      subst (λ (f : FramedFunction). AreListsOf (framed_program f.blocks (resolve p.substitutions)) (block_start 0) (entries_of layout)
      vs c.lists) (sym one.code.of)
      (subst (λ (es : List EncodedInstruction). AreListsOf (framed_program (framed_of p.function).blocks (resolve p.substitutions)) (block_start 0) es
      vs c.lists) one.code.entries
      (subst (λ (ws : List VarId). AreListsOf (framed_program (framed_of p.function).blocks (resolve p.substitutions)) (block_start 0) c.code.entries ws
      c.lists) one.variables
      one.lists))

  pub pushed : (listed : ListedFunction) (after : EmittedFunctions) →
      length c.code.words < MAX_WORDS →
      ((l : Layout) → IsLaid l c.code → listed ≡ listing_of l (variables_listed meta m.list_count c.variables) p.substitutions) →
      after.text ≡ m.text ++ flat_map (to_le_bytes w32) c.code.words →
      after.list_count ≡ m.list_count + length c.lists →
      after.listings ≡ m.listings ++ listed ∷ [] →
      after.functions ≡ m.functions ++ c ∷ [] →
      IsPushed meta p losses m after
  pushed listed after few listed_is text_is count_is listings_are functions_are =
      let told : variables_listed meta m.list_count c.variables ≡ variable_lines (names_of meta) m.list_count vs =
      lines_same meta m.list_count c.variables ∙ ap (variable_lines (names_of meta) m.list_count) one.variables in
      record {
        listed = listed;
        compiled = record {
          layout = layout;
          laid = layout_of;
          listed = listed_is layout is_laid ∙ (λ i. listing_of layout (told i) p.substitutions);
          lists = c.lists;
          located = are_located;
        };
        made = c;
        code = one.code;
        words = one.code.words;
        few_words = few;
        variables = one.variables;
        lists = refl;
        few_lists = few_lists meta q p losses (length m.text) c of read one;
        writable = record {
          ascend = one.ascend;
          places = places (framed_program (framed_of p.function).blocks (resolve p.substitutions)) c.code.entries c.variables c.lists one.lists;
        };
        losses = one.losses;
        text = text_is;
        list_count = count_is;
        listings = listings_are;
        functions = functions_are;
      }
