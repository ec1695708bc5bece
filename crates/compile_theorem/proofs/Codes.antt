-- What a compiler's code makes is what is compiled: the code's layout is that of the function with its frame.
use Rattle.std.proofs.Common.{ℕ, ◌<◌, List, refl, sym, ap, subst}
use Rattle.std.specs.List.{flat_map}
use Rattle.std.specs.Int.{w32, to_le_bytes}
use Rattle.mir_func.specs.Function.{FramedFunction}
use Rattle.mir_func.specs.Graph.{block_start, framed_program}
use Rattle.mir_func.specs.Resolve.{resolve}
use Rattle.emit_code.specs.declared.code.EncodedInstruction.{EncodedInstruction}
use Rattle.emit_code.specs.Counts.{MAX_WORDS, MAX_BASE, count_of}
use Rattle.emit_code.specs.Rule.{entries_of}
use Rattle.frame_rule.specs.Rule.{framed_of}
use Rattle.location_ranges.specs.Lists.{AreListsOf}
use Rattle.dwarf_unit.specs.Variables.{variables_of_function}
use Rattle.compile_theorem.specs.Laws.{CodesAreCompiled}

pub codes_are_compiled : CodesAreCompiled
codes_are_compiled names p base first f code lists is low few small located listed = (
  record {
    layout = is.layout;
    laid = record {
      framed = is.of;
      from = is.from;
      settled = is.settled;
      worded = is.worded;
      low = subst (λ (n : ℕ). n < MAX_BASE) (sym is.from) low;
      few = subst (λ (x : FramedFunction). count_of x.blocks < MAX_WORDS) (sym is.of) few;
      small = small;
    };
    listed = listed;
    lists = lists;
    located =
        subst (λ (x : FramedFunction). AreListsOf (framed_program x.blocks (resolve p.substitutions)) (block_start 0)
        (entries_of is.layout) (variables_of_function p.source.function.blocks) lists) (sym is.of)
        (subst (λ (es : List EncodedInstruction). AreListsOf (framed_program (framed_of p.function).blocks (resolve p.substitutions))
        (block_start 0) es (variables_of_function p.source.function.blocks) lists) is.entries located);
  },
  ap (flat_map (to_le_bytes w32)) (sym is.words),
  refl,
)
