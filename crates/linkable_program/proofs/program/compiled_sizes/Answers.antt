use Rattle.std.proofs.Common.{◌≡◌, ℕ, map, length, arith, rules, subst}
use Rattle.dwarf_sections.specs.dwarf_line_table.declared.source_and_code.SourceAndCode.{SourceAndCode}
use Rattle.compile_program.specs.Program.{CompiledFunction}
use Rattle.compile_program.proofs.Listed.{program_few}
use Rattle.compile_program.specs.read_program.declared.closing.Parsed.{Parsed}
use Rattle.read_debug_nodes.specs.Maps.{DebugMaps}
use Rattle.read_debug_nodes.specs.Metadata.{debug_metadata}
use Rattle.linkable_program.specs.Program.{AreSizesOf}
use Rattle.linkable_program.proofs.Compiled.{as_many}
use Rattle.linkable_program.proofs.program.compiled_sizes.Goals as goal

pub with_code-requires : goal.with_code-requires
with_code-requires c =
    let many = as_many _ _ c.args.program.now c.args.compilation.now c.requires.compilation in
    search (rules, many)

pub sizes-requires : goal.sizes-requires
sizes-requires c =
    let same : map (λ (x : SourceAndCode). x.source.now) c.as_slice-3.result.now ≡ map (λ (p : Parsed). p.func) c.args.program.now.functions =
    search rules in
    let few = program_few c.args.program.now.meta c.as_slice-3.result.now c.args.program.now.functions same c.requires.read.functions in
    let functions = c.requires.read.few in
    omega (arith, few, functions)

pub returns : goal.returns
returns c =
    let sources : map (λ (x : SourceAndCode). x.source.now) c.as_slice-3.result.now ≡ map (λ (p : Parsed). p.func) c.args.program.now.functions =
    search rules in
    let codes : map (λ (x : SourceAndCode). x.code.now) c.as_slice-3.result.now ≡ map (λ (f : CompiledFunction). f.code) c.args.compilation.now.functions =
    search rules in
    let size : c.len-code_len.result ≡ length c.args.compilation.now.output.text = search rules in
    record {
      compiled = c.as_slice-3.result.now;
      of = record { sources = sources; codes = codes };
      are =
          subst (λ (n : ℕ). AreSizesOf (debug_metadata c.args.lines.now) c.args.program.now.meta n c.args.with_frame c.as_slice-3.result.now c.args.count
          c.in_ok-sizes.sizes.items) size
          (subst (λ (debug : DebugMaps). AreSizesOf debug c.args.program.now.meta c.len-code_len.result c.args.with_frame c.as_slice-3.result.now c.args.count
          c.in_ok-sizes.sizes.items) c.in_ok-debug.ensures c.in_ok-sizes.ensures);
    }
