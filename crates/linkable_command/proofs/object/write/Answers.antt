use Rattle.std.specs.Prelude.{Err}
use Rattle.std.proofs.Common.{◌≡◌, ℕ, ◌≤◌, ◌^◌, length, List, ap, subst, ◌∙◌}
use Rattle.listing_text.specs.declared.output.ListedFunction.{ListedFunction}
use Rattle.read_linkage.specs.declared.linkage.LinkedName.{LinkedName}
use Rattle.object_command.specs.declared.object.ObjectError.{ObjectError}
use Rattle.object_command.specs.declared.object.ObjectError.TheVariants.{TooLarge}
use Rattle.linkable_command.specs.Symbols.{named_symbols, code_relocations}
use Rattle.linkable_command.specs.Linkable.{section_count, sections_of}
use Rattle.linkable_command.proofs.Written.{many_named}
use Rattle.linkable_command.proofs.object.write.Goals as goal

pub linked-requires-clause-relocations : goal.linked-requires-clause-relocations
linked-requires-clause-relocations c =
    c.in-Ok.ensures.relocations
    ∙ ap (λ (n : ℕ). code_relocations n c.as_slice-linkages.result.now c.as_slice.result.now) c.section_count-before.ensures
    ∙ ap (λ (ls : List LinkedName). code_relocations (section_count c.args.t.now.frames) ls c.as_slice.result.now) c.as_slice-linkages.ensures
    ∙ ap (λ (fs : List ListedFunction). code_relocations (section_count c.args.t.now.frames) c.args.t.now.linkages fs) c.as_slice.ensures

pub returns-in-Err-clause-too_large : goal.returns-in-Err-clause-too_large
returns-in-Err-clause-too_large c = λ is.
    let same : c.in-Err.error ≡ TooLarge = cc in
    record {
      names = c.requires.names;
      large =
          many_named c.args.flags (sections_of c.args.output c.args.lists c.args.t.now) (named_symbols c.args.t.now.linkages c.args.output.functions)
          (subst (λ (ls : List LinkedName). 2 ^ 27 ≤ length (named_symbols ls c.args.output.functions)) c.as_slice-linkages.ensures
          (subst (λ (fs : List ListedFunction). 2 ^ 27 ≤ length (named_symbols c.as_slice-linkages.result.now fs)) c.as_slice.ensures
          (c.in-Err.ensures.too_large (ap (λ (e : ObjectError). Err e) same))));
    }
