use Rattle.std.proofs.Common.{sym, subst}
use Rattle.std.proofs.lemmas.List.{take_all}
use Rattle.std.proofs.lemmas.List.Elements.{All-more, All-same}
use Rattle.dwarf_loclists.specs.declared.range.Part.{Part}
use Rattle.dwarf_loclists.specs.Ranges.{HasWord}
use Rattle.dwarf_loclists.specs.Spelling.{piece}
use Rattle.dwarf_loclists.proofs.PiecesLemmas.{first_part, appended}
use Rattle.dwarf_loclists.proofs.location.push_pieces.Goals as goal

pub loop-part-preserved : goal.loop-part-preserved
loop-part-preserved c =
    let f = first_part _ _ c.args.parts.now c.part-item.result c.loop-part-test.true c.part-item.is c.loop-part.invariant.rest in
    record {
      rest = f.others;
      written = appended c.loop-part.out.items (piece c.loop-part.from c.part-item.result) _ c.in_ok-push_piece.ensures.bytes f.bytes
          c.loop-part.invariant.written;
      wide =
          All-more (λ (p : Part). HasWord p.place) c.args.parts.now c.loop-part.part-index c.part-item.result c.loop-part-test.true c.loop-part.invariant.wide
          (subst (λ (p : Part). HasWord p.place) c.part-item.is c.in_ok-push_piece.ensures.wide);
    }

pub returns-clause-wide : goal.returns-clause-wide
returns-clause-wide c = All-same (λ (p : Part). HasWord p.place) _ _ (sym (take_all _ _ c.loop-part-test.false)) c.loop-part.invariant.wide
