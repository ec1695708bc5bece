use Rattle.std.proofs.Common.{◌≡◌, ap, ◌∙◌, sym, ◌++◌, List, ℕ}
use Rattle.dwarf_loclists.proofs.PiecesLemmas.{first_part, appended}
use Rattle.sized_lists.specs.Spelling.{piece}
use Rattle.sized_lists.proofs.Pieces.{first_bytes, no_part}
use Rattle.sized_lists.proofs.location.push_pieces.Goals as goal

pub loop-part-preserved : goal.loop-part-preserved
loop-part-preserved c =
    let f = first_part _ _ c.args.parts.now c.part-item.result c.loop-part-test.true c.part-item.is c.loop-part.invariant.rest in
    record {
      rest = f.others;
      written = appended c.loop-part.out.items (piece c.loop-part.from c.part-item.result) _ c.in_ok-push_piece.ensures
          (first_bytes c.args.size c.loop-part.from _ c.args.parts.now c.part-item.result c.loop-part-test.true c.part-item.is)
          c.loop-part.invariant.written;
    }
