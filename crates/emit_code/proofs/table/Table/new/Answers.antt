use Rattle.std.proofs.Common.{◌≡◌, ℕ, List, length, ◌∙◌, ap}
use Rattle.std.specs.Prelude.{slice_index}
use Rattle.emit_code.specs.steps.Places.{firsts_from}
use Rattle.emit_code.proofs.Tables.{count_at}
use Rattle.emit_code.proofs.table.Table.new.Goals as goal

pub returns : goal.returns
returns c =
    let listed : c.as_slice.result.now ≡ firsts_from 0 c.args.blocks.now = c.as_slice.ensures ∙ c.in_ok-firsts.ensures in
    record {
      firsts = c.in_ok-firsts.ensures;
      count = c.at-count.ensures ∙ ap (λ (fs : List ℕ). slice_index fs (length c.args.blocks.now)) listed ∙ count_at c.args.blocks.now;
      indices = c.in_ok-indices.ensures;
    }
