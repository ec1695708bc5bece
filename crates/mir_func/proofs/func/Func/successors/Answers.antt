use Rattle.std.proofs.Common.{◌≡◌, ◌↔◌, ◌+◌, ◌<◌, List, length, get_or, sym, subst, ap, ◌∙◌}
use Rattle.std.specs.Prelude.{Contains}
use Rattle.std.specs.List.{slice_get}
use Rattle.mir_func.specs.declared.block.Block.{Block}
use Rattle.mir_func.specs.Sound.{ids_of}
use Rattle.mir_func.specs.Graph.{program_of}
use Rattle.mir_func.specs.Successors.{numbers_of, GoesTo, ways}
use Rattle.mir_func.proofs.Ways.{block_ways}
use Rattle.mir_func.proofs.func.Func.successors.Goals as goal

pub returns : goal.returns
returns c =
    let blocks = c.self.inside.blocks in
    let sliced : c.as_slice-blocks.result.now ≡ blocks = c.as_slice-blocks.ensures in
    let b = c.index-blocks-block.result in
    let stands : b ≡ get_or blocks c.args.block b = c.index-blocks-block.is ∙ ap (λ (bs : List Block). get_or bs c.args.block b) sliced in
    let next : c.id_at-next.result ≡ slice_get (ids_of blocks) (c.args.block + 1) =
    c.id_at-next.ensures ∙ ap (λ (bs : List Block). slice_get (ids_of bs) (c.args.block + 1)) sliced in
    let found : numbers_of c.successors_of.result ≡ ways b.items c.id_at-next.result =
    c.successors_of.ensures ∙ (ap (λ is. ways is c.id_at-next.result) c.as_slice.ensures ∙ ap (λ (x : Block). ways x.items c.id_at-next.result)
    (sym c.index-blocks-block.is)) in
    let same : blocks ≡ c.args.self.now.blocks = cc in
    let below : c.args.block < length blocks = subst (λ (bs : List Block). c.args.block < length bs) (sym same) c.requires in
    λ sp resolve n.
    subst (λ (bs : List Block). Contains (numbers_of c.successors_of.result) n ↔ GoesTo (program_of sp bs resolve) (get_or (ids_of bs) c.args.block 0) n) same
    (block_ways blocks c.args.block b c.id_at-next.result (numbers_of c.successors_of.result) c.self.invariant.blocks_apart
    below stands next found sp resolve n)
