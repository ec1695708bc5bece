use Rattle.std.proofs.Common.{◌≡◌, ℕ, List, [], ap, sym, ◌∙◌, subst, inl, inr, arith}
use Rattle.std.specs.Prelude.{Some, Bool, slice_get, slice_index_or}
use Rattle.std.proofs.lemmas.Bool.Decides.{eqb_tells}
use Rattle.std.proofs.lemmas.Option.{slice_get_within, slice_get-get_or}
use Rattle.mir_func.specs.declared.block.Block.{Block}
use Rattle.mir_func.specs.declared.item.Item.{Item}
use Rattle.dce_salvage.specs.SalvageBlocks.{HasNoCopies}
use Rattle.dce_salvage.proofs.Still.{still_blocks}
use Rattle.dce_salvage.proofs.salvage_blocks.has_copies.Goals as goal

pub loop-block-preserved : goal.loop-block-preserved
loop-block-preserved c = λ b x lt at.
    let i = c.loop-block.block in
    let here = c.index-blocks-block.result in
    let items_are : c.as_slice.result.now ≡ here.items = c.as_slice.ensures ∙ ap (λ (z : Block). z.items) (sym c.index-blocks-block.is) in
    let none : HasNoCopies (slice_index_or c.args.dead.now i []) here.items =
    subst (λ (vs : List Bool). HasNoCopies vs here.items) c.verdicts_at.ensures (subst (λ (xs : List Item). HasNoCopies c.verdicts_at.result.now xs)
    items_are (c.has_copy.ensures c.if-has_copy.false)) in
    elim (eqb_tells b i) [
      | inl h ↦
          let at_here : slice_get c.args.blocks.now i ≡ Some here =
          slice_get-get_or c.args.blocks.now i here c.loop-block-test.true ∙ ap (λ (z : Block). Some z) (sym c.index-blocks-block.is) in
          let both : Some here ≡ Some x = sym at_here ∙ (ap (slice_get c.args.blocks.now) (sym h.1) ∙ at) in
          let same : here ≡ x = cc in
          subst (λ (n : ℕ). HasNoCopies (slice_index_or c.args.dead.now n []) x.items) (sym h.1)
          (subst (λ (z : Block). HasNoCopies (slice_index_or c.args.dead.now i []) z.items) same none)
      | inr h ↦ c.loop-block.invariant b x (let ne = h.1 in omega (arith, lt, ne)) at
    ]

pub returns : goal.returns
returns c = λ e a.
    still_blocks c.args.dead.now c.args.blocks.now a
    (λ b x at. c.loop-block.invariant b x (omega (arith, slice_get_within c.args.blocks.now b x at, c.loop-block-test.false)) at)
