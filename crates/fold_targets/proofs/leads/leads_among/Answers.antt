use Rattle.std.proofs.Common.{◌≡◌, ℕ, ◌∷◌, List, Option, Some, cond, nat_eq, refl, sym, ap, ◌∙◌, subst}
use Rattle.std.specs.HashMap.{get}
use Rattle.mir_func.specs.declared.block.Block.{Block}
use Rattle.mir_func.specs.Sound.{AreApart, ids_of}
use Rattle.fold_targets.specs.Leads.{first_id, lead_of, lead_in}
use Rattle.fold_targets.proofs.Blocks.{leads_no_more, blocks_before}
use Rattle.fold_targets.proofs.leads.leads_among.Goals as goal
use Rattle.fold_targets.proofs.leads.leads_among.Goals.{in-Some-lead_of+in_ok-insert, in_default-lead_of}

pub loop-b-preserved : goal.loop-b-preserved
loop-b-preserved c =
    let w = c.loop-b.invariant in
    let b : Block = c.in-Some.b.now in
    let split = blocks_before c.loop-b.rest.now c.in-Some.before.now b w.0 c.args.blocks.now c.in-Some.ensures.cases.0 w.1 in (
      b ∷ w.0,
      split,
      refl,
      elim c.match-lead_of.branch [
        | in-Some-lead_of+in_ok-insert v ↦ (λ q.
            let to : Option ℕ = lead_of b.items (first_id w.0) in
            let at : Some v.number-in-Some-lead_of.result ≡ to =
            ap (λ (z : ℕ). Some z) v.number-in-Some-lead_of.ensures ∙ v.in-Some-lead_of.ensures ∙ (λ i. lead_of (c.as_slice.ensures i) (w.2 i)) in
            let put : get nat_eq v.insert.new.self q ≡ cond (nat_eq b.id q) to (lead_in w.0 q) =
            v.in_ok-insert.ensures.updates.0 q ∙ (λ i. cond (nat_eq (v.number.ensures i) q) (at i) (w.3 q i)) in
            rw v.leads-is put)
        | in_default-lead_of v ↦ (λ q.
            rw v.leads-is (w.3 q ∙ leads_no_more c.in-Some.before.now b w.0 (subst (λ (z : List Block). AreApart (ids_of z)) (sym split) c.requires)
            (sym (v.in_default-lead_of.ensures ∙ (λ i. lead_of (c.as_slice.ensures i) (w.2 i)))) q))
      ],
    )
