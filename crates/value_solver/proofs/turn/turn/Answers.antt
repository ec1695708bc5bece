use Rattle.std.proofs.Common.{◌≡◌, ◌<◌, ℕ, List, Bool, true, false, length, sym, ap, ◌∙◌, subst, inl, inr, eqb, Some, refl}
use Rattle.std.specs.Prelude.{◌⊎◌, slice_index_or, slice_set, slice_get, Contains}
use Rattle.std.proofs.lemmas.Bool.{eqb-true, eqb-false}
use Rattle.std.proofs.lemmas.Option.{slice_get-get_or}
use Rattle.std.proofs.lemmas.List.{get_or-set_other}
use Rattle.std.proofs.lemmas.List.Elements.{Contains-get_or}
use Rattle.std.proofs.Math.ListN.{length-set}
use Rattle.value_solver.specs.declared.flow.Flow.{Flow}
use Rattle.value_solver.specs.Hands.{Visited}
use Rattle.value_solver.proofs.Tables.{changed_turn, unchanged_turn}
use Rattle.value_solver.proofs.turn.turn.Goals as goal

pub visit-requires-clause-shaped : goal.visit-requires-clause-shaped
visit-requires-clause-shaped c = λ k d less. c.requires.table.shaped k _ (slice_get-get_or c.args.entries.now.items k d less)

at_block : (flows : List Flow) (b : ℕ) (f : Flow) → b < length flows → f ≡ slice_index_or flows b f → slice_get flows b ≡ Some f
at_block flows b f less is = slice_get-get_or flows b f less ∙ ap Some (sym is)

pub mark-requires : goal.mark-requires
mark-requires c =
    let f = c.index-flows-block.result in
    let at = at_block c.args.flows.now c.args.block f c.requires.block c.index-flows-block.is in
    let ways = c.as_slice.ensures ∙ ap (λ (z : Flow). z.ways) (sym c.index-flows-block.is) in
    rw (ways, length-set, c.requires.table.marks)
    (λ k d less. (c.requires.problem.sound c.args.block f at).1 _ (Contains-get_or f.ways k d less))

pub returns-then-not-changed : goal.returns-then-not-changed
returns-then-not-changed c =
    unchanged_turn _ _ _ _ _ _ _ _ _ refl c.requires.table c.requires.block
    (subst (Visited c.args.start.now c.args.flows.now c.args.preds.now c.args.entries.now.items c.visit.new.entries.items c.args.block)
    c.if-not-changed.true c.in_ok-changed.ensures) refl

marks : (before after : List Bool) (b : ℕ) (ways ws : List ℕ) → ws ≡ ways →
    ((c : ℕ) → slice_index_or after c true ≡ false → (slice_index_or (slice_set before b false) c true ≡ false) × (Contains ws c → ⊥)) →
    (c : ℕ) → slice_index_or after c true ≡ false → ((c ≡ b) ⊎ (slice_index_or before c true ≡ false)) × (Contains ways c → ⊥)
marks before after b ways ws same h c e = let (clean, none) = h c e in (by_case (eqb c b) refl clean, subst (λ (z : List ℕ). Contains z c → ⊥) same none) where
  by_case : (z : Bool) → eqb c b ≡ z → slice_index_or (slice_set before b false) c true ≡ false → (c ≡ b) ⊎ (slice_index_or before c true ≡ false)
  by_case true is clean = inl (eqb-true c b is)
  by_case false other clean = inr (sym (get_or-set_other before b c false true (eqb-false c b other)) ∙ clean)

pub returns : goal.returns
returns c =
    let f = c.index-flows-block.result in
    let ways = c.as_slice.ensures ∙ ap (λ (z : Flow). z.ways) (sym c.index-flows-block.is) in
    let problem = c.requires.problem in
    changed_turn _ _ _ _ _ _ _ _ _ f problem.known refl problem.sound problem.predecessors c.requires.table c.requires.block problem.some
    (subst (Visited c.args.start.now c.args.flows.now c.args.preds.now c.args.entries.now.items c.visit.new.entries.items c.args.block)
    c.if-not-changed.false c.in_ok-changed.ensures)
    (at_block c.args.flows.now c.args.block f c.requires.block c.index-flows-block.is)
    (c.mark.ensures.long ∙ length-set c.args.dirty.now.items c.args.block false ∙ c.requires.table.marks)
    (marks c.args.dirty.now.items c.mark.new.dirty.items c.args.block f.ways c.as_slice.result.now ways c.mark.ensures.marked)
