use Rattle.std.proofs.Common.{◌≡◌, ℕ, List, map, eqb, Contains, sym, ap, ◌∙◌, subst}
use Rattle.std.specs.List.{dedup}
use Rattle.std.proofs.lemmas.List.{take_all}
use Rattle.std.proofs.lemmas.List.Filters.{dedup_is}
use Rattle.pass_trait.specs.declared.loss.Loss.{Loss}
use Rattle.pass_trait.specs.Order.{IsInOrder}
use Rattle.pass_trait.specs.Rule.{number_lost}
use Rattle.pass_trait.proofs.LostNumbers.{sorted_in_order, lost_from, lost_of, still_from, still_of}
use Rattle.pass_trait.proofs.nops.lost_numbers.Goals as goal

made : (c : goal.After-drop-numbers-2) → c.loop-n.losses ≡ map (λ n. number_lost n c.args.why) (dedup eqb c.sort_unstable.new.self.items)
made c =
    let ns : List ℕ = c.deref-n-items.result.now in
    let e : ns ≡ dedup eqb c.sort_unstable.new.self.items = c.deref-n-items.ensures.value ∙
    dedup_is eqb c.sort_unstable.new.self.items c.dedup.new.self.items c.dedup.ensures.filtered in
    c.loop-n.invariant ∙ ap (λ (ms : List ℕ). map (λ n. number_lost n c.args.why) ms) (take_all c.loop-n.n-index ns c.loop-n-test.false ∙ e)

pub returns-clause-ordered : goal.returns-clause-ordered
returns-clause-ordered c = subst IsInOrder (sym (made c)) (sorted_in_order c.args.why c.sort_unstable.new.self.items c.sort_unstable.ensures.sorted)

pub returns-clause-each : goal.returns-clause-each
returns-clause-each c l =
    let ms : List ℕ = c.sort_unstable.new.self.items in
    let e = made c in
    let from : Contains c.loop-n.losses l → (k : ℕ) × Contains c.args.numbers.items k × (l ≡ number_lost k c.args.why) =
    λ h. (let w = lost_from c.args.why (dedup eqb ms) l (subst (λ (z : List Loss). Contains z l) e h) in
    (w.0, still_from c.args.why c.args.numbers.items ms w.0 c.sort_unstable.ensures.permutation w.1, w.2)) in
    let of : ((k : ℕ) × Contains c.args.numbers.items k × (l ≡ number_lost k c.args.why)) → Contains c.loop-n.losses l =
    λ w. subst (λ (z : List Loss). Contains z l) (sym e)
    (lost_of c.args.why (dedup eqb ms) l w.0 (still_of c.args.why c.args.numbers.items ms w.0 c.sort_unstable.ensures.permutation w.1) w.2) in
    (from, of)
