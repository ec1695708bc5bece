use Rattle.std.proofs.Common.{◌≡◌, ℕ, Option, get_or, sym, ap, ◌∙◌, nat_eq, cond, Some, true, false}
use Rattle.std.specs.HashMap.{get}
use Rattle.std.specs.Option.{is_some}
use Rattle.pass_liveness.proofs.Indices.{index_turn_new, index_turn_known}
use Rattle.pass_liveness.proofs.index.first_places.Goals as goal
use Rattle.pass_liveness.proofs.index.first_places.Goals.{then-not-contains_key+in_ok-insert, else-not-contains_key}

pub loop-i-preserved : goal.loop-i-preserved
loop-i-preserved c = λ n.
    let list = c.args.list.now in
    let i = c.loop-i.i in
    let here = c.loop-i.invariant (get_or list i 0) in
    let before = c.loop-i.invariant n in
    elim c.if-not-contains_key.branch [
      | then-not-contains_key+in_ok-insert w ↦
          let absent : is_some (get nat_eq c.loop-i.found (get_or list i 0)) ≡ false = sym c.contains_key.ensures ∙ w.if-not-contains_key.true in
          ap (λ m. get nat_eq m n) w.found-is ∙ (w.in_ok-insert.ensures.updates.0 n
          ∙ (ap (λ (o : Option ℕ). cond (nat_eq (get_or list i 0) n) (Some i) o) before
          ∙ sym (index_turn_new list i n (get nat_eq c.loop-i.found (get_or list i 0)) c.loop-i-test.true here absent)))
      | else-not-contains_key w ↦
          let known : is_some (get nat_eq c.loop-i.found (get_or list i 0)) ≡ true = sym c.contains_key.ensures ∙ w.if-not-contains_key.false in
          ap (λ m. get nat_eq m n) w.found-is ∙ (before
          ∙ sym (index_turn_known list i n (get nat_eq c.loop-i.found (get_or list i 0)) c.loop-i-test.true here known))
    ]
