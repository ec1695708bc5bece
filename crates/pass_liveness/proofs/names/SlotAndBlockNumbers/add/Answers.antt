use Rattle.std.proofs.Common.{ℕ, ◌<◌, length, sym, arith}
use Rattle.std.proofs.lemmas.List.Elements.{All-push}
use Rattle.std.proofs.lemmas.Result.{on_ok_weaker}
use Rattle.pass_liveness.proofs.Indices.{index_is}
use Rattle.pass_liveness.proofs.names.SlotAndBlockNumbers.add.Goals as goal

pub overflow_cast-index : goal.overflow_cast-index
overflow_cast-index c = omega (arith, c.requires.few, (index_is c.args.self.now.blocks c.number.result c.in-Some.found (sym c.in-Some.ensures)).0)

pub returns-in-Some : goal.returns-in-Some
returns-in-Some c =
    let inside = (index_is c.args.self.now.blocks c.number.result c.in-Some.found (sym c.in-Some.ensures)).0 in
    on_ok_weaker c.push.result (λ e. rw e (All-push (λ (b : ℕ). b < length c.args.self.now.blocks) c.args.ways.now _ c.requires.blocks inside))
    c.push.ensures.ok
