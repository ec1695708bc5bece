use Rattle.std.proofs.Common.{◌≡◌, ◌↔◌, List, ℕ, IsTrue, subst}
use Rattle.std.specs.Prelude.{Contains}
use Rattle.mir_func.proofs.Apart.{set_has}
use Rattle.mir_func.proofs.number_set.Numbers.contains.Goals as goal

pub returns : goal.returns
returns c =
    let same : c.self.inside.list.items ≡ c.args.self.now = cc in
    let here : IsTrue c.contains.result ↔ Contains c.self.inside.list.items c.args.n =
    rw c.contains.ensures (set_has c.self.inside.list.items c.self.inside.set c.args.n c.self.invariant) in
    subst (λ (xs : List ℕ). IsTrue c.contains.result ↔ Contains xs c.args.n) same here
