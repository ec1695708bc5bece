use Rattle.std.proofs.Common.{◌≡◌, ◌↔◌, List, ℕ, nat_eq, IsTrue, subst, arith}
use Rattle.mir_func.specs.Sound.{AreApart}
use Rattle.mir_func.proofs.Apart.{apart_by_size}
use Rattle.mir_func.proofs.number_set.Numbers.are_apart.Goals as goal

pub returns : goal.returns
returns c =
    let same : c.self.inside.list.items ≡ c.args.self.now = cc in
    subst (λ (xs : List ℕ). IsTrue (nat_eq c.len.result c.len-2.result) ↔ AreApart xs) same
    (apart_by_size c.self.inside.list.items c.self.inside.set c.len.result c.len-2.result c.self.invariant c.len.ensures.len (omega arith))
