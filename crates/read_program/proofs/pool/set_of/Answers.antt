use Rattle.std.proofs.Common.{◌≡◌, ℕ, ◌+◌, List, nat_eq, get_or, take, sym, ap, subst, rules}
use Rattle.std.specs.List.{list_any}
use Rattle.mir_pool.specs.declared.constant.IntegerType.TheVariants.{Bits8}
use Rattle.mir_pool.specs.declared.constant.PoolConstant.{PoolConstant}
use Rattle.mir_pool.specs.Pool.{constant_ids}
use Rattle.read_body.specs.FirstUseOrder.{is_met, met}
use Rattle.read_program.proofs.ConstantSets.{set_more, set_all}
use Rattle.read_program.proofs.pool.set_of.Goals as goal

pub loop-constant-init : goal.loop-constant-init
loop-constant-init c = λ n. ap (is_met n) c.new-set.ensures

pub loop-constant-preserved : goal.loop-constant-preserved
loop-constant-preserved c =
    let constants : List PoolConstant = c.args.constants.now in
    let k = c.loop-constant.constant-index in
    let none : PoolConstant = record { id = 0; integer = Bits8; value = 0; alignment = 0 } in
    let after : c.meet.new.self ≡ met (get_or constants k none).id c.loop-constant.set = search rules in
    subst (λ (set : List ℕ). (n : ℕ) → is_met n set ≡ list_any (nat_eq n) (constant_ids (take (k + 1) constants))) (sym after)
    (set_more constants c.loop-constant.set k none c.loop-constant-test.true c.loop-constant.invariant)

pub returns : goal.returns
returns c = set_all c.args.constants.now c.loop-constant.set c.loop-constant.constant-index c.loop-constant-test.false c.loop-constant.invariant
