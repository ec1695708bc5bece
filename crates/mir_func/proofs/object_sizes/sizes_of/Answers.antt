use Rattle.std.proofs.Common.{rules, ◌∙◌}
use Rattle.std.specs.Ordering.{nat_cmp}
use Rattle.std.specs.BTreeMap.{IsFromIterResult}
use Rattle.std.proofs.lemmas.Iterator.{YieldsList-from_map}
use Rattle.std.proofs.lemmas.Iterator.Adapters.{YieldsList-from_rev_slice, fact_from_collect}
use Rattle.std.proofs.lemmas.Iterator.Consumers.{YieldsList-at}
use Rattle.std.proofs.lemmas.Result.{IfOk-weaker}
use Rattle.mir_func.specs.steps.Checks.{AreSizes}
use Rattle.mir_func.proofs.Laid.{size_pair, sizes_found}
use Rattle.mir_func.proofs.object_sizes.sizes_of.Goals as goal

pub returns : goal.returns
returns c =
    let made = fact_from_collect (IsFromIterResult nat_cmp) c.collect.result c.collect.ensures.ran
    (YieldsList-from_map _ size_pair (YieldsList-at c.map.ensures.source
    (YieldsList-from_rev_slice c.args.objects.now (rw c.rev.ensures.source c.iter.ensures.rest))) c.map.ensures.closure (λ x r q k. search rules)) in
    IfOk-weaker c.collect.result _ (AreSizes c.args.objects.now) (λ m h q. h.0 q ∙ sizes_found c.args.objects.now q) made
