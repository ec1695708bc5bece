use Rattle.std.proofs.Common.{rules}
use Rattle.std.proofs.lemmas.Iterator.{YieldsList-from_map}
use Rattle.std.proofs.lemmas.Iterator.Adapters.{YieldsList-from_rev_slice, fact_from_collect}
use Rattle.std.proofs.lemmas.Iterator.Consumers.{YieldsList-at}
use Rattle.std.proofs.lemmas.Result.{IfOk-weaker}
use Rattle.mir_func.specs.Objects.{offset_of}
use Rattle.sem_interpreter.specs.Places.{ObjectsHold}
use Rattle.sem_interpreter.proofs.Laying.{offset_pair, offsets_found}
use Rattle.sem_interpreter.proofs.objects.offsets_of.Goals as goal

pub returns : goal.returns
returns c =
    let made = fact_from_collect _ c.collect.result c.collect.ensures.ran
    (YieldsList-from_map _ offset_pair (YieldsList-at c.map.ensures.source
    (YieldsList-from_rev_slice c.args.objects.now (rw c.rev.ensures.source c.iter.ensures.rest))) c.map.ensures.closure (λ x r q k. search rules)) in
    IfOk-weaker c.collect.result _ (λ m. ObjectsHold m.entries (offset_of c.args.objects.now))
    (λ m h n. offsets_found c.args.objects.now m.entries h.1.0 n) made
