use Rattle.std.proofs.Common.{subst}
use Rattle.pass_salvage.specs.declared.lookup.Lookup.{Lookup}
use Rattle.pass_salvage.specs.Lookup.{IsLookupOf}
use Rattle.pass_salvage.proofs.lookup.Lookup.last_definition.Goals as goal

pub returns-in-Index : goal.returns-in-Index
returns-in-Index c subs found =
    c.last_definition.ensures subs c.args.above.now (subst (λ (l : Lookup). IsLookupOf l subs c.args.above.now) c.in-Index.is found)

pub returns-in-Walk : goal.returns-in-Walk
returns-in-Walk c subs found = c.last_definition-in-Walk.ensures.found
