use Rattle.std.specs.Prelude.{All}
use Rattle.std.proofs.Common.{take}
use Rattle.object_command.specs.Object.{IsSymbolName}
use Rattle.object_command.proofs.names.are_sites_named.Given as goal

abbrev pub invariant-loop-site : goal.invariant-loop-site
invariant-loop-site l = All (λ c. IsSymbolName c.name) (take l.site-index l.sites)
