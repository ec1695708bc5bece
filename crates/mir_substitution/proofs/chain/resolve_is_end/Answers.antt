use Rattle.mir_substitution.proofs.Chains.{resolve_ends, ends_resolve}
use Rattle.mir_substitution.proofs.chain.resolve_is_end.Goals as goal

pub returns : goal.returns
returns c = λ subs q r. (resolve_ends subs q r, ends_resolve subs q r)
