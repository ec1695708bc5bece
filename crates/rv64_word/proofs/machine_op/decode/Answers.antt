use Rattle.std.proofs.Common.{◌∙◌}
use Rattle.rv64_word.proofs.Decoding.{is_decoded, decoded_back}
use Rattle.rv64_word.proofs.machine_op.decode.Goals as goal

pub returns-clause-found : goal.returns-clause-found
returns-clause-found c = rw c.by_listing.ensures (decoded_back c.args.word c.ranges.word.fits)

pub returns-clause-only : goal.returns-clause-only
returns-clause-only c = λ m fits e. c.by_listing.ensures ∙ is_decoded m c.args.word fits e
