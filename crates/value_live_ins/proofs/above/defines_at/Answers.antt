use Rattle.std.proofs.Common.{get_or, arith}
use Rattle.std.proofs.lemmas.Option.{slice_get-get_or}
use Rattle.value_live_ins.proofs.above.defines_at.Goals as goal

pub returns : goal.returns
returns c = λ on. record {
  item = get_or c.args.items.now c.args.i c.index-items-i.result;
  stands = slice_get-get_or c.args.items.now c.args.i c.index-items-i.result (omega arith);
  defines = c.defines.ensures on;
}
