use Rattle.std.proofs.Common.{sym}
use Rattle.dwarf_frame.proofs.Sections.{common_is}
use Rattle.dwarf_frame.proofs.size.common_len.Goals as goal

pub returns : goal.returns
returns c = sym (common_is c.args.undefined.now)
