use Rattle.std.proofs.Common.{ap, sym, ◌∙◌}
use Rattle.dwarf_base.specs.Leb.{unsigned_value, signed_value}
use Rattle.dwarf_base.proofs.LebLaws.{no_prefix, uleb_law, sleb_law}
use Rattle.dwarf_base.proofs.leb.one_spelling.Goals as goal

pub returns-clause-whole : goal.returns-clause-whole
returns-clause-whole c = no_prefix

pub returns-clause-unsigned : goal.returns-clause-unsigned
returns-clause-unsigned c = λ m n e. sym (uleb_law m).1 ∙ ap unsigned_value e ∙ (uleb_law n).1

pub returns-clause-signed : goal.returns-clause-signed
returns-clause-signed c = λ v w e. sym (sleb_law v).1 ∙ ap signed_value e ∙ (sleb_law w).1
