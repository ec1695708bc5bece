use Rattle.std.proofs.Common.{sym, None}
use Rattle.dwarf_unit.proofs.Keys.{key_known, keys_are}
use Rattle.dwarf_unit.proofs.variables.Known.add.Goals as goal

pub returns : goal.returns
returns c =
    key_known _ keys_are _ _ _ _ c.args.v.now (sym c.self.view_is) c.in_ok-insert_full.ensures.keys
    (λ i. record { node = c.number.ensures i; inlined_at = c.number-2.ensures i; fragment = None })
