use Rattle.std.proofs.Common.{sym}
use Rattle.rv64_instr.specs.Linked.{addresses_in}
use Rattle.rv64_instr.specs.LocationEffects.{part_named}
use Rattle.rv64_instr.specs.Row.{row_of}
use Rattle.rv64_instr.specs.View.{class_of}
use Rattle.rv64_word.proofs.Linking.{unnamed_word}
use Rattle.rv64_word.proofs.linked.linked_word.Goals as goal

pub returns-in-Some : goal.returns-in-Some
returns-in-Some c = c.with_address.ensures (sym c.in-Some.ensures)

pub returns-in-None : goal.returns-in-None
returns-in-None c =
    let row = row_of c.args.i.now in
    unnamed_word (addresses_in c.args.symbols.now) (class_of row) (part_named row) c.args.word c.in-None.ensures
