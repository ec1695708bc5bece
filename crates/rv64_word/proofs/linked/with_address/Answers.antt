use Rattle.std.proofs.Common.{ℕ, ap, ◌∙◌}
use Rattle.rv64_instr.specs.Linked.{addresses_in, half_immediate}
use Rattle.rv64_instr.specs.LocationEffects.{part_named}
use Rattle.rv64_instr.specs.Row.{row_of}
use Rattle.rv64_instr.specs.View.{class_of}
use Rattle.rv64_word.specs.Linked.{part_format, with_immediate}
use Rattle.rv64_word.proofs.Linking.{named_word, no_half}
use Rattle.rv64_word.proofs.linked.with_address.Goals as goal

pub returns-in-Some : goal.returns-in-Some
returns-in-Some c = λ named.
    let row = row_of c.args.i.now in
    let half = c.in-Some.half in
    c.with_half.ensures row c.decoded.ensures.row
    ∙ ap (λ (a : ℕ). with_immediate (part_format half (class_of row)) (half_immediate half a) c.args.word) c.linked_address.ensures
    ∙ named_word (addresses_in c.args.symbols.now) (class_of row) (part_named row) half c.args.address.now c.args.word c.in-Some.ensures named

pub returns-in-None : goal.returns-in-None
returns-in-None c = λ named.
    let row = row_of c.args.i.now in
    no_half (addresses_in c.args.symbols.now) (class_of row) (part_named row) c.args.address.now c.args.word c.in-None.ensures named
