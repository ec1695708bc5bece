use Rattle.std.proofs.Common.{◌≡◌, ℕ, List, Some, None, ◌∙◌, sym, ap}
use Rattle.std.specs.Prelude.{slice_index}
use Rattle.std.specs.Ordering.{nat_cmp}
use Rattle.std.specs.BTreeMap.{get}
use Rattle.mir_func.specs.SoundFrame.{body_of}
use Rattle.emit_code.specs.steps.Places.{index_in}
use Rattle.emit_code.proofs.Tables.{first_found, first_missing}
use Rattle.emit_code.proofs.table.Table.first_of.Goals as goal

pub returns-in-Some : goal.returns-in-Some
returns-in-Some c = λ blocks t.
    let got : index_in 1 (body_of blocks) c.args.block ≡ Some c.in-Some.index.now =
    sym (t.indices c.args.block) ∙ ap (λ (n : ℕ). get nat_cmp c.args.self.now.indices n) (sym c.number.ensures) ∙ sym c.in-Some.ensures.value in
    c.first.ensures ∙ ap (λ (fs : List ℕ). slice_index fs c.in-Some.index.now) t.firsts ∙ first_found blocks c.args.block c.in-Some.index.now got

pub returns-in-None : goal.returns-in-None
returns-in-None c = λ blocks t.
    let got : index_in 1 (body_of blocks) c.args.block ≡ None =
    sym (t.indices c.args.block) ∙ ap (λ (n : ℕ). get nat_cmp c.args.self.now.indices n) (sym c.number.ensures) ∙ sym c.in-None.ensures.value in
    t.count ∙ first_missing blocks c.args.block got
