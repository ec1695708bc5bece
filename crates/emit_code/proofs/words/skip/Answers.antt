use Rattle.std.proofs.Common.{Some, ◌∙◌, ap, sym, subst}
use Rattle.std.specs.Prelude.{IsTrue}
use Rattle.rv64_word.specs.declared.word_op.WordOp.{WordOp}
use Rattle.rv64_word.specs.MachineOp.{is_encodable}
use Rattle.emit_code.proofs.Emitting.{skip_some, inverted_format}
use Rattle.emit_code.proofs.words.skip.Goals as goal

pub returns : goal.returns
returns c =
    let m = c.in_ok-operation.operation in
    record {
      value = ap (λ (op : WordOp). Some (record m { op = op })) c.inverted_op-operation.ensures ∙ skip_some c.args.i.now m c.in_ok-operation.ensures.value;
      encodable = subst IsTrue (sym (ap (λ (op : WordOp). is_encodable (record m { op = op })) c.inverted_op-operation.ensures ∙
          inverted_format m)) c.in_ok-operation.ensures.encodable;
    }
