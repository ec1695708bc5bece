use Rattle.std.proofs.Common.{◌≡◌, ◌++◌, codes}
use Rattle.std.specs.Fmt.{decimal}
use Rattle.base_io.proofs.ToldLemmas.{Appends-more, AppendsPrefix-after, AppendsPrefix-longer}
use Rattle.tool_driver.proofs.Pieces.{on_err, err_to, ok_to, appends_same, prefix_same}
use Rattle.tool_driver.proofs.telling.write_number.Goals as goal

pub returns-in_err-write_all-clause-err : goal.returns-in_err-write_all-clause-err
returns-in_err-write_all-clause-err g c =
    on_err c.from_residual.result
    (AppendsPrefix-longer _ _ (codes "line ") (decimal c.args.number ++ codes ": ") c.in_err-write_all.ensures.err)

pub returns-in_err-write_all-2-clause-err : goal.returns-in_err-write_all-2-clause-err
returns-in_err-write_all-2-clause-err g c =
    let same : c.as_bytes.result.now ≡ decimal c.args.number = cc in
    on_err c.from_residual-in_err-write_all-2.result
    (AppendsPrefix-longer _ _ (codes "line " ++ decimal c.args.number) (codes ": ")
    (AppendsPrefix-after _ _ _ (codes "line ") (decimal c.args.number) c.in_ok-write_all.ensures.ok
    (prefix_same _ _ c.as_bytes.result.now (decimal c.args.number) same c.in_err-write_all-2.ensures.err)))

pub returns-clause-ok : goal.returns-clause-ok
returns-clause-ok g c =
    let same : c.as_bytes.result.now ≡ decimal c.args.number = cc in
    ok_to c.write_all-3.result
    (λ last. Appends-more _ _ _ (codes "line " ++ decimal c.args.number) (codes ": ")
    (Appends-more _ _ _ (codes "line ") (decimal c.args.number) c.in_ok-write_all.ensures.ok
    (appends_same _ _ c.as_bytes.result.now (decimal c.args.number) same c.in_ok-write_all-2.ensures.ok)) last)
    c.write_all-3.ensures.ok

pub returns-clause-err : goal.returns-clause-err
returns-clause-err g c =
    let same : c.as_bytes.result.now ≡ decimal c.args.number = cc in
    err_to c.write_all-3.result
    (λ last. AppendsPrefix-after _ _ _ (codes "line " ++ decimal c.args.number) (codes ": ")
    (Appends-more _ _ _ (codes "line ") (decimal c.args.number) c.in_ok-write_all.ensures.ok
    (appends_same _ _ c.as_bytes.result.now (decimal c.args.number) same c.in_ok-write_all-2.ensures.ok)) last)
    c.write_all-3.ensures.err
