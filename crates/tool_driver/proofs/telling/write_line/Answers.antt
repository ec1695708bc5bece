use Rattle.std.proofs.Common.{◌≡◌, [], ◌∷◌, ◌++◌, codes}
use Rattle.base_io.proofs.ToldLemmas.{Appends-more, AppendsPrefix-after, AppendsPrefix-longer}
use Rattle.cli.specs.Fault.{input_line, name_of, place_text, line_of}
use Rattle.tool_driver.proofs.Pieces.{on_err, err_to, ok_to, appends_same, prefix_same}
use Rattle.tool_driver.proofs.telling.write_line.Goals as goal

pub returns-in_err-write_all-clause-err : goal.returns-in_err-write_all-clause-err
unfolding line_of
returns-in_err-write_all-clause-err g c =
    let f = c.args.fault in
    on_err c.from_residual.result
    (AppendsPrefix-longer _ _ (codes "mirdwarf: " ++ place_text (input_line f) ++ name_of f) (10 ∷ [])
    (AppendsPrefix-longer _ _ (codes "mirdwarf: " ++ place_text (input_line f)) (name_of f)
    (AppendsPrefix-longer _ _ (codes "mirdwarf: ") (place_text (input_line f)) c.in_err-write_all.ensures.err)))

pub returns-in_err-write_place-clause-err : goal.returns-in_err-write_place-clause-err
unfolding line_of
returns-in_err-write_place-clause-err g c =
    let f = c.args.fault in
    let place : place_text c.input_line.result ≡ place_text (input_line f) = cc in
    on_err c.from_residual-in_err-write_place.result
    (AppendsPrefix-longer _ _ (codes "mirdwarf: " ++ place_text (input_line f) ++ name_of f) (10 ∷ [])
    (AppendsPrefix-longer _ _ (codes "mirdwarf: " ++ place_text (input_line f)) (name_of f)
    (AppendsPrefix-after _ _ _ (codes "mirdwarf: ") (place_text (input_line f)) c.in_ok-write_all.ensures.ok
    (prefix_same _ _ (place_text c.input_line.result) (place_text (input_line f)) place c.in_err-write_place.ensures.err))))

pub returns-in_err-write_all-2-clause-err : goal.returns-in_err-write_all-2-clause-err
unfolding line_of
returns-in_err-write_all-2-clause-err g c =
    let f = c.args.fault in
    let place : place_text c.input_line.result ≡ place_text (input_line f) = cc in
    let name : c.as_bytes.result.now ≡ name_of f = cc in
    on_err c.from_residual-in_err-write_all-2.result
    (AppendsPrefix-longer _ _ (codes "mirdwarf: " ++ place_text (input_line f) ++ name_of f) (10 ∷ [])
    (AppendsPrefix-after _ _ _ (codes "mirdwarf: " ++ place_text (input_line f)) (name_of f)
    (Appends-more _ _ _ (codes "mirdwarf: ") (place_text (input_line f)) c.in_ok-write_all.ensures.ok
    (appends_same _ _ (place_text c.input_line.result) (place_text (input_line f)) place c.in_ok-write_place.ensures.ok))
    (prefix_same _ _ c.as_bytes.result.now (name_of f) name c.in_err-write_all-2.ensures.err)))

pub returns-clause-ok : goal.returns-clause-ok
unfolding line_of
returns-clause-ok g c =
    let f = c.args.fault in
    let place : place_text c.input_line.result ≡ place_text (input_line f) = cc in
    let name : c.as_bytes.result.now ≡ name_of f = cc in
    ok_to c.write_all-3.result
    (λ last. Appends-more _ _ _ (codes "mirdwarf: " ++ place_text (input_line f) ++ name_of f) (10 ∷ [])
    (Appends-more _ _ _ (codes "mirdwarf: " ++ place_text (input_line f)) (name_of f)
    (Appends-more _ _ _ (codes "mirdwarf: ") (place_text (input_line f)) c.in_ok-write_all.ensures.ok
    (appends_same _ _ (place_text c.input_line.result) (place_text (input_line f)) place c.in_ok-write_place.ensures.ok))
    (appends_same _ _ c.as_bytes.result.now (name_of f) name c.in_ok-write_all-2.ensures.ok)) last)
    c.write_all-3.ensures.ok

pub returns-clause-err : goal.returns-clause-err
unfolding line_of
returns-clause-err g c =
    let f = c.args.fault in
    let place : place_text c.input_line.result ≡ place_text (input_line f) = cc in
    let name : c.as_bytes.result.now ≡ name_of f = cc in
    err_to c.write_all-3.result
    (λ last. AppendsPrefix-after _ _ _ (codes "mirdwarf: " ++ place_text (input_line f) ++ name_of f) (10 ∷ [])
    (Appends-more _ _ _ (codes "mirdwarf: " ++ place_text (input_line f)) (name_of f)
    (Appends-more _ _ _ (codes "mirdwarf: ") (place_text (input_line f)) c.in_ok-write_all.ensures.ok
    (appends_same _ _ (place_text c.input_line.result) (place_text (input_line f)) place c.in_ok-write_place.ensures.ok))
    (appends_same _ _ c.as_bytes.result.now (name_of f) name c.in_ok-write_all-2.ensures.ok)) last)
    c.write_all-3.ensures.err
