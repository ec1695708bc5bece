use Rattle.std.proofs.Common.{◌≡◌, ◌∷◌, ◌++◌, [], List, map, take, drop, ap, ◌∙◌}
use Rattle.std.proofs.lemmas.List.{drop_all}
use Rattle.dwarf_line_table.proofs.Split.{split_at}
use Rattle.prologue_rows.specs.declared.words.SourceWord.{SourceWord}
use Rattle.prologue_rows.specs.Words.{at_line}
use Rattle.prologue_rows.specs.Lines.{with_line, head_len, body_of}
use Rattle.prologue_rows.proofs.Steps.{map_next, map_done}
use Rattle.prologue_rows.proofs.lines.lines_of.Goals as goal

pub loop-word-init : goal.loop-word-init
loop-word-init c =
    ap (λ (ls : List SourceWord). ls ++ map (with_line c.args.own.now) c.before-front.result.now)
    (c.in_ok-push.ensures.ok ∙ (λ i. c.new-lines.ensures i ++ c.at_line.ensures i ∷ []))

pub loop-word-preserved : goal.loop-word-preserved
loop-word-preserved c =
    map_next (with_line c.args.own.now) _ _ _ _ _ _ _
    (split_at _ c.loop-word.word-index c.word-item.result c.loop-word-test.true c.word-item.is) c.at_line-in-loop-word.ensures c.in_ok-push-2.ensures.ok c.loop-word.invariant

pub returns : goal.returns
returns c =
    let own = c.args.own.now in
    let words = c.args.words.now in
    let own_at : SourceWord = at_line c.args.base 0 own in
    let whole = map_done (with_line own) _ _ _ (drop_all c.loop-word.word-index c.before-front.result.now c.loop-word-test.false) c.loop-word.invariant in
    let body : c.behind-body.result.now ≡ body_of words = c.behind-body.ensures ∙ ap (λ n. drop n words) c.prologue_len.ensures.value in
    let count : c.head_len-head.result ≡ head_len (body_of words) = c.head_len-head.ensures.value ∙ ap head_len body in
    let front : c.before-front.result.now ≡ take (head_len (body_of words)) (body_of words) = c.before-front.ensures ∙ (λ i. take (count i) (body i)) in
    let rest : c.behind.result.now ≡ drop (head_len (body_of words)) (body_of words) = c.behind.ensures ∙ (λ i. drop (count i) (body i)) in
    c.in_ok-extend_from_slice.ensures.ok ∙ ap (λ (ls : List SourceWord). ls ++ c.behind.result.now) whole
    ∙ (λ i. own_at ∷ map (with_line own) (front i) ++ rest i)
