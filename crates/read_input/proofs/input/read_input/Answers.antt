use Rattle.std.proofs.Common.{◌≡◌, ℕ, ◌+◌, ◌<◌, ◌≤◌, List, length, take, All, Option, refl, sym, ap, subst, ◌∙◌, arith, rules}
use Rattle.std.proofs.lemmas.List.{length-take-le}
use Rattle.std.proofs.lemmas.Result.{err_from_is_err_and}
use Rattle.base_io.specs.Faults.{CountRose}
use Rattle.base_io.specs.Told.{Takes, TakesAtMost}
use Rattle.read_input.proofs.Pieces.{front-none, front-more, front-whole, front-within, front-most, front-too_long}
use Rattle.read_input.proofs.input.read_input.Goals as goal

pub loop-taken-init : goal.loop-taken-init
loop-taken-init g c = record {
  steady = refl;
  within = omega arith;
  lines = omega (arith, c.new-reader.ensures.lines);
  front = front-none c.args.linked (g.S.Source.left c.args.input.now) c.new-reader.result c.new-reader.ensures.reading;
}

pub loop-taken-preserved : goal.loop-taken-preserved
loop-taken-preserved g c =
    let l = c.loop-taken in
    let piece = c.in_ok-count.ensures in
    let count = c.in_ok-count.count in
    let chunk = c.as_slice.result.now in
    let same : chunk ≡ c.read_piece.new.chunk.items = c.as_slice.ensures.value in
    let room : length c.resize.new.self.items ≡ c.piece_size.result = search rules in
    let within : count ≤ length chunk = omega (arith, piece.within, ap length same) in
    let long : length (take count chunk) ≡ count = length-take-le count chunk within in
    let bytes : All (λ b. b < 256) chunk = subst (All (λ b. b < 256)) (sym same) piece.bytes in
    let takes : Takes (g.S.Source.left l.input) (g.S.Source.left c.read_piece.new.input) (take count chunk) =
    subst (λ (xs : List ℕ). Takes (g.S.Source.left l.input) (g.S.Source.left c.read_piece.new.input) (take count xs)) (sym same) piece.takes in
    record {
      steady = piece.steady ∙ l.invariant.steady;
      within = omega (arith, piece.within, piece.length, room, c.piece_size.ensures.within);
      lines = omega (arith, c.in_ok-feed.ensures.lines, l.invariant.lines, long);
      front = front-more c.args.linked (g.S.Source.left c.args.input.now) (g.S.Source.left l.input) (g.S.Source.left c.read_piece.new.input) l.reader
          c.feed.new.self l.taken
          count chunk within bytes takes (c.in_ok-feed.ensures.reading c.args.linked) l.invariant.front;
    }

pub returns-then-count-eq0-clause-answers : goal.returns-then-count-eq0-clause-answers
returns-then-count-eq0-clause-answers g c =
    let l = c.loop-taken in
    front-whole c.args.linked (g.S.Source.left c.args.input.now) (g.S.Source.left c.read_piece.new.input) (g.S.Source.faults c.args.input.now)
    (g.S.Source.faults
    c.read_piece.new.input) c.args.limit l.taken l.reader c.finished.result (c.in_ok-count.ensures.end (search rules)) c.loop-taken-test.true
    (c.in_ok-count.ensures.steady ∙ l.invariant.steady) (c.finished.ensures c.args.linked) (search rules)

pub returns-clause-answers : goal.returns-clause-answers
returns-clause-answers g c =
    let l = c.loop-taken in (
      front-too_long c.args.linked (g.S.Source.left c.args.input.now) (g.S.Source.left l.input) l.reader l.taken (c.args.limit + 1) (omega (
        arith,
        l.invariant.within,
        c.loop-taken-test.false,
      )) l.invariant.front,
      l.invariant.steady,
    )

pub returns-in_err-resize-clause-answers : goal.returns-in_err-resize-clause-answers
returns-in_err-resize-clause-answers g c =
    let l = c.loop-taken in
    let gave = err_from_is_err_and c.from_residual.result c.from_residual.ensures.1 in
    rw (gave.1, gave.2) (front-within c.args.linked (g.S.Source.left c.args.input.now) (g.S.Source.left l.input) l.reader l.taken (c.args.limit + 1) l.invariant.within
    l.invariant.front)

pub returns-in_err-count-clause-answers : goal.returns-in_err-count-clause-answers
returns-in_err-count-clause-answers g c =
    let l = c.loop-taken in
    let piece = c.in_err-count.ensures in
    let before = g.S.Source.left c.args.input.now in
    let faults = g.S.Source.faults c.read_piece.new.input in
    let gave = err_from_is_err_and c.from_residual-in_err-count.result c.from_residual-in_err-count.ensures.1 in
    let within = front-within c.args.linked before (g.S.Source.left l.input) l.reader l.taken (c.args.limit + 1) l.invariant.within l.invariant.front in
    rw (gave.1, gave.2) (
      subst (λ (now : Option (List ℕ)). TakesAtMost before now (c.args.limit + 1)) (sym piece.kept) within,
      subst (λ (n : ℕ). CountRose n faults) l.invariant.steady piece.failed,
    )

pub returns-in_err-feed-clause-answers : goal.returns-in_err-feed-clause-answers
returns-in_err-feed-clause-answers g c =
    let l = c.loop-taken in
    let count = c.in_ok-count.count in
    let chunk = c.as_slice.result.now in
    let piece = c.in_ok-count.ensures in
    let before = g.S.Source.left c.args.input.now in
    let now = g.S.Source.left c.read_piece.new.input in
    let same : chunk ≡ c.read_piece.new.chunk.items = c.as_slice.ensures.value in
    let room : length c.resize.new.self.items ≡ c.piece_size.result = search rules in
    let within : count ≤ length chunk = omega (arith, piece.within, ap length same) in
    let fits : l.taken + count ≤ c.args.limit + 1 = omega (arith, piece.within, piece.length, room, c.piece_size.ensures.within) in
    let takes = subst (λ (xs : List ℕ). Takes (g.S.Source.left l.input) now (take count xs)) (sym same) piece.takes in
    let gave = err_from_is_err_and c.from_residual-in_err-feed.result c.from_residual-in_err-feed.ensures.1 in
    rw (gave.1, gave.2)
    (front-most c.args.linked before (g.S.Source.left l.input) now l.reader l.taken count (c.args.limit + 1) chunk within fits takes l.invariant.front)
