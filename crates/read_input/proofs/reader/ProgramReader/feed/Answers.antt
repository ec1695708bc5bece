use Rattle.std.proofs.Common.{◌≡◌, ◌+◌, ◌-◌, ◌++◌, length, take, drop, refl, sym, ap, ◌∙◌, arith, rules}
use Rattle.std.proofs.lemmas.List.{take_rest, length-drop}
use Rattle.std.proofs.lemmas.Result.{on_ok_weaker}
use Rattle.read_input.specs.declared.reader.ProgramReader.{ProgramReader}
use Rattle.read_input.proofs.Reading.{passed-none, passed-more, passed-open, passed-refused}
use Rattle.read_input.proofs.reader.ProgramReader.feed.Goals as goal

pub loop-rest-init : goal.loop-rest-init
loop-rest-init c = record { counted = omega arith; reading = passed-none c.args.self.now c.args.bytes.now }

pub loop-rest-preserved : goal.loop-rest-preserved
loop-rest-preserved c =
    let l = c.loop-rest in
    let rest = l.rest.now in
    let end = c.in-Some.end in
    let left : length (take (length rest - (end + 1)) (drop (end + 1) rest)) ≡ length rest - (end + 1) =
    ap length (take_rest rest (end + 1)) ∙ length-drop (end + 1) rest in
    let held : ProgramReader = record l.self { line = l.self.line ++ take end rest } in
    record {
      counted = omega (arith, l.invariant.counted, c.in_ok-end_line.ensures.lines, c.in-Some.ensures.within, left);
      reading = λ linked front reading. passed-more c.args.self.now l.self c.args.bytes.now rest l.invariant.reading linked front reading held
          c.end_line.new.self end (sym c.in-Some.is ∙ c.line_feed.ensures.place) refl refl (c.in_ok-end_line.ensures.reading linked);
    }

pub returns-in_default-clause-reading : goal.returns-in_default-clause-reading
returns-in_default-clause-reading c =
    let l = c.loop-rest in
    let held : ProgramReader = record l.self { line = c.extend_from_slice.new.self } in
    on_ok_weaker c.extend_from_slice.result (λ more linked front reading. passed-open c.args.self.now l.self c.args.bytes.now l.rest.now l.invariant.reading
    linked front
    reading held (sym c.in_default.is ∙ c.line_feed.ensures.place) refl more) c.extend_from_slice.ensures.ok

pub returns-clause-reading : goal.returns-clause-reading
returns-clause-reading c = λ linked front reading.
    let l = c.loop-rest in
    passed-refused c.args.self.now l.self c.args.bytes.now l.rest.now l.invariant.reading linked front reading (search rules)
