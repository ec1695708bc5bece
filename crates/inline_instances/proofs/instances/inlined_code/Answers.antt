use Rattle.std.proofs.Common.{◌≡◌, ℕ, ◌+◌, ◌*◌, ◌<◌, ◌≤◌, List, length, get_or, None, arith, sym, ap, ◌∙◌, subst, IfSome}
use Rattle.mir_func.specs.Function.{Function}
use Rattle.mir_func.specs.declared.block.Block.{Block}
use Rattle.dwarf_line_table.specs.emit_code.declared.code.EncodedInstruction.{EncodedInstruction}
use Rattle.dwarf_line_table.specs.emit_code.Laid.{LaidCode, StandFrom}
use Rattle.dwarf_line_table.specs.Program.{function_end}
use Rattle.dwarf_line_table.specs.steps.DebugLocations.{AreDebugLocations}
use Rattle.dwarf_rnglists.specs.declared.range.AddressRange.{AddressRange}
use Rattle.inline_instances.specs.declared.instance.Instance.{Instance}
use Rattle.inline_instances.specs.Instances.{AreInstances}
use Rattle.inline_instances.specs.steps.Open.{AreAround, AreEarlier, IsGrown}
use Rattle.inline_instances.proofs.Marks.{no_marks}
use Rattle.inline_instances.proofs.SoFar.{are_earlier, index_within}
use Rattle.inline_instances.proofs.Walked.{walked_none, walked_more, walked_all, left_within}
use Rattle.inline_instances.proofs.instances.inlined_code.Goals as goal

pub loop-entry-init : goal.loop-entry-init
loop-entry-init c =
    let f = c.args.function.now in
    walked_none c.args.meta.now f.source.now.blocks f.code.now.entries f.code.now.base (function_end f) c.new-table.result c.new-ranges.result
    (subst (λ (code : LaidCode). StandFrom code.base code.entries (code.base + 4 * length code.words)) c.code.view_is c.code.invariant.stand)
    c.new-table.ensures.instances (no_marks c.args.meta.now c.new-table.result.marks c.new-table.ensures.marks)
    c.new-ranges.ensures.starts c.new-ranges.ensures.ranges

pub shift-requires-clause-earlier : goal.shift-requires-clause-earlier
shift-requires-clause-earlier c =
    let found = c.in_ok-reached.ensures c.loop-entry.invariant.so_far.table in
    subst AreEarlier (sym c.as_slice-in-loop-entry.ensures.value) (are_earlier c.args.meta.now c.innermost.new.self found.table)

pub shift-requires-clause-left : goal.shift-requires-clause-left
shift-requires-clause-left c =
    let s = c.loop-entry.invariant.so_far in
    subst (λ (is : List Instance). IfSome c.loop-entry.inside (λ k. k < length is)) (sym c.as_slice-in-loop-entry.ensures.value)
    (left_within c.args.meta.now _ _ _ c.loop-entry.table c.innermost.new.self c.loop-entry.ranges c.loop-entry.inside c.in_ok-reached.reached
    c.loc-loc.result s
    (c.in_ok-reached.ensures s.table))

pub shift-requires-clause-entered : goal.shift-requires-clause-entered
shift-requires-clause-entered c =
    let found = c.in_ok-reached.ensures c.loop-entry.invariant.so_far.table in
    subst (λ (is : List Instance). IfSome c.in_ok-reached.reached (λ k. k < length is)) (sym c.as_slice-in-loop-entry.ensures.value)
    (index_within c.args.meta.now c.innermost.new.self found.table c.in_ok-reached.reached found.from found.index)

pub loop-entry-preserved : goal.loop-entry-preserved
loop-entry-preserved c =
    let f = c.args.function.now in
    let blocks = f.source.now.blocks in
    let entries = f.code.now.entries in
    let index = c.loop-entry.entry-index in
    let e = c.entry-item.result in
    let same : c.as_slice-entry-items.result.now ≡ entries =
    c.as_slice-entry-items.ensures ∙ ap (λ (code : LaidCode). code.entries) c.code.view_is in
    let own : c.as_slice.result.now ≡ blocks = c.as_slice.ensures ∙ ap (λ (g : Function). g.blocks) c.source.view_is in
    let next = c.innermost.new.self in
    let size : next.instances.len ≡ length next.instances.items = omega (arith, next.instances.ok.0) in
    walked_more c.args.meta.now blocks entries (function_end f) index c.loop-entry.table next c.loop-entry.ranges c.grow.new.self c.shift.new.self
    c.loop-entry.inside c.in_ok-reached.reached e c.loc-loc.result c.loop-entry.invariant
    (subst (λ (es : List EncodedInstruction). index < length es) same c.loop-entry-test.true)
    (subst (λ (es : List EncodedInstruction). e ≡ get_or es index e) same c.entry-item.is)
    (c.in_ok-reached.ensures c.loop-entry.invariant.so_far.table)
    (c.loc-loc.ensures blocks (subst (λ (bs : List Block). AreDebugLocations bs c.in_ok-places.places) own c.in_ok-places.ensures))
    (subst (λ (n : ℕ). IsGrown n c.loop-entry.ranges c.grow.new.self) (c.len.ensures ∙ size) c.in_ok-grow.ensures)
    (λ ks js is also.
    c.in_ok-shift.ensures ks js
    (subst (λ (these : List Instance). AreAround these c.loop-entry.inside ks) (sym c.as_slice-in-loop-entry.ensures.value) is)
    (subst (λ (these : List Instance). AreAround these c.in_ok-reached.reached js) (sym c.as_slice-in-loop-entry.ensures.value) also))

pub shift-requires-2-clause-earlier : goal.shift-requires-2-clause-earlier
shift-requires-2-clause-earlier c =
    subst AreEarlier (sym c.as_slice-2.ensures.value) (are_earlier c.args.meta.now c.loop-entry.table c.loop-entry.invariant.so_far.table)

pub shift-requires-2-clause-left : goal.shift-requires-2-clause-left
shift-requires-2-clause-left c =
    let s = c.loop-entry.invariant.so_far in
    subst (λ (is : List Instance). IfSome c.loop-entry.inside (λ k. k < length is)) (sym c.as_slice-2.ensures.value)
    (index_within c.args.meta.now c.loop-entry.table s.table c.loop-entry.inside s.from s.index)

pub returns : goal.returns
returns c =
    let f = c.args.function.now in
    let meta = c.args.meta.now in
    let entries = f.code.now.entries in
    let index = c.loop-entry.entry-index in
    let t = c.loop-entry.table in
    let last = c.shift-2.new.self in
    let same : c.as_slice-entry-items.result.now ≡ entries =
    c.as_slice-entry-items.ensures ∙ ap (λ (code : LaidCode). code.entries) c.code.view_is in
    let is : AreInstances meta f (record { instances = t.instances.items; ranges = last.ranges.items }) =
    walked_all meta f (function_end f) index t c.loop-entry.ranges last c.loop-entry.inside c.loop-entry.invariant
    (subst (λ (es : List EncodedInstruction). length es ≤ index) same c.loop-entry-test.false) _
    (ap (λ (n : ℕ). c.code.inside.base + 4 * n) c.len-2.ensures ∙ ap (λ (code : LaidCode). code.base + 4 * length code.words) c.code.view_is)
    (λ ks js around also.
    c.in_ok-shift-2.ensures ks js
    (subst (λ (these : List Instance). AreAround these c.loop-entry.inside ks) (sym c.as_slice-2.ensures.value) around)
    (subst (λ (these : List Instance). AreAround these None js) (sym c.as_slice-2.ensures.value) also)) in
    subst (λ (rs : List (List AddressRange)). AreInstances meta f (record { instances = c.from.result; ranges = rs })) (sym c.from-2.ensures)
    (subst (λ (these : List Instance). AreInstances meta f (record { instances = these; ranges = last.ranges.items })) (sym c.from.ensures) is)
