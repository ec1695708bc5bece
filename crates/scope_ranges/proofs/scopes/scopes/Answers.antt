use Rattle.std.proofs.Common.{◌≡◌, ◌+◌, ◌*◌, ◌<◌, ◌≤◌, List, length, sym, ap, ◌∙◌, subst, arith, get_or, nat_cmp}
use Rattle.std.specs.BTreeSet.{contains}
use Rattle.mir_func.specs.declared.block.Block.{Block}
use Rattle.mir_func.specs.Function.{Function}
use Rattle.dwarf_line_table.specs.emit_code.declared.code.EncodedInstruction.{EncodedInstruction}
use Rattle.dwarf_line_table.specs.emit_code.Laid.{LaidCode, StandFrom}
use Rattle.dwarf_line_table.specs.emit_code.Counts.{MAX_BASE, MAX_WORDS}
use Rattle.dwarf_line_table.specs.Program.{function_end}
use Rattle.dwarf_line_table.specs.steps.DebugLocations.{AreDebugLocations}
use Rattle.scope_ways.specs.declared.scope.LexicalScope.{LexicalScope}
use Rattle.scope_ways.specs.Outer.{is_scope}
use Rattle.scope_ways.specs.Ways.{IsWayOf}
use Rattle.scope_ranges.specs.Scopes.{AreScopes}
use Rattle.scope_ranges.specs.steps.Entered.{places}
use Rattle.scope_ranges.proofs.Walked.{walked_none, walked_within, walked_more, walked_all}
use Rattle.scope_ranges.proofs.Steps.{entering_all}
use Rattle.scope_ranges.proofs.scopes.scopes.Goals as goal

pub loop-entry-init : goal.loop-entry-init
loop-entry-init c =
    let f = c.args.function.now in
    record {
      known = c.new-table.ensures.known ∙ sym (ap places c.new-table.ensures.scopes);
      walked =
          walked_none c.args.meta.now (contains nat_cmp c.args.files.now) f.source.now.blocks f.code.now.entries (function_end f) f.code.now.base
          c.new-table.result.scopes.items
          (subst (λ (code : LaidCode). StandFrom code.base code.entries (code.base + 4 * length code.words)) c.code.view_is c.code.invariant.stand)
          c.new-table.ensures.scopes;
    }

pub overflow_add-hi : goal.overflow_add-hi
overflow_add-hi c =
    let f = c.args.function.now in
    let entries = f.code.now.entries in
    let index = c.loop-entry.entry-index in
    let e = c.entry-item.result in
    let same : c.as_slice-entry-items.result.now ≡ entries =
    c.as_slice-entry-items.ensures ∙ ap (λ (code : LaidCode). code.entries) c.code.view_is in
    let low : f.code.now.base < MAX_BASE = subst (λ (code : LaidCode). code.base < MAX_BASE) c.code.view_is c.code.invariant.low in
    let few : length f.code.now.words < MAX_WORDS =
    subst (λ (code : LaidCode). length code.words < MAX_WORDS) c.code.view_is c.code.invariant.few in
    let within : e.address + e.size ≤ function_end f =
    walked_within c.args.meta.now (contains nat_cmp c.args.files.now) f.source.now.blocks entries (function_end f) index c.loop-entry.table.scopes.items
    c.loop-entry.invariant.walked e (subst (λ (es : List EncodedInstruction). index < length es) same c.loop-entry-test.true)
    (subst (λ (es : List EncodedInstruction). e ≡ get_or es index e) same c.entry-item.is) in
    omega (arith, within, low, few)

pub loop-entry-preserved : goal.loop-entry-preserved
loop-entry-preserved c =
    let f = c.args.function.now in
    let meta = c.args.meta.now in
    let blocks = f.source.now.blocks in
    let entries = f.code.now.entries in
    let index = c.loop-entry.entry-index in
    let e = c.entry-item.result in
    let same : c.as_slice-entry-items.result.now ≡ entries =
    c.as_slice-entry-items.ensures ∙ ap (λ (code : LaidCode). code.entries) c.code.view_is in
    let own : c.as_slice.result.now ≡ blocks = c.as_slice.ensures ∙ ap (λ (g : Function). g.blocks) c.source.view_is in
    record {
      known = c.in_ok-enter.ensures.known;
      walked =
          walked_more meta (contains nat_cmp c.args.files.now) blocks entries (function_end f) index c.loop-entry.table.scopes.items
          c.loop-entry.invariant.walked e
          (subst (λ (es : List EncodedInstruction). index < length es) same c.loop-entry-test.true)
          (subst (λ (es : List EncodedInstruction). e ≡ get_or es index e) same c.entry-item.is) c.enter.new.self.scopes.items c.in_ok-way.way.items
          c.loc-loc.result
          (c.loc-loc.ensures blocks (subst (λ (bs : List Block). AreDebugLocations bs c.in_ok-locs.locs) own c.in_ok-locs.ensures))
          (subst (λ (s : LexicalScope). IsWayOf meta s c.in_ok-way.way.items) c.scope_of_loc-scope.ensures c.in_ok-way.ensures)
          (entering_all (is_scope meta (contains nat_cmp c.args.files.now)) c.loop-entry.table.scopes.items c.in_ok-way.way.items e.address
          (e.address + e.size) c.enter.new.self.scopes.items c.in_ok-enter.field-0 c.in_ok-enter.ensures.scopes);
    }

pub returns : goal.returns
returns c =
    let f = c.args.function.now in
    let meta = c.args.meta.now in
    let entries = f.code.now.entries in
    let same : c.as_slice-entry-items.result.now ≡ entries =
    c.as_slice-entry-items.ensures ∙ ap (λ (code : LaidCode). code.entries) c.code.view_is in
    subst (AreScopes meta (contains nat_cmp c.args.files.now) f) (sym c.from.ensures)
    (walked_all meta (contains nat_cmp c.args.files.now) f (function_end f) c.loop-entry.entry-index c.loop-entry.table.scopes.items
    c.loop-entry.invariant.walked (subst (λ (es : List EncodedInstruction). length es ≤ c.loop-entry.entry-index) same c.loop-entry-test.false)
    (subst (λ (code : LaidCode). StandFrom code.base code.entries (code.base + 4 * length code.words)) c.code.view_is c.code.invariant.stand))
