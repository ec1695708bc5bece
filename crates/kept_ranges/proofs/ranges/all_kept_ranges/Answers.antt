use Rattle.std.proofs.Common.{ℕ, ◌+◌, ◌*◌, ◌<◌, ◌^◌, List, length, sym, ◌∙◌, subst}
use Rattle.std.specs.Prelude.{All}
use Rattle.mir_func.specs.declared.block.Block.{Block}
use Rattle.mir_func.specs.declared.variable.VarId.{VarId}
use Rattle.mir_func.specs.Graph.{block_start}
use Rattle.emit_code.specs.declared.code.EncodedInstruction.{EncodedInstruction}
use Rattle.emit_code.specs.Laid.{StandFrom}
use Rattle.location_of_variable.specs.declared.group.Group.{Group}
use Rattle.location_of_variable.specs.Groups.{AreGroupsOf}
use Rattle.location_ranges.specs.Stands.{program, AreValuesOf}
use Rattle.location_ranges.specs.steps.Saying.{Closes}
use Rattle.location_ranges.specs.steps.Walk.{IsPointIn}
use Rattle.kept_ranges.specs.Lists.{AreKeptListsOf}
use Rattle.kept_ranges.proofs.Telling.{have_told_none, lists_are, lists_ascend}
use Rattle.kept_ranges.proofs.ranges.all_kept_ranges.Goals as goal

pub past_entries-requires-clause-points : goal.past_entries-requires-clause-points
past_entries-requires-clause-points c =
    subst (λ (es : List EncodedInstruction). All (IsPointIn c.blocks_of.result.now) es) (sym c.entries_of.ensures.entries)
    (subst (λ (bs : List Block). All (IsPointIn bs) c.args.code.now.entries) (sym c.blocks_of.ensures) c.entries_of.ensures.points)

pub past_entries-requires-clause-low : goal.past_entries-requires-clause-low
past_entries-requires-clause-low c =
    subst (λ (es : List EncodedInstruction). All (λ (e : EncodedInstruction). e.address < 2 ^ 63) es) (sym c.entries_of.ensures.entries)
    c.entries_of.ensures.low

pub returns-clause-exact : goal.returns-clause-exact
returns-clause-exact c = λ are.
    let code = c.args.code.now in
    let v = c.args.values.now in
    let variables = c.args.variables.now in
    let base = code.base in
    let end = code.base + 4 * length code.words in
    let blocks = c.blocks_of.result.now in
    let entries = c.entries_of.result.now in
    let stand = subst (λ (es : List EncodedInstruction). StandFrom base es end) (sym c.entries_of.ensures.entries) c.entries_of.ensures.stand in
    let groups = subst (λ (gs : List Group). AreGroupsOf v.variables.now variables gs) (sym c.as_slice-2.ensures.value)
    (subst (λ (vs : List VarId). AreGroupsOf vs variables c.in_ok-groups.groups.items) c.as_slice.ensures c.in_ok-groups.ensures) in
    let before = have_told_none blocks v entries variables base end stand c.in_ok-tracks.tracks.items c.in_ok-tracks.ensures.new in
    let told = c.in_ok-tracks-2.ensures.told variables base end stand groups before in
    let lists = c.in_ok-close_all.field-0 in
    let past = c.in_ok-tracks-2.tracks.items in
    let closes = subst (λ (n : ℕ). Closes past n lists) c.end_of.ensures c.in_ok-close_all.ensures in
    let values = subst (λ (bs : List Block). AreValuesOf bs v) (sym c.blocks_of.ensures) are in
    let all = lists_are blocks v entries variables base end stand past lists told closes (c.in_ok-tracks-2.ensures.count ∙ groups.for_all) values in
    subst (λ (bs : List Block). AreKeptListsOf (program bs v.subs.now) (block_start 0) code.entries variables lists) c.blocks_of.ensures
    (subst (λ (es : List EncodedInstruction). AreKeptListsOf (program blocks v.subs.now) (block_start 0) es variables lists) c.entries_of.ensures.entries all)

pub returns-clause-ascend : goal.returns-clause-ascend
returns-clause-ascend c =
    let code = c.args.code.now in
    let v = c.args.values.now in
    let variables = c.args.variables.now in
    let base = code.base in
    let end = code.base + 4 * length code.words in
    let blocks = c.blocks_of.result.now in
    let entries = c.entries_of.result.now in
    let stand = subst (λ (es : List EncodedInstruction). StandFrom base es end) (sym c.entries_of.ensures.entries) c.entries_of.ensures.stand in
    let groups = subst (λ (gs : List Group). AreGroupsOf v.variables.now variables gs) (sym c.as_slice-2.ensures.value)
    (subst (λ (vs : List VarId). AreGroupsOf vs variables c.in_ok-groups.groups.items) c.as_slice.ensures c.in_ok-groups.ensures) in
    let before = have_told_none blocks v entries variables base end stand c.in_ok-tracks.tracks.items c.in_ok-tracks.ensures.new in
    let told = c.in_ok-tracks-2.ensures.told variables base end stand groups before in
    let lists = c.in_ok-close_all.field-0 in
    let past = c.in_ok-tracks-2.tracks.items in
    let closes = subst (λ (n : ℕ). Closes past n lists) c.end_of.ensures c.in_ok-close_all.ensures in
    lists_ascend blocks v entries variables base end stand past lists told closes
