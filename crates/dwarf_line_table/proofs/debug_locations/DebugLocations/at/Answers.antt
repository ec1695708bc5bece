use Rattle.std.proofs.Common.{ℕ, List, ◌∙◌, ap}
use Rattle.std.specs.Ordering.{nat_cmp}
use Rattle.std.specs.BTreeMap.{get}
use Rattle.mir_func.specs.declared.location.Loc.{Loc}
use Rattle.dwarf_line_table.specs.steps.DebugLocations.{loc_among, loc_at}
use Rattle.dwarf_line_table.proofs.debug_locations.DebugLocations.at.Goals as goal

pub returns-in-Some : goal.returns-in-Some
returns-in-Some c = λ blocks are.
    let got = c.in-Some.ensures.value ∙ ap (λ (n : ℕ). get nat_cmp c.args.self.now.table n) c.number.ensures in
    c.loc_at.ensures ∙ ap (λ (ls : List Loc). loc_at ls c.args.position.now.item) c.as_slice.ensures.value
    ∙ ap (λ o. loc_among o c.args.position.now.item) got ∙ are c.args.position.now

pub returns-in-None : goal.returns-in-None
returns-in-None c = λ blocks are.
    let got = c.in-None.ensures.value ∙ ap (λ (n : ℕ). get nat_cmp c.args.self.now.table n) c.number.ensures in
    ap (λ o. loc_among o c.args.position.now.item) got ∙ are c.args.position.now
