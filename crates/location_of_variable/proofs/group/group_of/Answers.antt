use Rattle.std.proofs.Common.{refl, sym, ◌∙◌}
use Rattle.std.proofs.lemmas.Option.{slice_get_read}
use Rattle.location_of_variable.proofs.Gathering.{group_is}
use Rattle.location_of_variable.proofs.group.group_of.Goals as goal

pub bounds-groups-k : goal.bounds-groups-k
bounds-groups-k c = c.requires.within _ _ (sym c.number_of.ensures ∙ c.in-Some.is)

pub returns : goal.returns
returns c = λ parts variables count numbers are.
    let numbered = sym c.number_of.ensures ∙ c.in-Some.is in
    let at = slice_get_read c.args.groups.now _ c.in-Some.k c.index-groups-k.result refl (c.requires.within _ _ numbered) c.index-groups-k.is in
    group_is parts variables c.args.numbers.now numbers c.args.variable.now c.in-Some.k numbered c.index-groups-k.result c.in_ok-sorted-in-Some.field-0
    (are.each c.in-Some.k c.index-groups-k.result at) c.in_ok-sorted-in-Some.ensures.whole
    c.in_ok-sorted-in-Some.ensures.pieces c.in_ok-sorted-in-Some.ensures.ascend
