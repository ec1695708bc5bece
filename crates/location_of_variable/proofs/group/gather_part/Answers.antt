use Rattle.std.proofs.Common.{refl, ◌∙◌, sym, arith}
use Rattle.std.proofs.lemmas.Option.{slice_get_read}
use Rattle.location_of_variable.proofs.Gathering.{gathered_none, gathered_one}
use Rattle.location_of_variable.proofs.group.gather_part.Goals as goal

pub index_mut-requires : goal.index_mut-requires
index_mut-requires c = let within = c.requires _ _ (sym c.number_of.ensures ∙ c.in-Some.is) in omega (arith, within, c.args.groups.now.ok.0)

pub returns-in-None-clause-gathered : goal.returns-in-None-clause-gathered
returns-in-None-clause-gathered c = λ parts count here are.
    gathered_none parts c.args.numbers.now c.args.index count c.args.groups.now.items c.args.part.now here (sym c.number_of.ensures ∙ c.in-None.is) are

pub returns-in_ok-add-in-Some-clause-gathered : goal.returns-in_ok-add-in-Some-clause-gathered
returns-in_ok-add-in-Some-clause-gathered c = λ parts count here are.
    let numbered = sym c.number_of.ensures ∙ c.in-Some.is in
    gathered_one parts c.args.numbers.now c.args.index count c.args.groups.now.items c.args.part.now c.in-Some.k c.index_mut.result.now c.add.new.self
    here numbered (slice_get_read c.args.groups.now.items _ c.in-Some.k c.index_mut.result.now refl (c.requires _ _ numbered) c.index_mut.ensures.value)
    c.in_ok-add-in-Some.ensures.whole c.in_ok-add-in-Some.ensures.pieces are
