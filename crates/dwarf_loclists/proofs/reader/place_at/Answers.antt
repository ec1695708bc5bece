use Rattle.std.specs.Option.{option_copied}
use Rattle.std.proofs.Common.{List, ℕ, Option, subst, ap}
use Rattle.dwarf_loclists.proofs.FoundLemmas.{Found, found_at, place_found, place_absent}
use Rattle.dwarf_loclists.proofs.reader.place_at.Goals as goal

pub returns-in-Some-clause-ok : goal.returns-in-Some-clause-ok
returns-in-Some-clause-ok c =
    let f = found_at c.args.bytes.now c.in_ok-count.count c.args.k c.args.address _ c.in_ok-expression.ensures.ok c.requires in
    let here = subst (λ (o : Option (List ℕ)). Found c.args.bytes.now c.args.k c.args.address o) (ap option_copied c.in-Some.is) f in
    place_found c.args.bytes.now c.args.k c.args.address c.in-Some.expression.now _ here c.whole.ensures.place

pub returns-in-None-clause-ok : goal.returns-in-None-clause-ok
returns-in-None-clause-ok c =
    let f = found_at c.args.bytes.now c.in_ok-count.count c.args.k c.args.address _ c.in_ok-expression.ensures.ok c.requires in
    place_absent c.args.bytes.now c.args.k c.args.address (subst (λ (o : Option (List ℕ)). Found c.args.bytes.now c.args.k c.args.address o) (ap option_copied
    c.in-None.is) f)
