use Rattle.std.proofs.Common.{ℕ, Option, Some, None, refl, sym, ap, subst}
use Rattle.rv64_instr.specs.declared.place.Place.{Place}
use Rattle.dwarf_loclists.specs.Grammar.{PlaceAt}
use Rattle.sim_machine.proofs.Listed.{place_listed}
use Rattle.sim_machine.proofs.hart.Hart.variable.Goals as goal

pub content-requires : goal.content-requires
content-requires c =
    let l = c.args.lists.now in
    let a = c.args.self.now.counter in
    place_listed l c.args.k a c.in-Some.place (subst (λ (o : Option Place). PlaceAt l c.args.k a o) c.in-Some.is c.in_ok-place.ensures.ok)

pub returns-in-Some-clause-ok : goal.returns-in-Some-clause-ok
returns-in-Some-clause-ok c = λ s h.
    let l = c.args.lists.now in
    let listed = subst (λ (o : Option Place). PlaceAt l c.args.k c.args.self.now.counter o) c.in-Some.is c.in_ok-place.ensures.ok in
    record {
      place = Some c.in-Some.place;
      listed = subst (λ (a : ℕ). PlaceAt l c.args.k a (Some c.in-Some.place)) (sym h.counter) listed;
      is = ap (λ (n : ℕ). Some n) (c.content.ensures s h);
    }

pub returns-in-None-clause-ok : goal.returns-in-None-clause-ok
returns-in-None-clause-ok c = λ s h.
    let l = c.args.lists.now in
    let listed = subst (λ (o : Option Place). PlaceAt l c.args.k c.args.self.now.counter o) c.in-None.is c.in_ok-place.ensures.ok in
    record { place = None; listed = subst (λ (a : ℕ). PlaceAt l c.args.k a None) (sym h.counter) listed; is = refl }
