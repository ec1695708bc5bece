use Rattle.std.proofs.Common.{ℕ, ◌*◌, ◌%◌, ◌^◌, Option, Some, None, refl, sym, ap, subst, ◌∙◌}
use Rattle.dwarf_loclists.specs.declared.range.Part.{Part}
use Rattle.dwarf_loclists.specs.Grammar.{PieceAt}
use Rattle.sim_machine.specs.declared.value.PartValue.{PartValue}
use Rattle.sim_machine.proofs.Listed.{piece_listed}
use Rattle.sim_machine.proofs.hart.Hart.part.Goals as goal

pub content-requires : goal.content-requires
content-requires c =
    let l = c.args.lists.now in
    let a = c.args.self.now.counter in
    (piece_listed l c.args.k a c.args.n c.in-Some.part (subst (λ (o : Option Part). PieceAt l c.args.k a c.args.n o) c.in-Some.is c.in_ok-part.ensures.ok)).0

pub low_bytes-requires : goal.low_bytes-requires
low_bytes-requires c =
    let l = c.args.lists.now in
    let a = c.args.self.now.counter in
    (piece_listed l c.args.k a c.args.n c.in-Some.part (subst (λ (o : Option Part). PieceAt l c.args.k a c.args.n o) c.in-Some.is c.in_ok-part.ensures.ok)).1

pub returns-in-Some-clause-ok : goal.returns-in-Some-clause-ok
returns-in-Some-clause-ok c = λ s h.
    let l = c.args.lists.now in
    let p = c.in-Some.part in
    let listed = subst (λ (o : Option Part). PieceAt l c.args.k c.args.self.now.counter c.args.n o) c.in-Some.is c.in_ok-part.ensures.ok in
    let value = c.low_bytes.ensures ∙ ap (λ (n : ℕ). n % 2 ^ (8 * p.length)) (c.content.ensures s h) in
    record {
      piece = Some p;
      listed = subst (λ (a : ℕ). PieceAt l c.args.k a c.args.n (Some p)) (sym h.counter) listed;
      is = ap (λ (n : ℕ). Some (let v : PartValue = record { offset = p.offset; length = p.length; value = n } in v)) value;
    }

pub returns-in-None-clause-ok : goal.returns-in-None-clause-ok
returns-in-None-clause-ok c = λ s h.
    let l = c.args.lists.now in
    let listed = subst (λ (o : Option Part). PieceAt l c.args.k c.args.self.now.counter c.args.n o) c.in-None.is c.in_ok-part.ensures.ok in
    record { piece = None; listed = subst (λ (a : ℕ). PieceAt l c.args.k a c.args.n None) (sym h.counter) listed; is = refl }
