use Rattle.std.proofs.Common.{sym, subst}
use Rattle.std.proofs.lemmas.Result.{on_ok_weaker}
use Rattle.pass_liveness.specs.mir_func.declared.successors.Successors.{Successors}
use Rattle.pass_liveness.specs.mir_func.Successors.{numbers_of}
use Rattle.pass_liveness.proofs.mir_func.Ways.{contains_none}
use Rattle.place_liveness.specs.Alone.{AreListed}
use Rattle.place_liveness.proofs.ways.add_all.Goals as goal

pub returns-in-Nowhere-clause-listed : goal.returns-in-Nowhere-clause-listed
returns-in-Nowhere-clause-listed c =
    subst (λ (s : Successors). AreListed c.args.ids.now (numbers_of s) c.args.ways.now) (sym c.in-Nowhere.is) (λ k m at e. absurd (contains_none k at))

pub returns-in-One-clause-listed : goal.returns-in-One-clause-listed
returns-in-One-clause-listed c =
    on_ok_weaker c.add.result (λ l. subst (λ (s : Successors). AreListed c.args.ids.now (numbers_of s) c.add.new.ways) (sym c.in-One.is) l)
    c.add.ensures.listed

pub returns-in-Two-clause-listed : goal.returns-in-Two-clause-listed
returns-in-Two-clause-listed c =
    on_ok_weaker c.add_two.result (λ l. subst (λ (s : Successors). AreListed c.args.ids.now (numbers_of s) c.add_two.new.ways) (sym c.in-Two.is) l)
    c.add_two.ensures.listed
