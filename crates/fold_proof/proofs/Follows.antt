-- What is folded follows.
use Rattle.std.proofs.Common.{◌≡◌, List, true, false, refl, sym, ap, ◌∙◌}
use Rattle.mir_func.specs.declared.debug_substitution.DebugSubstitution.{DebugSubstitution}
use Rattle.mir_func.specs.declared.item.ItemKind.{ItemKind}
use Rattle.mir_func.specs.declared.item.ItemKind.TheVariants.{Code, Mark, Phi}
use Rattle.mir_func.specs.Function.{Function}
use Rattle.mir_func.specs.Graph.{block_start, program_of}
use Rattle.mir_func.specs.Resolve.{resolve}
use Rattle.mir_func.specs.Sound.{AllItems, IsSound, HasForm, HasForm as InForm}
use Rattle.pass_trait.specs.Simulation.{Source, SimulatesSource, EndsAsSource}
use Rattle.fold_rule_proof.specs.Kills.{IsFoldedWithKills}
use Rattle.fold_proof.proofs.Along.{folded_runs_along}
use Rattle.fold_proof.proofs.Shape.{folded_has_shape}
use Rattle.fold_proof.specs.Follows.{FoldedFollows}

-- both crates say alike that code has its opcode's form
same_form : (k : ItemKind) → HasForm k → InForm k
same_form (Code i n) h = h
same_form (Mark v m) h = h
same_form (Phi p n) h = h

module _ (f g : Function) (subs : List DebugSubstitution) (sound : IsSound f) (forms : AllItems (λ i. HasForm i.kind) f.blocks)
    (kills : IsFoldedWithKills f g) where
  in_form : AllItems (λ i. InForm i.kind) f.blocks
  in_form k d lt j e within = same_form _ (forms k d lt j e within)

  followed : (src : Source) → SimulatesSource src f subs → EndsAsSource src f subs → SimulatesSource src g subs
  followed src fol whole = record {
    objects = ap (λ (z : Function). z.objects) kills.killed ∙ fol.objects;
    follows = record {
      shape = folded_has_shape f g src.function.blocks (resolve src.subs) (resolve subs) sound in_form kills fol.follows.shape whole.blocks whole.kept
          whole.only;
      runs = λ s start. folded_runs_along f g (program_of true src.function.blocks (resolve src.subs)) (resolve subs) s sound in_form kills
          (λ q j at e. (let w = whole.only q j at e in (w.0, w.3))) fol.follows.shape.order
          (start.pos ∙ ap block_start (sym fol.follows.shape.first)) (whole.runs s start);
    };
  }

pub folded_follows : FoldedFollows
folded_follows f g subs sound forms kills = record {
  follows = λ src fol ends. followed f g subs sound forms kills src fol (ends refl);
  ends = λ keeps src fol whole. (let bad : false ≡ true = keeps in cc);
}
