-- The weak simulation: the simulation implies it, and changes that keep it do so one after another.
use Rattle.std.specs.Prelude.{List}
use Rattle.mir_func.specs.declared.debug_substitution.DebugSubstitution.{DebugSubstitution}
use Rattle.mir_func.specs.Function.{Function}
use Rattle.mir_func.specs.Sound.{IsSound}
use Rattle.pass_salvage.specs.pass_trait.Change.{change}
use Rattle.pass_salvage.specs.pass_trait.Simulation.{Source, SimulatesSource}
use Rattle.pass_edits.specs.WeakSimulation.{WeakSimulation, PreservesWeakSimulation}

-- what follows a source follows it loosely
pub loosely : (f : Function) (subs : List DebugSubstitution) (src : Source) → SimulatesSource src f subs → WeakSimulation src f subs
loosely f subs src fol = record {
  objects = fol.objects;
  shape = record {
    among = fol.follows.shape.among;
    first = fol.follows.shape.first;
    back = fol.follows.shape.back;
    order = fol.follows.shape.order;
    items = fol.follows.shape.items;
    volatile = fol.follows.shape.volatile;
    marks = fol.follows.shape.marks;
  };
  runs = fol.follows.runs;
}

-- no change
pub itself : (f : Function) (subs : List DebugSubstitution) → PreservesWeakSimulation (change f subs f subs)
itself f subs = record { follows = λ src h. h; ends = λ src h w. w }

-- one change after another
pub then : (f g h : Function) (a b c : List DebugSubstitution) → PreservesWeakSimulation (change f a g b) → PreservesWeakSimulation (change g b h c) →
    PreservesWeakSimulation (change f a h c)
then f g h a b c x y = record {
  follows = λ src k. y.follows src (x.follows src k);
  ends = λ src k w. y.ends src (x.follows src k) (x.ends src k w);
}

-- one step of a pass: the function stays sound
pub record Step (old : Function) (subs : List DebugSubstitution) (new : Function) (subs' : List DebugSubstitution) : Type 0 where
  pub sound : IsSound new
  pub follows : PreservesWeakSimulation (change old subs new subs')

pub and_then : (f g h : Function) (a b c : List DebugSubstitution) → Step f a g b → Step g b h c → Step f a h c
and_then f g h a b c x y = record { sound = y.sound; follows = then f g h a b c x.follows y.follows }
