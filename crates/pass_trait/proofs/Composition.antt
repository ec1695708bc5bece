-- The laws of one pass after another.
use Rattle.std.proofs.Common.{◌≡◌, sym, ◌∙◌, ap, subst, List, [], ◌∷◌, ◌++◌, Bool, true, false, not, ◌&&◌, ◌||◌}
use Rattle.std.specs.Prelude.{IsTrue}
use Rattle.std.proofs.lemmas.Bool.{or_left, or_right, and_parts}
use Rattle.std.proofs.lemmas.List.{append_assoc}
use Rattle.sem_simulation.specs.mir_func.declared.debug_substitution.DebugSubstitution.{DebugSubstitution}
use Rattle.sem_simulation.specs.mir_func.Function.{Function}
use Rattle.sem_simulation.specs.mir_func.Strip.{stripped}
use Rattle.pass_trait.specs.declared.loss.Loss.{Loss}
use Rattle.pass_trait.specs.Change.{Change, change}
use Rattle.pass_trait.specs.Simulation.{PreservesSimulation}
use Rattle.pass_trait.specs.Code.{HasOneResult, SeesCodeAlone, AreAlike, originless}
use Rattle.pass_trait.specs.Steps.{PassStep, EachCode, MakesInTurn, KeepsSteps, MakeCodeAlone}

-- what steps keep in turn
pub steps_then : (steps more : List PassStep) (f : Function) (fs : List DebugSubstitution) (g : Function) (gs : List DebugSubstitution) (h : Function)
    (hs : List DebugSubstitution) (a b : List Loss) →
    KeepsSteps steps (change f fs g gs) a →
    KeepsSteps more (change g gs h hs) b →
    KeepsSteps (steps ++ more) (change f fs h hs) (a ++ b)
steps_then [] more f fs g gs h hs a b (ef, es, ea) y =
    let P : Function → Type 0 = λ x. KeepsSteps more (change x gs h hs) b in
    let S : List DebugSubstitution → Type 0 = λ x. KeepsSteps more (change f x h hs) b in
    let L : List Loss → Type 0 = λ x. KeepsSteps more (change f fs h hs) (x ++ b) in
    subst L (sym ea) (subst S es (subst P ef y))
steps_then (s ∷ steps) more f fs g gs h hs a b (m, ms, here, later, k, rest, e) y =
    (m, ms, here, later ++ b, k, steps_then steps more m ms g gs h hs later b rest y, ap (λ x. x ++ b) e ∙ append_assoc here later b)

-- the code is made by the rules for code, step by step
pub made_in_turn : (steps : List PassStep) (c : Change) (lost : List Loss) → KeepsSteps steps c lost → MakesInTurn steps (stripped c.old) (stripped c.new)
made_in_turn [] c lost k = ap stripped k.0
made_in_turn (s ∷ steps) c lost (f, fs, here, later, k, rest, e) = (stripped f, k.code, made_in_turn steps (record c { old = f; old_subs = fs }) later rest)

-- and these see code alone, and have one result
pub alike_in_turn : (steps : List PassStep) → EachCode SeesCodeAlone steps → (f f' g g' : Function) → AreAlike f f' → MakesInTurn steps f g →
    MakesInTurn steps f' g' →
    AreAlike g g'
alike_in_turn [] sees f f' g g' h k k' = ap originless k ∙ h ∙ sym (ap originless k')
alike_in_turn (s ∷ steps) sees f f' g g' h (m, k, rest) (m', k', rest') = alike_in_turn steps sees.1 m m' g g' (sees.0 f f' m m' h k k') rest rest'

pub same_in_turn : (steps : List PassStep) → EachCode HasOneResult steps → (f f' g g' : Function) → f ≡ f' → MakesInTurn steps f g → MakesInTurn steps f' g' →
    g ≡ g'
same_in_turn [] one f f' g g' h k k' = k ∙ h ∙ sym k'
same_in_turn (s ∷ steps) one f f' g g' h (m, k, rest) (m', k', rest') =
    same_in_turn steps one.1 m m' g g' (one.0 f m m' k (subst (λ (x : Function). s.code x m') (sym h) k')) rest rest'

pub make_code_alone : (steps : List PassStep) → EachCode HasOneResult steps → EachCode SeesCodeAlone steps → MakeCodeAlone steps
make_code_alone steps one sees = record {
  made = made_in_turn steps;
  alike = λ c d lost lost' k k' h. alike_in_turn steps sees _ _ _ _ h (made_in_turn steps c lost k) (made_in_turn steps d lost' k');
  same = λ c d lost lost' k k' h. same_in_turn steps one _ _ _ _ h (made_in_turn steps c lost k) (made_in_turn steps d lost' k');
}

-- what both keep, where the one keeps what the other asks for
pub following_then : (asks keeps asks' keeps' : Bool) (f : Function) (fs : List DebugSubstitution) (g : Function) (gs : List DebugSubstitution) (h : Function)
    (hs : List DebugSubstitution) →
    (IsTrue asks' → IsTrue keeps) →
    PreservesSimulation asks keeps (change f fs g gs) →
    PreservesSimulation asks' keeps' (change g gs h hs) →
    PreservesSimulation (asks || asks') (keeps && keeps') (change f fs h hs)
following_then asks keeps asks' keeps' f fs g gs h hs fit x y = record {
  follows = λ src fol ends. y.follows src (x.follows src fol (λ a. ends (or_left asks asks' a))) (λ a. x.ends (fit a) src fol (ends (or_right asks asks' a)));
  ends = λ k src fol ends. let both = and_parts keeps keeps' k in y.ends both.1 src (x.follows src fol (λ a. ends)) (x.ends both.0 src fol ends);
}

-- the other asks for nothing that the one doesn't keep
pub fits_then : (asks keeps : Bool) → IsTrue (not asks || keeps) → IsTrue asks → IsTrue keeps
fits_then true keeps h a = h
fits_then false keeps h a = cc
