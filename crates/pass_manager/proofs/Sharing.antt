-- What the passes of a function keep that exposes something.
use Rattle.std.proofs.Common.{◌≡◌, inl, inr, ℕ, ◌+◌, ◌*◌, ◌<◌, ◌≤◌, ◌^◌, List, [], ◌∷◌, ◌++◌, Bool, true, false, ◌||◌, ◌&&◌}
use Rattle.std.proofs.Common.{refl, sym, ap, ◌∙◌, subst, arith, append_assoc, append-nil}
use Rattle.std.specs.Prelude.{All, Result, Ok, Err, OnOk}
use Rattle.std.proofs.Math.Nat.{le_trans}
use Rattle.std.proofs.lemmas.List.Elements.{All-nil}
use Rattle.global_registers.specs.Pass.{shared_step}
use Rattle.mir_exposure.specs.declared.exposure.Exposure.TheVariants.{Nothing, Globals, Everything}
use Rattle.mir_func.specs.declared.debug_substitution.DebugSubstitution.{DebugSubstitution}
use Rattle.mir_func.specs.Function.{Function}
use Rattle.mir_func.specs.Limits.{MAX_SLOTS}
use Rattle.pass_trait.specs.Change.{Change, change}
use Rattle.pass_trait.specs.declared.loss.Loss.{Loss}
use Rattle.pass_trait.specs.Simulation.{PreservesSimulation}
use Rattle.pass_trait.specs.Sizes.{greatest, greatest_number, item_count, code_count, most, KeepsSizes}
use Rattle.pass_trait.specs.Steps.{PassStep, KeepsSteps}
use Rattle.pass_trait.proofs.Composition.{following_then}
use Rattle.pass_list.specs.declared.kind.PassKind.{PassKind}
use Rattle.pass_list.specs.declared.kind.PassKind.TheVariants.{Copy, Remat, Spill, Dead, Fold}
use Rattle.pass_manager.specs.Passes.{factor, count, passes_of, any_asks, all_keep, most_after, numbers_after, slots_after, KeepsGrowth}
use Rattle.pass_manager.specs.Exposed.{left_exposed, KeepsExposed}
use Rattle.pass_manager.specs.Shown.{KeepsShown}
use Rattle.pass_manager.specs.Told.{KeepsPass, KeepsPasses}
use Rattle.pass_manager.proofs.Becoming.{WasShown}
use Rattle.pass_manager.proofs.Row.{after_more, numbers_more}
use Rattle.pass_manager.proofs.Shows.{Shows, steps_shown}

-- ---- sharing

shared_shows : (shares : Bool) → Shows (shared_step shares)
shared_shows shares = record {
  name = λ f g e. ap (λ (h : Function). h.name) e;
  renames = λ c r now never. absurd never;
  salvages = λ c at p never. absurd never;
  kills = λ c b ks none. subst (All (WasShown (shared_step shares).debug c)) (sym none) (All-nil (WasShown (shared_step shares).debug c));
}

pub share_shown : (shares : Bool) (c : Change) (losses : List Loss) → KeepsSteps (shared_step shares ∷ []) c losses → KeepsShown c.old c.new
share_shown shares c losses k = steps_shown (shared_step shares ∷ []) (shared_shows shares, tt) c losses k

-- ---- no pass

pub nothing_follows : (asks keeps : Bool) (f : Function) (subs : List DebugSubstitution) → PreservesSimulation asks keeps (change f subs f subs)
nothing_follows asks keeps f subs = record { follows = λ src fol ends. fol; ends = λ kept src fol whole. whole }

least : (p : PassKind) (n : ℕ) → n ≤ most (factor p) (count p) n
least Copy n = omega arith
least Remat n = omega arith
least Spill n = omega arith
least Dead n = omega arith
least Fold n = omega arith

after_least : (ps : List PassKind) (n : ℕ) → n ≤ most_after ps n
after_least [] n = omega arith
after_least (p ∷ ps) n = le_trans (least p n) (after_least ps (most (factor p) (count p) n))

pub nothing_grows : (passes : List PassKind) (f : Function) (subs : List DebugSubstitution) → KeepsGrowth passes (change f subs f subs)
nothing_grows passes f subs = record {
  items = after_least passes (item_count f);
  code = after_least passes (code_count f);
  calls = omega arith;
  physical = λ physical. physical;
  numbers = omega arith;
  slots = omega arith;
}

pub on_ok : {A E : Type 0} (r : Result A E) (P : Type 0) → P → OnOk r P
on_ok (Ok x) P p = p
on_ok (Err e) P p = tt

-- ---- what is told

pub told_nothing : (reserve : List ℕ) (passes : List PassKind) (c : Change) (told : List Loss) → KeepsPasses (passes_of reserve passes) c told →
    KeepsExposed reserve passes Nothing c told
told_nothing reserve passes c told k = record { of_steps = told; kept = k; are = sym (append-nil told) }

pub told_everything : (reserve : List ℕ) (passes : List PassKind) (f : Function) (subs : List DebugSubstitution) (told : List Loss) →
    told ≡ left_exposed reserve passes Everything f → KeepsExposed reserve passes Everything (change f subs f subs) told
told_everything reserve passes f subs told e = record { of_steps = []; kept = (refl, refl, refl); are = e }

-- ---- passes between sharing

or_none : (asks keeps : Bool) (c : Change) → PreservesSimulation (asks || false) (keeps && true) c → PreservesSimulation asks keeps c
or_none true true c h = h
or_none true false c h = h
or_none false true c h = h
or_none false false c h = h

-- one pass more behind others
pub keeps_behind : (passes : List (List PassStep)) (last : List PassStep) (f : Function) (fs : List DebugSubstitution) (g : Function)
    (gs : List DebugSubstitution) (h : Function) (hs : List DebugSubstitution) (a b : List Loss) → KeepsPasses passes (change f fs g gs) a →
    KeepsPass last (change g gs h hs) b → KeepsPasses (passes ++ last ∷ []) (change f fs h hs) (a ++ b)
keeps_behind [] last f fs g gs h hs a b (same, subs, none) k =
    let here : KeepsPass last (change f fs h hs) b =
    subst (λ (x : Function). KeepsPass last (change x fs h hs) b) same (subst (λ (s : List DebugSubstitution). KeepsPass last (change g s h hs) b) subs k) in
    (h, hs, b, [], here, (refl, refl, refl), ap (λ (l : List Loss). l ++ b) none ∙ sym (append-nil b))
keeps_behind (steps ∷ passes) last f fs g gs h hs a b (m, ms, here, later, one, rest, e) k =
    (m, ms, here, later ++ b, one, keeps_behind passes last m ms g gs h hs later b rest k, ap (λ (l : List Loss). l ++ b) e ∙ append_assoc here later b)

module _ (passes : List PassKind) (f : Function) (fs : List DebugSubstitution) (g : Function) (gs : List DebugSubstitution)
    (first : KeepsSizes 1 0 (change f fs g gs)) where
  as_many : item_count g ≤ item_count f
  as_many = let few = first.items in omega (arith, few)

  as_much : code_count g ≤ code_count f
  as_much = let few = first.code in omega (arith, few)

  -- room for the passes
  pub shared_numbers : greatest_number f fs + numbers_after passes (item_count f) < 2 ^ 31 →
      greatest_number g gs + numbers_after passes (item_count g) < 2 ^ 31
  shared_numbers room =
      let same = first.numbers in
      let fewer = numbers_more passes (item_count g) (item_count f) as_many in
      omega (arith, room, same, fewer)

  pub shared_slots : greatest f.slots + MAX_SLOTS * slots_after passes < 2 ^ 31 → greatest g.slots + MAX_SLOTS * slots_after passes < 2 ^ 31
  shared_slots room = let same = first.slots in omega (arith, room, same)

  module _ (k : Function) (ks : List DebugSubstitution) (grown : KeepsGrowth passes (change g gs k ks)) where
    pub behind_numbers : greatest_number f fs + numbers_after passes (item_count f) < 2 ^ 31 → greatest_number k ks < 2 ^ 31
    behind_numbers room =
        let more = grown.numbers in
        let left = shared_numbers room in
        omega (arith, more, left)

    pub behind_slots : greatest f.slots + MAX_SLOTS * slots_after passes < 2 ^ 31 → greatest k.slots < 2 ^ 31
    behind_slots room =
        let more = grown.slots in
        let left = shared_slots room in
        omega (arith, more, left)

    module _ (h : Function) (hs : List DebugSubstitution) where
      pub sharing_grows : KeepsSizes 1 0 (change k ks h hs) → KeepsGrowth passes (change f fs h hs)
      sharing_grows last = record {
        items = let few = last.items in
            let behind : item_count h ≤ item_count k = omega (arith, few) in
            le_trans behind (le_trans grown.items (after_more passes (item_count g) (item_count f) as_many));
        code = let few = last.code in
            let behind : code_count h ≤ code_count k = omega (arith, few) in
            le_trans behind (le_trans grown.code (after_more passes (code_count g) (code_count f) as_much));
        calls = le_trans last.calls (le_trans grown.calls first.calls);
        physical = λ physical. last.physical (grown.physical (first.physical physical));
        numbers = let a = first.numbers in
            let b = grown.numbers in
            let c = last.numbers in
            let fewer = numbers_more passes (item_count g) (item_count f) as_many in
            omega (arith, a, b, c, fewer);
        slots = let a = first.slots in
            let b = grown.slots in
            let c = last.slots in
            omega (arith, a, b, c);
      }

      pub sharing_follows : PreservesSimulation false true (change f fs g gs) →
          PreservesSimulation (any_asks passes) (all_keep passes) (change g gs k ks) → PreservesSimulation false true (change k ks h hs) →
          PreservesSimulation (any_asks passes) (all_keep passes) (change f fs h hs)
      sharing_follows x y z =
          let asks : Bool = any_asks passes in
          let keeps : Bool = all_keep passes in
          let both : PreservesSimulation asks keeps (change f fs k ks) = following_then false true asks keeps f fs g gs k ks (λ a. refl) x y in
          or_none asks keeps (change f fs h hs)
          (following_then asks keeps false true f fs k ks h hs (λ a. absurd (let e : false ≡ true = a in cc)) both z)

      pub sharing_told : (reserve : List ℕ) (a b c told : List Loss) → told ≡ (a ++ b) ++ c → KeepsPass (shared_step true ∷ []) (change f fs g gs) a →
          KeepsPasses (passes_of reserve passes) (change g gs k ks) b → KeepsPass (shared_step false ∷ []) (change k ks h hs) c →
          KeepsExposed reserve passes Globals (change f fs h hs) told
      sharing_told reserve a b c told e x y z = record {
        of_steps = told;
        kept = (
          g,
          gs,
          a,
          b ++ c,
          x,
          keeps_behind (passes_of reserve passes) (shared_step false ∷ []) g gs k ks h hs b c y z,
          e ∙ append_assoc a b c,
        );
        are = sym (append-nil told);
      }
