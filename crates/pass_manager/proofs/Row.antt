-- What passes in a row keep: the first, and then the rest.
use Rattle.std.proofs.Common.{inl, inr, ℕ, ◌+◌, ◌*◌, ◌<◌, ◌≤◌, ◌^◌, List, [], ◌∷◌, ◌++◌, refl, ◌∙◌, arith}
use Rattle.std.proofs.Math.Nat.{mul-le-mul_left, le_trans}
use Rattle.mir_func.specs.declared.debug_substitution.DebugSubstitution.{DebugSubstitution}
use Rattle.mir_func.specs.Function.{Function}
use Rattle.mir_func.specs.Limits.{MAX_BLOCKS, MAX_SLOTS}
use Rattle.pass_trait.specs.Change.{Change, change}
use Rattle.pass_trait.specs.declared.loss.Loss.{Loss}
use Rattle.pass_trait.specs.Sizes.{greatest, greatest_number, most, item_count, code_count, KeepsSizes}
use Rattle.pass_trait.specs.Steps.{PassStep, KeepsSteps}
use Rattle.pass_trait.proofs.Composition.{steps_then}
use Rattle.pass_list.specs.declared.kind.PassKind.{PassKind}
use Rattle.pass_manager.specs.Passes.{joined, factor, count, most_after, numbers_after, slots_after, KeepsGrowth}
use Rattle.pass_manager.specs.Shown.{KeepsShown}
use Rattle.pass_manager.specs.Told.{KeepsPasses}

-- ---- steps

-- passes that keep their steps keep those of all, with losses of which they are told
pub told_steps : (passes : List (List PassStep)) (c : Change) (told : List Loss) → KeepsPasses passes c told →
    (lost : List Loss) × KeepsSteps (joined passes) c lost
told_steps [] c told k = ([], (k.0, k.1, refl))
told_steps (steps ∷ passes) c told (g, gs, here, later, k, rest, e) =
    let more = told_steps passes (record c { old = g; old_subs = gs }) later rest in
    (k.lost ++ more.0, steps_then steps (joined passes) c.old c.old_subs g gs c.new c.new_subs k.lost more.0 k.kept more.1)

-- ---- sizes

most_more : (a m x y : ℕ) → x ≤ y → most a m x ≤ most a m y
most_more a m x y h =
    let room : x + MAX_BLOCKS * m ≤ y + MAX_BLOCKS * m = omega (arith, h) in
    mul-le-mul_left a room

pub after_more : (ps : List PassKind) (x y : ℕ) → x ≤ y → most_after ps x ≤ most_after ps y
after_more [] x y h = h
after_more (p ∷ ps) x y h = after_more ps (most (factor p) (count p) x) (most (factor p) (count p) y) (most_more (factor p) (count p) x y h)

pub numbers_more : (ps : List PassKind) (x y : ℕ) → x ≤ y → numbers_after ps x ≤ numbers_after ps y
numbers_more [] x y h = omega arith
numbers_more (p ∷ ps) x y h =
    let m = most_more (factor p) (count p) x y h in
    let here : count p * most (factor p) (count p) x ≤ count p * most (factor p) (count p) y = mul-le-mul_left (count p) m in
    let rest = numbers_more ps (most (factor p) (count p) x) (most (factor p) (count p) y) m in
    omega (arith, here, rest)

pub numbers_left : (p : PassKind) (ps : List PassKind) (f g : Function) (fs gs : List DebugSubstitution) → KeepsSizes (factor p) (count p) (change f fs g gs) →
    numbers_after ps (item_count g) ≤ numbers_after ps (most (factor p) (count p) (item_count f))
numbers_left p ps f g fs gs x = numbers_more ps (item_count g) (most (factor p) (count p) (item_count f)) x.items

pub growth_then : (p : PassKind) (ps : List PassKind) (f : Function) (fs : List DebugSubstitution) (g : Function) (gs : List DebugSubstitution) (h : Function)
    (hs : List DebugSubstitution) →
    KeepsSizes (factor p) (count p) (change f fs g gs) → KeepsGrowth ps (change g gs h hs) → KeepsGrowth (p ∷ ps) (change f fs h hs)
growth_then p ps f fs g gs h hs x y = record {
  items = le_trans y.items (after_more ps (item_count g) (most (factor p) (count p) (item_count f)) x.items);
  code = le_trans y.code (after_more ps (code_count g) (most (factor p) (count p) (code_count f)) x.code);
  calls = le_trans y.calls x.calls;
  physical = λ k. y.physical (x.physical k);
  numbers = let k = numbers_left p ps f g fs gs x in let u = x.numbers in let v = y.numbers in omega (arith, k, u, v);
  slots = let u = x.slots in let v = y.slots in omega (arith, u, v);
}

-- ---- what is shown

pub shown_none : (f : Function) → KeepsShown f f
shown_none f = record { name = refl; marks = λ v l has. has; places = λ p has. inl has }

pub shown_then : (f g h : Function) → KeepsShown f g → KeepsShown g h → KeepsShown f h
shown_then f g h x y = record {
  name = y.name ∙ x.name;
  marks = λ v l has. x.marks v l (y.marks v l has);
  places = λ p has. elim (y.places p has) [ inl was ↦ x.places p was | inr given ↦ inr given ];
}

-- ---- room

pub later_numbers : (p : PassKind) (ps : List PassKind) (f g : Function) (fs gs : List DebugSubstitution) → KeepsSizes (factor p) (count p) (change f fs g gs) →
    greatest_number f fs + numbers_after (p ∷ ps) (item_count f) < 2 ^ 31 → greatest_number g gs + numbers_after ps (item_count g) < 2 ^ 31
later_numbers p ps f g fs gs x room =
    let left = numbers_left p ps f g fs gs x in
    let grown = x.numbers in
    omega (arith, left, grown, room)

pub later_slots : (p : PassKind) (ps : List PassKind) (f g : Function) (fs gs : List DebugSubstitution) → KeepsSizes (factor p) (count p) (change f fs g gs) →
    greatest f.slots + MAX_SLOTS * slots_after (p ∷ ps) < 2 ^ 31 → greatest g.slots + MAX_SLOTS * slots_after ps < 2 ^ 31
later_slots p ps f g fs gs x room = let grown = x.slots in omega (arith, grown, room)
