-- Passes of which each stands once may compile a program, behind linear scan: folding comes once, so what it asks for is kept before it; and spilling comes
-- once, so that linear scan and the passes make few items, numbers and slots.
use Rattle.std.proofs.Common.{◌≡◌, ◌⊎◌, inl, inr, ℕ, ◌+◌, ◌*◌, ◌<◌, ◌≤◌, ◌^◌, List, [], ◌∷◌, length, refl, ap, ◌∙◌, subst, arith}
use Rattle.std.specs.Prelude.{Contains, IsTrue, true, false}
use Rattle.std.proofs.lemmas.List.Elements.{Contains-append_left, Contains-append_right}
use Rattle.listing_proof.specs.read_body.Limits.{MAX_ITEMS}
use Rattle.mir_func.specs.Limits.{MAX_SLOTS}
use Rattle.base_ids.specs.Limits.{MAX_NUMBER}
use Rattle.pass_trait.specs.Sizes.{most}
use Rattle.pass_list.proofs.Distinct.{at_most}
use Rattle.pass_list.specs.declared.kind.PassKind.{PassKind}
use Rattle.pass_list.specs.declared.kind.PassKind.TheVariants.{Copy, Remat, Spill, Dead, Fold}
use Rattle.pass_list.specs.Names.{AreDistinct}
use Rattle.pass_manager.specs.Passes.{any_asks, factor, count, Fit, most_after, numbers_after, slots_after}
use Rattle.compile_passes.specs.Passed.{MAX_PASSED}

-- how many items a function has at most that linear scan made of one that was read
abbrev pub MAX_SCANNED : ℕ
MAX_SCANNED = 36864

-- linear scan makes so few
pub scanned_items : (n : ℕ) → n ≤ MAX_ITEMS → most 4 1 n ≤ MAX_SCANNED
scanned_items n few = omega (arith, few)

-- each pass keeps what a later one asks for, and no function that linear scan made of one that was read runs out of numbers or slots on the way, or gets
-- more items than it may have
pub record IsAccepted (passes : List PassKind) : Type 0 where
  pub fit : Fit passes
  pub numbers : MAX_NUMBER + MAX_SCANNED + numbers_after passes MAX_SCANNED < 2 ^ 31
  pub slots : MAX_NUMBER + MAX_SLOTS + MAX_SLOTS * slots_after passes < 2 ^ 31
  pub items : most_after passes MAX_SCANNED ≤ MAX_PASSED

later : (p q : PassKind) (ps : List PassKind) → Contains ps q → Contains (p ∷ ps) q
later p q ps h = Contains-append_right (p ∷ []) ps q h

-- only folding asks for something
asks_fold : (ps : List PassKind) → IsTrue (any_asks ps) → Contains ps Fold
asks_fold [] asks = absurd (let e : false ≡ true = asks in cc)
asks_fold (Copy ∷ ps) asks = later Copy Fold ps (asks_fold ps asks)
asks_fold (Remat ∷ ps) asks = later Remat Fold ps (asks_fold ps asks)
asks_fold (Spill ∷ ps) asks = later Spill Fold ps (asks_fold ps asks)
asks_fold (Dead ∷ ps) asks = later Dead Fold ps (asks_fold ps asks)
asks_fold (Fold ∷ ps) asks = Contains-append_left (Fold ∷ []) ps Fold (0, omega arith, refl)

fits : (ps : List PassKind) → AreDistinct ps → Fit ps
fits [] d = tt
fits (Copy ∷ ps) d = (λ asks. refl, fits ps d.1)
fits (Remat ∷ ps) d = (λ asks. refl, fits ps d.1)
fits (Spill ∷ ps) d = (λ asks. refl, fits ps d.1)
fits (Dead ∷ ps) d = (λ asks. refl, fits ps d.1)
fits (Fold ∷ ps) d = (λ asks. absurd (d.0 (asks_fold ps asks)), fits ps d.1)

-- ---- sizes

one_count : (p : PassKind) → count p ≡ 1
one_count Copy = refl
one_count Remat = refl
one_count Spill = refl
one_count Dead = refl
one_count Fold = refl

-- how many items a pass makes of some: 1,024 more, and spilling four times as many as that
abbrev times : PassKind → ℕ → ℕ
times Spill n = 4 * (n + 1024)
times Copy n = n + 1024
times Remat n = n + 1024
times Dead n = n + 1024
times Fold n = n + 1024

most_is : (p : PassKind) (n : ℕ) → most (factor p) (count p) n ≡ times p n
most_is Copy n = omega arith
most_is Remat n = omega arith
most_is Spill n = omega arith
most_is Dead n = omega arith
most_is Fold n = omega arith

abbrev NoSpill : List PassKind → Type 0
NoSpill ps = Contains ps Spill → ⊥

not_later : (p : PassKind) (ps : List PassKind) → NoSpill (p ∷ ps) → NoSpill ps
not_later p ps none h = none (later p Spill ps h)

-- a pass of a list without spilling
plain : (p : PassKind) (ps : List PassKind) (n : ℕ) → NoSpill (p ∷ ps) → times p n ≡ n + 1024
plain Copy ps n none = refl
plain Remat ps n none = refl
plain Dead ps n none = refl
plain Fold ps n none = refl
plain Spill ps n none = absurd (none (Contains-append_left (Spill ∷ []) ps Spill (0, omega arith, refl)))

-- spilling, or another pass
spills : (p : PassKind) (n : ℕ) → (p ≡ Spill) ⊎ (times p n ≡ n + 1024)
spills Copy n = inr refl
spills Remat n = inr refl
spills Dead n = inr refl
spills Fold n = inr refl
spills Spill n = inl refl

plain_items : (ps : List PassKind) (n : ℕ) → NoSpill ps → most_after ps n ≤ n + 1024 * length ps
plain_items [] n none = omega arith
plain_items (p ∷ ps) n none =
    let here = most_is p n ∙ plain p ps n none in
    let rest = plain_items ps (most (factor p) (count p) n) (not_later p ps none) in
    omega (arith, here, rest)

few_items : (ps : List PassKind) (n : ℕ) → AreDistinct ps → most_after ps n ≤ 4 * (n + 1024 * length ps)
few_items [] n d = omega arith
few_items (p ∷ ps) n d = elim (spills p n) [
  | inl is ↦ (
      let none : NoSpill ps = subst (λ (q : PassKind). Contains ps q → ⊥) is d.0 in
      let here = most_is p n ∙ ap (λ (q : PassKind). times q n) is in
      let rest = plain_items ps (most (factor p) (count p) n) none in
      omega (arith, here, rest))
  | inr is ↦ (
      let here = most_is p n ∙ is in
      let rest = few_items ps (most (factor p) (count p) n) d.1 in
      omega (arith, here, rest))
]

plain_numbers : (ps : List PassKind) (n : ℕ) → NoSpill ps → n + 1024 * length ps ≤ 167936 → numbers_after ps n ≤ 167936 * length ps
plain_numbers [] n none fit = omega arith
plain_numbers (p ∷ ps) n none fit =
    let here = most_is p n ∙ plain p ps n none in
    let rest = plain_numbers ps (most (factor p) (count p) n) (not_later p ps none) (omega (arith, here, fit)) in
    let once : count p * most (factor p) (count p) n ≡ 1 * most (factor p) (count p) n =
    ap (λ (z : ℕ). z * most (factor p) (count p) n) (one_count p) in
    omega (arith, here, rest, fit, once)

few_numbers : (ps : List PassKind) (n : ℕ) → AreDistinct ps → n + 1024 * length ps ≤ 41984 → numbers_after ps n ≤ 167936 * length ps
few_numbers [] n d fit = omega arith
few_numbers (p ∷ ps) n d fit =
    let once : count p * most (factor p) (count p) n ≡ 1 * most (factor p) (count p) n =
    ap (λ (z : ℕ). z * most (factor p) (count p) n) (one_count p) in
    elim (spills p n) [
      | inl is ↦ (
          let none : NoSpill ps = subst (λ (q : PassKind). Contains ps q → ⊥) is d.0 in
          let here = most_is p n ∙ ap (λ (q : PassKind). times q n) is in
          let rest = plain_numbers ps (most (factor p) (count p) n) none (omega (arith, here, fit)) in
          omega (arith, here, rest, fit, once))
      | inr is ↦ (
          let here = most_is p n ∙ is in
          let rest = few_numbers ps (most (factor p) (count p) n) d.1 (omega (arith, here, fit)) in
          omega (arith, here, rest, fit, once))
    ]

few_slots : (ps : List PassKind) → slots_after ps ≡ length ps
few_slots [] = refl
few_slots (p ∷ ps) = let here = one_count p in let rest = few_slots ps in omega (arith, here, rest)

pub accepted : (ps : List PassKind) → AreDistinct ps → IsAccepted ps
accepted ps d =
    let five = at_most ps d in
    let items = few_items ps MAX_SCANNED d in
    let numbers = few_numbers ps MAX_SCANNED d (omega (arith, five)) in
    let slots = few_slots ps in
    record { fit = fits ps d; numbers = omega (arith, five, numbers); slots = omega (arith, five, slots); items = omega (arith, five, items) }
