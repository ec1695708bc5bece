-- Each function has a test of what is live at the starts of its blocks: what the walks up its blocks find is added, until no walk finds more.
use Rattle.std.proofs.Common.{◌≡◌, ◌⊎◌, inl, inr, ℕ, zero, suc, ◌+◌, ◌<◌, ◌≤◌, List, [], ◌∷◌, Bool, true, false, cond, ◌||◌, ◌&&◌, not, nat_eq, None}
use Rattle.std.proofs.Common.{refl, sym, ap, ◌∙◌, subst, arith}
use Rattle.std.specs.List.{list_any}
use Rattle.std.proofs.lemmas.Bool.{eqb-true}
use Rattle.rv64_instr.specs.declared.place.Place.{Place}
use Rattle.rv64_instr.specs.declared.place.Place.TheVariants.{Register}
use Rattle.mir_func.specs.declared.block.Block.{Block}
use Rattle.mir_func.specs.Function.{Function}
use Rattle.mir_func.specs.Graph.{program_of, block_start, fetch_in, from_block}
use Rattle.mir_func.specs.Sound.{ids_of}
use Rattle.sem_mir.specs.Live.{Live}
use Rattle.scan_pass.specs.pass_liveness.Walk.{live_from}
use Rattle.scan_pass.proofs.pass_liveness.Facts.{walk_facts}
use Rattle.scan_pass.proofs.pass_liveness.Paths.{WalkedIn, next_of, walk_is_live, live_is_walked}
use Rattle.scan_pass.specs.scan_intervals.Liveness.{Decides}

or_cases : (x y : Bool) → (x || y) ≡ true → (x ≡ true) ⊎ (y ≡ true)
or_cases true y e = inl refl
or_cases false y e = inr e

or_none : (x y : Bool) → (x || y) ≡ false → (x ≡ false) × (y ≡ false)
or_none true y e = cc
or_none false y e = (refl, e)

or_right : (x y : Bool) → y ≡ true → (x || y) ≡ true
or_right true y e = refl
or_right false y e = e

or_left : (x y : Bool) → x ≡ true → (x || y) ≡ true
or_left x y e = ap (λ (z : Bool). z || y) e

-- ---- numbers that pass a test

-- a test, or another
abbrev either : (S F : ℕ → Bool) → ℕ → Bool
either S F n = S n || F n

-- the other test finds one more
abbrev is_more : (S F : ℕ → Bool) → ℕ → Bool
is_more S F n = not (S n) && F n

-- how many of these numbers fail a test
abbrev missing : (ℕ → Bool) → List ℕ → ℕ
missing S [] = 0
missing S (n ∷ ns) = cond (S n) 0 1 + missing S ns

no_more_at : (s f : Bool) → cond (s || f) 0 1 ≤ cond s 0 1
no_more_at true f = omega arith
no_more_at false true = omega arith
no_more_at false false = omega arith

fewer_at : (s f : Bool) → (not s && f) ≡ true → cond (s || f) 0 1 < cond s 0 1
fewer_at true f e = cc
fewer_at false true e = omega arith
fewer_at false false e = cc

no_more : (S F : ℕ → Bool) (ns : List ℕ) → missing (either S F) ns ≤ missing S ns
no_more S F [] = omega arith
no_more S F (n ∷ ns) = let here = no_more_at (S n) (F n) in let rest = no_more S F ns in omega (arith, here, rest)

fewer : (S F : ℕ → Bool) (ns : List ℕ) → list_any (is_more S F) ns ≡ true → missing (either S F) ns < missing S ns
fewer S F [] e = cc
fewer S F (n ∷ ns) e =
    elim (or_cases (is_more S F n) (list_any (is_more S F) ns) e) as (λ _. missing (either S F) (n ∷ ns) < missing S (n ∷ ns)) [
      | inl h ↦ let here = fewer_at (S n) (F n) h in let rest = no_more S F ns in omega (arith, here, rest)
      | inr h ↦ let here = no_more_at (S n) (F n) in let rest = fewer S F ns h in omega (arith, here, rest)
    ]

-- where none is found of these numbers, what the other test finds of them passes
all_found : (S F : ℕ → Bool) (ns : List ℕ) → list_any (is_more S F) ns ≡ false → (n : ℕ) → list_any (λ m. nat_eq m n) ns ≡ true → F n ≡ true → S n ≡ true
all_found S F [] e n among found = cc
all_found S F (m ∷ ms) e n among found =
    let parts = or_none (is_more S F m) (list_any (is_more S F) ms) e in
    elim (or_cases (nat_eq m n) (list_any (λ k. nat_eq k n) ms) among) as (λ _. S n ≡ true) [
      | inl h ↦ by_test (S n) (F n) (subst (λ (k : ℕ). is_more S F k ≡ false) (eqb-true m n h) parts.0) found
      | inr h ↦ all_found S F ms parts.1 n h found
    ] where
      by_test : (s f : Bool) → (not s && f) ≡ false → f ≡ true → s ≡ true
      by_test true f e h = refl
      by_test false true e h = cc
      by_test false false e h = cc

-- ---- what is live at the starts of blocks

module _ (blocks : List Block) (x : Place) where
  -- the walk up the first of these blocks finds the place, where these starts are known
  abbrev walks : (ℕ → Bool) → List Block → Bool
  walks S [] = false
  walks S (b ∷ bs) = live_from (λ n y. S n) b.items (next_of bs) x

  abbrev finds : (ℕ → Bool) → ℕ → Bool
  finds S n = walks S (from_block blocks n)

  -- the place is live at the starts that pass
  abbrev AreFound : (ℕ → Bool) → Type 0
  AreFound S = (n : ℕ) → S n ≡ true → Live (program_of false blocks (λ q. None)) x (block_start n)

  -- and where the walk finds it
  found_more : (S : ℕ → Bool) → AreFound S → AreFound (finds S)
  found_more S found n = by_blocks (from_block blocks n) refl where
    by_blocks : (fbs : List Block) → from_block blocks n ≡ fbs → walks S fbs ≡ true → Live (program_of false blocks (λ q. None)) x (block_start n)
    by_blocks [] e w = cc
    by_blocks (c ∷ cs) e w =
        walk_is_live false blocks (λ q. None) x (λ m. S m ≡ true) found n 0 c.items c.source_end cs
        (λ j. let z : 0 + j ≡ j = omega arith in ap (fetch_in (from_block blocks n)) z ∙ ap (λ (bs : List Block). fetch_in bs j) e)
        ((walk_facts x (λ m y. S m) c.items (next_of cs)).0 w)

  found_either : (S F : ℕ → Bool) → AreFound S → AreFound F → AreFound (either S F)
  found_either S F s f n e = elim (or_cases (S n) (F n) e) [ inl h ↦ s n h | inr h ↦ f n h ]

  among : (bs : List Block) (n : ℕ) (c : Block) (cs : List Block) → from_block bs n ≡ c ∷ cs → list_any (λ m. nat_eq m n) (ids_of bs) ≡ true
  among [] n c cs e = cc
  among (b ∷ bs) n c cs e = by_test (nat_eq b.id n) refl e (λ h. among bs n c cs h) where
    by_test : (z : Bool) → nat_eq b.id n ≡ z → cond z (b ∷ bs) (from_block bs n) ≡ c ∷ cs →
        (from_block bs n ≡ c ∷ cs → list_any (λ m. nat_eq m n) (ids_of bs) ≡ true) → list_any (λ m. nat_eq m n) (ids_of (b ∷ bs)) ≡ true
    by_test true t e more = or_left (nat_eq b.id n) (list_any (λ m. nat_eq m n) (ids_of bs)) t
    by_test false t e more = or_right (nat_eq b.id n) (list_any (λ m. nat_eq m n) (ids_of bs)) (more e)

  -- the starts where the place is live, as a test
  record LiveStarts : Type 0 where
    starts : ℕ → Bool
    found : AreFound starts
    all : (n : ℕ) → Live (program_of false blocks (λ q. None)) x (block_start n) → starts n ≡ true

  -- where no walk finds more, all are found
  closed : (S : ℕ → Bool) → AreFound S → list_any (is_more S (finds S)) (ids_of blocks) ≡ false → LiveStarts
  closed S found none = record {
    starts = S;
    found = found;
    all = λ n alive. has n (live_is_walked false blocks (λ q. None) x (λ m. S m ≡ true) has alive);
  } where
    has : (n : ℕ) → WalkedIn false blocks (λ q. None) x (λ m. S m ≡ true) (from_block blocks n) 0 → S n ≡ true
    has n = by_blocks (from_block blocks n) refl where
      by_blocks : (fbs : List Block) → from_block blocks n ≡ fbs → WalkedIn false blocks (λ q. None) x (λ m. S m ≡ true) fbs 0 → S n ≡ true
      by_blocks [] e w = absurd w
      by_blocks (c ∷ cs) e w =
          all_found S (finds S) (ids_of blocks) none n (among blocks n c cs e)
          (ap (walks S) e ∙ (walk_facts x (λ m y. S m) c.items (next_of cs)).1 w)

  nothing_found : AreFound (λ n. false)
  nothing_found n e = cc

  -- so many starts can still be added
  search_from : (left : ℕ) (S : ℕ → Bool) → AreFound S → missing S (ids_of blocks) ≤ left → LiveStarts
  search_from zero S found le = by_test (list_any (is_more S (finds S)) (ids_of blocks)) refl where
    by_test : (z : Bool) → list_any (is_more S (finds S)) (ids_of blocks) ≡ z → LiveStarts
    by_test false e = closed S found e
    by_test true e = let lt = fewer S (finds S) (ids_of blocks) e in absurd (omega (arith, lt, le))
  search_from (suc left) S found le =
      by_test (list_any (is_more S (finds S)) (ids_of blocks)) refl
      (λ e. search_from left (either S (finds S)) (found_either S (finds S) found (found_more S found))
      (let lt = fewer S (finds S) (ids_of blocks) e in omega (arith, lt, le))) where
        by_test : (z : Bool) → list_any (is_more S (finds S)) (ids_of blocks) ≡ z →
            (list_any (is_more S (finds S)) (ids_of blocks) ≡ true → LiveStarts) → LiveStarts
        by_test false e more = closed S found e
        by_test true e more = more e

  live_starts : LiveStarts
  live_starts = search_from (missing (λ n. false) (ids_of blocks)) (λ n. false) nothing_found (omega arith)

-- a test of what is live
pub record LivenessTest (f : Function) : Type 0 where
  pub live : ℕ → ℕ → Bool
  pub decides : Decides f live

pub liveness_test : (f : Function) → LivenessTest f
liveness_test f = record {
  live = λ n r. (live_starts f.blocks (Register r)).starts n;
  decides = λ n r. ((live_starts f.blocks (Register r)).found n, (live_starts f.blocks (Register r)).all n);
}
