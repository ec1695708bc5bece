use Rattle.std.proofs.Common.{◌≡◌, ◌<◌, ◌≤◌, ◌+◌, ℕ, List, length, refl, sym, ◌∙◌, ap, inl, inr, arith}
use Rattle.std.specs.Prelude.{Option, None, Bool, true, false, cond, nat_eq, slice_index, slice_index_or}
use Rattle.std.proofs.lemmas.Bool.{cases_lt}
use Rattle.std.proofs.lemmas.Bool.Decides.{eqb_tells}
use Rattle.std.proofs.lemmas.List.{get_or_past}
use Rattle.rv64_instr.specs.declared.place.Place.{Place}
use Rattle.value_tracker.specs.ClassLocation.{place_of}
use Rattle.location_ranges.proofs.places.place_parts.Goals as goal

both_off : (a b : Bool) → cond a true b ≡ false → (a ≡ false) × (b ≡ false)
both_off false b e = (refl, e)
both_off true b e = absurd (let no : true ≡ false = e in cc)

-- one part more
module _ (initial old new : List (Option Place)) (changed flags : List Bool) (i : ℕ) (p : Option Place) (moved : Bool)
    (places : (k : ℕ) → slice_index_or new k None ≡ cond (nat_eq k i) p (slice_index_or old k None))
    (marks : (k : ℕ) → slice_index_or flags k false ≡ cond (nat_eq k i) moved (slice_index_or changed k false)) where
  place_by : (k : ℕ) (b : Bool) → nat_eq k i ≡ b → slice_index_or new k None ≡ cond b p (slice_index_or old k None)
  place_by k b e = places k ∙ ap (λ (z : Bool). cond z p (slice_index_or old k None)) e

  mark_by : (k : ℕ) (b : Bool) → nat_eq k i ≡ b → slice_index_or flags k false ≡ cond b moved (slice_index_or changed k false)
  mark_by k b e = marks k ∙ ap (λ (z : Bool). cond z moved (slice_index_or changed k false)) e

  set_more : (f : ℕ → Option Place) → ((k : ℕ) → k < i → slice_index_or old k None ≡ f k) → p ≡ f i → (k : ℕ) → k < i + 1 → slice_index_or new k None ≡ f k
  set_more f below here k lt = elim (eqb_tells k i) [
    | inl h ↦ place_by k true h.0 ∙ (here ∙ ap f (sym h.1))
    | inr h ↦ place_by k false h.0 ∙ below k (let ne = h.1 in omega (arith, lt, ne))
  ]

  rest_more : ((k : ℕ) → i ≤ k → slice_index_or old k None ≡ slice_index_or initial k None) → (k : ℕ) → i + 1 ≤ k →
      slice_index_or new k None ≡ slice_index_or initial k None
  rest_more after k le = elim (eqb_tells k i) [
    | inl h ↦ absurd (let is = h.1 in omega (arith, le, is))
    | inr h ↦ place_by k false h.0 ∙ after k (omega (arith, le))
  ]

  same_more : (moved ≡ false → slice_index_or old i None ≡ p) → slice_index_or old i None ≡ slice_index_or initial i None →
      ((k : ℕ) → k < i → slice_index_or changed k false ≡ false → slice_index_or initial k None ≡ slice_index_or old k None) → (k : ℕ) → k < i + 1 →
      slice_index_or flags k false ≡ false →
      slice_index_or initial k None ≡ slice_index_or new k None
  same_more here start below k lt e = elim (eqb_tells k i) [
    | inl h ↦
        let off : moved ≡ false = sym (mark_by k true h.0) ∙ e in
        ap (λ (n : ℕ). slice_index_or initial n None) h.1 ∙ (sym start ∙ (here off ∙ sym (place_by k true h.0)))
    | inr h ↦
        let off : slice_index_or changed k false ≡ false = sym (mark_by k false h.0) ∙ e in
        below k (let ne = h.1 in omega (arith, lt, ne)) off ∙ sym (place_by k false h.0)
  ]

  quiet_more : (any after : Bool) → (any ≡ false → (k : ℕ) → k < i → slice_index_or changed k false ≡ false) → after ≡ cond moved true any → after ≡ false →
      (k : ℕ) → k < i + 1 → slice_index_or flags k false ≡ false
  quiet_more any after below is e k lt =
      let off = both_off moved any (sym is ∙ e) in
      elim (eqb_tells k i) [
        | inl h ↦ mark_by k true h.0 ∙ off.0
        | inr h ↦ mark_by k false h.0 ∙ below off.1 k (let ne = h.1 in omega (arith, lt, ne))
      ]

pub loop-j-preserved : goal.loop-j-preserved
loop-j-preserved c =
    let l = c.loop-j in
    let s = c.renew_place-moved in
    let inv = l.invariant in
    let stand = c.args.stand.now in
    let first = c.args.places.now.items in
    let old = l.places.items in
    let new = s.new.places.items in
    let changed = l.changed.items in
    let flags = s.new.changed.items in
    let f : ℕ → Option Place = λ k. cond stand.reached (place_of c.args.firsts.now stand.constants.items (slice_index stand.held.parts.items k)) None in
    let p = f l.j in
    record {
      count = s.ensures.count ∙ inv.count;
      flags = s.ensures.flags ∙ inv.flags;
      set = set_more first old new changed flags l.j p s.result s.ensures.places s.ensures.changed f inv.set refl;
      rest = rest_more first old new changed flags l.j p s.result s.ensures.places s.ensures.changed inv.rest;
      same = same_more first old new changed flags l.j p s.result s.ensures.places s.ensures.changed s.ensures.same (inv.rest l.j (omega arith)) inv.same;
      quiet = quiet_more first old new changed flags l.j p s.result s.ensures.places s.ensures.changed l.any c.either-any.result inv.quiet c.either-any.ensures;
    }

pub returns-clause-places : goal.returns-clause-places
returns-clause-places c = λ k lt. c.loop-j.invariant.set k (omega (arith, lt, c.loop-j-test.false, c.loop-j.invariant.count))

pub returns-clause-changes : goal.returns-clause-changes
returns-clause-changes c =
    let l = c.loop-j in
    let inv = l.invariant in
    let first = c.args.places.now.items in
    record {
      same = λ k e. elim (cases_lt k (length first)) [
        | inl lt ↦ inv.same k (omega (arith, lt, c.loop-j-test.false)) e
        | inr le ↦ get_or_past first k None le ∙ sym (get_or_past l.places.items k None (omega (arith, le, inv.count)))
      ];
      quiet = λ e k. elim (cases_lt k (length first)) [
        | inl lt ↦ inv.quiet e k (omega (arith, lt, c.loop-j-test.false))
        | inr le ↦ get_or_past l.changed.items k false (omega (arith, le, inv.flags))
      ];
    }
