use Rattle.std.proofs.Common.{◌≡◌, ◌≢◌, ℕ, arith, sym, subst, inl, inr}
use Rattle.std.specs.Prelude.{true, false, slice_index, slice_index_or}
use Rattle.std.proofs.lemmas.Bool.Decides.{eqb_tells}
use Rattle.location_ranges.proofs.seen.flag_all.Goals as goal

pub loop-j-preserved : goal.loop-j-preserved
loop-j-preserved c = λ k lt some.
    let classes = c.args.classes.now in
    let new = c.flag.new.used.items in
    elim (eqb_tells k c.loop-j.j) [
      | inl h ↦
          subst (λ (n : ℕ). slice_index_or new (slice_index classes n) false ≡ true) (sym h.1)
          (c.in_ok-flag.ensures.here (subst (λ (n : ℕ). slice_index classes n ≢ 0) h.1 some))
      | inr h ↦ c.in_ok-flag.ensures.others (slice_index classes k) (c.loop-j.invariant k (let ne = h.1 in omega (arith, lt, ne)) some)
    ]
