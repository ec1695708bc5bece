use Rattle.std.proofs.Common.{◌≡◌, ◌≤◌, ◌<◌, ◌+◌, ℕ, List, [], ◌∷◌, length, slice_index_or, length-append, sym, ap, ◌∙◌, subst, arith}
use Rattle.rv64_instr.specs.declared.place.Place.{Place}
use Rattle.pass_liveness.specs.Sets.{has}
use Rattle.scan_choice.specs.Given.{given_by}
use Rattle.scan_stale.specs.Shared.{is_sharing}
use Rattle.scan_stale.proofs.Shared.{each_pushed}
use Rattle.scan_stale.proofs.places.all_sharing.Goals as goal

pub loop-q-init : goal.loop-q-init
loop-q-init c = record {
  long = ap (length {A = List ℕ}) c.in_ok-shared.ensures.items;
  each = λ q lt. absurd (omega (arith, lt));
}

pub loop-q-preserved : goal.loop-q-preserved
loop-q-preserved c =
    let P : ℕ → List ℕ → Type 0 =
    λ q words. (slots : List ℕ) (x : Place) → length slots ≤ 256 → has slots words x ≡ is_sharing (given_by c.args.given.now) q x in
    let e = c.in_ok-push.ensures.items in
    record {
      long = ap (length {A = List ℕ}) e ∙ length-append c.loop-q.shared.items (c.sharing.result ∷ []) ∙ ap (λ (n : ℕ). n + 1) c.loop-q.invariant.long;
      each = λ q lt. subst (λ (sets : List (List ℕ)). P q (slice_index_or sets q [])) (sym e)
          (each_pushed P c.loop-q.shared.items c.sharing.result c.loop-q.q c.loop-q.invariant.long c.loop-q.invariant.each c.sharing.ensures q lt);
    }
