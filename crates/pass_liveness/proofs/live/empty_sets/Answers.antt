use Rattle.std.proofs.Common.{◌≡◌, ◌+◌, ℕ, List, [], ◌∷◌, ◌++◌, length, false, sym, ap, ◌∙◌, subst, length-append}
use Rattle.std.specs.Prelude.{slice_index_or}
use Rattle.rv64_instr.specs.declared.place.Place.{Place}
use Rattle.pass_liveness.specs.Sets.{has}
use Rattle.pass_liveness.proofs.Places.{has_none, has_nothing}
use Rattle.dataflow.proofs.Pushed.{at_push}
use Rattle.pass_liveness.proofs.live.empty_sets.Goals as goal

abbrev AreEmpty : List (List ℕ) → Type 0
AreEmpty sets = (slots : List ℕ) (b : ℕ) (x : Place) → has slots (slice_index_or sets b []) x ≡ false

none_yet : (sets : List (List ℕ)) → sets ≡ [] → AreEmpty sets
none_yet sets e slots b x = ap (λ (s : List (List ℕ)). has slots (slice_index_or s b []) x) e ∙ has_nothing slots x

one_more : (sets : List (List ℕ)) (set : List ℕ) → ((slots : List ℕ) (x : Place) → has slots set x ≡ false) → AreEmpty sets → AreEmpty (sets ++ set ∷ [])
one_more sets set h each slots b x = at_push sets set [] b (λ s. has slots s x ≡ false) (λ l. each slots b x) (λ e. h slots x) (λ l. has_nothing slots x)

pub loop-init : goal.loop-init
loop-init c = (ap length c.in_ok-sets.ensures.items, none_yet c.in_ok-sets.sets.items c.in_ok-sets.ensures.items)

pub loop-preserved : goal.loop-preserved
loop-preserved c =
    let e = c.in_ok-push.ensures.items in (
      ap length e ∙ length-append c.loop.sets.items _ ∙ ap (λ (z : ℕ). z + 1) c.loop.invariant.0,
      subst AreEmpty (sym e) (one_more c.loop.sets.items c.new.result (λ slots x. has_none slots c.new.result c.new.ensures x) c.loop.invariant.1),
    )
