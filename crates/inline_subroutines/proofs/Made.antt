-- The subroutines of instances, one after the other, and what their ranges tell.
use Rattle.std.proofs.Common.{◌≡◌, ℕ, zero, suc, ◌+◌, List, [], ◌∷◌, ◌++◌, Some, refl, sym, subst, arith, slice_get}
use Rattle.std.proofs.Common.{Contains}
use Rattle.std.specs.Prelude.{All}
use Rattle.std.proofs.lemmas.List.Elements.{All-nil, All-cons, All-head, All-tail}
use Rattle.read_metadata.specs.Maps.{Maps}
use Rattle.dwarf_rnglists.specs.declared.range.AddressRange.{AddressRange}
use Rattle.dwarf_rnglists.specs.Ranges.{Ascend, Cover}
use Rattle.inline_instances.specs.declared.instance.Instance.{Instance}
use Rattle.inline_instances.specs.Laws.{IsInlinedThrough}
use Rattle.inline_instances.proofs.Covers.{of_inlined_code, ranges_do_ascend}
use Rattle.inline_subroutines.specs.declared.subroutine.InlinedSubroutine.{InlinedSubroutine}
use Rattle.inline_subroutines.specs.Subroutines.{IsOfInstance, AreOfInstances}
use Rattle.inline_subroutines.specs.Laws.{RangesAreOfInlinedCode, RangesAscend}

-- one more subroutine
pub made_more : (meta : Maps) (is : List Instance) (rs : List (List AddressRange)) (ss : List InlinedSubroutine) (i : Instance) (own : List AddressRange)
    (s : InlinedSubroutine) → AreOfInstances meta is rs ss → IsOfInstance meta i own s
    → AreOfInstances meta (is ++ i ∷ []) (rs ++ own ∷ []) (ss ++ s ∷ [])
made_more meta [] [] [] i own s are one = (one, tt)
made_more meta [] [] (t ∷ ss) i own s are one = absurd are
made_more meta [] (r ∷ rs) [] i own s are one = absurd are
made_more meta [] (r ∷ rs) (t ∷ ss) i own s are one = absurd are
made_more meta (h ∷ is) [] [] i own s are one = absurd are
made_more meta (h ∷ is) [] (t ∷ ss) i own s are one = absurd are
made_more meta (h ∷ is) (r ∷ rs) [] i own s are one = absurd are
made_more meta (h ∷ is) (r ∷ rs) (t ∷ ss) i own s are one = (are.0, made_more meta is rs ss i own s are.1 one)

-- the instance of a subroutine, with its index
record Of (meta : Maps) (is : List Instance) (rs : List (List AddressRange)) (s : InlinedSubroutine) : Type 0 where
  index : ℕ
  instance : Instance
  own : List AddressRange
  at : slice_get is index ≡ Some instance
  ranges_at : slice_get rs index ≡ Some own
  of : IsOfInstance meta instance own s

of_among : (meta : Maps) (is : List Instance) (rs : List (List AddressRange)) (ss : List InlinedSubroutine) (s : InlinedSubroutine)
    → AreOfInstances meta is rs ss → Contains ss s → Of meta is rs s
of_among meta [] [] [] s are (k, below, e) = absurd (omega arith)
of_among meta [] [] (t ∷ ss) s are among = absurd are
of_among meta [] (r ∷ rs) [] s are among = absurd are
of_among meta [] (r ∷ rs) (t ∷ ss) s are among = absurd are
of_among meta (i ∷ is) [] [] s are among = absurd are
of_among meta (i ∷ is) [] (t ∷ ss) s are among = absurd are
of_among meta (i ∷ is) (r ∷ rs) [] s are among = absurd are
of_among meta (i ∷ is) (r ∷ rs) (t ∷ ss) s are (zero, below, e) =
    record { index = 0; instance = i; own = r; at = refl; ranges_at = refl; of = subst (IsOfInstance meta i r) e are.0 }
of_among meta (i ∷ is) (r ∷ rs) (t ∷ ss) s are (suc k, below, e) =
    let found = of_among meta is rs ss s are.1 (k, omega arith, e) in
    record { index = suc found.index; instance = found.instance; own = found.own; at = found.at; ranges_at = found.ranges_at; of = found.of }

pub of_subroutines : RangesAreOfInlinedCode
of_subroutines meta f subroutines are stand e address among from to s on =
    let found = of_among meta are.inlined.instances are.inlined.ranges subroutines s are.each on in
    let is =
    of_inlined_code meta f are.inlined are.are stand e address among from to found.index found.instance found.own found.at found.ranges_at in (
      λ covered.
          subst (IsInlinedThrough meta f e) (sym found.of.call) (is.0 (subst (λ (rs : List AddressRange). Cover rs address) found.of.ranges covered)),
      λ through.
          subst (λ (rs : List AddressRange). Cover rs address) (sym found.of.ranges) (is.1 (subst (IsInlinedThrough meta f e) found.of.call through)),
    )

all_ascend : (meta : Maps) (is : List Instance) (rs : List (List AddressRange)) (ss : List InlinedSubroutine) → AreOfInstances meta is rs ss → All Ascend rs
    → All (λ s. Ascend s.ranges) ss
all_ascend meta [] [] [] are all = All-nil (λ (s : InlinedSubroutine). Ascend s.ranges)
all_ascend meta [] [] (s ∷ ss) are all = absurd are
all_ascend meta [] (r ∷ rs) [] are all = absurd are
all_ascend meta [] (r ∷ rs) (s ∷ ss) are all = absurd are
all_ascend meta (i ∷ is) [] [] are all = absurd are
all_ascend meta (i ∷ is) [] (s ∷ ss) are all = absurd are
all_ascend meta (i ∷ is) (r ∷ rs) [] are all = absurd are
all_ascend meta (i ∷ is) (r ∷ rs) (s ∷ ss) are all =
    All-cons (λ (t : InlinedSubroutine). Ascend t.ranges) s ss (subst Ascend (sym are.0.ranges) (All-head Ascend r rs all))
    (all_ascend meta is rs ss are.1 (All-tail Ascend r rs all))

pub ascend_of_subroutines : RangesAscend
ascend_of_subroutines meta f subroutines are stand =
    all_ascend meta are.inlined.instances are.inlined.ranges subroutines are.each (ranges_do_ascend meta f are.inlined are.are stand)
