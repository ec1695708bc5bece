-- The ranges of instances from one instruction to the next: those of instances that are left are closed, those of instances that are entered are opened.
-- Plan: what the ranges become by what is still left and still entered is at each step what they become by all of both. An instance stands behind those around
-- it, so one that is later than what was reached isn't around that.
use Rattle.std.proofs.Common.{◌≡◌, ℕ, suc, ◌+◌, ◌<◌, Bool, true, false, cond, ◌&&◌, not, List, [], ◌∷◌, ◌++◌, length, Option, Some, None, refl, sym}
use Rattle.std.proofs.Common.{◌∙◌, ap, subst, arith}
use Rattle.std.proofs.Common.{◌||◌, slice_get, slice_set, get_or, nat_eq, true≢false, eqb-true, ne_eqb, IfSome, inl, inr, get_or-set_same, get_or-set_other}
use Rattle.std.proofs.lemmas.Bool.{cases_eq}
use Rattle.std.proofs.lemmas.List.{length-set}
use Rattle.std.proofs.lemmas.Option.{slice_get-get_or}
use Rattle.std.specs.List.{list_any}
use Rattle.dwarf_rnglists.specs.declared.range.AddressRange.{AddressRange}
use Rattle.inline_instances.specs.declared.instance.Instance.{Instance}
use Rattle.inline_instances.specs.declared.ranges.OpenRanges.{OpenRanges}
use Rattle.inline_instances.specs.steps.Marks.{IsIn}
use Rattle.inline_instances.specs.steps.Open.{AreAround, AreEarlier, IsClosed, IsOpened, IsShifted, closed_at, start_at, rank}
use Rattle.inline_instances.proofs.Ways.{some_is_some}
use Rattle.inline_instances.proofs.Members.{in_head, or_cases}

pub not_true : (z : Bool) → (z ≡ true → ⊥) → z ≡ false
not_true true other = absurd (other refl)
not_true false other = refl

-- the parent of an instance is below what the instance is below
pub parent_below : (instances : List Instance) → AreEarlier instances → (k : ℕ) (i : Instance) (b : ℕ) → slice_get instances k ≡ Some i → k < b
    → IfSome i.parent (λ p. p < b)
parent_below instances earlier k i b at below = by i.parent refl
  where
    by : (o : Option ℕ) → i.parent ≡ o → IfSome o (λ p. p < b)
    by None e = tt
    by (Some p) e = let first : p < k = earlier k p i at e in omega (arith, first, below)

-- so are all around it
pub around_below : (instances : List Instance) → AreEarlier instances → (at : Option ℕ) (ks : List ℕ) (b j : ℕ) → AreAround instances at ks
    → IfSome at (λ k. k < b) → IsIn j ks → j < b
around_below instances earlier None [] b j is below on = absurd (true≢false (sym on))
around_below instances earlier None (k ∷ ks) b j is below on = absurd is
around_below instances earlier (Some k) [] b j is below on = absurd is
around_below instances earlier (Some k) (n ∷ ks) b j is below on = elim (or_cases (nat_eq j n) (list_any (nat_eq j) ks) on) [
  | inl same ↦ let here : j ≡ n = eqb-true j n same in let there : n ≡ k = is.1 in omega (arith, here, there, below)
  | inr rest ↦ around_below instances earlier is.0.parent ks b j is.3 (parent_below instances earlier k is.0 b is.2 below) rest
]

-- there is one list of those around an instance
pub one_around : (instances : List Instance) (at : Option ℕ) (ks js : List ℕ) → AreAround instances at ks → AreAround instances at js → ks ≡ js
one_around instances None [] [] is also = refl
one_around instances None [] (j ∷ js) is also = absurd also
one_around instances None (k ∷ ks) js is also = absurd is
one_around instances (Some n) [] js is also = absurd is
one_around instances (Some n) (k ∷ ks) [] is also = absurd also
one_around instances (Some n) (k ∷ ks) (j ∷ js) is also =
    let one : also.0 ≡ is.0 = some_is_some also.0 is.0 (sym also.2 ∙ is.2) in
    let tails : ks ≡ js = one_around instances is.0.parent ks js is.3 (subst (λ (i : Instance). AreAround instances i.parent js) one also.3) in
    let heads : k ≡ j = is.1 ∙ sym also.1 in
    λ t. heads t ∷ tails t

-- ---- what is still to be closed and opened

abbrev pub has : ℕ → List ℕ → Bool
has k ks = list_any (nat_eq k) ks

abbrev pub start : OpenRanges → ℕ → ℕ
start o k = get_or o.starts.items k 0

abbrev pub ranges : OpenRanges → ℕ → List AddressRange
ranges o k = get_or o.ranges.items k []

pub record IsShifting (instances : List Instance) (ks js : List ℕ) (address : ℕ) (old now : OpenRanges) (inside reached : Option ℕ) : Type 0 where
  pub left : List ℕ
  pub entered : List ℕ
  pub still_left : AreAround instances inside left
  pub still_entered : AreAround instances reached entered
  pub closed : (k : ℕ) → closed_at (has k left) (has k entered) (start now k) address (ranges now k)
      ≡ closed_at (has k ks) (has k js) (start old k) address (ranges old k)
  pub began : (k : ℕ) → start_at (has k left) (has k entered) (start now k) address ≡ start_at (has k ks) (has k js) (start old k) address

pub shift_begins : (instances : List Instance) (ks js : List ℕ) (address : ℕ) (old : OpenRanges) (inside reached : Option ℕ) → AreAround instances inside ks
    → AreAround instances reached js → IsShifting instances ks js address old old inside reached
shift_begins instances ks js address old inside reached is also =
    record { left = ks; entered = js; still_left = is; still_entered = also; closed = λ k. refl; began = λ k. refl }

other_head : (k j : ℕ) (ks : List ℕ) → (k ≡ j → ⊥) → has k (j ∷ ks) ≡ has k ks
other_head k j ks other = ap (λ (z : Bool). z || has k ks) (ne_eqb k j other)

module _ (instances : List Instance) (earlier : AreEarlier instances) (ks js : List ℕ) (address : ℕ) (old now next : OpenRanges) (index : ℕ) (i : Instance)
    (at : slice_get instances index ≡ Some i) where
  apart : (at : Option ℕ) (ns : List ℕ) (k : ℕ) → AreAround instances at ns → IfSome at (λ n. n < index) → k ≡ index → has k ns ≡ false
  apart around ns k are below same =
      not_true (has k ns) (λ on. let less : k < index = around_below instances earlier around ns index k are below on in omega (arith, less, same))

  inner : (m : ℕ) (h : Instance) (ns : List ℕ) (k : ℕ) → m ≡ index → slice_get instances m ≡ Some h → AreAround instances h.parent ns → k ≡ index
      → has k ns ≡ false
  inner m h ns k same stands are here =
      not_true (has k ns)
      (λ on.
      let less : k < m = around_below instances earlier h.parent ns m k are (parents m h stands) on in
      omega (arith, less, same, here))
    where
      parents : (m : ℕ) (h : Instance) → slice_get instances m ≡ Some h → IfSome h.parent (λ p. p < m)
      parents m h stands = by h.parent refl
        where
          by : (o : Option ℕ) → h.parent ≡ o → IfSome o (λ p. p < m)
          by None e = tt
          by (Some p) e = earlier m p h stands e

  -- the ranges of a later instance are closed
  pub shift_closed : (reached : Option ℕ) → IsShifting instances ks js address old now (Some index) reached → IfSome reached (λ k. k < index)
      → IsClosed index address now next → index < length now.ranges.items → IsShifting instances ks js address old next i.parent reached
  shift_closed reached s below is inside = by s.left s.still_left s.closed s.began
    where
      by : (left : List ℕ) → AreAround instances (Some index) left
          → ((k : ℕ) → closed_at (has k left) (has k s.entered) (start now k) address (ranges now k)
          ≡ closed_at (has k ks) (has k js) (start old k) address (ranges old k))
          → ((k : ℕ) → start_at (has k left) (has k s.entered) (start now k) address ≡ start_at (has k ks) (has k js) (start old k) address)
          → IsShifting instances ks js address old next i.parent reached
      by [] are closed began = absurd are
      by (j ∷ rest) are closed began = record {
        left = rest;
        entered = s.entered;
        still_left = subst (λ (h : Instance). AreAround instances h.parent rest) (some_is_some are.0 i (sym are.2 ∙ at)) are.3;
        still_entered = s.still_entered;
        closed = λ k. elim (cases_eq k index) [ inl same ↦ closed_here k same ∙ closed k | inr other ↦ closed_there k other ∙ closed k ];
        began = λ k. elim (cases_eq k index) [ inl same ↦ began_here k same ∙ began k | inr other ↦ began_there k other ∙ began k ];
      }
        where
          same_start : (k : ℕ) → start next k ≡ start now k
          same_start k = ap (λ (ns : List ℕ). get_or ns k 0) is.starts

          not_entered : (k : ℕ) → k ≡ index → has k s.entered ≡ false
          not_entered k same = apart reached s.entered k s.still_entered below same

          on_left : (k : ℕ) → k ≡ index → has k (j ∷ rest) ≡ true
          on_left k same = in_head k j rest (same ∙ sym are.1)

          off_rest : (k : ℕ) → k ≡ index → has k rest ≡ false
          off_rest k same = inner index are.0 rest k refl are.2 are.3 same

          grown : (k : ℕ) → k ≡ index → ranges next k ≡ ranges now k ++ record { lo = start now k; hi = address } ∷ []
          grown k same =
              ap (ranges next) same ∙ ap (λ (rs : List (List AddressRange)). get_or rs index []) is.ranges
              ∙ get_or-set_same now.ranges.items index (ranges now index ++ record { lo = start now index; hi = address } ∷ []) [] inside
              ∙ ap (λ (n : ℕ). ranges now n ++ record { lo = start now n; hi = address } ∷ []) (sym same)

          closed_here : (k : ℕ) → k ≡ index
              → closed_at (has k rest) (has k s.entered) (start next k) address (ranges next k)
              ≡ closed_at (has k (j ∷ rest)) (has k s.entered) (start now k) address (ranges now k)
          closed_here k same =
              ap (λ (z : Bool). closed_at z (has k s.entered) (start next k) address (ranges next k)) (off_rest k same)
              ∙ grown k same
              ∙ sym (λ t. closed_at (on_left k same t) (not_entered k same t) (start now k) address (ranges now k))

          closed_there : (k : ℕ) → (k ≡ index → ⊥)
              → closed_at (has k rest) (has k s.entered) (start next k) address (ranges next k)
              ≡ closed_at (has k (j ∷ rest)) (has k s.entered) (start now k) address (ranges now k)
          closed_there k other =
              let same_ranges : ranges next k ≡ ranges now k =
              ap (λ (rs : List (List AddressRange)). get_or rs k []) is.ranges
              ∙ get_or-set_other now.ranges.items index k (ranges now index ++ record { lo = start now index; hi = address } ∷ []) [] other in
              let head : has k rest ≡ has k (j ∷ rest) = sym (other_head k j rest (λ e. other (e ∙ are.1))) in
              λ t. closed_at (head t) (has k s.entered) (same_start k t) address (same_ranges t)

          began_here : (k : ℕ) → k ≡ index
              → start_at (has k rest) (has k s.entered) (start next k) address ≡ start_at (has k (j ∷ rest)) (has k s.entered) (start now k) address
          began_here k same =
              ap (λ (z : Bool). start_at (has k rest) z (start next k) address) (not_entered k same)
              ∙ same_start k
              ∙ sym (ap (λ (z : Bool). start_at (has k (j ∷ rest)) z (start now k) address) (not_entered k same))

          began_there : (k : ℕ) → (k ≡ index → ⊥)
              → start_at (has k rest) (has k s.entered) (start next k) address ≡ start_at (has k (j ∷ rest)) (has k s.entered) (start now k) address
          began_there k other =
              let head : has k rest ≡ has k (j ∷ rest) = sym (other_head k j rest (λ e. other (e ∙ are.1))) in
              λ t. start_at (head t) (has k s.entered) (same_start k t) address

  -- a range of a later instance begins
  pub shift_opened : (inside : Option ℕ) → IsShifting instances ks js address old now inside (Some index) → IfSome inside (λ k. k < index)
      → IsOpened index address now next → index < length now.starts.items → IsShifting instances ks js address old next inside i.parent
  shift_opened inside s below is within = by s.entered s.still_entered s.closed s.began
    where
      by : (entered : List ℕ) → AreAround instances (Some index) entered
          → ((k : ℕ) → closed_at (has k s.left) (has k entered) (start now k) address (ranges now k)
          ≡ closed_at (has k ks) (has k js) (start old k) address (ranges old k))
          → ((k : ℕ) → start_at (has k s.left) (has k entered) (start now k) address ≡ start_at (has k ks) (has k js) (start old k) address)
          → IsShifting instances ks js address old next inside i.parent
      by [] are closed began = absurd are
      by (j ∷ rest) are closed began = record {
        left = s.left;
        entered = rest;
        still_left = s.still_left;
        still_entered = subst (λ (h : Instance). AreAround instances h.parent rest) (some_is_some are.0 i (sym are.2 ∙ at)) are.3;
        closed = λ k. elim (cases_eq k index) [ inl same ↦ closed_here k same ∙ closed k | inr other ↦ closed_there k other ∙ closed k ];
        began = λ k. elim (cases_eq k index) [ inl same ↦ began_here k same ∙ began k | inr other ↦ began_there k other ∙ began k ];
      }
        where
          same_ranges : (k : ℕ) → ranges next k ≡ ranges now k
          same_ranges k = ap (λ (rs : List (List AddressRange)). get_or rs k []) is.ranges

          not_left : (k : ℕ) → k ≡ index → has k s.left ≡ false
          not_left k same = apart inside s.left k s.still_left below same

          on_entered : (k : ℕ) → k ≡ index → has k (j ∷ rest) ≡ true
          on_entered k same = in_head k j rest (same ∙ sym are.1)

          off_rest : (k : ℕ) → k ≡ index → has k rest ≡ false
          off_rest k same = inner index are.0 rest k refl are.2 are.3 same

          other_start : (k : ℕ) → (k ≡ index → ⊥) → start next k ≡ start now k
          other_start k other = ap (λ (ns : List ℕ). get_or ns k 0) is.starts ∙ get_or-set_other now.starts.items index k address 0 other

          own_start : (k : ℕ) → k ≡ index → start next k ≡ address
          own_start k same =
              ap (start next) same ∙ ap (λ (ns : List ℕ). get_or ns index 0) is.starts ∙ get_or-set_same now.starts.items index address 0 within

          head_of : (k : ℕ) → (k ≡ index → ⊥) → has k rest ≡ has k (j ∷ rest)
          head_of k other = sym (other_head k j rest (λ e. other (e ∙ are.1)))

          closed_here : (k : ℕ) → k ≡ index
              → closed_at (has k s.left) (has k rest) (start next k) address (ranges next k)
              ≡ closed_at (has k s.left) (has k (j ∷ rest)) (start now k) address (ranges now k)
          closed_here k same =
              ap (λ (z : Bool). closed_at z (has k rest) (start next k) address (ranges next k)) (not_left k same)
              ∙ same_ranges k
              ∙ sym (ap (λ (z : Bool). closed_at z (has k (j ∷ rest)) (start now k) address (ranges now k)) (not_left k same))

          closed_there : (k : ℕ) → (k ≡ index → ⊥)
              → closed_at (has k s.left) (has k rest) (start next k) address (ranges next k)
              ≡ closed_at (has k s.left) (has k (j ∷ rest)) (start now k) address (ranges now k)
          closed_there k other = λ t. closed_at (has k s.left) (head_of k other t) (other_start k other t) address (same_ranges k t)

          began_here : (k : ℕ) → k ≡ index
              → start_at (has k s.left) (has k rest) (start next k) address ≡ start_at (has k s.left) (has k (j ∷ rest)) (start now k) address
          began_here k same =
              ap (λ (z : Bool). start_at (has k s.left) z (start next k) address) (off_rest k same)
              ∙ own_start k same
              ∙ sym (λ t. start_at (not_left k same t) (on_entered k same t) (start now k) address)

          began_there : (k : ℕ) → (k ≡ index → ⊥)
              → start_at (has k s.left) (has k rest) (start next k) address ≡ start_at (has k s.left) (has k (j ∷ rest)) (start now k) address
          began_there k other = λ t. start_at (has k s.left) (head_of k other t) (other_start k other t) address

-- what is left is entered too
closed_none : (z : Bool) (from address : ℕ) (rs : List AddressRange) → rs ≡ closed_at z z from address rs
closed_none true from address rs = refl
closed_none false from address rs = refl

start_none : (z : Bool) (from address : ℕ) → from ≡ start_at z z from address
start_none true from address = refl
start_none false from address = refl

pub shift_ends : (instances : List Instance) (ks js : List ℕ) (address : ℕ) (old now : OpenRanges) (inside reached : Option ℕ)
    → IsShifting instances ks js address old now inside reached → inside ≡ reached → length now.ranges.items ≡ length old.ranges.items
    → length now.starts.items ≡ length old.starts.items → IsShifted ks js address old now
shift_ends instances ks js address old now inside reached s same sizes counts =
    let one : s.left ≡ s.entered =
    one_around instances reached s.left s.entered (subst (λ (o : Option ℕ). AreAround instances o s.left) same s.still_left) s.still_entered in
    record {
      ranges = sizes;
      starts = counts;
      closed = λ k.
          closed_none (has k s.left) (start now k) address (ranges now k)
          ∙ ap (λ (ns : List ℕ). closed_at (has k s.left) (has k ns) (start now k) address (ranges now k)) one
          ∙ s.closed k;
      began = λ k.
          start_none (has k s.left) (start now k) address
          ∙ ap (λ (ns : List ℕ). start_at (has k s.left) (has k ns) (start now k) address) one
          ∙ s.began k;
    }

-- ---- the walk from one instance to another one

pub rank_less : (inside reached parent : Option ℕ) (index : ℕ) → reached ≡ Some index → IfSome parent (λ p. p < index)
    → rank inside + rank parent < rank inside + rank reached
rank_less inside reached parent index is below =
    let less : rank parent < suc index = by parent below in
    let size : rank reached ≡ suc index = ap rank is in
    omega (arith, less, size)
  where
    by : (o : Option ℕ) → IfSome o (λ p. p < index) → rank o < suc index
    by None none = omega arith
    by (Some p) low = omega (arith, low)

pub rank_less_left : (inside reached parent : Option ℕ) (index : ℕ) → inside ≡ Some index → IfSome parent (λ p. p < index)
    → rank parent + rank reached < rank inside + rank reached
rank_less_left inside reached parent index is below =
    let less : rank reached + rank parent < rank reached + rank inside = rank_less reached inside parent index is below in
    omega (arith, less)

pub below_some : (o : Option ℕ) (n b : ℕ) → o ≡ Some n → IfSome o (λ k. k < b) → n < b
below_some o n b is below = subst (λ (p : Option ℕ). IfSome p (λ k. k < b)) is below

pub none_below : (o : Option ℕ) (b : ℕ) → o ≡ None → IfSome o (λ k. k < b)
none_below o b is = subst (λ (p : Option ℕ). IfSome p (λ k. k < b)) (sym is) tt

pub some_below : (o : Option ℕ) (n b : ℕ) → o ≡ Some n → n < b → IfSome o (λ k. k < b)
some_below o n b is below = subst (λ (p : Option ℕ). IfSome p (λ k. k < b)) (sym is) below

-- the parent of an instance is below it
pub parent_of : (instances : List Instance) → AreEarlier instances → (index : ℕ) (i : Instance) (o : Option ℕ) → o ≡ Some index
    → IfSome o (λ k. k < length instances) → IfSome (get_or instances index i).parent (λ p. p < index)
parent_of instances earlier index i o is inner = by (get_or instances index i).parent refl
  where
    by : (p : Option ℕ) → (get_or instances index i).parent ≡ p → IfSome p (λ q. q < index)
    by None e = tt
    by (Some p) e =
        earlier index p (get_or instances index i) (slice_get-get_or instances index i (below_some o index (length instances) is inner)) e

pub record IsMoving (instances : List Instance) (left entered : Option ℕ) (address : ℕ) (old now : OpenRanges) (inside reached : Option ℕ) : Type 0 where
  pub starts : length now.starts.items ≡ length instances
  pub ranges : length now.ranges.items ≡ length instances
  pub left_in : IfSome inside (λ k. k < length instances)
  pub entered_in : IfSome reached (λ k. k < length instances)
  pub shifting : (ks js : List ℕ) → AreAround instances left ks → AreAround instances entered js → IsShifting instances ks js address old now inside reached

module _ (instances : List Instance) (earlier : AreEarlier instances) (left entered : Option ℕ) (address : ℕ) (old now next : OpenRanges)
    (inside reached : Option ℕ) (index : ℕ) (i : Instance) (m : IsMoving instances left entered address old now inside reached) where
  -- the later instance that is left is closed
  pub moved_out : inside ≡ Some index → IfSome reached (λ k. k < index) → IsClosed index address now next
      → IsMoving instances left entered address old next (get_or instances index i).parent reached
  moved_out is below closed =
      let within : index < length instances = below_some inside index (length instances) is m.left_in in
      let at : slice_get instances index ≡ Some (get_or instances index i) = slice_get-get_or instances index i within in
      record {
        starts = ap (λ (ns : List ℕ). length ns) closed.starts ∙ m.starts;
        ranges = ap (λ (rs : List (List AddressRange)). length rs) closed.ranges ∙ length-set now.ranges.items index _ ∙ m.ranges;
        left_in = parent_below instances earlier index (get_or instances index i) (length instances) at within;
        entered_in = m.entered_in;
        shifting = λ ks js around also.
            shift_closed instances earlier ks js address old now next index (get_or instances index i) at reached
            (subst (λ (o : Option ℕ). IsShifting instances ks js address old now o reached) is (m.shifting ks js around also))
            below closed (omega (arith, within, m.ranges));
      }

  -- the later instance that is entered is opened
  pub moved_in : reached ≡ Some index → IfSome inside (λ k. k < index) → IsOpened index address now next
      → IsMoving instances left entered address old next inside (get_or instances index i).parent
  moved_in is below opened =
      let within : index < length instances = below_some reached index (length instances) is m.entered_in in
      let at : slice_get instances index ≡ Some (get_or instances index i) = slice_get-get_or instances index i within in
      record {
        starts = ap (λ (ns : List ℕ). length ns) opened.starts ∙ length-set now.starts.items index address ∙ m.starts;
        ranges = ap (λ (rs : List (List AddressRange)). length rs) opened.ranges ∙ m.ranges;
        left_in = m.left_in;
        entered_in = parent_below instances earlier index (get_or instances index i) (length instances) at within;
        shifting = λ ks js around also.
            shift_opened instances earlier ks js address old now next index (get_or instances index i) at inside
            (subst (λ (o : Option ℕ). IsShifting instances ks js address old now inside o) is (m.shifting ks js around also))
            below opened (omega (arith, within, m.starts));
      }
